-- What is left empty does not depend on the counts that were loaded.
use Rattle.std.proofs.Common.{arith}
use Rattle.tables.specs.Rows.{vacant_nodes, vacant_edges}
use Rattle.tables.proofs.Guards.{guards}
use Rattle.loading.specs.Loading.{vacated, settled}
use Rattle.loading.proofs.parts.settle.Goals as goal

pub returns-then-not-is_sound : goal.returns-then-not-is_sound
unfolding settled vacated vacant_nodes vacant_edges
returns-then-not-is_sound c = grind (arith, guards)
