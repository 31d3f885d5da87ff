-- `rows` rows are read in the lists of the nodes below a.
use Rattle.std.specs.Prelude.{Ok}
use Rattle.std.proofs.Common.{◌≡◌, ◌-◌, ◌≤◌}
use Rattle.lists.specs.Walk.{cell, link_in}
use Rattle.sound.specs.Check.{up_to}
use Rattle.sound.proofs.parts.walk_lists.Given as goal

abbrev pub invariant-loop-a : goal.invariant-loop-a
invariant-loop-a l = record { within : l.a ≤ l.n; most : l.rows ≤ l.m; is : up_to (link_in l.heads l.links l.k) (cell l.ends l.k) l.m l.a ≡ Ok l.rows }

abbrev pub decreases-loop-a : goal.decreases-loop-a
decreases-loop-a l = l.n - l.a
