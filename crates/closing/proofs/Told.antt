-- No two answers of `remove_node` are told alike.
use mathlib.Core.Path.{◌≡◌, refl}
use lib.IntN.{pos}
use Rattle.std.specs.Prelude.{Result}
use Rattle.index.specs.declared.Refusal.{Refusal}
use Rattle.tables.proofs.Told.{told_as_once}
use Rattle.closing.specs.declared.RemovedNode.{RemovedNode}
use Rattle.closing.specs.Closing.{told_node_removed}

pub node_removed_told_once : (r s : Result RemovedNode Refusal) → told_node_removed r ≡ told_node_removed s → r ≡ s
node_removed_told_once =
    told_as_once (λ (x : RemovedNode). (x.weight, x.rows, x.count)) (pos 0, 0, 0) (λ t. record { weight = t.0; rows = t.1; count = t.2 }) (λ x. refl)
