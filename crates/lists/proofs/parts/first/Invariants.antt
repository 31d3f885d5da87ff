use Rattle.std.proofs.Common.{ℕ, ◌≡◌, ◌-◌, List, []}
use Rattle.lists.specs.Walk.{cell, filter, picked}
use Rattle.lists.proofs.Walks.{Along}
use Rattle.lists.proofs.parts.first.Given as goal

-- of the rows met so far the walk takes none
abbrev pub invariant-loop-e : goal.invariant-loop-e
invariant-loop-e l =
    (met : List ℕ) × Along (cell l.links l.k) l.m l.link met l.e l.rows × (filter (λ x. picked l.pick (cell l.ends (1 - l.k) x)) met ≡ [])

abbrev pub decreases-loop-e : goal.decreases-loop-e
decreases-loop-e l = l.m - l.rows
