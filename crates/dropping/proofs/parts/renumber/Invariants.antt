use Rattle.std.proofs.Common.{ℕ, ◌≡◌, List, length}
use Rattle.lists.specs.Walk.{cell}
use Rattle.lists.proofs.Walks.{Along}
use Rattle.dropping.specs.Drop.{ended}
use Rattle.dropping.proofs.parts.renumber.Given as goal

-- the rows met so far have the new end
abbrev pub invariant-loop-rows : goal.invariant-loop-rows
invariant-loop-rows l =
    (met : List ℕ) × Along (cell l.links l.k) l.m l.link met l.e l.rows × (length l.ends ≡ length l.fn.ends) × (l.ends ≡ ended l.k l.a.0 met l.fn.ends)
