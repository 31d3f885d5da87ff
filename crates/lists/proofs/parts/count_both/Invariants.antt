use Rattle.std.proofs.Common.{ℕ, ◌-◌, ◌≤◌, List}
use Rattle.lists.specs.Walk.{cell}
use Rattle.lists.proofs.Walks.{Along}
use Rattle.lists.proofs.parts.count_both.Given as goal

-- the first loop goes along both lists
abbrev pub invariant-loop-e : goal.invariant-loop-e
invariant-loop-e l =
    (met : List ℕ) × Along (cell l.links l.k) l.m l.link met l.e l.rows
    × ((more : List ℕ) × Along (cell l.links l.j) l.m l.other more l.f l.others) × (l.others ≤ l.rows)

abbrev pub decreases-loop-e : goal.decreases-loop-e
decreases-loop-e l = l.m - l.rows

-- the second along what is left of the other
abbrev pub invariant-loop-f : goal.invariant-loop-f
invariant-loop-f l = (more : List ℕ) × Along (cell l.links l.j) l.m l.other more l.f l.others

abbrev pub decreases-loop-f : goal.decreases-loop-f
decreases-loop-f l = l.m - l.others
