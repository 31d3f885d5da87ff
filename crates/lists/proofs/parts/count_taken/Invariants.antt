use Rattle.std.proofs.Common.{ℕ, ◌≡◌, ◌-◌, ◌≤◌, List, length}
use Rattle.lists.specs.Walk.{cell, filter, picked}
use Rattle.lists.proofs.Walks.{Along}
use Rattle.lists.proofs.parts.count_taken.Given as goal

-- so many of the rows met so far does the walk take
abbrev pub invariant-loop : goal.invariant-loop
invariant-loop l =
    (xs : List ℕ) × Along (cell l.links l.k) l.m l.link xs l.e l.counter
    × (length (filter (λ x. picked l.pick (cell l.ends (1 - l.k) x)) xs) ≡ l.taken) × (l.counter ≤ l.rows)
