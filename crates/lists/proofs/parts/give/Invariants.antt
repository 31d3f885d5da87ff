use Rattle.std.proofs.Common.{ℕ, ◌-◌, ◌≤◌, List, map}
use Rattle.lists.specs.Walk.{cell, filter, picked, item_of, taken_from}
use Rattle.lists.proofs.Walks.{Along}
use Rattle.lists.proofs.Gives.{Giving}
use Rattle.lists.proofs.parts.give.Given as goal

-- the items of the rows met so far stand at the front
abbrev pub invariant-loop : goal.invariant-loop
invariant-loop l =
    (xs : List ℕ)
    × Along (cell l.links l.k) l.m l.link xs l.e l.counter
    × Giving (map (item_of l.registers l.ends l.item l.k) (taken_from l.links l.ends l.m l.k l.pick l.link)) l.fn.items
    (filter (λ x. picked l.pick (cell l.ends (1 - l.k) x)) xs) l.items l.at
    × (l.counter ≤ l.rows)
