-- What is summed are the weights of those far ends that the walk takes of the rows met so far.
-- A row adds at most 2^31 to the size of the sum, so that it stays within 64 bits.
use Rattle.std.proofs.Common.{ℕ, ◌-◌, List}
use Rattle.lists.specs.Walk.{cell, picked}
use Rattle.lists.proofs.Walks.{Along}
use Rattle.walker.proofs.Totals.{Summing}
use Rattle.walker.proofs.parts.sum.Given as goal

abbrev pub invariant-loop-e : goal.invariant-loop-e
invariant-loop-e l =
    (met : List ℕ) × Along (cell l.links l.k) l.m l.link met l.e l.rows
    × Summing l.weights l.n (λ x. picked l.pick (cell l.ends (1 - l.k) x)) (cell l.ends (1 - l.k)) l.before met l.total l.rows

abbrev pub decreases-loop-e : goal.decreases-loop-e
decreases-loop-e l = l.m - l.rows
