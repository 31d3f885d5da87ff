use Rattle.std.proofs.Common.{ℕ, ◌+◌, refl, ap, ◌∙◌}
use Rattle.loops.specs.Loops.{in64, items_of}
use Rattle.loops.proofs.Laws.{calls-more, in64_twice, neighbors-given}
use Rattle.loops.proofs.loop_neighbors.Goals as goal

pub items_add-sum-requires : goal.items_add-sum-requires
items_add-sum-requires c = (neighbors-given _ _ _ c.neighbors-answer.ensures).few

pub loop-a-preserved : goal.loop-a-preserved
loop-a-preserved c =
    let s = c.loop-a.sum in
    calls-more _ _ _ c.loop-a.invariant (ap items_of c.neighbors-answer.ensures) refl
    (ap (λ (x : ℕ). in64 (s + x)) c.items_add-sum.ensures ∙ in64_twice s _)
