use Rattle.std.proofs.Common.{refl, ap, ◌∙◌}
use Rattle.loops.specs.Loops.{adds, weight_of}
use Rattle.loops.proofs.Laws.{calls-more, weight_adds}
use Rattle.loops.proofs.loop_remove_edges.Goals as goal

pub loop-e-preserved : goal.loop-e-preserved
loop-e-preserved c = calls-more _ _ _ c.loop-e.invariant (ap weight_of c.remove_edge-answer.ensures) (c.adds-sum.ensures ∙ ap adds (weight_adds _)) refl
