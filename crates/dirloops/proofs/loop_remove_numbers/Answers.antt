use Rattle.std.proofs.Common.{refl, ap, ◌∙◌}
use Rattle.loops.specs.Loops.{adds}
use Rattle.loops.proofs.Laws.{calls-more, weight_adds}
use Rattle.dirloops.specs.Loops.{weight_filed}
use Rattle.dirloops.proofs.loop_remove_numbers.Goals as goal

pub loop-r-preserved : goal.loop-r-preserved
loop-r-preserved c =
    calls-more _ _ _ c.loop-r.invariant (ap weight_filed c.remove_number-answer.ensures) (c.adds-sum.ensures ∙ ap adds (weight_adds _)) refl
