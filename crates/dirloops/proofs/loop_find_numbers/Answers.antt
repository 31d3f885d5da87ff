use Prim.{tt}
use Rattle.std.proofs.Common.{refl, ap}
use Rattle.tables.specs.Answers.{out}
use Rattle.loops.proofs.Laws.{calls-more}
use Rattle.dirloops.proofs.loop_find_numbers.Goals as goal

pub loop-r-preserved : goal.loop-r-preserved
loop-r-preserved c = calls-more _ _ _ c.loop-r.invariant (ap (λ t. out t tt) c.find_number-answer.ensures) c.adds-sum.ensures refl
