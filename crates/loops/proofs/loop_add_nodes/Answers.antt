use Rattle.std.proofs.Common.{get_or, pos, refl, rules, w32, SFits}
use Rattle.std.proofs.lemmas.Int.{to_z-of_z}
use Rattle.loops.proofs.Laws.{calls-more}
use Rattle.loops.proofs.loop_add_nodes.Goals as goal

pub loop-w-preserved : goal.loop-w-preserved
loop-w-preserved c =
    let h : SFits w32 (get_or c.args.totals.now c.loop-w.w-index (pos 0)) = search rules in
    calls-more _ _ _ c.loop-w.invariant (rw (to_z-of_z w32 _ h) at c.add_node-answer.ensures) c.adds-sum.ensures refl
