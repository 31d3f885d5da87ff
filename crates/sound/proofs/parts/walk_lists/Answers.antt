use Rattle.std.proofs.Common.{◌∙◌, refl, sym, arith}
use Rattle.std.proofs.lemmas.Result.{err_from_is_err_and}
use Rattle.sound.specs.Check.{up_to}
use Rattle.sound.proofs.Walks.{most_read, next, way_fault, way-full, way-short}
use Rattle.sound.proofs.parts.walk_lists.Goals as goal

pub loop-a-init : goal.loop-a-init
unfolding up_to
loop-a-init c = record { within = omega arith; most = omega arith; is = refl }

pub returns-in_err-rows : goal.returns-in_err-rows
returns-in_err-rows c =
    let p = err_from_is_err_and c.from_residual.result c.from_residual.ensures.1 in
    let w = next _ _ _ _ _ _ _ c.loop-a.invariant.is c.walk_list.ensures c.in_err-rows.was in
    rw (p.1, p.2) (sym (way_fault _ _ _ _ _ _ w c.loop-a-test.true))

pub loop-a-preserved : goal.loop-a-preserved
loop-a-preserved c =
    let i = c.loop-a.invariant in
    record {
      within = omega arith;
      most = most_read _ _ _ _ _ _ i.most (sym c.walk_list.ensures ∙ c.in_ok-rows.was);
      is = next _ _ _ _ _ _ _ i.is c.walk_list.ensures c.in_ok-rows.was;
    }

pub returns-then-rows-m : goal.returns-then-rows-m
returns-then-rows-m c =
    let i = c.loop-a.invariant in
    sym (way-full _ _ _ _ _ _ i.is (omega arith) c.if-rows-m.true)

pub returns-else-rows-m : goal.returns-else-rows-m
returns-else-rows-m c =
    let i = c.loop-a.invariant in
    sym (way-short _ _ _ _ _ _ i.is (omega arith) c.if-rows-m.false)
