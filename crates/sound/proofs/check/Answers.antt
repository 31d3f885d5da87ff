use Rattle.std.proofs.Common.{◌<◌, ◌≤◌, refl, rules, arith}
use Rattle.std.proofs.lemmas.Result.{err_from_is_err_and}
use Rattle.index.specs.Index.{END}
use Rattle.index.proofs.Laws.{number-below}
use Rattle.tables.proofs.Guards.{guards}
use Rattle.tables.proofs.Laws.{fitting, fitted}
use Rattle.sound.specs.Check.{checked}
use Rattle.sound.proofs.Verdicts.{direction_at, told_at, way_faulty, way_sound, ways_read, rows_most, walk_rows}
use Rattle.sound.proofs.check.Goals as goal

pub returns-then-not-fits : goal.returns-then-not-fits
unfolding checked
returns-then-not-fits c = search guards depth 9

pub loop-d-init : goal.loop-d-init
loop-d-init c = refl

pub walk_lists-walked-requires : goal.walk_lists-walked-requires
walk_lists-walked-requires c =
    let f = fitting c.fits.ensures c.if-not-fits.false in
    record { heads_hold = omega arith; edges = record { links_hold = omega arith; ends_hold = omega arith; direction = rw c.number.ensures (number-below _) } }

pub returns-in_err-rows : goal.returns-in_err-rows
returns-in_err-rows c =
    let f = fitted c.fits.ensures c.if-not-fits.false in
    let l : c.loop-d.d-index < 2 = omega arith in
    let p = err_from_is_err_and c.from_residual.result c.from_residual.ensures.1 in
    let m = told_at (direction_at c.loop-d.d-index) c.walk_lists-walked.result c.map_err.result _ c.map_err.ensures.cases in
    let t = m (λ a y k. search rules) in
    rw (p.1, p.2) (way_faulty _ f _ _ _ _ _ _ l c.loop-d.invariant c.number.ensures c.walk_lists-walked.ensures t c.in_err-rows.was)

pub overflow_add-rows : goal.overflow_add-rows
overflow_add-rows c =
    let f = fitting c.fits.ensures c.if-not-fits.false in
    let h = fitted c.fits.ensures c.if-not-fits.false in
    let small : c.args.net.m ≤ END = omega arith in
    let r = rows_most _ h small _ _ (omega arith) c.loop-d.invariant in
    let m = told_at (direction_at c.loop-d.d-index) c.walk_lists-walked.result c.map_err.result _ c.map_err.ensures.cases in
    let t = m (λ a y k. search rules) in
    let q = walk_rows _ h small _ _ _ _ _ c.walk_lists-walked.ensures t c.in_ok-rows.was in
    omega arith

pub loop-d-preserved : goal.loop-d-preserved
loop-d-preserved c =
    let f = fitted c.fits.ensures c.if-not-fits.false in
    let l : c.loop-d.d-index < 2 = omega arith in
    let m = told_at (direction_at c.loop-d.d-index) c.walk_lists-walked.result c.map_err.result _ c.map_err.ensures.cases in
    let t = m (λ a y k. search rules) in
    way_sound _ f _ _ _ _ _ _ l c.loop-d.invariant c.number.ensures c.walk_lists-walked.ensures t c.in_ok-rows.was

pub returns : goal.returns
returns c = ways_read _ (fitted c.fits.ensures c.if-not-fits.false) _ _ (omega arith) c.loop-d.invariant
