-- A search is refused for 6 alone.
use Rattle.std.proofs.Common.{sym, ◌∙◌, arith}
use Rattle.std.proofs.lemmas.Result.{err_from_is_err_and}
use Rattle.tables.proofs.Guards.{guards}
use Rattle.tables.proofs.Laws.{fitting}
use Rattle.find.specs.Find.{update_edge}
use Rattle.find.proofs.Laws.{sought-below, sought-broken}
use Rattle.find.proofs.update_edge.Goals as goal

pub returns-in_err-e : goal.returns-in_err-e
unfolding update_edge
returns-in_err-e c =
    let p = err_from_is_err_and c.from_residual.result c.from_residual.ensures.1 in
    let s = sought-broken _ _ _ _ _ _ c.seek.ensures c.in_err-e.was in
    rw (p.1, p.2, s.0, s.1) (search guards depth 9)

pub bounds-registers-index : goal.bounds-registers-index
bounds-registers-index c =
    let f = fitting c.fits.ensures c.if-not-fits.false in
    let l = sought-below _ _ _ _ _ _ (sym c.seek.ensures ∙ (rw c.in-Some.is at c.in_ok-e.was)) in
    omega (arith, c.index.ensures)
