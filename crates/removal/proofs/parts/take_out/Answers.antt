-- An edge that is lost, that is the last row, or whose place the last row takes.
use Rattle.std.proofs.Common.{◌≡◌, ◌-◌, Some, None, sym, ◌∙◌, arith}
use Rattle.std.proofs.lemmas.Result.{err_from_is_err_and}
use Rattle.std.proofs.lemmas.Bool.{eqb-false}
use borrow.Author.Tests.{eqb-true}
use Rattle.index.specs.declared.Refusal.TheVariants.{Broken}
use Rattle.removal.proofs.Reaches.{reached, places_kept, removable_kept}
use Rattle.removal.proofs.Ways.{not_found, last_goes, gap_filled}
use Rattle.removal.proofs.parts.take_out.Goals as goal

pub returns-in_err-place : goal.returns-in_err-place
returns-in_err-place c =
    λ W.
    let f = c.change_edge_links.ensures in
    let lost : c.change_edge_links.result ≡ None = grind arith in
    let why : c.in_err-place.field-0.0 ≡ Broken = grind arith in
    let p = err_from_is_err_and c.from_residual.result c.from_residual.ensures.1 in
    rw (p.1, p.2, why) (not_found W _ _ _ _ _ _ _ _ c.index-cell.ensures _ _ _ f.answer_is f.heads_are f.links_are lost)

pub returns-then-eq : goal.returns-then-eq
returns-then-eq c =
    λ W.
    let f = c.change_edge_links.ensures in
    let h = c.write_edge.ensures in
    let found : c.change_edge_links.result ≡ Some c.in_ok-place.place = grind arith in
    let l : c.args.e.0 ≡ c.args.m.now - 1 = eqb-true _ _ (sym c.eq.ensures ∙ c.if-eq.true) in
    last_goes W _ _ _ _ _ _ _ _ c.index-cell.ensures _ _ _ f.answer_is f.heads_are f.links_are _ found _ _ _ _ _ _
    c.index.ensures l c.index-then-eq.ensures c.vacant.ensures h.registers_are h.links_are h.ends_are

pub fill_gap-requires : goal.fill_gap-requires
fill_gap-requires c =
    let k = c.change_edge_links.auto in
    let p = c.requires in
    let found : c.change_edge_links.result ≡ Some c.in_ok-place.place = grind arith in
    let d = eqb-false c.args.e.0 (c.args.m.now - 1) (sym c.eq.ensures ∙ c.if-eq.false) in
    let w = reached _ _ _ _ _ _ _ _ c.change_edge_links.ensures.answer_is found in
    record {
      removable = removable_kept k.heads k.links p;
      places = places_kept p.within w k.heads k.links;
      not_last = omega (arith, d, p.within.edge);
      few = w.few;
    }

pub returns : goal.returns
returns c =
    λ W.
    let f = c.change_edge_links.ensures in
    let found : c.change_edge_links.result ≡ Some c.in_ok-place.place = grind arith in
    gap_filled W _ _ _ _ _ _ _ _ c.index-cell.ensures _ _ _ f.answer_is f.heads_are f.links_are _ found _
    (eqb-false _ _ (sym c.eq.ensures ∙ c.if-eq.false)) (c.fill_gap.ensures W)
