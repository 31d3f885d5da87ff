use Rattle.std.proofs.Common.{◌<◌, refl, sym, ◌∙◌, arith}
use native.Mathlib.Nat.{sub-zero}
use borrow.Author.Tests.{eqb-true}
use Rattle.std.proofs.lemmas.Bool.{eqb-false}
use Rattle.lists.specs.declared.Spot.TheVariants.{Head, After}
use Rattle.links.specs.Links.{heads_at, links_at}
use Rattle.links.proofs.Seeks.{seek_found, seek-spent, seek-past, seek-step}
use Rattle.links.proofs.parts.change_link.Goals as goal

pub returns-then-eq : goal.returns-then-eq
unfolding heads_at links_at
returns-then-eq c =
    record {
      answer_is = sym (seek_found _ _ _ (Head _) 0 c.requires.first_is _ (eqb-true _ _ (sym c.eq.ensures ∙ c.if-eq.true)));
      heads_are = rw c.index.ensures;
      links_are = refl;
    }

pub loop-rows-init : goal.loop-rows-init
loop-rows-init c =
    (record { few = omega arith; other = eqb-false _ _ (sym c.eq.ensures ∙ c.if-eq.false); so_far = λ a q. (Head a, q, rw sub-zero) }, refl)

pub loop-rows-preserved : goal.loop-rows-preserved
loop-rows-preserved c =
    let i = c.loop-rows.invariant.0 in
    let l = c.loop-rows.invariant.1 in
    let q = c.index-in-loop-rows.ensures in
    let left : c.loop-rows.rows < c.args.m = omega arith in
    rw q (
      record {
        few = omega arith;
        other = eqb-false _ _ (rw q at (sym c.eq-in-loop-rows.ensures ∙ c.if-eq-2.false));
        so_far = λ a p. (let w = i.so_far a p in (After c.loop-rows.link.0, rw l, sym (seek-step _ _ _ _ _ w.1 i.other c.if-m-link.false left) ∙ w.2));
      },
      l,
    )

pub returns-then-m-link : goal.returns-then-m-link
returns-then-m-link c =
    let i = c.loop-rows.invariant.0 in
    let w = i.so_far _ c.requires.first_is in
    record { answer_is = sym (seek-past _ _ _ _ _ w.1 _ i.other c.if-m-link.true) ∙ w.2; heads_are = refl; links_are = c.loop-rows.invariant.1 }

pub returns-then-eq-2 : goal.returns-then-eq-2
unfolding heads_at links_at
returns-then-eq-2 c =
    let i = c.loop-rows.invariant.0 in
    let l = c.loop-rows.invariant.1 in
    let w = i.so_far _ c.requires.first_is in
    let q = c.index-in-loop-rows.ensures in
    let left : c.loop-rows.rows < c.args.m = omega arith in
    record {
      answer_is = sym (seek_found _ _ _ _ _ (rw (q, l)) _ (eqb-true _ _ (sym c.eq-in-loop-rows.ensures ∙ c.if-eq-2.true))) ∙ sym (seek-step _ _ _ _ _ w.1 i.other c.if-m-link.false left) ∙ w.2;
      heads_are = refl;
      links_are = rw (q, l);
    }

pub returns : goal.returns
returns c =
    let i = c.loop-rows.invariant.0 in
    let w = i.so_far _ c.requires.first_is in
    record { answer_is = sym (seek-spent _ _ _ _ _ w.1 i.other (omega arith)) ∙ w.2; heads_are = refl; links_are = c.loop-rows.invariant.1 }
