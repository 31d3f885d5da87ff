use Rattle.std.proofs.Common.{◌∙◌, refl, sym, arith}
use Rattle.lists.specs.declared.Spot.TheVariants.{Head, After}
use Rattle.sound.proofs.Walks.{no_end, at_end, spent, past, strange, further, differs, equals}
use Rattle.sound.proofs.parts.walk_list.Goals as goal

pub loop-e-init : goal.loop-e-init
loop-e-init c = rw c.index.ensures (record { most = c.requires.most; spot = Head _; stands = refl; same = refl })

pub returns-then-rows-m : goal.returns-then-rows-m
returns-then-rows-m c =
    let i = c.loop-e.invariant in
    let h = no_end c.ranges.m.fits c.loop-e-test.true in
    sym (spent _ _ _ _ _ _ i.stands _ h (omega arith)) ∙ i.same

pub returns-then-ne : goal.returns-then-ne
returns-then-ne c =
    let i = c.loop-e.invariant in
    let h = no_end c.ranges.m.fits c.loop-e-test.true in
    sym (strange _ _ _ _ _ _ i.stands _ h (differs (rw c.index-row.ensures at c.ne.ensures) c.if-ne.true)) ∙ i.same

pub loop-e-preserved : goal.loop-e-preserved
loop-e-preserved c =
    let i = c.loop-e.invariant in
    let l = c.loop-e-test.true in
    let h = no_end c.ranges.m.fits l in
    let q = c.index-row.ensures in
    rw q (
    record {
      most = omega arith;
      spot = After _;
      stands = refl;
      same = sym (further _ _ _ _ _ _ i.stands h i.most c.if-rows-m.false l (equals (rw q at c.ne.ensures) c.if-ne.false)) ∙ i.same;
    }
    )

pub returns-then-ne-2 : goal.returns-then-ne-2
returns-then-ne-2 c =
    let i = c.loop-e.invariant in
    sym (past _ _ _ _ _ _ i.stands _ (differs c.ne-2.ensures c.if-ne-2.true) c.loop-e-test.false) ∙ i.same

pub returns : goal.returns
returns c =
    let i = c.loop-e.invariant in
    sym (at_end _ _ _ _ _ _ i.stands _ (equals c.ne-2.ensures c.if-ne-2.false)) ∙ i.same
