use Rattle.std.proofs.Common.{[], ◌∷◌, ◌++◌, refl, sym, ◌∙◌, arith}
use mir.Facts.{to_z-of_z}
use mir.Syntax.{w64}
use mir.Val.{to_z}
use Rattle.lists.proofs.Walks.{onward}
use Rattle.walker.proofs.Totals.{sum_turns, sum_leaves, room_left, tallies_total, tallies_endless, tallies_missing}
use Rattle.walker.proofs.parts.sum.Goals as goal
use Rattle.walker.proofs.parts.sum.Goals.{then-picks+else-n-b, else-picks}

pub returns-then-rows-m : goal.returns-then-rows-m
returns-then-rows-m c =
    let i = c.loop-e.invariant in
    tallies_endless (to_z-of_z c.ranges.before) i.1 i.2 c.loop-e-test.true c.if-rows-m.true

pub returns-then-n-b : goal.returns-then-n-b
returns-then-n-b c =
    let i = c.loop-e.invariant in
    let t = rw c.index-row.ensures at (sym c.picks.ensures ∙ c.if-picks.true) in
    let l = rw c.index-row.ensures at c.if-n-b.true in
    tallies_missing (to_z-of_z c.ranges.before) i.1 i.2 c.loop-e-test.true c.if-rows-m.false t l

pub loop-e-preserved : goal.loop-e-preserved
loop-e-preserved c =
    let e = c.loop-e.e in
    let i = c.loop-e.invariant in
    let q = c.index-row.ensures in
    let p = sym c.picks.ensures in
    let room = room_left (to_z w64 c.loop-e.total-bits) (to_z-of_z c.ranges.before) i.2.small i.1.most c.if-rows-m.false c.requires.room in
    rw q (
      i.0 ++ (e ∷ []),
      onward i.1 c.loop-e-test.true c.if-rows-m.false (c.type_inv.links _).fits,
      elim c.if-picks.branch [
        | then-picks+else-n-b w ↦
            rw w.total-is
            (sum_turns _ _ _ _ _ e i.2 (rw q at (p ∙ w.if-picks.true)) (rw q at w.index.ensures) (rw q at w.if-n-b.false) (omega arith) room refl)
        | else-picks w ↦ rw w.total-is (sum_leaves _ _ _ _ _ e i.2 (rw q at (p ∙ w.if-picks.false)))
      ],
    )

pub returns : goal.returns
returns c =
    let i = c.loop-e.invariant in
    tallies_total (to_z-of_z c.ranges.before) i.1 i.2 c.loop-e-test.false
