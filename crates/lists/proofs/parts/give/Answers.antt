use Rattle.std.proofs.Common.{[], ◌∷◌, ◌++◌, ◌<◌, sym, ◌∙◌, arith}
use Rattle.lists.specs.Walk.{item_of}
use Rattle.lists.proofs.Walks.{onward}
use Rattle.lists.proofs.Gives.{short, below, room, gives_row, passes_row, given}
use Rattle.lists.proofs.parts.give.Goals as goal
use Rattle.lists.proofs.parts.give.Goals.{then-picks, else-picks}

pub bounds-ends-row : goal.bounds-ends-row
bounds-ends-row c =
    let h : c.loop.e < c.args.m = below c.loop.invariant.1 c.requires.known.all_rows c.loop-test.true in
    omega (arith, c.index-row.ensures, c.requires.known.edges)

pub value-requires : goal.value-requires
value-requires c =
    let h : c.loop.e < c.args.m = below c.loop.invariant.1 c.requires.known.all_rows c.loop-test.true in
    record { registers_hold = omega arith; ends_hold = omega (arith, c.requires.known.edges); direction = omega (arith, c.requires.known.edges) }

pub bounds-items-at : goal.bounds-items-at
bounds-items-at c =
    let a = c.args in
    let p = c.requires in
    let i = c.loop.invariant in
    let v = item_of a.registers.now a.ends.now a.item a.k in
    let took = rw c.index-row.ensures at (sym c.picks.ensures ∙ c.if-picks.true) in
    room _ v i.1 p.room i.2 (below i.1 p.known.all_rows c.loop-test.true) (short i.1 p.known.all_rows c.loop-test.true) took

pub bounds-links-row : goal.bounds-links-row
bounds-links-row c =
    let h : c.loop.e < c.args.m = below c.loop.invariant.1 c.requires.known.all_rows c.loop-test.true in
    omega (arith, c.index-row.ensures, c.requires.known.edges)

pub loop-preserved : goal.loop-preserved
loop-preserved c =
    let p = c.requires in
    let i = c.loop.invariant in
    let e = c.loop.e in
    let q = c.index-row.ensures in
    let r = sym c.picks.ensures in
    let h : e < c.args.m = below i.1 p.known.all_rows c.loop-test.true in
    let n = short i.1 p.known.all_rows c.loop-test.true in
    rw q (
      i.0 ++ (e ∷ []),
      onward i.1 h n (c.type_inv.links _).fits,
      elim c.if-picks.branch [
        | then-picks w ↦ rw (w.items-is, w.at-is, w.value.ensures) (gives_row _ _ i.1 p.room i.2 h n (rw q at (r ∙ w.if-picks.true)))
        | else-picks w ↦ rw (w.items-is, w.at-is) (passes_row _ _ i.1 p.room i.2 (rw q at (r ∙ w.if-picks.false)))
      ],
      omega arith,
    )

pub returns : goal.returns
returns c =
    let i = c.loop.invariant in
    given _ _ i.1 c.requires.room i.2 (c.requires.known.all_rows ∙ omega arith)
