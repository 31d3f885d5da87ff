use Rattle.std.proofs.Common.{[], ◌∷◌, ◌++◌, ◌-◌, ◌<◌, sym, ◌∙◌, arith}
use Rattle.lists.specs.Walk.{picked, cell}
use Rattle.lists.proofs.Walks.{onward}
use Rattle.lists.proofs.Counts.{filter-length, count_takes, count_leaves}
use Rattle.lists.proofs.Gives.{short, below}
use Rattle.lists.proofs.parts.count_taken.Goals as goal
use Rattle.lists.proofs.parts.count_taken.Goals.{then-picks, else-picks}

pub bounds-ends-row : goal.bounds-ends-row
bounds-ends-row c =
    let h : c.loop.e < c.args.m = below c.loop.invariant.1 c.requires.all_rows c.loop-test.true in
    omega (arith, c.index-row.ensures, c.requires.edges)

pub overflow_add-taken : goal.overflow_add-taken
overflow_add-taken c =
    let a = c.args in
    let i = c.loop.invariant in
    let l = filter-length (λ x. picked a.pick (cell a.ends.now (1 - a.k) x)) i.0 in
    record { fits = omega (arith, l, i.1.many, i.2, c.loop-test.true, c.ranges.rows.fits) }

pub bounds-links-row : goal.bounds-links-row
bounds-links-row c =
    let h : c.loop.e < c.args.m = below c.loop.invariant.1 c.requires.all_rows c.loop-test.true in
    omega (arith, c.index-row.ensures, c.requires.edges)

pub loop-preserved : goal.loop-preserved
loop-preserved c =
    let i = c.loop.invariant in
    let e = c.loop.e in
    let h : e < c.args.m = below i.1 c.requires.all_rows c.loop-test.true in
    let q = c.index-row.ensures in
    let p = sym c.picks.ensures in
    rw q (
      i.0 ++ (e ∷ []),
      onward i.1 h (short i.1 c.requires.all_rows c.loop-test.true) (c.type_inv.links _).fits,
      elim c.if-picks.branch [
        | then-picks w ↦ count_takes _ i.0 e i.2 (rw q at (p ∙ w.if-picks.true)) ∙ sym w.taken-is
        | else-picks w ↦ count_leaves _ i.0 e i.2 (rw q at (p ∙ w.if-picks.false)) ∙ sym w.taken-is
      ],
      omega arith,
    )
