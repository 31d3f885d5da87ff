-- The row that is found in the incoming list is below m.
use Rattle.std.proofs.Common.{arith, ◌<◌}
use Rattle.tables.proofs.Laws.{fitting}
use Rattle.walker.proofs.Hits.{found_below}
use Rattle.walker.proofs.Walker.step.Goals as goal

pub bounds-net-row-in-At : goal.bounds-net-row-in-At
bounds-net-row-in-At c =
    let f = fitting c.fits.ensures c.if-not-fits.false in
    let b : c.in-At.e.0 < c.args.net.m = found_below _ _ _ _ _ c.in-At.ensures in
    omega (arith, c.index-row-in-At.ensures)

pub bounds-net-row-in-At-2 : goal.bounds-net-row-in-At-2
bounds-net-row-in-At-2 c =
    let f = fitting c.fits.ensures c.if-not-fits.false in
    let b : c.in-At.e.0 < c.args.net.m = found_below _ _ _ _ _ c.in-At.ensures in
    omega (arith, c.index-row-in-At.ensures)
