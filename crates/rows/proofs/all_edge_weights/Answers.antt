use Rattle.std.proofs.Common.{◌≡◌, length, take, arith}
use Rattle.std.proofs.Math.Seq.{length-take-le}
use Rattle.tables.proofs.Front.{front_more}
use Rattle.tables.proofs.Guards.{guards}
use Rattle.tables.proofs.Laws.{fitting}
use Rattle.rows.specs.Calls.{all_edge_weights}
use Rattle.rows.proofs.all_edge_weights.Goals as goal

pub returns-then-items-count : goal.returns-then-items-count
unfolding all_edge_weights
returns-then-items-count c =
    let counted : length (take c.args.net.m c.args.net.registers.now) ≡ c.args.net.m = length-take-le _ _ (fitting c.fits.ensures c.if-not-fits.false).m_within in
    rw counted (search guards depth 9)

pub loop-e-preserved : goal.loop-e-preserved
loop-e-preserved c =
    let f = fitting c.fits.ensures c.if-not-fits.false in
    rw c.loop-e.invariant
    (front_more c.args.net.registers.now c.args.items.now c.loop-e.e _ (omega (arith, f.m_within, c.loop-e-test.true)) (omega (arith, c.if-items-count.false, c.loop-e-test.true)))
