use Rattle.std.proofs.Common.{ap, refl, arith}
use Rattle.tables.specs.Net.{net_of}
use Rattle.imagerows.proofs.Turns.{none_written, row_written, row_within}
use Rattle.imagerows.proofs.parts.write_rows.Goals as goal

pub loop-i-init : goal.loop-i-init
loop-i-init g c = none_written _ _ _

pub loop-i-preserved : goal.loop-i-preserved
loop-i-preserved g c =
    let l = c.loop-i in
    let r = g.R.Row in
    let row = g.R.TableRow.row_of (net_of c.args.net) in
    let within = row_within r.BYTES l.i c.args.rows c.loop-i-test.true in
    row_written (λ i. r.bytes_of (row i)) r.BYTES (λ i. g.met.R.Row.bytes_length (row i)) c.args.first l.i _ _ refl
    (omega (arith, within, c.requires.room)) l.invariant (ap r.bytes_of c.of.ensures) (rw c.BYTES.ensures at c.put.ensures)
