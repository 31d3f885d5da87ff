-- After i turns the bytes of the first i rows stand there.
use Rattle.std.proofs.Common.{◌≡◌}
use Rattle.tables.specs.Net.{net_of}
use Rattle.layout.specs.Numbers.{placed}
use Rattle.imagerows.specs.Image.{rows_of}
use Rattle.imagerows.proofs.parts.write_rows.Given as goal

abbrev pub invariant-loop-i : goal.invariant-loop-i
invariant-loop-i g l =
    l.bytes ≡ placed l.first (rows_of (λ i. g.R.Row.bytes_of (g.R.TableRow.row_of (net_of l.net) i)) l.i) l.fn.bytes
