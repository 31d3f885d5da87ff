use Rattle.std.proofs.Common.{arith}
use Rattle.printing.proofs.Putting.{writes_on}
use Rattle.printing.proofs.Signs.{signed-negative}
use Rattle.printing.proofs.parts.write_signed.Goals as goal

pub returns-then-z-lt0 : goal.returns-then-z-lt0
returns-then-z-lt0 c =
    let e = signed-negative _ c.ranges.z c.absolute.ensures c.if-z-lt0.true in
    let room = rw e at c.requires in
    rw e (writes_on (omega arith) c.write_byte-to.ensures c.write_number.ensures)
