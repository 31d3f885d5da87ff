use Rattle.std.proofs.Common.{arith}
use mir.Facts.{to_z-of_z}
use Rattle.printing.proofs.Putting.{writes_on}
use Rattle.printing.proofs.parts.write_signed_field.Goals as goal

pub returns : goal.returns
returns c =
    let w = rw (to_z-of_z c.ranges.z) at c.write_signed.ensures in
    writes_on (omega (arith, c.requires)) c.write_byte-to.ensures w
