use Rattle.std.proofs.Common.{arith}
use Rattle.printing.proofs.Putting.{writes_on}
use Rattle.printing.proofs.parts.write_field.Goals as goal

pub returns : goal.returns
returns c = writes_on (omega arith) c.write_byte-to.ensures c.write_number.ensures
