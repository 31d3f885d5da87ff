-- Nothing, a `-` or the number, with its space.
use Rattle.std.proofs.Common.{arith}
use Rattle.printing.proofs.Putting.{put-nothing, writes_on}
use Rattle.reply.proofs.parts.write_value.Goals as goal

pub returns-in-None : goal.returns-in-None
returns-in-None c =
    let room = rw c.in-None.is at c.requires in
    rw c.in-None.is (record { bytes_are = put-nothing _ _ (omega arith); ends_at = omega arith })

pub returns-in-Some-NoRow : goal.returns-in-Some-NoRow
returns-in-Some-NoRow c =
    let e = c.in-Some-NoRow.is in
    let f = rw e at c.in-Some-NoRow.field-0-is in
    let room = rw (e, f) at c.requires in
    rw (e, f) (writes_on (omega arith) c.write_byte-to.ensures c.write_byte.ensures)
