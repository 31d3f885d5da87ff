-- Nothing, or `!`, the number and a newline, one behind the other.
use Rattle.std.proofs.Common.{arith}
use Rattle.telling.proofs.Endings.{ending_long, no_ending, ended}
use Rattle.telling.proofs.parts.write_ending.Goals as goal

pub returns-then-number-eq0 : goal.returns-then-number-eq0
returns-then-number-eq0 c = no_ending _ _ _ c.requires c.if-number-eq0.true

pub write_byte-why-requires : goal.write_byte-why-requires
write_byte-why-requires c = omega (arith, c.requires, ending_long c.args.number c.if-number-eq0.false)

pub write_field-newline-requires : goal.write_field-newline-requires
write_field-newline-requires c =
    let why = c.write_byte-why in
    omega (arith, c.requires, ending_long c.args.number c.if-number-eq0.false, why.ensures.ends_at, why.auto.out)

pub write_byte-requires : goal.write_byte-requires
write_byte-requires c =
    let why = c.write_byte-why in
    let value = c.write_field-newline in
    omega (arith, c.requires, ending_long c.args.number c.if-number-eq0.false, why.ensures.ends_at, value.ensures.ends_at, why.auto.out, value.auto.out)

pub returns : goal.returns
returns c = ended _ _ _ c.requires c.if-number-eq0.false c.write_byte-why.ensures c.write_field-newline.ensures c.write_byte.ensures
