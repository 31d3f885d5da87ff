-- One value behind the other.
use Rattle.std.proofs.Common.{arith}
use Rattle.reply.proofs.Texts.{values_long, writes_three}
use Rattle.reply.proofs.parts.write_values.Goals as goal

pub write_value-requires : goal.write_value-requires
write_value-requires c =
    let second = c.write_value-second in
    let third = c.write_value-third in
    omega (arith, c.requires, values_long c.args.reply, second.ensures.ends_at, third.ensures.ends_at, second.auto.out, third.auto.out)

pub returns : goal.returns
returns c = writes_three c.requires c.write_value-second.ensures c.write_value-third.ensures c.write_value.ensures
