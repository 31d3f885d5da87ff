-- Its head, its items and the newline, one behind the other.
use Rattle.std.proofs.Common.{arith}
use Rattle.reply.proofs.Texts.{line_is, line_long, writes_three}
use Rattle.reply.proofs.parts.write_line.Goals as goal

pub write_head-listed-requires : goal.write_head-listed-requires
write_head-listed-requires c = omega (arith, c.requires.1, line_long c.args.reply c.args.items.now)

pub write_fields-newline-requires : goal.write_fields-newline-requires
write_fields-newline-requires c =
    let h = c.write_head-listed in
    omega (arith, c.requires.1, line_long c.args.reply c.args.items.now, h.ensures.ends_at, h.auto.out)

pub write_byte-requires : goal.write_byte-requires
write_byte-requires c =
    let h = c.write_head-listed in
    let f = c.write_fields-newline in
    omega (arith, c.requires.1, line_long c.args.reply c.args.items.now, h.ensures.ends_at, f.ensures.ends_at, h.auto.out, f.auto.out)

pub returns : goal.returns
returns c =
    let e = line_is c.args.reply c.args.items.now in
    rw e (writes_three (rw e at c.requires.1) c.write_head-listed.ensures c.write_fields-newline.ensures c.write_byte.ensures)
