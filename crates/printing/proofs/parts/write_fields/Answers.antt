use Rattle.std.proofs.Common.{arith}
use Rattle.printing.proofs.Spelling.{fields_width_step}
use Rattle.printing.proofs.Fields.{turn, done}
use Rattle.printing.proofs.parts.write_fields.Goals as goal

pub write_field-to-requires : goal.write_field-to-requires
write_field-to-requires c = omega (arith, c.requires, fields_width_step c.args.fields.now c.loop-x.x-index c.loop-x-test.true)

pub loop-x-preserved : goal.loop-x-preserved
loop-x-preserved c = turn c.loop-x.invariant c.loop-x-test.true c.requires c.write_field-to.auto.out c.write_field-to.ensures

pub returns : goal.returns
returns c = done c.loop-x.invariant c.loop-x-test.false c.requires
