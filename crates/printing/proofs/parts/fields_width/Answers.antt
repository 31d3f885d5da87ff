use Rattle.std.proofs.Common.{arith, ap, length}
use Rattle.printing.proofs.Spelling.{fields_width_step, fields-end}
use Rattle.printing.proofs.Fields.{few}
use Rattle.printing.proofs.parts.fields_width.Goals as goal

pub loop-x-preserved : goal.loop-x-preserved
loop-x-preserved c =
    let w = few (c.type_inv.fields c.loop-x.x-index).fits c.width.ensures.is in
    let n = fields_width_step c.args.fields.now c.loop-x.x-index c.loop-x-test.true in
    record { within = omega arith; few = omega arith; is = omega (arith, c.width.ensures.is, c.loop-x.invariant.is) }

pub returns : goal.returns
returns c =
    let e = ap length (fields-end c.args.fields.now c.loop-x.x-index c.loop-x-test.false) in
    record { is = omega (arith, c.loop-x.invariant.is); few = omega arith }
