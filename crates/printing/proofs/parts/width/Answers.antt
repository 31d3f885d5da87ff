use Rattle.std.proofs.Common.{◌≡◌, length, arith}
use Rattle.printing.specs.Digits.{digits}
use Rattle.printing.proofs.Spelling.{one_more, only_one, digits-few}
use Rattle.printing.proofs.parts.width.Goals as goal

pub loop-rest-preserved : goal.loop-rest-preserved
loop-rest-preserved c = record { few = omega arith; is = omega (arith, one_more c.loop-rest.rest (omega arith)) }

pub returns : goal.returns
returns c =
    let e : c.loop-rest.wide ≡ length (digits c.args.x) = omega (arith, only_one c.loop-rest.rest (omega arith)) in
    record { is = e; few = omega (arith, digits-few 19 c.args.x (omega arith)) }
