use Rattle.std.proofs.Common.{get_or, arith}
use Rattle.text.proofs.Runs.{digit_range, digit_at, value_more, value_below}
use Rattle.text.proofs.parts.value_of.Goals as goal

pub overflow_mul-value : goal.overflow_mul-value
overflow_mul-value c = omega (arith, value_below c.args.digits.now c.requires.0 c.loop-b.b-index (omega arith) (omega arith))

pub digit-requires : goal.digit-requires
digit-requires c = (digit_range _ (digit_at c.args.digits.now c.loop-b.b-index c.requires.0 c.loop-b-test.true)).0

pub overflow_add-value : goal.overflow_add-value
overflow_add-value c =
    let d = digit_range (get_or c.args.digits.now c.loop-b.b-index 0) (digit_at c.args.digits.now c.loop-b.b-index c.requires.0 c.loop-b-test.true) in
    omega (arith, value_below c.args.digits.now c.requires.0 c.loop-b.b-index (omega arith) (omega arith), c.digit.ensures)

pub loop-b-preserved : goal.loop-b-preserved
loop-b-preserved c = omega (arith, c.digit.ensures, value_more c.args.digits.now c.loop-b.b-index c.loop-b-test.true)
