-- The loop from the empty network, and its end packed into one number.
use Rattle.std.proofs.Common.{arith}
use Rattle.script.specs.Script.{begun}
use Rattle.script.proofs.Whole.{too_long, few_bytes, packed_so}
use Rattle.script.proofs.net_run.Goals as goal

pub returns-then-script-gt-MOST_BYTES : goal.returns-then-script-gt-MOST_BYTES
returns-then-script-gt-MOST_BYTES c =
    too_long c.args.script.now (omega (arith, c.if-script-gt-MOST_BYTES.true)) (omega (arith, c.pack.ensures, c.number.ensures))

pub pack-requires-2 : goal.pack-requires-2
unfolding begun
pack-requires-2 c = omega (arith, few_bytes _ c.limit_of-limit.ensures c.run_lines-ended.ensures.does)

pub returns : goal.returns
unfolding begun
returns c = packed_so _ c.limit_of-limit.ensures c.run_lines-ended.ensures.does c.if-script-gt-MOST_BYTES.false (omega (arith, c.pack-2.ensures, c.number-2.ensures))
