use Rattle.std.proofs.Common.{arith}
use Rattle.printing.proofs.FromLeft.{low_coming}
use Rattle.printer.proofs.Telling.{start, turn, all_told}
use Rattle.printer.proofs.write_digits.Goals as goal

pub loop-power-init : goal.loop-power-init
loop-power-init g c = (_, _, start _ _ _ c.leading-power.ensures)

pub write_digit-requires : goal.write_digit-requires
write_digit-requires g c = let (k, done, told) = c.loop-power.invariant in low_coming k told.coming (omega arith)

pub loop-power-preserved : goal.loop-power-preserved
loop-power-preserved g c =
    let (k, done, told) = c.loop-power.invariant in
    let (j, after) = turn _ k told (omega arith) c.in_ok-write_digit.ensures in
    (j, _, after)

pub returns : goal.returns
returns g c = let (k, done, told) = c.loop-power.invariant in all_told k told (omega arith)
