-- k digits of x are still to be written, and with them the bytes are what they are to be.
use Rattle.std.proofs.Common.{ℕ}
use Rattle.printing.proofs.Numbering.{Going}
use Rattle.printing.proofs.parts.write_number.Given as goal

abbrev pub invariant-loop-power : goal.invariant-loop-power
invariant-loop-power l = (k : ℕ) × Going l.fn.out l.at l.x l.out l.to l.rest l.power k

abbrev pub decreases-loop-power : goal.decreases-loop-power
decreases-loop-power l = l.power
