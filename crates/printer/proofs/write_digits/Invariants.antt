-- What was written so far, and the k digits of x that are to come, are all of x.
use Rattle.std.proofs.Common.{ℕ, List}
use Rattle.printer.proofs.Telling.{Told}
use Rattle.printer.proofs.write_digits.Given as goal

abbrev pub invariant-loop-power : goal.invariant-loop-power
invariant-loop-power g l =
    (k : ℕ) × (done : List ℕ) × Told (g.W.Write.contents l.fn.out) (g.W.Write.contents l.out) l.x l.rest l.power k done

abbrev pub decreases-loop-power : goal.decreases-loop-power
decreases-loop-power g l = l.power
