-- The digits counted and those of what is left are together one more than x has.
use Rattle.std.proofs.Common.{◌≡◌, ◌+◌, ◌≤◌, length}
use Rattle.printing.specs.Digits.{digits}
use Rattle.printing.proofs.parts.width.Given as goal

abbrev pub invariant-loop-rest : goal.invariant-loop-rest
invariant-loop-rest l = record { few : l.wide + l.rest ≤ l.x + 1; is : l.wide + length (digits l.rest) ≡ length (digits l.x) + 1 }

abbrev pub decreases-loop-rest : goal.decreases-loop-rest
decreases-loop-rest l = l.rest
