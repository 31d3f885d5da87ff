-- The value of the digits met.
use Rattle.std.proofs.Common.{◌≡◌, take}
use Rattle.text.specs.Numbers.{value_on}
use Rattle.text.proofs.parts.value_of.Given as goal

abbrev pub invariant-loop-b : goal.invariant-loop-b
invariant-loop-b l = l.value ≡ value_on 0 (take l.b-index l.digits)
