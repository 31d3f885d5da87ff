-- The power has as many zeros as x has digits more than x / power.
use Rattle.std.proofs.Common.{◌+◌, ◌-◌}
use Rattle.printing.proofs.Powers.{Power}
use Rattle.printing.proofs.parts.leading.Given as goal

abbrev pub invariant-loop-power : goal.invariant-loop-power
invariant-loop-power l = Power l.x l.power

abbrev pub decreases-loop-power : goal.decreases-loop-power
decreases-loop-power l = l.most + 1 - l.power
