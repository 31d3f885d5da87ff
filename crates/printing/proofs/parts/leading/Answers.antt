use Rattle.std.proofs.Common.{refl, arith}
use native.Mathlib.Nat.{div-one}
use Rattle.printing.proofs.Powers.{longer, whole}
use Rattle.printing.proofs.parts.leading.Goals as goal

pub loop-power-init : goal.loop-power-init
loop-power-init c = (omega arith, (0, refl, rw (div-one) (omega arith)))

pub loop-power-preserved : goal.loop-power-preserved
loop-power-preserved c = longer _ _ (omega arith) c.loop-power.invariant

pub returns : goal.returns
returns c = whole _ _ (omega arith) c.loop-power.invariant
