-- Signed numbers and their bits: one more weight on a sum.
use Prim.Native.Nat.{ℕ, suc, ◌+◌, ◌-◌, ◌^◌, ◌≤◌, ◌<◌}
use mathlib.Core.Path.{◌≡◌, ap, ◌∙◌}
use mathlib.Core.Bool.{Bool, true, false, cond}
use native.Mathlib.Omega.{arith}
use lib.Dec.{ltb}
use lib.IntN.{ℤ, pos, negsuc, sub_ℕ, ◌+ℤ◌}
use lib.Signed.{mag}
use mir.Syntax.{w32, w64}
use mir.Val.{to_z, of_z, SFits}
use mir.Facts.{to_z-of_z}

mag_sub : (m n : ℕ) → mag (sub_ℕ m n) ≤ m + n
mag_sub m n = by (ltb m n)
  where
    by : (t : Bool) → mag (cond t (negsuc (n - suc m)) (pos (m - n))) ≤ m + n
    by true = omega arith
    by false = omega arith

pub mag_add : (z w : ℤ) → mag (z +ℤ w) ≤ mag z + mag w + 1
mag_add (pos m) (pos n) = omega arith
mag_add (pos m) (negsuc n) = omega (arith, mag_sub m (suc n))
mag_add (negsuc m) (pos n) = omega (arith, mag_sub n (suc m))
mag_add (negsuc m) (negsuc n) = omega arith

-- a weight that is read, and widened
pub widened : (x : ℤ) → mag x < 2 ^ 31 → to_z w64 (of_z w64 (to_z w32 (of_z w32 x))) ≡ x
widened x h = ap (λ (z : ℤ). to_z w64 (of_z w64 z)) (to_z-of_z {w = w32} {z = x} (record { sfits = h })) ∙ to_z-of_z {w = w64} {z = x} (record { sfits = omega arith })

-- one more weight on a sum that has room for it
module _ (z x : ℤ) (room : mag z + 2 ^ 31 < 2 ^ 63) (h : mag x < 2 ^ 31) where
  pub more_fits : SFits w64 (z +ℤ to_z w64 (of_z w64 (to_z w32 (of_z w32 x))))
  more_fits = rw (widened x h) (record { sfits = omega (arith, mag_add z x) })

  pub more_is : to_z w64 (of_z w64 (z +ℤ to_z w64 (of_z w64 (to_z w32 (of_z w32 x))))) ≡ z +ℤ x
  more_is = to_z-of_z {w = w64} more_fits ∙ ap (λ (y : ℤ). z +ℤ y) (widened x h)
