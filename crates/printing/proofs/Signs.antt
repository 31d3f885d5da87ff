-- Signed numbers: by their sign, and turned to the other side of 0. Assumes nothing.
use Prim.Native.Nat.{ℕ, zero, suc, ◌≤◌, ◌<◌}
use mathlib.Core.Path.{◌≡◌, refl, ap, ◌∙◌}
use mathlib.Core.Bool.{true, false}
use mathlib.Core.List.{◌∷◌}
use native.Mathlib.Omega.{arith}
use borrow.Author.Tests.{ltb-true, le-leb}
use lib.IntN.{ℤ, pos, negsuc, neg_ℤ, ◌+ℤ◌, ◌-ℤ◌, +ℤ_idl, neg_ℤ-neg_ℤ, nat_abs}
use lib.Signed.{mag, lt_z}
use mir.Syntax.{w64}
use mir.Val.{to_z, of_z, SFits}
use mir.Facts.{to_z-of_z}
use Rattle.printing.specs.Bytes.{minus}
use Rattle.printing.specs.Digits.{digits, signed}

-- the test `z < 0`, taken or left
pub negative : (z : ℤ) → SFits w64 z → lt_z (to_z w64 (of_z w64 z)) (pos 0) ≡ true → (n : ℕ) × (z ≡ negsuc n) × (n < 9223372036854775808)
negative z f h = go z f.sfits (rw (to_z-of_z f) at h)
  where
    go : (z : ℤ) → mag z < 9223372036854775808 → lt_z z (pos 0) ≡ true → (n : ℕ) × (z ≡ negsuc n) × (n < 9223372036854775808)
    go (pos n) m h = absurd (omega (arith, ltb-true n 0 h))
    go (negsuc n) m h = (n, refl, m)

pub not_negative : (z : ℤ) → SFits w64 z → lt_z (to_z w64 (of_z w64 z)) (pos 0) ≡ false → (n : ℕ) × (z ≡ pos n) × (n < 9223372036854775808)
not_negative z f h = go z f.sfits (rw (to_z-of_z f) at h)
  where
    go : (z : ℤ) → mag z < 9223372036854775808 → lt_z z (pos 0) ≡ false → (n : ℕ) × (z ≡ pos n) × (n < 9223372036854775808)
    go (pos n) m h = (n, refl, m)
    go (negsuc n) m h = absurd (let z : ◌≡◌ {A = ℕ} 0 1 = cc in omega arith)

pub back : (z : ℤ) → mag z < 9223372036854775808 → to_z w64 (of_z w64 z) ≡ z
back z h = to_z-of_z {w = w64} {z = z} (record { sfits = h })

pub mag_opposite : (n : ℕ) → mag (neg_ℤ (pos n)) ≤ n
mag_opposite zero = omega arith
mag_opposite (suc n) = omega arith

one_up : (n : ℕ) → negsuc n +ℤ pos 1 ≡ neg_ℤ (pos n)
one_up zero = refl
one_up (suc n) = rw (le-leb 2 (suc (suc n)) (omega arith)) (ap negsuc (omega arith))

-- `0 - (z + 1)` for a negative z, step by step
module _ (n : ℕ) (h : n < 9223372036854775808) where
  pub stepped : to_z w64 (of_z w64 (negsuc n)) +ℤ pos 1 ≡ neg_ℤ (pos n)
  stepped = rw (back (negsuc n) h) (one_up n)

  pub turned : pos 0 -ℤ to_z w64 (of_z w64 (to_z w64 (of_z w64 (negsuc n)) +ℤ pos 1)) ≡ pos n
  turned = rw (stepped, back (neg_ℤ (pos n)) (omega (arith, mag_opposite n))) (+ℤ_idl (neg_ℤ (neg_ℤ (pos n))) ∙ neg_ℤ-neg_ℤ (pos n))

  pub turned_back : to_z w64 (of_z w64 (pos 0 -ℤ to_z w64 (of_z w64 (to_z w64 (of_z w64 (negsuc n)) +ℤ pos 1)))) ≡ pos n
  turned_back = rw turned (back (pos n) h)

-- the text of a number, by the test `z < 0` and what `absolute` answers
module _ (z : ℤ) (f : SFits w64 z) {n : ℕ} (e : n ≡ nat_abs (to_z w64 (of_z w64 z))) where
  pub signed-negative : lt_z (to_z w64 (of_z w64 z)) (pos 0) ≡ true → signed z ≡ minus ∷ digits n
  signed-negative h = let q = negative z f h in rw (e, to_z-of_z f, q.1)

  pub signed-not_negative : lt_z (to_z w64 (of_z w64 z)) (pos 0) ≡ false → signed z ≡ digits n
  signed-not_negative h = let q = not_negative z f h in rw (e, to_z-of_z f, q.1)

-- `0 - v` for what a `-` stands before
module _ (v : ℕ) (h : v < 9223372036854775808) where
  pub opposite : pos 0 -ℤ to_z w64 v ≡ neg_ℤ (pos v)
  opposite = let e : to_z w64 v ≡ pos v = back (pos v) (omega arith) in rw e (+ℤ_idl (neg_ℤ (pos v)))

  pub opposite_back : to_z w64 (of_z w64 (pos 0 -ℤ to_z w64 v)) ≡ neg_ℤ (pos v)
  opposite_back = rw opposite (back (neg_ℤ (pos v)) (omega (arith, mag_opposite v)))

-- it is a number of 32 bits just where v is at most 2147483648
pub opposite_fits : (v : ℕ) → v ≤ 2147483648 → mag (neg_ℤ (pos v)) < 2147483648
opposite_fits zero h = omega arith
opposite_fits (suc v) h = omega arith

pub opposite_over : (v : ℕ) → 2147483648 < v → 2147483648 ≤ mag (neg_ℤ (pos v))
opposite_over zero h = omega arith
opposite_over (suc v) h = omega arith
