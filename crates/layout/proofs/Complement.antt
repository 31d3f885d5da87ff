-- Two's complement: 32 bits and the signed number that they have.
use Prim.Native.Nat.{ℕ, suc, ◌-◌, ◌^◌, ◌<◌}
use mathlib.Core.Path.{◌≡◌, refl}
use mathlib.Core.Bool.{Bool, true, false, cond}
use native.Mathlib.Omega.{arith}
use borrow.Author.Tests.{le-ltb, lt-ltb}
use lib.Dec.{ltb}
use lib.IntN.{ℤ, pos, negsuc}
use lib.Signed.{mag}
use mir.Syntax.{w32}
use mir.Val.{to_z, of_z}
use Rattle.layout.specs.Numbers.{bits, signed}

pub bits_below : (z : ℤ) → mag z < 2 ^ 31 → bits z < 2 ^ 32
unfolding bits
bits_below (pos x) h = omega arith
bits_below (negsuc x) h = omega arith

-- either way round
pub signed-bits : (z : ℤ) → mag z < 2 ^ 31 → signed (bits z) ≡ z
unfolding bits signed
signed-bits (pos x) h = rw (lt-ltb x 2147483648 (omega arith))
signed-bits (negsuc x) h =
    let e : 4294967296 - suc (4294967296 - suc x) ≡ x = omega arith in
    rw (le-ltb (4294967296 - suc x) 2147483648 (omega arith), e)

pub bits-signed : (x : ℕ) → x < 2 ^ 32 → bits (signed x) ≡ x
unfolding bits signed
bits-signed x h = go (ltb x 2147483648)
  where
    go : (t : Bool) → bits (cond t (pos x) (negsuc (4294967296 - suc x))) ≡ x
    go true = refl
    go false = omega arith

-- std's casts are these
pub cast_bits : (z : ℤ) → of_z w32 z ≡ bits z
unfolding bits
cast_bits (pos x) = refl
cast_bits (negsuc x) = refl

pub cast_is_signed : (x : ℕ) → to_z w32 x ≡ signed x
unfolding signed
cast_is_signed x = refl
