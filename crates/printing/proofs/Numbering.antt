-- A loop that writes a number from the left: k digits of x are still to be written, and with them the bytes are what they are to be.
use Prim.Native.Nat.{ℕ, zero, suc, ◌+◌, ◌-◌, ◌/◌, ◌%◌, ◌^◌, ◌≤◌, ◌<◌}
use mathlib.Core.Path.{◌≡◌, refl, sym, ap, ◌∙◌}
use mathlib.Core.List.{List}
use native.Mathlib.Nat.{add-zero}
use native.Mathlib.Numerals.{add-one}
use native.Mathlib.Omega.{arith}
use lib.ListN.{length, set, length-set}
use lib.Seq.{sets}
use Rattle.printing.specs.Bytes.{glyph}
use Rattle.printing.specs.Digits.{digits, from_left}
use Rattle.printing.specs.Parts.{Writes}
use Rattle.printing.proofs.FromLeft.{from_left_lem, Coming, all_coming, some_coming, none_coming, first_coming, others_coming}
use Rattle.printing.proofs.Putting.{put_is}

-- k digits are to be written
pub record Going (out₀ : List ℕ) (at x : ℕ) (out : List ℕ) (to rest power k : ℕ) : Type 0 where
  pub coming : Coming x rest power k
  pub long : length out ≡ length out₀
  pub to_write : to + k ≡ at + length (digits x)
  pub bytes : sets out to (from_left k x) ≡ sets out₀ at (digits x)

pub start : (out : List ℕ) (at x power : ℕ) → power ≡ 10 ^ (length (digits x) - 1) → Going out at x out at x power (length (digits x))
start out at x power e =
    record {
      coming = all_coming x power e;
      long = refl;
      to_write = refl;
      bytes = ap (sets out at) (sym (from_left_lem x));
    }

module _ {out₀ : List ℕ} {at x : ℕ} {out : List ℕ} {to rest power : ℕ} where
  pub turn : (b k : ℕ) → Going out₀ at x out to rest power k → 0 < power → b ≡ glyph (rest / power)
      → (j : ℕ) × Going out₀ at x (set out to b) (to + 1) (rest % power) (power / 10) j
  unfolding from_left
  turn b zero i h e = absurd (omega (arith, some_coming 0 i.coming h))
  turn b (suc j) i h e = (
    j,
    record {
      coming = others_coming j i.coming;
      long = length-set out to b ∙ i.long;
      to_write = omega arith;
      bytes = rw (add-one to, e, first_coming j i.coming) i.bytes;
    },
  )

  pub done : (k : ℕ) → Going out₀ at x out to rest power k → at + length (digits x) ≤ length out₀ → power ≡ 0 → Writes out₀ out at (digits x) to
  unfolding from_left
  done zero i h z = record { bytes_are = i.bytes ∙ put_is out₀ at (digits x) h; ends_at = sym (add-zero to) ∙ i.to_write }
  done (suc j) i h z = absurd (omega (arith, none_coming (suc j) i.coming z))
