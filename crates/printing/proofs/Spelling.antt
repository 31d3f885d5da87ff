-- The digits of a number, one at a time from the right, as they are defined. Assumes nothing.
use Prim.Native.Nat.{ℕ, zero, suc, ◌+◌, ◌/◌, ◌%◌, ◌^◌, ◌≤◌, ◌<◌}
use mathlib.Core.Path.{◌≡◌, ap, ◌∙◌}
use mathlib.Core.List.{List, [], ◌∷◌, ◌++◌}
use native.Mathlib.Nat.{pow-suc}
use native.Mathlib.Numerals.{add-one}
use native.Mathlib.Decide.{dec_lt}
use native.Mathlib.Omega.{arith}
use borrow.Author.Tests.{lt-ltb, le-ltb}
use lib.ListN.{length, get_or, drop, length-append, drop_of_length-le}
use lib.Seq.{drop-cons}
use Rattle.printing.specs.Bytes.{glyph}
use Rattle.printing.specs.Digits.{digits, spelt, field, fields_text}

spelt_low : (f x : ℕ) → x < 10 → spelt (suc f) x ≡ glyph x ∷ []
unfolding spelt
spelt_low f x h = rw (lt-ltb x 10 h, spelt)

spelt_high : (f x : ℕ) → 10 ≤ x → spelt (suc f) x ≡ spelt f (x / 10) ++ (glyph (x % 10) ∷ [])
unfolding spelt
spelt_high f x h = rw (le-ltb x 10 h, spelt)

spelt-enough : (f g x : ℕ) → x < f → x < g → spelt f x ≡ spelt g x
spelt-enough zero g x h l = absurd (omega arith)
spelt-enough (suc f) zero x h l = absurd (omega arith)
spelt-enough (suc f) (suc g) x h l =
    elim (dec_lt x 10) [
      | yes t ↦ rw (spelt_low f x t, spelt_low g x t)
      | no t ↦ rw (spelt_high f x (omega arith), spelt_high g x (omega arith), spelt-enough f g (x / 10) (omega arith) (omega arith))
    ]

pub digits_low : (x : ℕ) → x < 10 → digits x ≡ glyph x ∷ []
unfolding digits
digits_low x h = spelt_low x x h

pub digits_high : (x : ℕ) → 10 ≤ x → digits x ≡ digits (x / 10) ++ (glyph (x % 10) ∷ [])
unfolding digits
digits_high x h = spelt_high x x h ∙ ap (λ s. s ++ (glyph (x % 10) ∷ [])) (spelt-enough x (suc (x / 10)) (x / 10) (omega arith) (omega arith))

pub one_more : (x : ℕ) → 10 ≤ x → length (digits x) ≡ length (digits (x / 10)) + 1
one_more x h = ap length (digits_high x h) ∙ length-append (digits (x / 10)) (glyph (x % 10) ∷ [])

pub only_one : (x : ℕ) → x < 10 → length (digits x) ≡ 1
only_one x h = ap length (digits_low x h)

pub digits-some : (x : ℕ) → 0 < length (digits x)
digits-some x =
    elim (dec_lt x 10) [
      | yes t ↦ omega (arith, only_one x t)
      | no t ↦ omega (arith, one_more x (omega arith))
    ]

-- a number below a power of ten has few digits
pub digits-few : (k x : ℕ) → x < 10 ^ suc k → length (digits x) ≤ suc k
digits-few zero x h = omega (arith, only_one x h)
digits-few (suc k) x h =
    elim (dec_lt x 10) [
      | yes t ↦ omega (arith, only_one x t)
      | no t ↦ omega (arith, one_more x (omega arith), digits-few k (x / 10) (omega (arith, pow-suc 10 (suc k))))
    ]

-- the field of one number, then those of the rest
pub fields-step : (xs : List ℕ) (i : ℕ) → i < length xs → fields_text (drop i xs) ≡ field (digits (get_or xs i 0)) ++ fields_text (drop (i + 1) xs)
unfolding fields_text
fields-step xs i h = rw (drop-cons xs i 0 h, add-one i)

pub fields_width_step : (xs : List ℕ) (i : ℕ) → i < length xs
    → length (fields_text (drop i xs)) ≡ 1 + length (digits (get_or xs i 0)) + length (fields_text (drop (i + 1) xs))
fields_width_step xs i h =
    ap length (fields-step xs i h) ∙ length-append (field (digits (get_or xs i 0))) (fields_text (drop (i + 1) xs)) ∙ omega arith

pub fields-end : (xs : List ℕ) (i : ℕ) → length xs ≤ i → fields_text (drop i xs) ≡ []
unfolding fields_text
fields-end xs i h = rw (drop_of_length-le xs h)
