-- What is printed is read back, so no two numbers have the same text.
use Prim.Native.Nat.{ℕ, zero, suc, ◌+◌, ◌/◌, ◌%◌, ◌<◌}
use mathlib.Core.Path.{◌≡◌, sym, ap, ◌∙◌}
use mathlib.Core.Bool.{true}
use mathlib.Core.List.{List, [], ◌∷◌, ◌++◌}
use mathlib.Core.Option.{some}
use native.Mathlib.Decide.{dec_lt}
use native.Mathlib.Omega.{arith}
use borrow.Author.Tests.{le-leb, lt-ltb, ne_eqb}
use lib.IntN.{ℤ, pos, negsuc}
use lib.Signed.{mag}
use Rattle.printing.specs.Bytes.{glyph, minus}
use Rattle.text.specs.Bytes.{is_digit}
use Rattle.printing.specs.Digits.{digits, signed}
use Rattle.text.specs.Numbers.{are_digits, value_on, magnitude, fitting, number, with_sign, weight}
use Rattle.printing.proofs.Spelling.{digits_low, digits_high, digits-some, digits-few}
use Rattle.text.proofs.Runs.{and_true, and_l, and_r, digit_range, magnitude-is, none_at_all, value_last}

are_digits-on : (xs ys : List ℕ) → are_digits xs ≡ true → are_digits ys ≡ true → are_digits (xs ++ ys) ≡ true
are_digits-on [] ys p q = q
are_digits-on (x ∷ xs) ys p q = and_true (and_l (is_digit x) (are_digits xs) p) (are_digits-on xs ys (and_r (is_digit x) (are_digits xs) p) q)

one_digit : (d : ℕ) → d < 10 → are_digits (glyph d ∷ []) ≡ true
one_digit d h = rw (le-leb 48 (48 + d) (omega arith), le-leb (48 + d) 57 (omega arith))

-- digits, and of the value that they were printed from
record Spells (x : ℕ) : Type 0 where
  all : are_digits (digits x) ≡ true
  worth : value_on 0 (digits x) ≡ x

spells : (f x : ℕ) → x < f → Spells x
spells zero x h = absurd (omega arith)
spells (suc f) x h =
    elim (dec_lt x 10) [
      | yes t ↦ record { all = rw (digits_low x t) (one_digit x t); worth = rw (digits_low x t) (omega arith) }
      | no t ↦
          let e = digits_high x (omega arith) in
          let i = spells f (x / 10) (omega arith) in
          record {
            all = rw e (are_digits-on (digits (x / 10)) (glyph (x % 10) ∷ []) i.all (one_digit (x % 10) (omega arith)));
            worth = rw (e, value_last 0 (digits (x / 10)) (glyph (x % 10)), i.worth) (omega arith);
          }
    ]

spelled : (x : ℕ) → Spells x
spelled x = spells (suc x) x (omega arith)

pub value_printed : (x : ℕ) → value_on 0 (digits x) ≡ x
value_printed x = (spelled x).worth

magnitude-printed : (x : ℕ) → x < 10000000000 → magnitude (digits x) ≡ some x
magnitude-printed x h = magnitude-is (digits x) (spelled x).all (digits-some x) (digits-few 9 x h) ∙ ap some (value_printed x)

-- a number of 32 bits is read back
pub read_printed : (x : ℕ) → x < 4294967296 → number (digits x) ≡ some x
read_printed x h = rw (magnitude-printed x (omega arith), lt-ltb x 4294967296 h)

-- and so is a node weight
plain : (field : List ℕ) → are_digits field ≡ true → weight field ≡ with_sign pos (fitting 2147483648 (magnitude field))
plain [] d = rw none_at_all
plain (b ∷ bs) d =
    let n = digit_range b (and_l (is_digit b) (are_digits bs) d) in
    rw (ne_eqb b minus (λ h. omega arith))

pub weight-printed : (z : ℤ) → mag z < 2147483648 → weight (signed z) ≡ some z
weight-printed (pos x) h = plain (digits x) (spelled x).all ∙ rw (magnitude-printed x (omega arith), lt-ltb x 2147483648 h)
weight-printed (negsuc x) h = rw (magnitude-printed (suc x) (omega arith), lt-ltb (suc x) 2147483649 (omega arith))

-- two numbers with the same text are equal
pub digits_differ : (x y : ℕ) → digits x ≡ digits y → x ≡ y
digits_differ x y e = sym (value_printed x) ∙ ap (value_on 0) e ∙ value_printed y

no_minus : (x y : ℕ) → digits x ≡ minus ∷ digits y → ⊥
no_minus x y e = let z : ◌≡◌ {A = ℕ} 0 1 = cc (sym (spelled x).all ∙ ap are_digits e) in omega arith

pub signed_differ : (z w : ℤ) → signed z ≡ signed w → z ≡ w
signed_differ (pos x) (pos y) e = ap pos (digits_differ x y e)
signed_differ (pos x) (negsuc y) e = absurd (no_minus x (suc y) e)
signed_differ (negsuc x) (pos y) e = absurd (no_minus y (suc x) (sym e))
signed_differ (negsuc x) (negsuc y) e =
    let q : digits (suc x) ≡ digits (suc y) = cc in
    let n : x ≡ y = omega (arith, digits_differ (suc x) (suc y) q) in
    ap negsuc n
