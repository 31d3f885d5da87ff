-- The digits of a number, one at a time from the left, as they are printed.
use Prim.Native.Nat.{ℕ, zero, suc, ◌+◌, ◌*◌, ◌-◌, ◌/◌, ◌%◌, ◌^◌, ◌<◌}
use mathlib.Core.Path.{◌≡◌, refl, sym, ap, ap₂, ◌∙◌}
use mathlib.Core.List.{[], ◌∷◌, ◌++◌}
use native.Mathlib.Nat.{pow-suc, pow-succ', one-le-pow, mul_assoc, div-div-eq-div-mul, div-add-mod, mul-add-div, div-lt_iff_lt-mul}
use native.Mathlib.Nat.{mod-lt, mod-eq_of_lt, mul-add-mod_self_left, mod-mod_of_dvd, dvd-mul_right}
use native.Mathlib.Numerals.{add-one}
use native.Mathlib.Decide.{dec_lt}
use native.Mathlib.Omega.{arith}
use lib.ListN.{length}
use Rattle.printing.specs.Bytes.{glyph}
use Rattle.printing.specs.Digits.{digits, from_left}
use Rattle.printing.proofs.Spelling.{digits_low, digits_high, one_more, only_one, digits-some}

-- the digits from the left but for the last one are those of x / 10
left-last : (k x : ℕ) → from_left (suc k) x ≡ from_left k (x / 10) ++ (glyph (x % 10) ∷ [])
unfolding from_left
left-last zero x = ap (λ d. glyph d ∷ []) (omega arith)
left-last (suc j) x =
    let e : x / 10 ^ suc j ≡ x / 10 / 10 ^ j = ap (λ y. x / y) (pow-succ' 10 j) ∙ sym (div-div-eq-div-mul x 10 (10 ^ j)) in
    ap₂ (λ y s. glyph (y % 10) ∷ s) e (left-last j x)

left_as_spelt : (f x : ℕ) → x < f → digits x ≡ from_left (length (digits x)) x
unfolding from_left
left_as_spelt zero x h = absurd (omega arith)
left_as_spelt (suc f) x h =
    elim (dec_lt x 10) [
      | yes t ↦ digits_low x t ∙ ap (λ d. glyph d ∷ []) (omega arith) ∙ ap (λ n. from_left n x) (sym (only_one x t))
      | no t ↦
          let k = length (digits (x / 10)) in
          digits_high x (omega arith) ∙ ap (λ s. s ++ (glyph (x % 10) ∷ [])) (left_as_spelt f (x / 10) (omega arith)) ∙ sym (left-last k x)
          ∙ ap (λ n. from_left n x) (sym (one_more x (omega arith) ∙ add-one k))
    ]

-- the digits of x from the left
pub from_left_lem : (x : ℕ) → digits x ≡ from_left (length (digits x)) x
from_left_lem x = left_as_spelt (suc x) x (omega arith)

-- as many digits as x has say all of x
below_power : (f x : ℕ) → x < f → x < 10 ^ length (digits x)
below_power zero x h = absurd (omega arith)
below_power (suc f) x h =
    elim (dec_lt x 10) [
      | yes t ↦ rw (only_one x t) (omega arith)
      | no t ↦
          let k = length (digits (x / 10)) in
          let i : x / 10 < 10 ^ k = below_power f (x / 10) (omega arith) in
          rw (one_more x (omega arith), add-one k, pow-suc 10 k) (omega arith)
    ]

-- the digit of x that counts p, out of what is left of x where the digits that count more are gone
digit_left : (x p : ℕ) → 0 < p → x % (p * 10) / p ≡ x / p % 10
digit_left x p h =
    let a = x / (p * 10) in
    let r = x % (p * 10) in
    let x-is : p * (10 * a) + r ≡ x = ap (λ z. z + r) (sym (mul_assoc p 10 a)) ∙ div-add-mod x (p * 10) in
    let low : r / p < 10 = (div-lt_iff_lt-mul {k = p} h).1 (omega (arith, mod-lt x {m = p * 10} (omega arith))) in
    sym (mod-eq_of_lt low) ∙ sym (mul-add-mod_self_left 10 a (r / p)) ∙ ap (λ z. z % 10) (sym (mul-add-div h (10 * a) r) ∙ ap (λ z. z / p) x-is)

-- a loop over the digits of x from the left, when k of them are to come: `rest` is what these say, and `power` what the first of them counts, or 0
pub record Coming (x rest power k : ℕ) : Type 0 where
  pub rest_is : rest ≡ x % 10 ^ k
  pub power_is : power ≡ 10 ^ k / 10

tenth : (j : ℕ) → 10 ^ suc j / 10 ≡ 10 ^ j
tenth j = omega (arith, pow-suc 10 j)

-- at first all of them are
pub all_coming : (x power : ℕ) → power ≡ 10 ^ (length (digits x) - 1) → Coming x x power (length (digits x))
all_coming x power e =
    record {
      rest_is = sym (mod-eq_of_lt (below_power (suc x) x (omega arith)));
      power_is = e ∙ go (length (digits x)) (digits-some x);
    }
  where
    go : (k : ℕ) → 0 < k → 10 ^ (k - 1) ≡ 10 ^ k / 10
    go zero h = absurd (omega arith)
    go (suc j) h = let e : suc j - 1 ≡ j = omega arith in rw e (sym (tenth j))

module _ {x rest power : ℕ} where
  pub some_coming : (k : ℕ) → Coming x rest power k → 0 < power → 0 < k
  some_coming zero i h = absurd (omega (arith, i.power_is))
  some_coming (suc j) i h = omega arith

  pub none_coming : (k : ℕ) → Coming x rest power k → power ≡ 0 → k ≡ 0
  none_coming zero i z = refl
  none_coming (suc j) i z = absurd (omega (arith, i.power_is ∙ tenth j, one-le-pow j 10 (omega arith)))

  -- the first of them, and the others
  module _ (j : ℕ) (i : Coming x rest power (suc j)) where
    first_power : power ≡ 10 ^ j
    first_power = i.power_is ∙ tenth j

    pub first_coming : rest / power ≡ x / 10 ^ j % 10
    first_coming = rw (first_power, i.rest_is, pow-suc 10 j) (digit_left x (10 ^ j) (one-le-pow j 10 (omega arith)))

    pub others_coming : Coming x (rest % power) (power / 10) j
    others_coming =
        record {
          rest_is = rw (first_power, i.rest_is, pow-suc 10 j) (mod-mod_of_dvd (10 ^ j) x (dvd-mul_right (10 ^ j) 10));
          power_is = ap (λ z. z / 10) first_power;
        }

  pub low_coming : (k : ℕ) → Coming x rest power k → 0 < power → rest / power < 10
  low_coming zero i h = absurd (omega (arith, some_coming 0 i h))
  low_coming (suc j) i h = rw (first_coming j i) (mod-lt (x / 10 ^ j) (omega arith))
