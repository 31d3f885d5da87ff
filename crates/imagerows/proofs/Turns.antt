-- One turn of a loop over rows.
use Prim.Native.Nat.{ℕ, zero, suc, ◌+◌, ◌*◌, ◌≤◌, ◌<◌}
use mathlib.Core.Path.{◌≡◌, refl, sym, ap, ap₂, ◌∙◌}
use mathlib.Core.List.{List}
use native.Mathlib.Nat.{mul-suc}
use native.Mathlib.Numerals.{add-one}
use native.Mathlib.Omega.{arith}
use lib.ListN.{length, length-append}
use Rattle.std.proofs.lemmas.Nat.{rows}
use Rattle.layout.specs.Numbers.{placed}
use Rattle.layout.proofs.Placing.{placed-after, placed-none}
use Rattle.imagerows.specs.Image.{rows_of, each}

module _ (f : ℕ → List ℕ) (k : ℕ) (len : (a : ℕ) → length (f a) ≡ k) where
  pub rows-length : (n : ℕ) → length (rows_of f n) ≡ k * n
  unfolding rows_of
  rows-length zero = omega arith
  rows-length (suc a) =
      length-append (rows_of f a) (f a) ∙ ap₂ (λ (x y : ℕ). x + y) (rows-length a) (len a) ∙ sym (mul-suc k a)

  -- the bytes of one more row
  pub row_written : (at a place : ℕ) (l : List ℕ) {l₁ l₂ ys : List ℕ} → place ≡ at + k * a → place + k ≤ length l
      → l₁ ≡ placed at (rows_of f a) l → ys ≡ f a → l₂ ≡ placed place ys l₁ → l₂ ≡ placed at (rows_of f (a + 1)) l
  unfolding rows_of
  row_written at a place l e h p q r =
      rw (add-one a)
      (placed-after at place (rows_of f a) (f a) l (omega (arith, rows-length a)) (omega (arith, len a)) p (rw q at r))

pub row_within : (k a n : ℕ) → a < n → k * a + k ≤ k * n
row_within k a n h = grind (arith, rows)

pub none_written : (f : ℕ → List ℕ) (at : ℕ) (l : List ℕ) → l ≡ placed at (rows_of f 0) l
unfolding rows_of
none_written f at l = sym (placed-none at l)

-- one more row stored
pub row_stored : {A : Type 0} (change : A → ℕ → A) (a : ℕ) (x : A) {y z : A} → y ≡ each change a x → z ≡ change y a → z ≡ each change (a + 1) x
unfolding each
row_stored change a x p q = q ∙ ap (λ y. change y a) p ∙ rw (add-one a)

pub none-stored : {A : Type 0} (change : A → ℕ → A) (x : A) → x ≡ each change 0 x
unfolding each
none-stored change x = refl
