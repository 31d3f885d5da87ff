-- The first rows of a table as a vector: its length, a row of it got or set, its last row taken off.
use Prim.Native.Nat.{ℕ, zero, suc, ◌+◌, ◌-◌, ◌≤◌, ◌<◌}
use mathlib.Core.Path.{◌≡◌, refl, sym, ap, ap₂, ◌∙◌}
use mathlib.Core.List.{List, [], ◌∷◌, map}
use mathlib.Core.Option.{none, some}
use native.Mathlib.Nat.{not-suc-le-zero, le_of_suc-le-suc}
use native.Mathlib.Decide.{ℕ_discrete, dec_lt}
use native.Mathlib.Omega.{arith}
use lib.ListN.{length, set, take, length-append, length-set}
use Rattle.original.specs.Std.{returns, get, push, swap_remove}
use Rattle.alike.specs.Same.{rows_below}

module _ {A : Type 0} where
  got_before : (xs : List A) (x : A) (i : ℕ) → i < length xs → get (push xs x) i ≡ get xs i
  got_before [] x i h = absurd (not-suc-le-zero h)
  got_before (y ∷ xs) x zero h = refl
  got_before (y ∷ xs) x (suc i) h = got_before xs x i (le_of_suc-le-suc h)

  got_last : (xs : List A) (x : A) (i : ℕ) → i ≡ length xs → get (push xs x) i ≡ some x
  got_last [] x zero h = refl
  got_last [] x (suc i) h = absurd (omega arith)
  got_last (y ∷ xs) x zero h = absurd (omega arith)
  got_last (y ∷ xs) x (suc i) h = got_last xs x i (omega arith)

  got_none : (xs : List A) (i : ℕ) → length xs ≤ i → get xs i ≡ none
  got_none [] i h = refl
  got_none (y ∷ xs) zero h = absurd (not-suc-le-zero h)
  got_none (y ∷ xs) (suc i) h = got_none xs i (le_of_suc-le-suc h)

  set_before : (xs : List A) (y x : A) (i : ℕ) → i < length xs → set (push xs y) i x ≡ push (set xs i x) y
  set_before [] y x i h = absurd (not-suc-le-zero h)
  set_before (z ∷ xs) y x zero h = refl
  set_before (z ∷ xs) y x (suc i) h = ap (λ (l : List A). z ∷ l) (set_before xs y x i (le_of_suc-le-suc h))

  set_last : (xs : List A) (y x : A) (i : ℕ) → i ≡ length xs → set (push xs y) i x ≡ push xs x
  set_last [] y x zero h = refl
  set_last [] y x (suc i) h = absurd (omega arith)
  set_last (z ∷ xs) y x zero h = absurd (omega arith)
  set_last (z ∷ xs) y x (suc i) h = ap (λ (l : List A). z ∷ l) (set_last xs y x i (omega arith))

  take_off : (xs : List A) (y : A) (n : ℕ) → n ≡ length xs → take n (push xs y) ≡ xs
  take_off [] y zero h = refl
  take_off [] y (suc n) h = absurd (omega arith)
  take_off (z ∷ xs) y zero h = absurd (omega arith)
  take_off (z ∷ xs) y (suc n) h = ap (λ (l : List A). z ∷ l) (take_off xs y n (omega arith))

  pub length-rows : (n : ℕ) (row : ℕ → A) → length (rows_below n row) ≡ n
  length-rows zero row = refl
  length-rows (suc n) row = length-append (rows_below n row) (row n ∷ []) ∙ ap (λ l. l + 1) (length-rows n row) ∙ omega arith

  pub got : (n : ℕ) (row : ℕ → A) (i : ℕ) → i < n → get (rows_below n row) i ≡ some (row i)
  got zero row i h = absurd (not-suc-le-zero h)
  got (suc n) row i h =
      elim (ℕ_discrete i n) [
        | yes q ↦ rw q (got_last (rows_below n row) (row n) n (sym (length-rows n row)))
        | no q ↦ got_before (rows_below n row) (row n) i (rw (length-rows n row) (omega arith)) ∙ got n row i (omega arith)
      ]

  pub got_past : (n : ℕ) (row : ℕ → A) (i : ℕ) → n ≤ i → get (rows_below n row) i ≡ none
  got_past n row i h = got_none (rows_below n row) i (rw (length-rows n row) h)

  -- rows that agree below n
  pub alike : (n : ℕ) (row other : ℕ → A) → ((i : ℕ) → i < n → row i ≡ other i) → rows_below n row ≡ rows_below n other
  alike zero row other f = refl
  alike (suc n) row other f = ap₂ (λ (xs : List A) (x : A). push xs x) (alike n row other (λ i h. f i (omega arith))) (f n (omega arith))

  -- one row set, and the others as they were
  pub set_is : (n : ℕ) (row other : ℕ → A) (i : ℕ) (x : A) → i < n → other i ≡ x → ((j : ℕ) → j < n → (j ≡ i → ⊥) → other j ≡ row j)
      → set (rows_below n row) i x ≡ rows_below n other
  set_is zero row other i x h q f = absurd (not-suc-le-zero h)
  set_is (suc n) row other i x h q f =
      elim (ℕ_discrete i n) [
        | yes z ↦
            set_last (rows_below n row) (row n) x i (z ∙ sym (length-rows n row))
            ∙ ap₂ (λ (xs : List A) (y : A). push xs y) (alike n row other (λ j l. sym (f j (omega arith) (omega arith)))) (sym q ∙ ap other z)
        | no z ↦
            set_before (rows_below n row) (row n) x i (rw (length-rows n row) (omega arith))
            ∙ ap₂ (λ (xs : List A) (y : A). push xs y) (set_is n row other i x (omega arith) q (λ j l d. f j (omega arith) d)) (sym (f n (omega arith) (λ e. z (sym e))))
      ]

  -- the last row taken off, and put in the place of row e if that is another
  pub swapped : (l : ℕ) (row other : ℕ → A) (e : ℕ) → e < suc l → ((i : ℕ) → i < l → (i ≡ e → ⊥) → other i ≡ row i) → (e < l → other e ≡ row l)
      → swap_remove (rows_below (suc l) row) e ≡ returns (row e, rows_below l other)
  swapped l row other e h f g =
      let z : length (rows_below (suc l) row) - 1 ≡ l = ap (λ x. x - 1) (length-rows (suc l) row) ∙ omega arith in
      rw (got (suc l) row e h, z, got (suc l) row l (omega arith))
      (ap (λ (xs : List A). returns (row e, xs))
      (elim (dec_lt e l) [
        | yes q ↦
            ap (take l) (set_before (rows_below l row) (row l) (row l) e (rw (length-rows l row) q))
            ∙ take_off (set (rows_below l row) e (row l)) (row l) l (sym (length-set (rows_below l row) e (row l) ∙ length-rows l row))
            ∙ set_is l row other e (row l) q (g q) f
        | no q ↦
            ap (take l) (set_last (rows_below l row) (row l) (row l) e (omega (arith, length-rows l row)))
            ∙ take_off (rows_below l row) (row l) l (sym (length-rows l row))
            ∙ alike l row other (λ i b. sym (f i b (omega arith)))
      ]))

module _ {A B : Type 0} where
  pub map_rows : (f : A → B) (n : ℕ) (row : ℕ → A) → map f (rows_below n row) ≡ rows_below n (λ i. f (row i))
  map_rows f zero row = refl
  map_rows f (suc n) row = map_push (rows_below n row) (row n) ∙ ap (λ (xs : List B). push xs (f (row n))) (map_rows f n row)
    where
      map_push : (xs : List A) (x : A) → map f (push xs x) ≡ push (map f xs) (f x)
      map_push [] x = refl
      map_push (y ∷ xs) x = ap (λ (l : List B). f y ∷ l) (map_push xs x)
