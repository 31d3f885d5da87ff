-- `operands_of` at each letter, `has_3` to `has_0`, and at any other, `has_4`.
use Prim.Native.Nat.{ℕ, ◌+◌, ◌≤◌, ◌<◌}
use mathlib.Core.Path.{◌≡◌}
use mathlib.Core.Logic.{◌⊎◌, inl, inr, ⊎_elim}
use native.Mathlib.Decide.{ℕ_discrete}
use native.Mathlib.Omega.{arith}
use borrow.Author.Tests.{ne_eqb}
use mathlib.Core.Bool.{Bool, true, false, cond}
use mathlib.Core.List.{[], ◌∷◌}
use Rattle.letters.specs.Letters.{operands_of, among}

-- one of two neighbours
pub pair : (x a : ℕ) → a ≤ x → x < a + 2 → (x ≡ a) ⊎ (x ≡ a + 1)
pair x a h l =
    elim (ℕ_discrete x a) [
      | yes q ↦ inl q
      | no q ↦ inr (omega arith)
    ]

module _ (x : ℕ) where
  -- E, U
  pub has_3 : (x ≡ 69) ⊎ (x ≡ 85) → 3 ≡ operands_of x
  unfolding operands_of
  has_3 = ⊎_elim (λ k. rw k) (λ k. rw k)

  -- B, F
  pub has_2 : (x ≡ 66) ⊎ (x ≡ 70) → 2 ≡ operands_of x
  unfolding operands_of
  has_2 = ⊎_elim (λ k. rw k) (λ k. rw k)

  -- A, D, G; M, N; W, X
  pub has_1 : (x ≡ 65) ⊎ ((x ≡ 68) ⊎ (x ≡ 71)) → 1 ≡ operands_of x
  unfolding operands_of
  has_1 = ⊎_elim (λ k. rw k) (⊎_elim (λ k. rw k) (λ k. rw k))

  pub has_1_too : (x ≡ 77) ⊎ ((x ≡ 78) ⊎ ((x ≡ 87) ⊎ (x ≡ 88))) → 1 ≡ operands_of x
  unfolding operands_of
  has_1_too = ⊎_elim (λ k. rw k) (⊎_elim (λ k. rw k) (⊎_elim (λ k. rw k) (λ k. rw k)))

  -- C, S, Z
  pub has_0 : (x ≡ 67) ⊎ ((x ≡ 83) ⊎ (x ≡ 90)) → 0 ≡ operands_of x
  unfolding operands_of
  has_0 = ⊎_elim (λ k. rw k) (⊎_elim (λ k. rw k) (λ k. rw k))

  pub has_4 : ((x ≡ 69) ⊎ (x ≡ 85) → ⊥) → ((x ≡ 66) ⊎ (x ≡ 70) → ⊥) → ((x ≡ 65) ⊎ ((x ≡ 68) ⊎ (x ≡ 71)) → ⊥)
      → ((x ≡ 67) ⊎ ((x ≡ 83) ⊎ (x ≡ 90)) → ⊥) → (x ≡ 77 → ⊥) → (x ≡ 78 → ⊥) → (x ≡ 87 → ⊥) → (x ≡ 88 → ⊥) → 4 ≡ operands_of x
  unfolding operands_of
  has_4 h3 h2 h1 h0 hm hn hw hx =
      rw (
        ne_eqb x 69 (λ k. h3 (inl k)),
        ne_eqb x 85 (λ k. h3 (inr k)),
        ne_eqb x 70 (λ k. h2 (inr k)),
        ne_eqb x 66 (λ k. h2 (inl k)),
        ne_eqb x 78 hn,
        ne_eqb x 88 hx,
        ne_eqb x 68 (λ k. h1 (inr (inl k))),
        ne_eqb x 87 hw,
        ne_eqb x 71 (λ k. h1 (inr (inr k))),
        ne_eqb x 77 hm,
        ne_eqb x 65 (λ k. h1 (inl k)),
        ne_eqb x 83 (λ k. h0 (inr (inl k))),
        ne_eqb x 67 (λ k. h0 (inl k)),
        ne_eqb x 90 (λ k. h0 (inr (inr k))),
      )

  -- never more than 4
  pub few_counts : operands_of x ≤ 4
  unfolding operands_of
  few_counts =
      at_most (among x (69 ∷ 85 ∷ [])) 3 _ (omega arith)
      (at_most (among x (70 ∷ 66 ∷ [])) 2 _ (omega arith)
      (at_most (among x (78 ∷ 88 ∷ 68 ∷ 87 ∷ 71 ∷ 77 ∷ 65 ∷ [])) 1 _ (omega arith)
      (at_most (among x (83 ∷ 67 ∷ 90 ∷ [])) 0 4 (omega arith) (omega arith))))
    where
      at_most : (t : Bool) (a b : ℕ) → a ≤ 4 → b ≤ 4 → cond t a b ≤ 4
      at_most true a b h l = h
      at_most false a b h l = l
