-- The members of a list without an edge, and of one whose rows are renamed; how far a member stands from the front.
use Prim.Native.Nat.{ℕ, ◌≤◌, ◌<◌}
use mathlib.Core.Path.{◌≡◌, refl, sym, ap, ◌∙◌}
use mathlib.Core.Logic.{inl, inr, ⊎_elim}
use mathlib.Core.List.{List, [], ◌∷◌, map}
use native.Mathlib.Decide.{ℕ_discrete}
use native.Mathlib.Omega.{arith}
use borrow.Author.Tests.{eq-eqb, ne_eqb}
use lib.ListN.{length}
use Rattle.lists.specs.Chain.{In, without}
use Rattle.sound.proofs.Listings.{in_tail}
use Rattle.removal.specs.Lists.{pos, renamed}

-- a member stands before the list's end
pub pos-below : (e : ℕ) (xs : List ℕ) → In e xs → pos e xs < length xs
pos-below e [] i = absurd i
pos-below e (x ∷ xs) i =
    elim (ℕ_discrete x e) [
      | yes q ↦ rw (eq-eqb x e q) (omega arith)
      | no q ↦ rw (ne_eqb x e q) (omega (arith, pos-below e xs (in_tail e x xs i q)))
    ]

-- a list is no longer without an edge
pub no_longer : (e : ℕ) (xs : List ℕ) → length (without e xs) ≤ length xs
no_longer e [] = omega arith
no_longer e (x ∷ xs) =
    elim (ℕ_discrete x e) [
      | yes q ↦ rw (eq-eqb x e q) (omega arith)
      | no q ↦ rw (ne_eqb x e q) (omega (arith, no_longer e xs))
    ]

pub in_map : (f : ℕ → ℕ) (x : ℕ) (xs : List ℕ) → In x xs → In (f x) (map f xs)
in_map f x [] i = i
in_map f x (y ∷ ys) i = ⊎_elim (λ h. inl (ap f h)) (λ j. inr (in_map f x ys j)) i

pub of_map : (f : ℕ → ℕ) (y : ℕ) (xs : List ℕ) → In y (map f xs) → (x : ℕ) × In x xs × (y ≡ f x)
of_map f y [] i = absurd i
of_map f y (x ∷ xs) (inl h) = (x, inl refl, h)
of_map f y (x ∷ xs) (inr j) =
    let r = of_map f y xs j in
    (r.0, inr r.1, r.2)

-- a row under its own number
pub renamed_same : (l e x : ℕ) → e ≡ l → x ≡ renamed l e x
renamed_same l e x q =
    elim (ℕ_discrete x l) [
      | yes p ↦ rw (eq-eqb x l p) (p ∙ sym q)
      | no p ↦ rw (ne_eqb x l p)
    ]

-- l under the number e and e under the number l: there and back
pub there_back : (l e x : ℕ) → (x ≡ e → ⊥) → renamed e l (renamed l e x) ≡ x
there_back l e x n =
    elim (ℕ_discrete x l) [
      | yes q ↦ rw (eq-eqb x l q, eq-eqb e e refl) (sym q)
      | no q ↦ rw (ne_eqb x l q, ne_eqb x e n)
    ]
