-- The items of a list that satisfy a test: under new numbers, without one that does not, of those left by another test.
use Prim.Native.Nat.{ℕ, ◌≤◌}
use mathlib.Core.Path.{◌≡◌, refl, ap, ap₂, ◌∙◌}
use mathlib.Core.Logic.{inl, inr, ⊎_elim}
use mathlib.Core.Bool.{Bool, true, false, cond, ◌&&◌}
use mathlib.Core.List.{List, [], ◌∷◌, map}
use native.Mathlib.Decide.{ℕ_discrete}
use native.Mathlib.Omega.{arith}
use borrow.Author.Tests.{eq-eqb, ne_eqb}
use lib.ListN.{length}
use Rattle.lists.specs.Walk.{filter}
use Rattle.lists.specs.Chain.{In, without}

-- a test passed or failed
pub by_test : (P : Type 0) (b : Bool) → (b ≡ true → P) → (b ≡ false → P) → P
by_test P true p q = p refl
by_test P false p q = q refl

pub both : (x y : Bool) → (x && y) ≡ true → (x ≡ true) × (y ≡ true)
both true y h = (refl, h)
both false true h = (h, refl)
both false false h = (h, h)

-- values kept under new numbers
pub map-moved : (f w new : ℕ → ℕ) (xs : List ℕ) → ((x : ℕ) → In x xs → f (new x) ≡ w x) → map f (map new xs) ≡ map w xs
map-moved f w new [] h = refl
map-moved f w new (x ∷ xs) h = ap₂ (λ y ys. y ∷ ys) (h x (inl refl)) (map-moved f w new xs (λ y i. h y (inr i)))

pub filter-moved : (q p : ℕ → Bool) (new : ℕ → ℕ) (xs : List ℕ) → ((x : ℕ) → In x xs → q (new x) ≡ p x) → filter q (map new xs) ≡ map new (filter p xs)
filter-moved q p new [] h = refl
filter-moved q p new (x ∷ xs) h =
    let i = filter-moved q p new xs (λ y i. h y (inr i)) in
    let e = h x (inl refl) in
    by_test (filter q (map new (x ∷ xs)) ≡ map new (filter p (x ∷ xs))) (p x)
    (λ t. rw (e, t) (ap (λ ys. new x ∷ ys) i))
    (λ t. rw (e, t) i)

pub filter-without : (p : ℕ → Bool) (e : ℕ) (xs : List ℕ) → p e ≡ false → filter p (without e xs) ≡ filter p xs
filter-without p e [] h = refl
filter-without p e (x ∷ xs) h =
    let i = filter-without p e xs h in
    elim (ℕ_discrete x e) [
      | yes q ↦
          (let h' : p x ≡ false = ap p q ∙ h in
          rw (eq-eqb x e q, h'))
      | no q ↦ rw (ne_eqb x e q) (ap (λ ys. cond (p x) (x ∷ ys) ys) i)
    ]

pub filter-all : (p : ℕ → Bool) (xs : List ℕ) → ((x : ℕ) → In x xs → p x ≡ true) → filter p xs ≡ xs
filter-all p [] h = refl
filter-all p (x ∷ xs) h = rw (h x (inl refl)) (ap (λ ys. x ∷ ys) (filter-all p xs (λ y i. h y (inr i))))

pub filter-both : (q p : ℕ → Bool) (xs : List ℕ) → filter q (filter p xs) ≡ filter (λ x. p x && q x) xs
filter-both q p [] = refl
filter-both q p (x ∷ xs) =
    let i = filter-both q p xs in
    by_test (filter q (filter p (x ∷ xs)) ≡ filter (λ x. p x && q x) (x ∷ xs)) (p x)
    (λ t. rw t (ap (λ ys. cond (q x) (x ∷ ys) ys) i))
    (λ t. rw t i)

pub in_filter : (p : ℕ → Bool) (x : ℕ) (xs : List ℕ) → In x (filter p xs) → In x xs × (p x ≡ true)
in_filter p x [] i = absurd i
in_filter p x (y ∷ ys) i =
    by_test (In x (y ∷ ys) × (p x ≡ true)) (p y)
    (λ t.
    ⊎_elim (λ (h : x ≡ y). (inl h, ap p h ∙ t)) (λ j. let r = in_filter p x ys j in (inr r.0, r.1)) (rw t at i))
    (λ t. let r = in_filter p x ys (rw t at i) in (inr r.0, r.1))

pub filter-fewer : (p : ℕ → Bool) (xs : List ℕ) → length (filter p xs) ≤ length xs
filter-fewer p [] = omega arith
filter-fewer p (x ∷ xs) =
    let i = filter-fewer p xs in
    by_test (length (filter p (x ∷ xs)) ≤ length (x ∷ xs)) (p x) (λ t. rw t (omega arith)) (λ t. rw t (omega arith))
