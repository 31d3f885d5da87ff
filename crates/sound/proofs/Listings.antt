-- Where each list is a chain of its own node's edges, the lists have m rows in all exactly when every edge is listed.
use Prim.{tt}
use Prim.Native.Nat.{ℕ, zero, suc, ◌+◌, ◌≤◌, ◌<◌}
use mathlib.Core.Path.{◌≡◌, refl, sym, ap, ◌∙◌}
use mathlib.Core.Logic.{◌⊎◌, inl, inr, ⊎_elim}
use mathlib.Core.List.{List, [], ◌∷◌, ◌++◌}
use native.Mathlib.Decide.{ℕ_discrete}
use native.Mathlib.Omega.{arith}
use borrow.Author.Tests.{eq-eqb, ne_eqb}
use lib.ListN.{length, length-append}
use Rattle.index.specs.Index.{END}
use Rattle.lists.specs.declared.Spot.{Spot}
use Rattle.lists.specs.declared.Spot.TheVariants.{Head}
use Rattle.lists.specs.Chain.{Chain, In, without}
use Rattle.lists.proofs.Chains.{below, Apart, chain_apart, few}

-- the rows listed, node after node, and how many they are
abbrev pub all : ℕ → (ℕ → List ℕ) → List ℕ
all zero ls = []
all (suc n) ls = all n ls ++ ls n

abbrev pub total : ℕ → (ℕ → List ℕ) → ℕ
total zero ls = 0
total (suc n) ls = total n ls + length (ls n)

length-all : (n : ℕ) (ls : ℕ → List ℕ) → length (all n ls) ≡ total n ls
length-all zero ls = refl
length-all (suc n) ls = length-append (all n ls) (ls n) ∙ ap (λ x. x + length (ls n)) (length-all n ls)

pub in_tail : (e x : ℕ) (xs : List ℕ) → In e (x ∷ xs) → (x ≡ e → ⊥) → In e xs
in_tail e x xs (inl h) n = absurd (n (sym h))
in_tail e x xs (inr j) n = j

pub without_in : (y e : ℕ) (xs : List ℕ) → In y xs → (y ≡ e → ⊥) → In y (without e xs)
without_in y e [] i n = i
without_in y e (x ∷ xs) i n =
    elim (ℕ_discrete x e) [
      | yes q ↦ rw (eq-eqb x e q) (in_tail y x xs i (λ h. n (sym h ∙ q)))
      | no q ↦ rw (ne_eqb x e q) (⊎_elim (λ h. inl h) (λ j. inr (without_in y e xs j n)) i)
    ]

pub length-less : (e : ℕ) (xs : List ℕ) → In e xs → length xs ≡ suc (length (without e xs))
length-less e [] i = absurd i
length-less e (x ∷ xs) i =
    elim (ℕ_discrete x e) [
      | yes q ↦ rw (eq-eqb x e q)
      | no q ↦ rw (ne_eqb x e q) (ap suc (length-less e xs (in_tail e x xs i q)))
    ]

in_left : (x : ℕ) (xs ys : List ℕ) → In x xs → In x (xs ++ ys)
in_left x [] ys i = absurd i
in_left x (y ∷ xs) ys (inl h) = inl h
in_left x (y ∷ xs) ys (inr i) = inr (in_left x xs ys i)

in_right : (x : ℕ) (xs ys : List ℕ) → In x ys → In x (xs ++ ys)
in_right x [] ys i = i
in_right x (y ∷ xs) ys i = inr (in_right x xs ys i)

in_cases : (x : ℕ) (xs ys : List ℕ) → In x (xs ++ ys) → In x xs ⊎ In x ys
in_cases x [] ys i = inr i
in_cases x (y ∷ xs) ys (inl h) = inl (inl h)
in_cases x (y ∷ xs) ys (inr i) = ⊎_elim (λ j. inl (inr j)) (λ j. inr j) (in_cases x xs ys i)

apart_append : (xs ys : List ℕ) → Apart xs → Apart ys → ((x : ℕ) → In x xs → In x ys → ⊥) → Apart (xs ++ ys)
apart_append [] ys a b d = b
apart_append (x ∷ xs) ys a b d = ((λ i. ⊎_elim a.0 (d x (inl refl)) (in_cases x xs ys i)), apart_append xs ys a.1 b (λ y i. d y (inr i)))

pub in_all : (n : ℕ) (ls : ℕ → List ℕ) (a x : ℕ) → a < n → In x (ls a) → In x (all n ls)
in_all zero ls a x h i = absurd (omega arith)
in_all (suc n) ls a x h i =
    elim (ℕ_discrete a n) [
      | yes q ↦ in_right x (all n ls) (ls n) (rw q at i)
      | no q ↦ in_left x (all n ls) (ls n) (in_all n ls a x (omega arith) i)
    ]

pub of_all : (n : ℕ) (ls : ℕ → List ℕ) (x : ℕ) → In x (all n ls) → (a : ℕ) × (a < n) × In x (ls a)
of_all zero ls x i = absurd i
of_all (suc n) ls x i =
    ⊎_elim (λ j. let r = of_all n ls x j in (r.0, omega arith, r.2)) (λ j. (n, omega arith, j)) (in_cases x (all n ls) (ls n) i)

apart_all : (n : ℕ) (ls : ℕ → List ℕ) (node : ℕ → ℕ) → ((a : ℕ) → a < n → Apart (ls a)) → ((a : ℕ) → a < n → (x : ℕ) → In x (ls a) → node x ≡ a)
    → Apart (all n ls)
apart_all zero ls node c o = tt
apart_all (suc n) ls node c o =
    apart_append (all n ls) (ls n) (apart_all n ls node (λ a h. c a (omega arith)) (λ a h. o a (omega arith))) (c n (omega arith))
    (λ x i j. (let r = of_all n ls x i in omega (arith, o n (omega arith) x j, o r.0 (omega arith) x r.2)))

pub dec_in : (x : ℕ) (xs : List ℕ) → Dec (In x xs)
dec_in x [] = no (λ i. i)
dec_in x (y ∷ ys) =
    elim (ℕ_discrete x y) [
      | yes q ↦ yes (inl q)
      | no q ↦ elim (dec_in x ys) [ yes i ↦ yes (inr i) | no n ↦ no (λ i. ⊎_elim q n i) ]
    ]

many : (m : ℕ) (xs : List ℕ) → ((x : ℕ) → x < m → In x xs) → m ≤ length xs
many zero xs h = omega arith
many (suc m) xs h =
    let r = many m (without m xs) (λ x l. without_in x m xs (h x (omega arith)) (omega arith)) in
    omega (arith, length-less m xs (h m (omega arith)))

module _ (n m : ℕ) (lk : Spot → ℕ) (node : ℕ → ℕ) (ls : ℕ → List ℕ) (small : m ≤ END)
    (chain : (a : ℕ) → a < n → Chain lk m (Head a) (ls a)) (own : (a : ℕ) → a < n → (x : ℕ) → In x (ls a) → node x ≡ a) where
  apart : Apart (all n ls)
  apart = apart_all n ls node (λ a h. chain_apart lk m small (Head a) (ls a) (chain a h)) own

  inside : (x : ℕ) → In x (all n ls) → x < m
  inside x i =
      let r = of_all n ls x i in
      below lk m small (Head r.0) x (ls r.0) (chain r.0 r.1) r.2

  pub at_most : total n ls ≤ m
  at_most = omega (arith, length-all n ls, few m (all n ls) apart inside)

  -- m rows in all: every edge is in the list of its end
  pub full : total n ls ≡ m → (x : ℕ) → x < m → (node x < n) × In x (ls (node x))
  full t x l =
      elim (dec_in x (all n ls)) [
        | yes i ↦
            (let r = of_all n ls x i in
            let o : node x ≡ r.0 = own r.0 r.1 x r.2 in
            (rw o r.1, rw o r.2))
        | no q ↦ absurd (omega (arith, length-all n ls, few m (x ∷ all n ls) (q, apart) (λ y. ⊎_elim (λ (h : y ≡ x). rw h l) (inside y))))
      ]

  -- and the other way round
  pub counted : ((x : ℕ) → x < m → (node x < n) × In x (ls (node x))) → total n ls ≡ m
  counted h =
      let b = many m (all n ls) (λ x l. in_all n ls (node x) x (h x l).0 (h x l).1) in
      omega (arith, length-all n ls, at_most)
