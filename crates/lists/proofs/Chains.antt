-- A chain is unique, holds no row twice, and is what a walk meets; such a walk is never broken.
use Prim.{Unit, tt}
use Prim.Native.Nat.{ℕ, zero, suc, ◌≤◌, ◌<◌}
use mathlib.Core.Path.{◌≡◌, refl, sym, ap}
use mathlib.Core.Logic.{inl, inr, ⊎_elim}
use mathlib.Core.Bool.{false}
use mathlib.Core.List.{List, [], ◌∷◌}
use native.Mathlib.Nat.{not-suc-le-zero, le_of_suc-le-suc}
use native.Mathlib.Decide.{ℕ_discrete}
use native.Mathlib.Omega.{arith}
use borrow.Author.Tests.{lt-ltb, le-ltb, eq-eqb, ne_eqb}
use lib.Dec.{ltb}
use lib.ListN.{length}
use Rattle.index.specs.Index.{END}
use Rattle.lists.specs.declared.Spot.{Spot}
use Rattle.lists.specs.declared.Spot.TheVariants.{After}
use Rattle.lists.specs.Chain.{Chain, In, without}
use Rattle.lists.specs.Walk.{walk, stop}

module _ (lk : Spot → ℕ) (m : ℕ) (small : m ≤ END) where
  pub unique : (s : Spot) (xs ys : List ℕ) → Chain lk m s xs → Chain lk m s ys → xs ≡ ys
  unique s [] [] p q = refl
  unique s [] (y ∷ ys) p q = absurd (omega arith)
  unique s (x ∷ xs) [] p q = absurd (omega arith)
  unique s (x ∷ xs) (y ∷ ys) p q =
      let e : x ≡ y = cc in
      let r : xs ≡ ys = unique (After x) xs ys p.2 (rw e q.2) in
      cc

  -- the chain goes on behind each of its rows
  pub behind : (s : Spot) (x : ℕ) (ys : List ℕ) → Chain lk m s ys → In x ys → (zs : List ℕ) × Chain lk m (After x) zs × (length zs < length ys)
  behind s x [] p i = absurd i
  behind s x (y ∷ ys) p (inl e) = (ys, rw e p.2, omega arith)
  behind s x (y ∷ ys) p (inr i) =
      let r = behind (After y) x ys p.2 i in
      (r.0, r.1, omega arith)

  -- and never comes back to one
  pub fresh : (x : ℕ) (ys : List ℕ) → Chain lk m (After x) ys → In x ys → ⊥
  fresh x ys p i =
      let r = behind (After x) x ys p i in
      let e : ys ≡ r.0 = unique (After x) ys r.0 p r.1 in
      omega (arith, ap length e)

  pub below : (s : Spot) (x : ℕ) (ys : List ℕ) → Chain lk m s ys → In x ys → x < m
  below s x [] p i = absurd i
  below s x (y ∷ ys) p (inl e) = omega arith
  below s x (y ∷ ys) p (inr i) = below (After y) x ys p.2 i

-- no row stands twice
abbrev pub Apart : List ℕ → Type 0
Apart [] = Unit {0}
Apart (x ∷ xs) = (In x xs → ⊥) × Apart xs

pub chain_apart : (lk : Spot → ℕ) (m : ℕ) → m ≤ END → (s : Spot) (xs : List ℕ) → Chain lk m s xs → Apart xs
chain_apart lk m small s [] c = tt
chain_apart lk m small s (x ∷ xs) c = (fresh lk m small x xs c.2, chain_apart lk m small (After x) xs c.2)

pub in_without : (y e : ℕ) (xs : List ℕ) → In y (without e xs) → In y xs
in_without y e [] i = i
in_without y e (x ∷ xs) i =
    elim (ℕ_discrete x e) [
      | yes q ↦ inr (rw (eq-eqb x e q) at i)
      | no q ↦ ⊎_elim (λ h. inl h) (λ j. inr (in_without y e xs j)) (rw (ne_eqb x e q) at i)
    ]

pub apart_gone : (e : ℕ) (xs : List ℕ) → Apart xs → In e (without e xs) → ⊥
apart_gone e [] c i = i
apart_gone e (x ∷ xs) c i =
    elim (ℕ_discrete x e) [
      | yes q ↦ c.0 (rw q (rw (eq-eqb x e q) at i))
      | no q ↦ ⊎_elim (λ h. q (sym h)) (apart_gone e xs c.1) (rw (ne_eqb x e q) at i)
    ]

pub apart_without : (e : ℕ) (xs : List ℕ) → Apart xs → Apart (without e xs)
apart_without e [] c = tt
apart_without e (x ∷ xs) c =
    elim (ℕ_discrete x e) [
      | yes q ↦ rw (eq-eqb x e q) c.1
      | no q ↦ rw (ne_eqb x e q) ((λ i. c.0 (in_without x e xs i)), apart_without e xs c.1)
    ]

length_without : (e : ℕ) (xs : List ℕ) → length xs ≤ suc (length (without e xs))
length_without e [] = omega arith
length_without e (x ∷ xs) =
    elim (ℕ_discrete x e) [
      | yes q ↦ rw (eq-eqb x e q) (omega arith)
      | no q ↦ rw (ne_eqb x e q) (omega (arith, length_without e xs))
    ]

-- rows below m, none of them twice: at most m
pub few : (m : ℕ) (xs : List ℕ) → Apart xs → ((y : ℕ) → In y xs → y < m) → length xs ≤ m
few zero [] c b = omega arith
few zero (x ∷ xs) c b = omega (arith, b x (inl refl))
few (suc m) xs c b =
    let r =
    few m (without m xs) (apart_without m xs c) (λ y i.
    let n : y ≡ m → ⊥ = λ h. apart_gone m xs c (rw h at i) in
    omega (arith, b y (in_without y m xs i))) in
    omega (arith, length_without m xs)

module _ (lk : Spot → ℕ) (m : ℕ) (small : m ≤ END) where
  pub chain_length : (s : Spot) (xs : List ℕ) → Chain lk m s xs → length xs ≤ m
  chain_length s xs c = few m xs (chain_apart lk m small s xs c) (λ y. below lk m small s y xs c)

  walk_meets : (left : ℕ) (s : Spot) (xs : List ℕ) → Chain lk m s xs → length xs ≤ left → walk (λ e. lk (After e)) m left (lk s) ≡ xs
  unfolding walk
  walk_meets zero s [] c l = refl
  walk_meets zero s (x ∷ xs) c l = absurd (not-suc-le-zero l)
  walk_meets (suc left) s [] c l = rw (c, le-ltb END m small)
  walk_meets (suc left) s (x ∷ xs) c l = rw (c.0, lt-ltb x m c.1, walk_meets left (After x) xs c.2 (le_of_suc-le-suc l))

  stop-meets : (left : ℕ) (s : Spot) (xs : List ℕ) → Chain lk m s xs → length xs ≤ left → stop (λ e. lk (After e)) m left (lk s) ≡ END
  unfolding stop
  stop-meets zero s [] c l = c
  stop-meets zero s (x ∷ xs) c l = absurd (not-suc-le-zero l)
  stop-meets (suc left) s [] c l = rw (c, le-ltb END m small)
  stop-meets (suc left) s (x ∷ xs) c l = rw (c.0, lt-ltb x m c.1, stop-meets left (After x) xs c.2 (le_of_suc-le-suc l))

  -- a walk meets the rows of a chain
  pub chain_walked : (s : Spot) (xs : List ℕ) → Chain lk m s xs → walk (λ e. lk (After e)) m m (lk s) ≡ xs
  chain_walked s xs c = walk_meets m s xs c (chain_length s xs c)

  -- and is not broken
  pub chain_ends : (s : Spot) (xs : List ℕ) → Chain lk m s xs → ltb (stop (λ e. lk (After e)) m m (lk s)) m ≡ false
  chain_ends s xs c = rw (stop-meets m s xs c (chain_length s xs c), le-ltb END m small)
