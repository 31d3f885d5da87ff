-- What an iterator gives, item by item, and what it comes to when all its items are collected.
use Prim.Native.Nat.{ℕ, zero, suc, ◌-◌, ◌≤◌, ◌<◌}
use mathlib.Core.Path.{◌≡◌, refl, sym, ap, ◌∙◌}
use mathlib.Core.Bool.{Bool, true, false, cond}
use mathlib.Core.List.{List, [], ◌∷◌}
use mathlib.Core.Option.{none, some}
use native.Mathlib.Nat.{not-suc-le-zero, le_of_suc-le-suc}
use native.Mathlib.Omega.{arith}
use lib.Dec.{eqb}
use lib.ListN.{length}
use Rattle.original.specs.Std.{returns, ◌!◌}
use Rattle.original.specs.Iterators.{Next, collect, Around, EdgeReference, edge_items, next_around, next_between}

-- from here on it gives these items, and then none
abbrev pub Gives : {I A : Type 0} → Next I A → I → List A → Type 0
Gives {I} next it [] = (it' : I) × (next it ≡ returns (none, it'))
Gives {I} next it (x ∷ xs) = (it' : I) × (next it ≡ returns (some x, it')) × Gives next it' xs

-- a first step that is taken by `first`, and goes on so
abbrev pub GivesFirst : {I A : Type 0} → Next I A → Next I A → I → List A → Type 0
GivesFirst {I} first next it [] = (it' : I) × (first it ≡ returns (none, it'))
GivesFirst {I} first next it (x ∷ xs) = (it' : I) × (first it ≡ returns (some x, it')) × Gives next it' xs

pub step-first : {I A : Type 0} (first first' next : Next I A) (it it' : I) (xs : List A) → first it ≡ first' it' → GivesFirst first' next it' xs → GivesFirst first next it xs
step-first first first' next it it' [] q (i, r) = (i, q ∙ r)
step-first first first' next it it' (x ∷ xs) q (i, r, rest) = (i, q ∙ r, rest)

pub same_first : {I A : Type 0} (first next : Next I A) (it : I) (xs : List A) → next it ≡ first it → GivesFirst first next it xs → Gives next it xs
same_first first next it [] q (i, r) = (i, q ∙ r)
same_first first next it (x ∷ xs) q (i, r, rest) = (i, q ∙ r, rest)

pub collect_all : {I A : Type 0} (next : Next I A) (turns : ℕ) (it : I) (xs : List A) → length xs < turns → Gives next it xs → collect next turns it ≡ returns xs
unfolding collect
collect_all next zero it xs h G = absurd (not-suc-le-zero h)
collect_all next (suc turns) it [] h (it', r) = rw r
collect_all next (suc turns) it (x ∷ xs) h (it', r, rest) = rw (r, collect_all next turns it' xs (le_of_suc-le-suc h) rest)

-- the items that satisfy a test
abbrev pub sift : {A : Type 0} → (A → Bool) → List A → List A
sift p [] = []
sift p (x ∷ xs) = cond (p x) (x ∷ sift p xs) (sift p xs)

pub sift_fewer : {A : Type 0} (p : A → Bool) (xs : List A) → length (sift p xs) ≤ length xs
sift_fewer p [] = omega arith
sift_fewer p (x ∷ xs) = go (p x) (sift_fewer p xs)
  where
    go : (b : Bool) → length (sift p xs) ≤ length xs → length (cond b (x ∷ sift p xs) (sift p xs)) ≤ suc (length xs)
    go true h = omega arith
    go false h = omega arith

-- `find` on an iterator, again and again, gives the items that satisfy its test
module _ (b most : ℕ) where
  abbrev pub leads : EdgeReference → Bool
  leads edge = eqb (edge.node ! 1) b

  find_first : (xs : List EdgeReference) (turns : ℕ) (it : Around) → length xs ≤ turns → length xs ≤ most → Gives (next_around edge_items) it xs
      → GivesFirst (next_between (suc turns) b) (next_between (suc most) b) it (sift leads xs)
  unfolding next_between
  find_first [] turns it h l (it', r) = (it', rw r)
  find_first (x ∷ xs) turns it h l (it', r, rest) =
      go (leads x) refl
      (find_first xs (turns - 1) it' (omega arith) (omega arith) rest)
      (find_first xs most it' (omega arith) (omega arith) rest)
    where
      go : (c : Bool) → leads x ≡ c → GivesFirst (next_between (suc (turns - 1)) b) (next_between (suc most) b) it' (sift leads xs)
          → GivesFirst (next_between (suc most) b) (next_between (suc most) b) it' (sift leads xs)
          → GivesFirst (next_between (suc turns) b) (next_between (suc most) b) it (cond c (x ∷ sift leads xs) (sift leads xs))
      go true q skip keep = (it', rw (r, q), same_first (next_between (suc most) b) (next_between (suc most) b) it' (sift leads xs) refl keep)
      go false q skip keep =
          let z : suc (turns - 1) ≡ turns = omega arith in
          step-first (next_between (suc turns) b) (next_between (suc (turns - 1)) b) (next_between (suc most) b) it it' (sift leads xs) (rw (r, q) (ap (λ t. next_between t b it') (sym z))) skip

  pub find-all : (it : Around) (xs : List EdgeReference) → length xs ≤ most → Gives (next_around edge_items) it xs → Gives (next_between (suc most) b) it (sift leads xs)
  find-all it xs l G = same_first (next_between (suc most) b) (next_between (suc most) b) it (sift leads xs) refl (find_first xs most it l l G)
