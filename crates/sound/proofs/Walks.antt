-- The clauses of `walked`, each under the facts that choose it, where `link` stands at the spot s; and of the walk through all lists
-- of one direction. Whatever the tables hold, it reads at most m rows: `most_read`.
use Prim.Native.Nat.{ℕ, zero, suc, ◌+◌, ◌-◌, ◌^◌, ◌≤◌, ◌<◌}
use mathlib.Core.Path.{◌≡◌, refl, sym, ◌∙◌}
use mathlib.Core.Bool.{Bool, true, false, not}
use native.Mathlib.Decide.{ℕ_discrete, dec_lt}
use native.Mathlib.Numerals.{add-one}
use native.Mathlib.Omega.{arith}
use borrow.Author.Tests.{lt-ltb, le-ltb, eq-eqb, ne_eqb, eqb-true}
use lib.Dec.{eqb}
use Rattle.std.proofs.lemmas.Bool.{eqb-false, not-false, not-true}
use Rattle.std.specs.Prelude.{Ok}
use Rattle.index.specs.Index.{END}
use Rattle.lists.specs.declared.Spot.{Spot}
use Rattle.lists.specs.declared.Spot.TheVariants.{Head, After}
use Rattle.sound.specs.Check.{Walked, fault, walked, node_walked, up_to, one_way}

-- what `!=` tells of two numbers
pub differs : {x y : ℕ} {r : Bool} → r ≡ not (eqb x y) → r ≡ true → x ≡ y → ⊥
differs {x} {y} e h = eqb-false x y (not-true (eqb x y) (sym e ∙ h))

pub equals : {x y : ℕ} {r : Bool} → r ≡ not (eqb x y) → r ≡ false → x ≡ y
equals {x} {y} e h = eqb-true x y (not-false (eqb x y) (sym e ∙ h))

-- a link below a count is no `END`
pub no_end : {m link : ℕ} → m < 2 ^ 32 → link < m → link ≡ END → ⊥
no_end p q h = omega arith

module _ (lk : Spot → ℕ) (node : ℕ → ℕ) (m a : ℕ) (s : Spot) (rows : ℕ) {link : ℕ} (is : lk s ≡ link) where
  pub at_end : (left : ℕ) → link ≡ END → walked lk node m a left s rows ≡ Ok rows
  unfolding walked
  at_end zero h = rw (is, eq-eqb link END h)
  at_end (suc left) h = rw (is, eq-eqb link END h)

  pub spent : (left : ℕ) → (link ≡ END → ⊥) → left ≡ 0 → walked lk node m a left s rows ≡ fault a
  unfolding walked
  spent left h z = rw (z, is, ne_eqb link END h)

  pub past : (left : ℕ) → (link ≡ END → ⊥) → m ≤ link → walked lk node m a left s rows ≡ fault a
  unfolding walked
  past zero h p = rw (is, ne_eqb link END h)
  past (suc left) h p = rw (is, ne_eqb link END h, le-ltb link m p)

  pub strange : (left : ℕ) → (link ≡ END → ⊥) → (node link ≡ a → ⊥) → walked lk node m a left s rows ≡ fault a
  unfolding walked
  strange zero h o = rw (is, ne_eqb link END h)
  strange (suc left) h o =
      elim (dec_lt link m) [
        | yes p ↦ rw (is, ne_eqb link END h, lt-ltb link m p, ne_eqb (node link) a o)
        | no p ↦ rw (is, ne_eqb link END h, le-ltb link m (omega arith))
      ]

  pub on : (left : ℕ) → (link ≡ END → ⊥) → link < m → node link ≡ a → walked lk node m a (suc left) s rows ≡ walked lk node m a left (After link) (rows + 1)
  unfolding walked
  on left h p o = rw (is, ne_eqb link END h, lt-ltb link m p, eq-eqb (node link) a o)

  -- the same as the code counts
  pub further : (link ≡ END → ⊥) → rows ≤ m → (rows ≡ m → ⊥) → link < m → node link ≡ a
      → walked lk node m a (m - rows) s rows ≡ walked lk node m a (m - (rows + 1)) (After link) (rows + 1)
  further h l d p o =
      let z : m - rows ≡ suc (m - (rows + 1)) = omega arith in
      rw z (on (m - (rows + 1)) h p o)

-- a walk reads no more rows than are left
pub bound : (lk : Spot → ℕ) (node : ℕ → ℕ) (m a left : ℕ) (s : Spot) (rows r : ℕ) → walked lk node m a left s rows ≡ Ok r → r ≤ rows + left
bound lk node m a zero s rows r h =
    elim (ℕ_discrete (lk s) END) [
      | yes q ↦ (let z : r ≡ rows = cc (at_end lk node m a s rows refl zero q) in omega arith)
      | no q ↦ absurd (let z : ◌≡◌ {A = ℕ} 0 1 = cc (spent lk node m a s rows refl zero q refl) in omega arith)
    ]
bound lk node m a (suc left) s rows r h =
    elim (ℕ_discrete (lk s) END) [
      | yes q ↦ (let z : r ≡ rows = cc (at_end lk node m a s rows refl (suc left) q) in omega arith)
      | no q ↦
          elim (dec_lt (lk s) m) [
            | no p ↦ absurd (let z : ◌≡◌ {A = ℕ} 0 1 = cc (past lk node m a s rows refl (suc left) q (omega arith)) in omega arith)
            | yes p ↦
                elim (ℕ_discrete (node (lk s)) a) [
                  | no o ↦ absurd (let z : ◌≡◌ {A = ℕ} 0 1 = cc (strange lk node m a s rows refl (suc left) q o) in omega arith)
                  | yes o ↦ omega (arith, bound lk node m a left (After (lk s)) (rows + 1) r (sym (on lk node m a s rows refl left q p o) ∙ h))
                ]
          ]
    ]

module _ (lk : Spot → ℕ) (node : ℕ → ℕ) (m : ℕ) where
  -- whatever the tables hold, at most m rows of a direction are read
  pub most_read : (a rows r : ℕ) → rows ≤ m → node_walked lk node m a rows ≡ Ok r → r ≤ m
  most_read a rows r l h = omega (arith, bound lk node m a (m - rows) (Head a) rows r h)

  -- the lists of the nodes below a, and then a's
  pub next : (a q : ℕ) (w v : Walked) → up_to lk node m a ≡ Ok q → w ≡ node_walked lk node m a q → w ≡ v → up_to lk node m (a + 1) ≡ v
  unfolding up_to
  next a q w v u h e = rw (add-one, u) (sym h ∙ e)

  stays : (a b n : ℕ) → up_to lk node m a ≡ fault b → a ≤ n → up_to lk node m n ≡ fault b
  unfolding up_to
  stays a b zero u l = let z : a ≡ 0 = omega arith in rw z at u
  stays a b (suc n) u l =
      elim (ℕ_discrete a (suc n)) [
        | yes q ↦ rw q at u
        | no q ↦ rw (stays a b n u (omega arith))
      ]

  pub way_fault : (a b n : ℕ) → up_to lk node m (a + 1) ≡ fault b → a < n → one_way lk node n m ≡ fault b
  unfolding one_way
  way_fault a b n u l = rw (stays (a + 1) b n u (omega arith))

  pub way-full : (a n rows : ℕ) → up_to lk node m a ≡ Ok rows → a ≡ n → rows ≡ m → one_way lk node n m ≡ Ok rows
  unfolding one_way
  way-full a n rows u z h = rw (← z, u, eq-eqb rows m h)

  pub way-short : (a n rows : ℕ) → up_to lk node m a ≡ Ok rows → a ≡ n → (rows ≡ m → ⊥) → one_way lk node n m ≡ fault n
  unfolding one_way
  way-short a n rows u z h = rw (← z, u, ne_eqb rows m h)
