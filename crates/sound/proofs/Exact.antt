-- One direction: its walks read m rows exactly where the lists are sound.
use Prim.Native.Nat.{ℕ, zero, suc, ◌+◌, ◌-◌, ◌≤◌, ◌<◌}
use mathlib.Core.Path.{◌≡◌, refl, sym, ◌∙◌}
use mathlib.Core.Logic.{◌⊎◌, inl, inr, ⊎_elim}
use mathlib.Core.Bool.{cond}
use mathlib.Core.List.{List, [], ◌∷◌}
use native.Mathlib.Nat.{add-zero, not-suc-le-zero, le_of_suc-le-suc}
use native.Mathlib.Decide.{ℕ_discrete, dec_lt}
use native.Mathlib.Omega.{arith}
use borrow.Author.Tests.{lt-ltb, le-ltb, eq-eqb, ne_eqb}
use lib.Dec.{eqb}
use lib.ListN.{length}
use Rattle.std.specs.Prelude.{Ok, Err}
use Rattle.index.specs.Index.{END}
use Rattle.lists.specs.declared.Spot.{Spot}
use Rattle.lists.specs.declared.Spot.TheVariants.{Head, After}
use Rattle.lists.specs.Walk.{walk}
use Rattle.lists.proofs.Chains.{chain_walked}
use Rattle.sound.specs.Sound.{Lists}
use Rattle.sound.specs.Check.{Walked, fault, walked, and_then, node_walked, up_to, one_way}
use Rattle.sound.specs.Answer.{Own}
use Rattle.sound.proofs.Walks.{at_end, spent, past, strange, on}
use Rattle.sound.proofs.Listings.{total, at_most, full, counted}

-- `and_then` comes to rows, or to a fault
pub through : (w : Walked) (f : ℕ → Walked) (r : ℕ) → and_then w f ≡ Ok r → (q : ℕ) × (w ≡ Ok q) × (f q ≡ Ok r)
through (Ok q) f r h = (q, refl, h)
through (Err b) f r h = cc

pub faulty : (w : Walked) (f : ℕ → Walked) (a : ℕ) → and_then w f ≡ fault a → (w ≡ fault a) ⊎ ((q : ℕ) × (w ≡ Ok q) × (f q ≡ fault a))
faulty (Ok q) f a h = inr (q, refl, h)
faulty (Err b) f a h = inl h

-- the list that a walk from a spot meets, and that from a head
abbrev pub meets : (Spot → ℕ) → (m left : ℕ) → Spot → List ℕ
meets lk m left s = walk (λ e. lk (After e)) m left (lk s)

abbrev pub list_at : (Spot → ℕ) → (m a : ℕ) → List ℕ
list_at lk m a = meets lk m m (Head a)

module _ (lk : Spot → ℕ) (node : ℕ → ℕ) (m : ℕ) (small : m ≤ END) where
  -- a walk along a list of a's own reads it to its end
  pub reads : (a left : ℕ) (s : Spot) (rows : ℕ) (xs : List ℕ) → Own lk node m a s xs → length xs ≤ left
      → walked lk node m a left s rows ≡ Ok (rows + length xs)
  reads a zero s rows [] o l = rw add-zero (at_end lk node m a s rows o.chain zero refl)
  reads a zero s rows (x ∷ xs) o l = absurd (not-suc-le-zero l)
  reads a (suc left) s rows [] o l = rw add-zero (at_end lk node m a s rows o.chain (suc left) refl)
  reads a (suc left) s rows (x ∷ xs) o l =
      let c = o.chain in
      let r = reads a left (After x) (rows + 1) xs (record { chain = c.2; own = λ y i. o.own y (inr i) }) (le_of_suc-le-suc l) in
      let z : rows + 1 + length xs ≡ rows + suc (length xs) = omega arith in
      on lk node m a s rows c.0 left (omega arith) c.1 (o.own x (inl refl)) ∙ rw z at r

  -- a walk that comes to the end has met a list of a's own
  pub met : (a left : ℕ) (s : Spot) (rows r : ℕ) → walked lk node m a left s rows ≡ Ok r
      → Own lk node m a s (meets lk m left s) × (r ≡ rows + length (meets lk m left s))
  unfolding walk
  met a zero s rows r h =
      elim (ℕ_discrete (lk s) END) [
        | yes q ↦ (let z : r ≡ rows = cc (at_end lk node m a s rows refl zero q) in (record { chain = q; own = λ x i. absurd i }, omega arith))
        | no q ↦ absurd (let z : ◌≡◌ {A = ℕ} 0 1 = cc (spent lk node m a s rows refl zero q refl) in omega arith)
      ]
  met a (suc left) s rows r h =
      elim (ℕ_discrete (lk s) END) [
        | yes q ↦
            (let z : r ≡ rows = cc (at_end lk node m a s rows refl (suc left) q) in
            let b : m ≤ lk s = omega arith in
            rw (le-ltb (lk s) m b) (record { chain = q; own = λ x i. absurd i }, omega arith))
        | no q ↦
            elim (dec_lt (lk s) m) [
              | no p ↦ absurd (let z : ◌≡◌ {A = ℕ} 0 1 = cc (past lk node m a s rows refl (suc left) q (omega arith)) in omega arith)
              | yes p ↦
                  elim (ℕ_discrete (node (lk s)) a) [
                    | no o ↦ absurd (let z : ◌≡◌ {A = ℕ} 0 1 = cc (strange lk node m a s rows refl (suc left) q o) in omega arith)
                    | yes o ↦
                        (let i = met a left (After (lk s)) (rows + 1) r (sym (on lk node m a s rows refl left q p o) ∙ h) in
                        rw (lt-ltb (lk s) m p) (
                          record { chain = (refl, p, i.0.chain); own = λ x. ⊎_elim (λ (e : x ≡ lk s). rw e o) (i.0.own x) },
                          omega (arith, i.1),
                        ))
                  ]
            ]
      ]

  -- the same from a head, whatever was read before
  pub node-met : (a rows r : ℕ) → node_walked lk node m a rows ≡ Ok r → Own lk node m a (Head a) (list_at lk m a) × (r ≡ rows + length (list_at lk m a))
  node-met a rows r h =
      let w = met a (m - rows) (Head a) rows r h in
      let e : list_at lk m a ≡ meets lk m (m - rows) (Head a) = chain_walked lk m small (Head a) (meets lk m (m - rows) (Head a)) w.0.chain in
      rw e w

  pub up_to-reads : (n : ℕ) (ls : ℕ → List ℕ) → ((a : ℕ) → a < n → Own lk node m a (Head a) (ls a)) → up_to lk node m n ≡ Ok (total n ls)
  unfolding up_to
  up_to-reads zero ls o = refl
  up_to-reads (suc n) ls o =
      let t = at_most (suc n) m lk node ls small (λ a l. (o a l).chain) (λ a l. (o a l).own) in
      rw (up_to-reads n ls (λ a h. o a (omega arith))) (reads n (m - total n ls) (Head n) (total n ls) (ls n) (o n (omega arith)) (omega arith))

  pub up_to-met : (n r : ℕ) → up_to lk node m n ≡ Ok r → ((a : ℕ) → a < n → Own lk node m a (Head a) (list_at lk m a)) × (r ≡ total n (list_at lk m))
  unfolding up_to
  up_to-met zero r h = ((λ a l. absurd (omega arith)), cc)
  up_to-met (suc n) r h =
      let t = through (up_to lk node m n) (node_walked lk node m n) r h in
      let i = up_to-met n t.0 t.1 in
      let w = node-met n t.0 r t.2 in (
        (λ a l. elim (ℕ_discrete a n) [ yes q ↦ rw q w.0 | no q ↦ i.0 a (omega arith) ]),
        omega (arith, i.1, w.1),
      )

  module _ (n : ℕ) where
    -- the lists are sound: m rows are read
    pub way-reads : (ls : ℕ → List ℕ) → Lists n m lk node ls → one_way lk node n m ≡ Ok m
    unfolding one_way
    way-reads ls L =
        let t : total n ls ≡ m = counted n m lk node ls small L.chain L.own (λ x l. (L.has_end x l, L.listed x l)) in
        rw (up_to-reads n ls (λ a h. record { chain = L.chain a h; own = L.own a h }), t, eq-eqb m m refl)

    -- and the other way round
    pub way-met : (r : ℕ) → one_way lk node n m ≡ Ok r → Lists n m lk node (list_at lk m) × (r ≡ m)
    unfolding one_way
    way-met r h =
        let t = through (up_to lk node m n) (λ rows. cond (eqb rows m) (Ok rows) (fault n)) r h in
        let i = up_to-met n t.0 t.1 in
        elim (ℕ_discrete t.0 m) [
          | no q ↦ absurd (let e : fault n ≡ Ok r = rw (ne_eqb t.0 m q) at t.2 in let z : ◌≡◌ {A = ℕ} 0 1 = cc in omega arith)
          | yes q ↦
              (let e : Ok t.0 ≡ Ok r = rw (eq-eqb t.0 m q) at t.2 in
              let z : t.0 ≡ r = cc in
              let f = full n m lk node (list_at lk m) small (λ a l. (i.0 a l).chain) (λ a l. (i.0 a l).own) (sym i.1 ∙ q) in (
                record {
                  chain = λ a l. (i.0 a l).chain;
                  own = λ a l. (i.0 a l).own;
                  has_end = λ x l. (f x l).0;
                  listed = λ x l. (f x l).1;
                },
                omega arith,
              ))
        ]

-- the rows of one direction, as the code reads them, are m
pub way-rows : (lk : Spot → ℕ) (node : ℕ → ℕ) (n m : ℕ) (w : Walked) (r : ℕ) → m ≤ END → w ≡ one_way lk node n m → w ≡ Ok r → r ≡ m
way-rows lk node n m w r small h e = (way-met lk node m small n r (sym h ∙ e)).1
