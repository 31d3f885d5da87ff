-- One direction: its walks name a node exactly where it is the first fault.
use Prim.Native.Nat.{ℕ, zero, suc, ◌+◌, ◌-◌, ◌≤◌, ◌<◌}
use mathlib.Core.Path.{◌≡◌, refl, sym, ap, ◌∙◌}
use mathlib.Core.Logic.{◌⊎◌, inl, inr}
use mathlib.Core.Bool.{cond}
use mathlib.Core.List.{List}
use native.Mathlib.Decide.{ℕ_discrete, dec_lt}
use native.Mathlib.Omega.{arith}
use borrow.Author.Tests.{eq-eqb, ne_eqb}
use lib.Dec.{eqb}
use lib.ListN.{length}
use Rattle.std.specs.Prelude.{Ok, Err}
use Rattle.index.specs.declared.NodeIndex.{NodeIndex}
use Rattle.index.specs.Index.{END}
use Rattle.lists.specs.declared.Spot.{Spot}
use Rattle.lists.specs.declared.Spot.TheVariants.{Head, After}
use Rattle.lists.specs.Chain.{In}
use Rattle.lists.proofs.Chains.{chain_walked}
use Rattle.sound.specs.Sound.{Lists}
use Rattle.sound.specs.Check.{Walked, fault, walked, node_walked, up_to, one_way}
use Rattle.sound.specs.Answer.{Own, FirstFault}
use Rattle.sound.proofs.Walks.{at_end, spent, past, strange, on}
use Rattle.sound.proofs.Listings.{all, at_most, dec_in, in_all, of_all, counted}
use Rattle.sound.proofs.Exact.{faulty, list_at, reads, up_to-met, way-met}

-- one fault is at one node
same_node : {a b : ℕ} → fault a ≡ fault b → a ≡ b
same_node {a} {b} h =
    let e : ◌≡◌ {A = NodeIndex} (record { 0 = a }) (record { 0 = b }) = cc in
    ap (λ (x : NodeIndex). x.0) e

-- every number below m is in the list, or one is not
gap : (m : ℕ) (xs : List ℕ) → ((x : ℕ) → x < m → In x xs) ⊎ ((x : ℕ) × (x < m) × (In x xs → ⊥))
gap zero xs = inl (λ x l. absurd (omega arith))
gap (suc m) xs =
    elim (dec_in m xs) [
      | no q ↦ inr (m, omega arith, q)
      | yes i ↦
          elim (gap m xs) [
            | inr r ↦ inr (r.0, omega arith, r.2)
            | inl f ↦ inl (λ x l. elim (ℕ_discrete x m) [ yes q ↦ rw q i | no q ↦ f x (omega arith) ])
          ]
    ]

module _ (lk : Spot → ℕ) (node : ℕ → ℕ) (m : ℕ) (small : m ≤ END) where
  -- a walk's fault is at its own node
  fault_at : (a left : ℕ) (s : Spot) (rows b : ℕ) → walked lk node m a left s rows ≡ fault b → b ≡ a
  fault_at a zero s rows b h =
      elim (ℕ_discrete (lk s) END) [
        | yes q ↦ absurd (let z : ◌≡◌ {A = ℕ} 0 1 = cc (at_end lk node m a s rows refl zero q) in omega arith)
        | no q ↦ same_node (sym h ∙ spent lk node m a s rows refl zero q refl)
      ]
  fault_at a (suc left) s rows b h =
      elim (ℕ_discrete (lk s) END) [
        | yes q ↦ absurd (let z : ◌≡◌ {A = ℕ} 0 1 = cc (at_end lk node m a s rows refl (suc left) q) in omega arith)
        | no q ↦
            elim (dec_lt (lk s) m) [
              | no p ↦ same_node (sym h ∙ past lk node m a s rows refl (suc left) q (omega arith))
              | yes p ↦
                  elim (ℕ_discrete (node (lk s)) a) [
                    | no o ↦ same_node (sym h ∙ strange lk node m a s rows refl (suc left) q o)
                    | yes o ↦ fault_at a left (After (lk s)) (rows + 1) b (sym (on lk node m a s rows refl left q p o) ∙ h)
                  ]
            ]
      ]

  -- the rows read before leave room for a list of a's own, so after a fault there is none
  no_list : (a rows b : ℕ) → up_to lk node m a ≡ Ok rows → node_walked lk node m a rows ≡ fault b → (xs : List ℕ) → Own lk node m a (Head a) xs → ⊥
  no_list a rows b u h xs o =
      let i = up_to-met lk node m small a rows u in
      let e : list_at lk m a ≡ xs = chain_walked lk m small (Head a) xs o.chain in
      let o' : (c : ℕ) → c < suc a → Own lk node m c (Head c) (list_at lk m c) =
      λ c l. elim (ℕ_discrete c a) [ yes q ↦ rw (q, e) o | no q ↦ i.0 c (omega arith) ] in
      let t = at_most (suc a) m lk node (list_at lk m) small (λ c l. (o' c l).chain) (λ c l. (o' c l).own) in
      let f : length xs ≤ m - rows = omega (arith, i.1, ap length e) in
      let z : ◌≡◌ {A = ℕ} 0 1 = cc (reads lk node m small a (m - rows) (Head a) rows xs o f) in
      omega arith

  up_to_fault : (n b : ℕ) → up_to lk node m n ≡ fault b
      → (b < n) × ((c : ℕ) → c < b → (xs : List ℕ) × Own lk node m c (Head c) xs) × ((xs : List ℕ) → Own lk node m b (Head b) xs → ⊥)
  unfolding up_to
  up_to_fault zero b h = absurd (let z : ◌≡◌ {A = ℕ} 0 1 = cc in omega arith)
  up_to_fault (suc n) b h =
      elim (faulty (up_to lk node m n) (node_walked lk node m n) b h) [
        | inl u ↦ (let i = up_to_fault n b u in (omega arith, i.1, i.2))
        | inr t ↦
            (let e : b ≡ n = fault_at n (m - t.0) (Head n) t.0 b t.2 in
            let i = (up_to-met lk node m small n t.0 t.1).0 in
            (omega arith, (λ c l. (list_at lk m c, i c (omega arith))), rw e (no_list n t.0 b t.1 t.2)))
      ]

  -- all lists are there, and have not m rows: some edge is in none
  unlisted : (n r : ℕ) → up_to lk node m n ≡ Ok r → (r ≡ m → ⊥)
      → (x : ℕ) × (x < m) × ((b : ℕ) → b < n → (xs : List ℕ) → Own lk node m b (Head b) xs → In x xs → ⊥)
  unlisted n r u d =
      let i = up_to-met lk node m small n r u in
      let ls = list_at lk m in
      elim (gap m (all n ls)) [
        | inl f ↦
            absurd
            (d
            (i.1
            ∙ counted n m lk node ls small (λ a l. (i.0 a l).chain) (λ a l. (i.0 a l).own) (λ x l.
            (let t = of_all n ls x (f x l) in
            let o : node x ≡ t.0 = (i.0 t.0 t.1).own x t.2 in
            (rw o t.1, rw o t.2)))))
        | inr g ↦ (
          g.0,
          g.1,
          λ b l xs o j.
              (let e : ls b ≡ xs = chain_walked lk m small (Head b) xs o.chain in
              g.2 (in_all n ls b g.0 l (rw e j))),
        )
      ]

  module _ (n : ℕ) where
    pub way-first : (a : ℕ) → one_way lk node n m ≡ fault a → FirstFault lk node n m a
    unfolding one_way
    way-first a h =
        elim (faulty (up_to lk node m n) (λ rows. cond (eqb rows m) (Ok rows) (fault n)) a h) [
          | inl u ↦
              (let f = up_to_fault n a u in
              record { inside = omega arith; before = f.1; here = λ l. f.2; missing = λ e. absurd (omega arith) })
          | inr t ↦
              elim (ℕ_discrete t.0 m) [
                | yes q ↦ absurd (let e : Ok t.0 ≡ fault a = rw (eq-eqb t.0 m q) at t.2 in let z : ◌≡◌ {A = ℕ} 0 1 = cc in omega arith)
                | no q ↦
                    (let e : fault n ≡ fault a = rw (ne_eqb t.0 m q) at t.2 in
                    let z : a ≡ n = same_node (sym e) in
                    let i = (up_to-met lk node m small n t.0 t.1).0 in
                    record {
                      inside = omega arith;
                      before = λ b l. (list_at lk m b, i b (omega arith));
                      here = λ l. absurd (omega arith);
                      missing = λ w. unlisted n t.0 t.1 q;
                    })
              ]
        ]

    -- there is one first fault, and none in sound lists
    earlier : (a b : ℕ) → FirstFault lk node n m a → FirstFault lk node n m b → a < b → ⊥
    earlier a b f g l =
        let o = g.before a l in
        f.here (omega (arith, g.inside)) o.0 o.1

    not_both : (a : ℕ) (ls : ℕ → List ℕ) → FirstFault lk node n m a → Lists n m lk node ls → ⊥
    not_both a ls f L =
        elim (dec_lt a n) [
          | yes l ↦ f.here l (ls a) (record { chain = L.chain a l; own = L.own a l })
          | no l ↦
              (let g = f.missing (omega (arith, f.inside)) in
              let x = g.0 in
              let b = L.has_end x g.1 in
              g.2 (node x) b (ls (node x)) (record { chain = L.chain (node x) b; own = L.own (node x) b }) (L.listed x g.1))
        ]

    pub first_way : (a : ℕ) → FirstFault lk node n m a → one_way lk node n m ≡ fault a
    first_way a f = go (one_way lk node n m) refl
      where
        go : (w : Walked) → one_way lk node n m ≡ w → one_way lk node n m ≡ fault a
        go (Ok r) h = absurd (not_both a (list_at lk m) f (way-met lk node m small n r h).0)
        go (Err y) h =
            let b = y.0 in
            let g = way-first b h in
            elim (dec_lt a b) [
              | yes l ↦ absurd (earlier a b f g l)
              | no p ↦
                  elim (dec_lt b a) [
                    | yes l ↦ absurd (earlier b a g f l)
                    | no q ↦ (let e : b ≡ a = omega arith in h ∙ ap fault e)
                  ]
            ]
