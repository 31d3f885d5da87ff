-- One direction under other links and ends: where they agree on the rows in use, with one node more, with one edge more.
use Prim.Native.Nat.{ℕ, ◌+◌, ◌≤◌, ◌<◌}
use mathlib.Core.Path.{◌≡◌, refl, sym, ap, ◌∙◌}
use mathlib.Core.Logic.{inl, inr, ⊎_elim}
use mathlib.Core.Bool.{cond}
use mathlib.Core.List.{List, [], ◌∷◌}
use native.Mathlib.Decide.{ℕ_discrete}
use native.Mathlib.Omega.{arith}
use borrow.Author.Tests.{eq-eqb, ne_eqb}
use lib.Dec.{eqb}
use Rattle.index.specs.Index.{END}
use Rattle.lists.specs.declared.Spot.{Spot}
use Rattle.lists.specs.declared.Spot.TheVariants.{Head, After}
use Rattle.lists.specs.Chain.{Chain, In}
use Rattle.lists.proofs.Chains.{below}
use Rattle.sound.specs.Sound.{Lists}

-- a chain under links that agree at its first spot and after each edge below m
pub framed : (lk lk' : Spot → ℕ) (m m' : ℕ) → m ≤ m' → ((y : ℕ) → y < m → lk' (After y) ≡ lk (After y))
    → (s t : Spot) (xs : List ℕ) → lk' t ≡ lk s → Chain lk m s xs → Chain lk' m' t xs
framed lk lk' m m' l f s t [] e c = e ∙ c
framed lk lk' m m' l f s t (x ∷ xs) e c = (e ∙ c.0, omega (arith, c.1), framed lk lk' m m' l f (After x) (After x) xs (f x c.1) c.2)

module _ (n m : ℕ) (small : m ≤ END) (lk lk' : Spot → ℕ) (node node' : ℕ → ℕ) (ls : ℕ → List ℕ) (L : Lists n m lk node ls)
    (afters : (y : ℕ) → y < m → lk' (After y) ≡ lk (After y)) (ends : (y : ℕ) → y < m → node' y ≡ node y) where
  inside : (c x : ℕ) → c < n → In x (ls c) → x < m
  inside c x l i = below lk m small (Head c) x (ls c) (L.chain c l) i

  -- links and ends that agree on the rows in use have the same lists
  pub agreed : ((c : ℕ) → c < n → lk' (Head c) ≡ lk (Head c)) → Lists n m lk' node' ls
  agreed heads =
      record {
        chain = λ c l. framed lk lk' m m (omega arith) afters (Head c) (Head c) (ls c) (heads c l) (L.chain c l);
        own = λ c l x i. ends x (inside c x l i) ∙ L.own c l x i;
        has_end = λ x l. rw (ends x l) (L.has_end x l);
        listed = λ x l. rw (ends x l) (L.listed x l);
      }

  -- a node more, with an empty list
  pub node-more : ((c : ℕ) → c < n → lk' (Head c) ≡ lk (Head c)) → lk' (Head n) ≡ END → Lists (n + 1) m lk' node' (λ c. cond (eqb c n) [] (ls c))
  node-more heads new =
      record {
        chain =
            λ c l.
            elim (ℕ_discrete c n) [
              | yes q ↦ rw (eq-eqb c n q) (ap (λ x. lk' (Head x)) q ∙ new)
              | no q ↦
                  (let l' : c < n = omega arith in
                  rw (ne_eqb c n q) (framed lk lk' m m (omega arith) afters (Head c) (Head c) (ls c) (heads c l') (L.chain c l')))
            ];
        own =
            λ c l x.
            elim (ℕ_discrete c n) [
              | yes q ↦ rw (eq-eqb c n q) (λ i. absurd i)
              | no q ↦
                  (let l' : c < n = omega arith in
                  rw (ne_eqb c n q) (λ i. ends x (inside c x l' i) ∙ L.own c l' x i))
            ];
        has_end = λ x l. rw (ends x l) (omega (arith, L.has_end x l));
        listed =
            λ x l.
            (let b = L.has_end x l in
            let q : node x ≡ n → ⊥ = λ h. omega arith in
            rw (ends x l, ne_eqb (node x) n q) (L.listed x l));
      }

  -- an edge more, at the front of node a's list
  module _ (a : ℕ) (is : a < n) (heads : (c : ℕ) → c < n → (c ≡ a → ⊥) → lk' (Head c) ≡ lk (Head c)) (head : lk' (Head a) ≡ m)
      (next : lk' (After m) ≡ lk (Head a)) (end : node' m ≡ a) where
    pub edge_more_lem : Lists n (m + 1) lk' node' (λ c. cond (eqb c a) (m ∷ ls c) (ls c))
    edge_more_lem =
        record {
          chain =
              λ c l.
              elim (ℕ_discrete c a) [
                | yes q ↦
                    rw (eq-eqb c a q) (
                      ap (λ x. lk' (Head x)) q ∙ head,
                      omega arith,
                      framed lk lk' m (m + 1) (omega arith) afters (Head c) (After m) (ls c) (next ∙ ap (λ x. lk (Head x)) (sym q)) (L.chain c l),
                    )
                | no q ↦ rw (ne_eqb c a q) (framed lk lk' m (m + 1) (omega arith) afters (Head c) (Head c) (ls c) (heads c l q) (L.chain c l))
              ];
          own =
              λ c l x.
              elim (ℕ_discrete c a) [
                | yes q ↦ rw (eq-eqb c a q) (⊎_elim (λ (e : x ≡ m). ap node' e ∙ end ∙ sym q) (λ i. ends x (inside c x l i) ∙ L.own c l x i))
                | no q ↦ rw (ne_eqb c a q) (λ i. ends x (inside c x l i) ∙ L.own c l x i)
              ];
          has_end =
              λ x l.
              elim (ℕ_discrete x m) [
                | yes q ↦ rw (q, end) is
                | no q ↦ (let l' : x < m = omega arith in rw (ends x l') (L.has_end x l'))
              ];
          listed =
              λ x l.
              elim (ℕ_discrete x m) [
                | yes q ↦ rw (q, end, eq-eqb a a refl) (inl refl)
                | no q ↦
                    (let l' : x < m = omega arith in
                    elim (ℕ_discrete (node x) a) [
                      | yes p ↦ rw (ends x l', eq-eqb (node x) a p) (inr (L.listed x l'))
                      | no p ↦ rw (ends x l', ne_eqb (node x) a p) (L.listed x l')
                    ])
              ];
        }
