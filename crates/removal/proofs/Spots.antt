-- In a chain one spot leads to each member, and no other does; a search finds it, at the member's position.
use Prim.Native.Nat.{ℕ, zero, suc, ◌+◌, ◌≤◌, ◌<◌}
use mathlib.Core.Path.{◌≡◌, refl, sym, ◌∙◌}
use mathlib.Core.Logic.{inl, inr}
use mathlib.Core.Bool.{cond}
use mathlib.Core.List.{List, [], ◌∷◌}
use native.Mathlib.Nat.{add-zero, zero-add, not-suc-le-zero}
use native.Mathlib.Decide.{ℕ_discrete}
use native.Mathlib.Omega.{arith}
use borrow.Author.Tests.{eq-eqb, ne_eqb, lt-ltb}
use lib.Dec.{eqb}
use Rattle.std.specs.Prelude.{Some}
use Rattle.index.specs.Index.{END}
use Rattle.lists.specs.declared.Spot.{Spot}
use Rattle.lists.specs.declared.Spot.TheVariants.{Head, After}
use Rattle.lists.specs.Chain.{Chain, In}
use Rattle.lists.proofs.Chains.{fresh, chain_length}
use Rattle.sound.proofs.Listings.{in_tail}
use Rattle.links.specs.Links.{seek, searched}
use Rattle.removal.specs.Lists.{pos}
use Rattle.links.proofs.Seeks.{seek_found, seek-on}
use Rattle.removal.proofs.Members.{pos-below}

-- the spot that leads to e, in the list that begins at spot s
abbrev pub spot_of : ℕ → Spot → List ℕ → Spot
spot_of e s [] = s
spot_of e s (x ∷ xs) = cond (eqb x e) s (spot_of e (After x) xs)

-- it is the list's first spot, or stands after one of its rows
pub spot_has : (P : Spot → Type 0) (e : ℕ) (s : Spot) (xs : List ℕ) → P s → ((y : ℕ) → In y xs → P (After y)) → P (spot_of e s xs)
spot_has P e s [] p f = p
spot_has P e s (x ∷ xs) p f =
    elim (ℕ_discrete x e) [
      | yes q ↦ rw (eq-eqb x e q) p
      | no q ↦ rw (ne_eqb x e q) (spot_has P e (After x) xs (f x (inl refl)) (λ y i. f y (inr i)))
    ]

module _ (lk : Spot → ℕ) (m e : ℕ) where
  pub spot_leads : (s : Spot) (xs : List ℕ) → Chain lk m s xs → In e xs → lk (spot_of e s xs) ≡ e
  spot_leads s [] c i = absurd i
  spot_leads s (x ∷ xs) c i =
      elim (ℕ_discrete x e) [
        | yes q ↦ rw (eq-eqb x e q) (c.0 ∙ q)
        | no q ↦ rw (ne_eqb x e q) (spot_leads (After x) xs c.2 (in_tail e x xs i q))
      ]

  found : (left : ℕ) (s : Spot) (rows : ℕ) (xs : List ℕ) → Chain lk m s xs → In e xs → pos e xs ≤ left
      → seek lk m e left s rows ≡ Some (spot_of e s xs, rows + pos e xs)
  found left s rows [] c i l = absurd i
  found zero s rows (x ∷ xs) c i l =
      elim (ℕ_discrete x e) [
        | yes q ↦ rw (eq-eqb x e q, add-zero) (seek_found lk m e s rows c.0 zero q)
        | no q ↦ absurd (not-suc-le-zero (rw (ne_eqb x e q) at l))
      ]
  found (suc left) s rows (x ∷ xs) c i l =
      elim (ℕ_discrete x e) [
        | yes q ↦ rw (eq-eqb x e q, add-zero) (seek_found lk m e s rows c.0 (suc left) q)
        | no q ↦
            (let l' : suc (pos e xs) ≤ suc left = rw (ne_eqb x e q) at l in
            let r = found left (After x) (rows + 1) xs c.2 (in_tail e x xs i q) (omega arith) in
            let z : rows + 1 + pos e xs ≡ rows + suc (pos e xs) = omega arith in
            rw (ne_eqb x e q) (seek-on lk m e s rows c.0 left q c.1 ∙ rw z at r))
      ]

  module _ (small : m ≤ END) where
    -- the search for a member of its node's list
    pub found_at : (node : ℕ → ℕ) (n : ℕ) (xs : List ℕ) → node e < n → Chain lk m (Head (node e)) xs → In e xs
        → searched lk node n m e ≡ Some (spot_of e (Head (node e)) xs, pos e xs)
    unfolding searched
    found_at node n xs h c i =
        let s = Head (node e) in
        rw (lt-ltb (node e) n h)
        (rw zero-add at (found m s 0 xs c i (omega (arith, pos-below e xs i, chain_length lk m small s xs c))))

    -- a spot of the list that leads to e is that one
    module _ (lt : e < m) where
      pub first_leads : (s : Spot) (xs : List ℕ) → Chain lk m s xs → lk s ≡ e → In e xs × (s ≡ spot_of e s xs)
      first_leads s [] c q = absurd (omega arith)
      first_leads s (x ∷ xs) c q = (inl (cc), rw (eq-eqb x e (sym c.0 ∙ q)))

      further : (s t : Spot) (x : ℕ) (xs : List ℕ) → Chain lk m s (x ∷ xs) → In e xs × (t ≡ spot_of e (After x) xs) → In e (x ∷ xs) × (t ≡ spot_of e s (x ∷ xs))
      further s t x xs c r = (inr r.0, rw (ne_eqb x e (λ h. fresh lk m small x xs c.2 (rw h r.0))) r.1)

      pub row_leads : (s : Spot) (y : ℕ) (xs : List ℕ) → Chain lk m s xs → In y xs → lk (After y) ≡ e → In e xs × (After y ≡ spot_of e s xs)
      row_leads s y [] c i q = absurd i
      row_leads s y (x ∷ xs) c (inl h) q = further s (After y) x xs c (rw h (first_leads (After x) xs c.2 (rw h at q)))
      row_leads s y (x ∷ xs) c (inr i) q = further s (After y) x xs c (row_leads (After x) y xs c.2 i q)
