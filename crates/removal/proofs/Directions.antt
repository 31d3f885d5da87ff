-- One direction: an edge is bypassed, `bypassing`, and then the last row takes its number, `moving`. What the links and the ends are
-- afterwards is asked for at each spot and row; what the lists are then is said.
use Prim.Native.Nat.{ℕ, ◌+◌, ◌≤◌, ◌<◌}
use mathlib.Core.Path.{◌≡◌, refl, ap, ◌∙◌}
use mathlib.Core.Logic.{inl, inr}
use mathlib.Core.List.{List, [], ◌∷◌, map, map-id}
use native.Mathlib.Decide.{ℕ_discrete}
use native.Mathlib.Omega.{arith}
use borrow.Author.Tests.{eq-eqb, ne_eqb}
use Rattle.index.specs.Index.{END}
use Rattle.lists.specs.declared.Spot.{Spot}
use Rattle.lists.specs.declared.Spot.TheVariants.{Head, After}
use Rattle.lists.specs.Chain.{Chain, In, without}
use Rattle.lists.proofs.Chains.{fresh, below, chain_apart, in_without, apart_gone}
use Rattle.sound.specs.Sound.{Lists}
use Rattle.sound.proofs.Listings.{without_in}
use Rattle.removal.specs.Lists.{renamed}
use Rattle.removal.proofs.Members.{in_map, of_map, there_back}
use Rattle.removal.proofs.Spots.{spot_of, spot_leads, first_leads, row_leads}

-- a chain under other links, with its rows renamed by f
pub carried : (f : ℕ → ℕ) → f END ≡ END → (lk lk' : Spot → ℕ) (m m' : ℕ) (s t : Spot) (xs : List ℕ) → lk' t ≡ f (lk s)
    → ((y : ℕ) → In y xs → lk' (After (f y)) ≡ f (lk (After y))) → ((y : ℕ) → In y xs → f y < m') → Chain lk m s xs → Chain lk' m' t (map f xs)
carried f z lk lk' m m' s t [] q g b c = q ∙ ap f c ∙ z
carried f z lk lk' m m' s t (x ∷ xs) q g b c = (
  q ∙ ap f c.0,
  b x (inl refl),
  carried f z lk lk' m m' (After x) (After (f x)) xs (g x (inl refl)) (λ y i. g y (inr i)) (λ y i. b y (inr i)) c.2,
)

-- a chain whose links to e lead to e's next
module _ (lk lk' : Spot → ℕ) (m : ℕ) (small : m ≤ END) (e : ℕ) (lt : e < m) where
  past : (s : Spot) (xs : List ℕ) → lk' s ≡ renamed e (lk (After e)) (lk s)
      → ((y : ℕ) → In y xs → lk' (After y) ≡ renamed e (lk (After e)) (lk (After y))) → Chain lk m s xs → Chain lk' m s (without e xs)
  past s [] q g c = rw (c, ne_eqb END e (omega arith)) at q
  past s (x ∷ xs) q g c =
      elim (ℕ_discrete x e) [
        | yes h ↦
            (let d : Chain lk m (After e) xs = rw h at c.2 in
            let other : (y : ℕ) → In y xs → lk (After y) ≡ e → ⊥ = λ y i r. fresh lk m small e xs d (row_leads lk m e small lt (After e) y xs d i r).0 in
            let same : (y : ℕ) → In y xs → lk' (After y) ≡ lk (After y) = λ y i. rw (ne_eqb (lk (After y)) e (other y i)) at (g y (inr i)) in
            rw (eq-eqb x e h)
            (rw (map-id xs) at (carried (λ y. y) refl lk lk' m m (After e) s xs (rw (c.0, eq-eqb x e h) at q) same (λ y. below lk m small (After e) y xs d) d)))
        | no h ↦ rw (ne_eqb x e h) (rw (c.0, ne_eqb x e h) at q, c.1, past (After x) xs (g x (inl refl)) (λ y i. g y (inr i)) c.2)
      ]

-- the spots of the lists: the heads of the nodes, and those after their members
abbrev pub Used : ℕ → (ℕ → List ℕ) → Spot → Type 0
Used n ls (Head a) = a < n
Used n ls (After y) = (a : ℕ) × (a < n) × In y (ls a)

-- as `Lists`, but for edge e, which is in none
pub record Lacking (n m : ℕ) (lk : Spot → ℕ) (node : ℕ → ℕ) (ls : ℕ → List ℕ) (e : ℕ) : Type 0 where
  pub chain : (a : ℕ) → a < n → Chain lk m (Head a) (ls a)
  pub own : (a : ℕ) → a < n → (x : ℕ) → In x (ls a) → node x ≡ a
  pub has_end : (x : ℕ) → x < m → node x < n
  pub listed : (x : ℕ) → x < m → (x ≡ e → ⊥) → In x (ls (node x))
  pub none : (a : ℕ) → a < n → In e (ls a) → ⊥

module _ (n m : ℕ) (small : m ≤ END) (lk : Spot → ℕ) (node : ℕ → ℕ) (ls : ℕ → List ℕ) where
  -- whole lists lack only row m, which is no edge
  pub whole : Lists n m lk node ls → Lacking n m lk node ls m
  whole L =
      record {
        chain = L.chain;
        own = L.own;
        has_end = L.has_end;
        listed = λ x l d. L.listed x l;
        none = λ a l i. omega (arith, below lk m small (Head a) m (ls a) (L.chain a l) i);
      }

  -- one spot leads to x: where it leads to v instead, and the others as before, each link to x is one to v
  module _ (e : ℕ) (B : Lacking n m lk node ls e) (x : ℕ) (lt : x < m) (d : x ≡ e → ⊥) where
    only : (t : Spot) → Used n ls t → lk t ≡ x → t ≡ spot_of x (Head (node x)) (ls (node x))
    only (Head a) u q =
        let r = first_leads lk m x small lt (Head a) (ls a) (B.chain a u) q in
        rw (B.own a u x r.0) r.1
    only (After y) (a, u, i) q =
        let r = row_leads lk m x small lt (Head a) y (ls a) (B.chain a u) i q in
        rw (B.own a u x r.0) r.1

    pub relinked : (lk' : Spot → ℕ) (v : ℕ) → lk' (spot_of x (Head (node x)) (ls (node x))) ≡ v
        → ((t : Spot) → (t ≡ spot_of x (Head (node x)) (ls (node x)) → ⊥) → lk' t ≡ lk t) → (t : Spot) → Used n ls t → lk' t ≡ renamed x v (lk t)
    relinked lk' v at off t u =
        let leads = spot_leads lk m x (Head (node x)) (ls (node x)) (B.chain (node x) (B.has_end x lt)) (B.listed x lt d) in
        elim (ℕ_discrete (lk t) x) [
          | yes q ↦ rw (eq-eqb (lk t) x q) (ap lk' (only t u q) ∙ at)
          | no q ↦ rw (ne_eqb (lk t) x q) (off t (λ h. q (ap lk h ∙ leads)))
        ]

-- e is bypassed: the links to it lead to its next
module _ (n m : ℕ) (small : m ≤ END) (lk lk' : Spot → ℕ) (node : ℕ → ℕ) (ls : ℕ → List ℕ) (L : Lists n m lk node ls) (e : ℕ) (lt : e < m)
    (links : (t : Spot) → Used n ls t → lk' t ≡ renamed e (lk (After e)) (lk t)) where
  pub bypassing : Lacking n m lk' node (λ a. without e (ls a)) e
  bypassing =
      record {
        chain = λ a l. past lk lk' m small e lt (Head a) (ls a) (links (Head a) l) (λ y i. links (After y) (a, l, i)) (L.chain a l);
        own = λ a l x i. L.own a l x (in_without x e (ls a) i);
        has_end = L.has_end;
        listed = λ x l d. without_in x e (ls (node x)) (L.listed x l) d;
        none = λ a l. apart_gone e (ls a) (chain_apart lk m small (Head a) (ls a) (L.chain a l));
      }

-- the last row l, which may be e itself, takes the number of e, which is in no list: first in the links to it, then by its row
module _ (n m l : ℕ) (last : m ≡ l + 1) (small : m ≤ END) (lk lk' lk'' : Spot → ℕ) (node node'' : ℕ → ℕ) (ls : ℕ → List ℕ) (e : ℕ) (lt : e < m)
    (B : Lacking n m lk node ls e)
    (links : (t : Spot) → Used n ls t → lk' t ≡ renamed l e (lk t))
    (heads : (a : ℕ) → lk'' (Head a) ≡ lk' (Head a))
    (rows : (x : ℕ) → x < l → lk'' (After x) ≡ lk' (After (renamed e l x)))
    (ends : (x : ℕ) → x < l → node'' x ≡ node (renamed e l x)) where
  -- a member is not e, and under its new number it is below l
  inside : (a : ℕ) → a < n → (y : ℕ) → In y (ls a) → renamed l e y < l
  inside a h y i =
      elim (ℕ_discrete y l) [
        | yes q ↦
            (let d : e ≡ l → ⊥ = λ r. B.none a h (rw (r, ← q) i) in
            rw (eq-eqb y l q) (omega arith))
        | no q ↦ rw (ne_eqb y l q) (omega (arith, below lk m small (Head a) y (ls a) (B.chain a h) i))
      ]

  back : (a : ℕ) → a < n → (y : ℕ) → In y (ls a) → renamed e l (renamed l e y) ≡ y
  back a h y i = there_back l e y (λ q. B.none a h (rw q at i))

  -- the old number of a row that is left
  origin : (x : ℕ) → x < l → (renamed e l x < m) × (renamed e l x ≡ e → ⊥)
  origin x h =
      elim (ℕ_discrete x e) [
        | yes q ↦ rw (eq-eqb x e q) (omega arith, λ r. omega arith)
        | no q ↦ rw (ne_eqb x e q) (omega arith, q)
      ]

  pub moving : Lists n l lk'' node'' (λ a. map (renamed l e) (ls a))
  moving =
      record {
        chain =
            λ a h.
            carried (renamed l e) (rw (ne_eqb END l (omega arith))) lk lk'' m l (Head a) (Head a) (ls a) (heads a ∙ links (Head a) h)
            (λ y i. rows (renamed l e y) (inside a h y i) ∙ ap (λ z. lk' (After z)) (back a h y i) ∙ links (After y) (a, h, i))
            (inside a h)
            (B.chain a h);
        own =
            λ a h y i.
            (let r = of_map (renamed l e) y (ls a) i in
            ap node'' r.2 ∙ ends (renamed l e r.0) (inside a h r.0 r.1) ∙ ap node (back a h r.0 r.1) ∙ B.own a h r.0 r.1);
        has_end = λ x h. rw (ends x h) (B.has_end (renamed e l x) (origin x h).0);
        listed =
            λ x h.
            (let y = renamed e l x in
            rw (ends x h) (rw (there_back e l x (omega arith)) at (in_map (renamed l e) y (ls (node y)) (B.listed y (origin x h).0 (origin x h).1))));
      }
