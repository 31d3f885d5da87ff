-- A link stored at one spot: it stands there, `lead_at`, the others stand as before, `lead_off`, and those of the other direction all do, `across`;
-- the columns keep their lengths, and a link that is stored again is back, `heads_back`, `links_back`. A row moved: `registers_moved`, `links_moved`, `ends_moved`.
use Prim.Native.Nat.{ℕ, ◌<◌}
use mathlib.Core.Path.{◌≡◌, refl, ap, ◌∙◌, fun_ext}
use mathlib.Core.List.{List, []}
use native.Mathlib.Omega.{arith}
use lib.ListN.{length, get_or, set, length-set}
use lib.Seq.{get_or-set_same, get_or-set_other, set-set, set-get_or}
use Rattle.tables.specs.declared.row.Edge.{Edge}
use Rattle.tables.specs.Net.{net, node_cell, edge_cell}
use Rattle.tables.specs.Rows.{edge_row, vacant_edge, links_with, ends_with}
use Rattle.lists.specs.declared.Spot.{Spot}
use Rattle.lists.specs.declared.Spot.TheVariants.{Head, After}
use Rattle.lists.specs.Walk.{link_in}
use Rattle.links.specs.Links.{heads_at, links_at}
use Rattle.links.specs.Parts.{Place}

-- a link stored at one spot of one direction
module _ (heads links : List ℕ) where
  pub lead_at : (k : ℕ) (s : Spot) (v : ℕ) → Place (length heads) (length links) k s → link_in (heads_at k s v heads) (links_at k s v links) k s ≡ v
  unfolding Place heads_at links_at
  lead_at k (Head a) v h = get_or-set_same heads (node_cell a k) v 0 h
  lead_at k (After p) v h = get_or-set_same links (edge_cell p k) v 0 h

  pub lead_off : (j k : ℕ) (s t : Spot) (v : ℕ) → j < 2 → k < 2 → (j ≡ k → t ≡ s → ⊥)
      → link_in (heads_at j s v heads) (links_at j s v links) k t ≡ link_in heads links k t
  unfolding heads_at links_at
  lead_off j k (Head a) (Head b) v p q d =
      get_or-set_other heads (node_cell a j) (node_cell b k) v 0 (λ h. let z : b ≡ a = omega arith in d (omega arith) (ap Head z))
  lead_off j k (Head a) (After y) v p q d = refl
  lead_off j k (After x) (Head b) v p q d = refl
  lead_off j k (After x) (After y) v p q d =
      get_or-set_other links (edge_cell x j) (edge_cell y k) v 0 (λ h. let z : y ≡ x = omega arith in d (omega arith) (ap After z))

pub heads_length : (heads : List ℕ) (k : ℕ) (s : Spot) (v : ℕ) → length (heads_at k s v heads) ≡ length heads
unfolding heads_at
heads_length heads k (Head a) v = length-set heads (node_cell a k) v
heads_length heads k (After p) v = refl

pub links_length : (links : List ℕ) (k : ℕ) (s : Spot) (v : ℕ) → length (links_at k s v links) ≡ length links
unfolding links_at
links_length links k (Head a) v = refl
links_length links k (After p) v = length-set links (edge_cell p k) v

-- the links of direction k after a store in direction j
pub across : (heads links : List ℕ) (j k : ℕ) (s : Spot) (v : ℕ) → j < 2 → k < 2 → (j ≡ k → ⊥)
    → link_in (heads_at j s v heads) (links_at j s v links) k ≡ link_in heads links k
across heads links j k s v p q d = fun_ext (λ t. lead_off heads links j k s t v p q (λ h. absurd (d h)))

-- what stood in a cell goes back there
pub back : (l : List ℕ) (i v e : ℕ) → get_or l i 0 ≡ e → set (set l i v) i e ≡ l
back l i v e h = rw (← h) (set-set l i v (get_or l i 0) ∙ set-get_or l i 0)

module _ (heads links : List ℕ) (k : ℕ) (v e : ℕ) where
  pub heads_back : (s : Spot) → link_in heads links k s ≡ e → heads_at k s e (heads_at k s v heads) ≡ heads
  unfolding heads_at
  heads_back (Head a) h = back heads (node_cell a k) v e h
  heads_back (After p) h = refl

  pub links_back : (s : Spot) → link_in heads links k s ≡ e → links_at k s e (links_at k s v links) ≡ links
  unfolding links_at
  links_back (Head a) h = refl
  links_back (After p) h = back links (edge_cell p k) v e h

-- row l is copied over row e and vacant, column by column; the code has read the numbers as i, j and k
module _ {e l i j k : ℕ} (at-e : i ≡ e) (at-l : j ≡ l) (from-l : k ≡ l) {z : Edge} (vacant : z ≡ vacant_edge) where
  pub registers_moved : (R : List ℕ) {R₁ R₂ : List ℕ} → R₁ ≡ set R i (get_or R k 0) → R₂ ≡ set R₁ j z.weight → R₂ ≡ set (set R e (get_or R l 0)) l 0
  registers_moved R p q = rw (q, p, at-e, at-l, from-l, vacant)

  pub links_moved : (L : List ℕ) {L₁ L₂ : List ℕ} → L₁ ≡ links_with L i (edge_row (net [] [] [] L [] 0 0) k) → L₂ ≡ links_with L₁ j z
      → L₂ ≡ links_with (links_with L e (edge_row (net [] [] [] L [] 0 0) l)) l vacant_edge
  links_moved L p q = rw (q, p, at-e, at-l, from-l, vacant)

  pub ends_moved : (E : List ℕ) {E₁ E₂ : List ℕ} → E₁ ≡ ends_with E i (edge_row (net [] [] [] [] E 0 0) k) → E₂ ≡ ends_with E₁ j z
      → E₂ ≡ ends_with (ends_with E e (edge_row (net [] [] [] [] E 0 0) l)) l vacant_edge
  ends_moved E p q = rw (q, p, at-e, at-l, from-l, vacant)
