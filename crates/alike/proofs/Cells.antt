-- One cell of a network written is one field of a row written: a head, `head-led`; a link, `link_led`; an end, `end_led`.
use Prim.Native.Nat.{ℕ, ◌+◌, ◌*◌, ◌-◌, ◌≤◌, ◌<◌}
use mathlib.Core.Path.{◌≡◌, refl, ap}
use mathlib.Core.Bool.{true, not}
use mathlib.Core.List.{List}
use mathlib.Core.Option.{none, some}
use native.Mathlib.Decide.{ℕ_discrete}
use native.Mathlib.Omega.{arith}
use borrow.Author.Tests.{eq-eqb, ne_eqb}
use lib.Dec.{eqb}
use lib.IntN.{ℤ}
use lib.ListN.{length, get_or, set}
use lib.Seq.{get_or-set_same, get_or-set_other}
use Rattle.index.specs.Index.{END}
use Rattle.tables.specs.Net.{Net, with_nodes, with_edges, node_cells, edge_cells, node_cell, edge_cell}
use Rattle.lists.specs.declared.Spot.TheVariants.{Head, After}
use Rattle.lists.specs.Walk.{cell, link_at}
use Rattle.sound.specs.Sound.{end_at}
use Rattle.sound.proofs.Exactly.{two}
use Rattle.removal.specs.Lists.{renamed}
use Rattle.removal.proofs.Stores.{row_other, row_copied}
use Rattle.original.specs.Std.{get, Two, ◌!◌, put}
use Rattle.original.specs.Std as Std
use Rattle.original.specs.Rust.{Node, Edge, node_with_next, edge_with_next, edge_with_node}
use Rattle.alike.specs.Same.{node_at, edge_at, rows_below, rows_of}
use Rattle.alike.proofs.Vectors.{length-rows, got, got_past, set_is}

-- lengths within the limits are numbers of 32 bits, and none is `END`
pub as_u32 : (n : ℕ) → n < END → Std.as_u32 n ≡ n
as_u32 n h = omega arith

pub not_end : (n : ℕ) → n < END → not (eqb (Std.as_u32 n) END) ≡ true
not_end n h = rw (as_u32 n h, ne_eqb n END (omega arith))

-- the Rust's rows of a network, got by number
module _ (g : Net) where
  pub node-count : length (rows_of g).nodes ≡ g.n
  unfolding rows_of
  node-count = length-rows g.n (node_at g)

  pub edge_count : length (rows_of g).edges ≡ g.m
  unfolding rows_of
  edge_count = length-rows g.m (edge_at g)

  pub node-got : (a : ℕ) → a < g.n → get (rows_of g).nodes a ≡ some (node_at g a)
  unfolding rows_of
  node-got a l = got g.n (node_at g) a l

  pub edge-got : (e : ℕ) → e < g.m → get (rows_of g).edges e ≡ some (edge_at g e)
  unfolding rows_of
  edge-got e l = got g.m (edge_at g) e l

  pub edge_got_past : (e : ℕ) → g.m ≤ e → get (rows_of g).edges e ≡ none
  unfolding rows_of
  edge_got_past e l = got_past g.m (edge_at g) e l

-- rows by their fields
pub node-is : {w w' : ℤ} {x x' y y' : ℕ} → w ≡ w' → x ≡ x' → y ≡ y'
    → ◌≡◌ {A = Node} (record { weight = w; next = (x, y) }) (record { weight = w'; next = (x', y') })
node-is p q r = rw (p, q, r)

pub edge-is : {w w' x x' y y' s s' t t' : ℕ} → w ≡ w' → x ≡ x' → y ≡ y' → s ≡ s' → t ≡ t'
    → ◌≡◌ {A = Edge} (record { weight = w; next = (x, y); node = (s, t) }) (record { weight = w'; next = (x', y'); node = (s', t') })
edge-is p q r u v = rw (p, q, r, u, v)

-- the field of a row that belongs to a direction is the cell of that direction
module _ (g : Net) where
  pub head_at : (a k : ℕ) → k < 2 → (node_at g a).next ! k ≡ link_at g k (Head a)
  head_at a = two (λ k. (node_at g a).next ! k ≡ link_at g k (Head a)) refl refl

  pub next_at : (e k : ℕ) → k < 2 → (edge_at g e).next ! k ≡ link_at g k (After e)
  next_at e = two (λ k. (edge_at g e).next ! k ≡ link_at g k (After e)) refl refl

  pub end_at_lem : (e k : ℕ) → k < 2 → (edge_at g e).node ! k ≡ end_at g k e
  end_at_lem e = two (λ k. (edge_at g e).node ! k ≡ end_at g k e) refl refl

  pub far_at : (e k : ℕ) → k < 2 → (edge_at g e).node ! (1 - k) ≡ end_at g (1 - k) e
  far_at e = two (λ k. (edge_at g e).node ! (1 - k) ≡ end_at g (1 - k) e) refl refl

-- the first two cells of a row, which begins at cell p of its column, with cell k of them written; and those of a row that begins at r
abbrev pair_at : List ℕ → ℕ → Two
pair_at column p = (get_or column (p + 0) 0, get_or column (p + 1) 0)

pair_set : (column : List ℕ) (p v : ℕ) → p + 1 < length column → (k : ℕ) → k < 2 → pair_at (set column (p + k) v) p ≡ put (pair_at column p) k v
pair_set column p v h =
    two (λ k. pair_at (set column (p + k) v) p ≡ put (pair_at column p) k v)
    (rw (get_or-set_same column (p + 0) v 0 (omega arith), get_or-set_other column (p + 0) (p + 1) v 0 (omega arith)))
    (rw (get_or-set_same column (p + 1) v 0 h, get_or-set_other column (p + 1) (p + 0) v 0 (omega arith)))

pair_off : (column : List ℕ) (p r k v : ℕ) → (r + 0 ≡ p + k → ⊥) → (r + 1 ≡ p + k → ⊥) → pair_at (set column (p + k) v) r ≡ pair_at column r
pair_off column p r k v f s = rw (get_or-set_other column (p + k) (r + 0) v 0 f, get_or-set_other column (p + k) (r + 1) v 0 s)

module _ (g : Net) (k v : ℕ) (hk : k < 2) where
  pub head-led : (a : ℕ) → a < g.n → node_cells * g.n ≤ length g.heads
      → set (rows_below g.n (node_at g)) a (node_with_next (node_at g a) (put (node_at g a).next k v))
      ≡ rows_below g.n (node_at (with_nodes g g.weights (set g.heads (node_cell a k) v)))
  head-led a l h =
      set_is g.n (node_at g) (node_at (with_nodes g g.weights (set g.heads (node_cell a k) v))) a _ l
      (ap (node_with_next (node_at g a)) (pair_set g.heads (node_cells * a) v (omega arith) k hk))
      (λ b m d. ap (node_with_next (node_at g b)) (pair_off g.heads (node_cells * a) (node_cells * b) k v (λ q. d (omega arith)) (λ q. d (omega arith))))

  pub link_led : (e : ℕ) → e < g.m → edge_cells * g.m ≤ length g.links
      → set (rows_below g.m (edge_at g)) e (edge_with_next (edge_at g e) (put (edge_at g e).next k v))
      ≡ rows_below g.m (edge_at (with_edges g g.registers (set g.links (edge_cell e k) v) g.ends))
  link_led e l h =
      set_is g.m (edge_at g) (edge_at (with_edges g g.registers (set g.links (edge_cell e k) v) g.ends)) e _ l
      (ap (edge_with_next (edge_at g e)) (pair_set g.links (edge_cells * e) v (omega arith) k hk))
      (λ x m d. ap (edge_with_next (edge_at g x)) (pair_off g.links (edge_cells * e) (edge_cells * x) k v (λ q. d (omega arith)) (λ q. d (omega arith))))

  pub end_led : (e : ℕ) → e < g.m → edge_cells * g.m ≤ length g.ends
      → set (rows_below g.m (edge_at g)) e (edge_with_node (edge_at g e) (put (edge_at g e).node k v))
      ≡ rows_below g.m (edge_at (with_edges g g.registers g.links (set g.ends (edge_cell e k) v)))
  end_led e l h =
      set_is g.m (edge_at g) (edge_at (with_edges g g.registers g.links (set g.ends (edge_cell e k) v))) e _ l
      (ap (edge_with_node (edge_at g e)) (pair_set g.ends (edge_cells * e) v (omega arith) k hk))
      (λ x m d. ap (edge_with_node (edge_at g x)) (pair_off g.ends (edge_cells * e) (edge_cells * x) k v (λ q. d (omega arith)) (λ q. d (omega arith))))

-- a column with the two cells of row l copied over those of row e
pub copied : (column : List ℕ) (e l x k : ℕ) → edge_cell e 1 < length column → k < 2
    → cell (set (set column (edge_cell e 0) (cell column 0 l)) (edge_cell e 1) (cell column 1 l)) k x ≡ cell column k (renamed e l x)
copied column e l x k room hk =
    elim (ℕ_discrete x e) [
      | yes q ↦ rw (q, eq-eqb e e refl) (row_copied column e l room k hk)
      | no q ↦ rw (ne_eqb x e q) (row_other column e (cell column 0 l) (cell column 1 l) k x hk q)
    ]
