-- What the parts leave is what the definitions say, over plain columns.
use Prim.Native.Nat.{ℕ, zero, suc, ◌*◌, ◌≤◌}
use mathlib.Core.Path.{◌≡◌, refl, sym, ap, ◌∙◌}
use mathlib.Core.List.{List, ◌++◌, append_assoc}
use native.Mathlib.Omega.{arith}
use lib.IntN.{ℤ, pos}
use lib.ListN.{length, set, length-append}
use Rattle.index.specs.Index.{END}
use Rattle.tables.specs.Net.{Net, net, with_nodes, with_edges, with_counts, node_cells, edge_cells}
use Rattle.tables.specs.Rows.{node_row, edge_row, heads_with, links_with, ends_with, with_node, with_edge, filled, vacant_nodes, vacant_edges}
use Rattle.layout.specs.Numbers.{placed}
use Rattle.layout.specs.Layout.{head, head_bytes, image_length, node_bytes, edge_bytes}
use Rattle.layout.specs.Lengths.{node-length, edge-length}
use Rattle.layout.proofs.Placing.{placed-after, head-length}
use Rattle.imagerows.specs.Image.{rows_of, image_of, node_place, node_in, edge_in, each, loaded}
use Rattle.imagerows.proofs.Turns.{rows-length}

-- the three spans of an image, and its length
module _ (g : Net) where
  abbrev pub node_span : List ℕ
  node_span = rows_of (λ a. node_bytes (node_row g a)) g.n

  abbrev pub edge_span : List ℕ
  edge_span = rows_of (λ e. edge_bytes (edge_row g e)) g.m

  pub node_span_lem : length node_span ≡ 12 * g.n
  node_span_lem = rows-length (λ a. node_bytes (node_row g a)) 12 (λ a. node-length (node_row g a)) g.n

  pub edge_span_lem : length edge_span ≡ 20 * g.m
  edge_span_lem = rows-length (λ e. edge_bytes (edge_row g e)) 20 (λ e. edge-length (edge_row g e)) g.m

  pub image_length_lem : length (image_of g) ≡ image_length g.n g.m
  unfolding image_of
  image_length_lem =
      omega (
        arith,
        length-append (head g.n g.m) (node_span ++ edge_span),
        length-append node_span edge_span,
        head-length g.n g.m,
        node_span_lem,
        edge_span_lem,
      )

  -- head, then nodes, then edges
  pub image_placed : (l : List ℕ) {l₁ l₂ l₃ : List ℕ} → image_length g.n g.m ≤ length l
      → l₁ ≡ placed 0 (head g.n g.m) l → l₂ ≡ placed head_bytes node_span l₁ → l₃ ≡ placed (node_place g.n) edge_span l₂
      → l₃ ≡ placed 0 (image_of g) l
  unfolding image_of
  image_placed l h e₁ e₂ e₃ =
      let a = head g.n g.m in
      let k = head-length g.n g.m in
      let two = placed-after 0 head_bytes a node_span l (omega (arith, k)) (omega (arith, node_span_lem)) e₁ e₂ in
      let three = placed-after 0 (node_place g.n) (a ++ node_span) edge_span l (omega (arith, length-append a node_span, k, node_span_lem)) (omega (arith, edge_span_lem)) two e₃ in
      three ∙ ap (λ (x : List ℕ). placed 0 x l) (append_assoc a node_span edge_span)

-- the rows of an image, stored column by column
module _ (bytes : List ℕ) (n : ℕ) where
  pub nodes_stored : (g : Net) (a : ℕ) → each (λ h i. with_node h i (node_in bytes i)) a g
      ≡ with_nodes g (each (λ l i. set l i (node_in bytes i).weight) a g.weights) (each (λ l i. heads_with l i (node_in bytes i)) a g.heads)
  unfolding each with_node
  nodes_stored g zero = refl
  nodes_stored g (suc a) = ap (λ (h : Net). with_node h a (node_in bytes a)) (nodes_stored g a)

  pub edges-stored : (g : Net) (e : ℕ) → each (λ h i. with_edge h i (edge_in bytes n i)) e g
      ≡ with_edges g (each (λ l i. set l i (edge_in bytes n i).weight) e g.registers)
      (each (λ l i. links_with l i (edge_in bytes n i)) e g.links) (each (λ l i. ends_with l i (edge_in bytes n i)) e g.ends)
  unfolding each with_edge
  edges-stored g zero = refl
  edges-stored g (suc e) = ap (λ (h : Net). with_edge h e (edge_in bytes n e)) (edges-stored g e)

  -- and then vacant past them
  pub loaded-is : (g : Net) (m : ℕ) {weights weights' : List ℤ} {heads heads' registers registers' links links' ends ends' : List ℕ}
      → weights ≡ each (λ l i. set l i (node_in bytes i).weight) n g.weights → heads ≡ each (λ l i. heads_with l i (node_in bytes i)) n g.heads
      → registers ≡ each (λ l i. set l i (edge_in bytes n i).weight) m g.registers
      → links ≡ each (λ l i. links_with l i (edge_in bytes n i)) m g.links → ends ≡ each (λ l i. ends_with l i (edge_in bytes n i)) m g.ends
      → weights' ≡ filled weights n (length g.weights) (pos 0) → heads' ≡ filled heads (node_cells * n) (node_cells * length g.weights) END
      → registers' ≡ filled registers m (length g.registers) 0
      → links' ≡ filled links (edge_cells * m) (edge_cells * length g.registers) END → ends' ≡ filled ends (edge_cells * m) (edge_cells * length g.registers) END
      → net weights' heads' registers' links' ends' n m ≡ loaded g bytes n m
  unfolding loaded vacant_nodes vacant_edges
  loaded-is g m p₁ p₂ p₃ p₄ p₅ q₁ q₂ q₃ q₄ q₅ =
      rw (nodes_stored g n, edges-stored (with_nodes g _ _) m, q₁, q₂, q₃, q₄, q₅, p₁, p₂, p₃, p₄, p₅)

-- a load does not look at the counts that it finds
pub counts_free : (g : Net) (bytes : List ℕ) (n m k l : ℕ) → loaded (with_counts g k l) bytes n m ≡ loaded g bytes n m
counts_free g bytes n m k l =
    sym (loaded-is bytes n (with_counts g k l) m refl refl refl refl refl refl refl refl refl refl)
    ∙ loaded-is bytes n g m refl refl refl refl refl refl refl refl refl refl
