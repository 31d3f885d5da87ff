-- The rows of a span made vacant are vacant rows, and the column keeps its length.
use Prim.Native.Nat.{ℕ, ◌+◌, ◌-◌, ◌*◌, ◌≤◌, ◌<◌}
use mathlib.Core.Path.{◌≡◌, ap, ◌∙◌}
use mathlib.Core.List.{List, ◌++◌}
use native.Mathlib.Omega.{arith}
use lib.IntN.{pos}
use lib.ListN.{length, get_or, take, drop, replicate, get_or-replicate, length-append, length-drop, length-replicate, get_or-append}
use lib.Seq.{length-take-le, get_or-append-add}
use Rattle.index.specs.Index.{END}
use Rattle.tables.specs.Net.{Net, node_cells, edge_cells, node_cell, edge_cell}
use Rattle.tables.specs.Rows.{node_row, edge_row, vacant_node, vacant_edge, filled, vacant_nodes, vacant_edges}
use Rattle.tables.specs.Parts.{NodeSpan, EdgeSpan}

-- a cell of the span holds x
pub filled_at : {A : Type 0} (l : List A) (first last : ℕ) (x : A) (i : ℕ) (d : A) → first ≤ i → i < last → last ≤ length l → get_or (filled l first last x) i d ≡ x
filled_at l first last x i d h g r =
    let t : length (take first l) ≡ first = length-take-le first l (omega arith) in
    let z : i ≡ length (take first l) + (i - first) = omega arith in
    let k : i - first < length (replicate (last - first) x) = rw (length-replicate (last - first) x) (omega arith) in
    ap (λ j. get_or (filled l first last x) j d) z
    ∙ get_or-append-add (take first l) (replicate (last - first) x ++ drop last l) (i - first) d
    ∙ get_or-append (replicate (last - first) x) (drop last l) d (i - first) k
    ∙ get_or-replicate (last - first) (i - first) x d (omega arith)

pub filled-length : {A : Type 0} (l : List A) (first last : ℕ) (x : A) → first ≤ last → last ≤ length l → length (filled l first last x) ≡ length l
filled-length l first last x h k =
    simp (length-append, length-replicate, length-drop, length-take-le first l (omega arith)) (omega arith)

module _ (g : Net) (first last : ℕ) where
  pub vacant_node_lem : NodeSpan (length g.weights) (length g.heads) first last → (a : ℕ) → first ≤ a → a < last → node_row (vacant_nodes g first last) a ≡ vacant_node
  unfolding vacant_nodes
  vacant_node_lem s a h l =
      rw (
        filled_at g.weights first last (pos 0) a (pos 0) h l s.weights_hold,
        filled_at g.heads (node_cells * first) (node_cells * last) END (node_cell a 0) 0 (omega arith) (omega arith) s.heads_hold,
        filled_at g.heads (node_cells * first) (node_cells * last) END (node_cell a 1) 0 (omega arith) (omega arith) s.heads_hold,
      )

  pub vacant_edge_lem : EdgeSpan (length g.registers) (length g.links) (length g.ends) first last → (e : ℕ) → first ≤ e → e < last
      → edge_row (vacant_edges g first last) e ≡ vacant_edge
  unfolding vacant_edges
  vacant_edge_lem s e h l =
      rw (
        filled_at g.registers first last 0 e 0 h l s.registers_hold,
        filled_at g.links (edge_cells * first) (edge_cells * last) END (edge_cell e 0) 0 (omega arith) (omega arith) s.links_hold,
        filled_at g.links (edge_cells * first) (edge_cells * last) END (edge_cell e 1) 0 (omega arith) (omega arith) s.links_hold,
        filled_at g.ends (edge_cells * first) (edge_cells * last) END (edge_cell e 0) 0 (omega arith) (omega arith) s.ends_hold,
        filled_at g.ends (edge_cells * first) (edge_cells * last) END (edge_cell e 1) 0 (omega arith) (omega arith) s.ends_hold,
      )
