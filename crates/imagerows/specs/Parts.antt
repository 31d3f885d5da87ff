-- What the parts ask of their callers.
use Rattle.std.specs.Prelude.{ℕ, ◌*◌, ◌≤◌, ◌≡◌, length}
use Rattle.std.proofs.Math.ListN.{length-set}
use Rattle.tables.specs.declared.row.Node.{Node}
use Rattle.tables.specs.declared.row.Edge.{Edge}
use Rattle.tables.specs.Net.{Net, node_cells, edge_cells}
use Rattle.tables.specs.Parts.{NodeRow, EdgeRow}
use Rattle.tables.specs.Rows.{with_node, with_edge}
use Rattle.imagerows.specs.Image.{node_place, edge_place}

-- the columns have a row of that number
abbrev pub HasNode : Net → ℕ → Type 0
HasNode g a = NodeRow (length g.weights) (length g.heads) a

abbrev pub HasEdge : Net → ℕ → Type 0
HasEdge g e = EdgeRow (length g.registers) (length g.links) (length g.ends) e

-- also once one is written
pub node_has_still : (g : Net) (a k : ℕ) (row : Node) → HasNode g k → HasNode (with_node g a row) k
unfolding with_node
node_has_still g a k row h =
    record { weights_hold = simp length-set h.weights_hold; heads_hold = simp length-set h.heads_hold }

pub edge_has_still : (g : Net) (e k : ℕ) (row : Edge) → HasEdge g k → HasEdge (with_edge g e row) k
unfolding with_edge
edge_has_still g e k row h =
    record {
      registers_hold = simp length-set h.registers_hold;
      links_hold = simp length-set h.links_hold;
      ends_hold = simp length-set h.ends_hold;
    }

-- the columns hold n nodes, and the bytes their rows
pub record NodesHeld (weights heads bytes n : ℕ) : Type 0 where
  pub weights_hold : n ≤ weights
  pub heads_hold : node_cells * n ≤ heads
  pub bytes_hold : node_place n ≤ bytes

-- the columns hold m edges, and the bytes their rows, behind n nodes
pub record EdgesHeld (registers links ends bytes n m : ℕ) : Type 0 where
  pub registers_hold : m ≤ registers
  pub links_hold : edge_cells * m ≤ links
  pub ends_hold : edge_cells * m ≤ ends
  pub bytes_hold : edge_place n m ≤ bytes

-- the columns agree in rows
pub record RowsAgree (weights heads registers links ends : ℕ) : Type 0 where
  pub heads_agree : heads ≡ node_cells * weights
  pub links_agree : links ≡ edge_cells * registers
  pub ends_agree : ends ≡ edge_cells * registers

-- and hold n nodes and m edges, and the bytes an image of these
pub record ImageHeld (weights heads registers links ends bytes n m : ℕ) : Type 0 where
  pub agree : RowsAgree weights heads registers links ends
  pub nodes : NodesHeld weights heads bytes n
  pub edges : EdgesHeld registers links ends bytes n m
