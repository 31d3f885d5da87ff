-- What the parts leave in the columns lent to them, and the rows that they ask for.
use Rattle.std.specs.Prelude.{ℕ, ◌*◌, ◌<◌, ◌≤◌, ◌≡◌, ℤ, pos, set}
use Rattle.index.specs.Index.{END}
use Rattle.tables.specs.declared.row.Node.{Node}
use Rattle.tables.specs.declared.row.Edge.{Edge}
use Rattle.tables.specs.Net.{Lent, node_cells, edge_cells, node_cell, edge_cell}
use Rattle.tables.specs.Rows.{heads_with, links_with, ends_with, new_edge, headed, filled}

-- what a part that writes one row leaves in the columns lent to it
pub record WritesNode (weights : Lent ℤ) (heads : Lent ℕ) (a : ℕ) (row : Node) : Type 0 where
  pub weights_are : weights.new ≡ set weights.old a row.weight
  pub heads_are : heads.new ≡ heads_with heads.old a row

pub record WritesEdge (registers links ends : Lent ℕ) (e : ℕ) (row : Edge) : Type 0 where
  pub registers_are : registers.new ≡ set registers.old e row.weight
  pub links_are : links.new ≡ links_with links.old e row
  pub ends_are : ends.new ≡ ends_with ends.old e row

-- the columns have a row of that number
pub record NodeRow (weights heads a : ℕ) : Type 0 where
  pub weights_hold : a < weights
  pub heads_hold : node_cell a 1 < heads

pub record EdgeRow (registers links ends e : ℕ) : Type 0 where
  pub registers_hold : e < registers
  pub links_hold : edge_cell e 1 < links
  pub ends_hold : edge_cell e 1 < ends

-- what a part that vacates rows leaves in the columns lent to it
pub record VacatesNodes (weights : Lent ℤ) (heads : Lent ℕ) (first last : ℕ) : Type 0 where
  pub weights_are : weights.new ≡ filled weights.old first last (pos 0)
  pub heads_are : heads.new ≡ filled heads.old (node_cells * first) (node_cells * last) END

pub record VacatesEdges (registers links ends : Lent ℕ) (first last : ℕ) : Type 0 where
  pub registers_are : registers.new ≡ filled registers.old first last 0
  pub links_are : links.new ≡ filled links.old (edge_cells * first) (edge_cells * last) END
  pub ends_are : ends.new ≡ filled ends.old (edge_cells * first) (edge_cells * last) END

-- the columns have these rows
pub record NodeSpan (weights heads first last : ℕ) : Type 0 where
  pub ordered : first ≤ last
  pub weights_hold : last ≤ weights
  pub heads_hold : node_cells * last ≤ heads

pub record EdgeSpan (registers links ends first last : ℕ) : Type 0 where
  pub ordered : first ≤ last
  pub registers_hold : last ≤ registers
  pub links_hold : edge_cells * last ≤ links
  pub ends_hold : edge_cells * last ≤ ends

-- what the part that links a new edge in leaves in the columns lent to it, and the rows that it needs
pub record LinksEdge (heads registers links ends : Lent ℕ) (e a b w : ℕ) : Type 0 where
  pub heads_are : heads.new ≡ headed heads.old a b e
  pub row_is : WritesEdge registers links ends e (new_edge heads.old a b w)

pub record Linkable (heads registers links ends e a b : ℕ) : Type 0 where
  pub source_row : node_cell a 1 < heads
  pub target_row : node_cell b 1 < heads
  pub edge_row_lem : EdgeRow registers links ends e
