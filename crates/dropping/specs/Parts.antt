-- What the parts ask of their callers, and what they leave.
use Rattle.std.specs.Prelude.{ℕ, ◌+◌, ◌*◌, ◌-◌, ◌≤◌, ◌<◌, ◌≡◌, List, [], ℤ, pos, length, get_or, set}
use Rattle.tables.specs.Net.{Lent, net, node_rows, edge_rows, node_cells, edge_cells, node_cell}
use Rattle.tables.specs.Parts.{NodeRow}
use Rattle.tables.specs.Rows.{vacant_node, node_row, heads_with}
use Rattle.lists.specs.Walk.{rows_from}
use Rattle.removal.specs.Parts.{Count}
use Rattle.dropping.specs.Drop.{ended}

-- the rows of a list get node a as their end of direction k, and are counted
pub record Renumbers (links : List ℕ) (ends : Lent ℕ) (m k link a rows : ℕ) : Type 0 where
  pub rows_are : rows ≡ length (rows_from links m k link)
  pub few : rows ≤ m
  pub ends_are : ends.new ≡ ended k a (rows_from links m k link) ends.old

-- the columns hold the nodes a and b
pub record NodePair (weights heads a b : ℕ) : Type 0 where
  pub here : NodeRow weights heads a
  pub last : NodeRow weights heads b

-- row b is copied over row a, and becomes vacant
pub record MovesNode (weights : Lent ℤ) (heads : Lent ℕ) (a b : ℕ) : Type 0 where
  pub weights_are : weights.new ≡ set (set weights.old a (get_or weights.old b (pos 0))) b (pos 0)
  pub heads_are : heads.new ≡ heads_with (heads_with heads.old a (node_row (net [] heads.old [] [] [] 0 0) b)) b vacant_node

-- the columns hold n nodes, of which a is one, and m edges
pub record Droppable (weights heads links ends n m a : ℕ) : Type 0 where
  pub weights_hold : n ≤ weights
  pub heads_hold : node_cells * n ≤ heads
  pub links_hold : edge_cells * m ≤ links
  pub ends_hold : edge_cells * m ≤ ends
  pub edges_most : m ≤ edge_rows
  pub nodes_most : n ≤ node_rows
  pub node : a < n

-- the last node has the number a, and so have the ends of its edges; their rows are counted
pub record Drops (weights : Lent ℤ) (heads : Lent ℕ) (links : List ℕ) (ends : Lent ℕ) (n : Count) (m a rows : ℕ) : Type 0 where
  pub nodes : n.new ≡ n.old - 1
  pub moved : MovesNode weights heads a (n.old - 1)
  pub rows_are : rows ≡ length (rows_from links m 0 (get_or heads.old (node_cell (n.old - 1) 0) 0)) + length (rows_from links m 1 (get_or heads.old (node_cell (n.old - 1) 1) 0))
  pub few : rows ≤ m + m
  pub ends_are : ends.new
      ≡ ended 1 a (rows_from links m 1 (get_or heads.old (node_cell (n.old - 1) 1) 0))
      (ended 0 a (rows_from links m 0 (get_or heads.old (node_cell (n.old - 1) 0) 0)) ends.old)
