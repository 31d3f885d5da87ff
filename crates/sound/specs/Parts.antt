-- What the parts ask of their callers.
use Rattle.std.specs.Prelude.{ℕ, ◌*◌, ◌<◌, ◌≤◌}
use Rattle.tables.specs.Net.{node_cells, node_cell}
use Rattle.lists.specs.Parts.{Edges}

-- the columns hold n nodes and m edges, and k is a direction
pub record Held (heads links ends n m k : ℕ) : Type 0 where
  pub heads_hold : node_cells * n ≤ heads
  pub edges : Edges links ends m k

-- the columns hold node a and m edges, k is a direction, and no more than m rows are read
pub record Begins (heads links ends m k a read : ℕ) : Type 0 where
  pub heads_hold : node_cell a 1 < heads
  pub edges : Edges links ends m k
  pub most : read ≤ m
