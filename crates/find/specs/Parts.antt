-- The search of both lists of a node.
use Rattle.std.specs.Prelude.{ℕ, ◌*◌, ◌<◌, ◌≤◌, Bool, cond, List, [], ◌∷◌, ltb, get_or, Option, Some, None, Result, Ok, Err}
use Rattle.tables.specs.Net.{node_cell, edge_cells}
use Rattle.lists.specs.declared.Pick.TheVariants.{To}
use Rattle.lists.specs.Walk.{taken_from, stop_from}
use Rattle.index.specs.declared.EdgeIndex.{EdgeIndex}
use Rattle.index.specs.declared.Refusal.{Refusal}
use Rattle.index.specs.declared.Refusal.TheVariants.{Broken}

-- what a search of both lists of a node comes to: a row and the direction of the list it was found in, none, or 6
abbrev pub Sought : Type 0
Sought = Result (Option (EdgeIndex × ℕ)) Refusal

-- the first match of a list in direction k; where there is none, 6 if the list is broken, else what comes next
abbrev pub first_in : ℕ → List ℕ → Bool → Sought → Sought
first_in k (e ∷ es) endless next = Ok (Some (record { 0 = e }, k))
first_in k [] endless next = cond endless (Err Broken) next

-- the list of node a in direction k, searched for a row whose far end is b
abbrev pub searched : List ℕ → List ℕ → List ℕ → (m a b k : ℕ) → Sought → Sought
searched heads links ends m a b k next =
    let link = get_or heads (node_cell a k) 0 in
    first_in k (taken_from links ends m k (To (record { 0 = b })) link) (ltb (stop_from links m k link) m) next

-- the outgoing list of a, then its incoming list; a match answers at once
unfoldable pub sought_from : List ℕ → List ℕ → List ℕ → (m a b : ℕ) → Sought
sought_from heads links ends m a b = searched heads links ends m a b 0 (searched heads links ends m a b 1 (Ok None))

-- the columns hold m edges and the node
pub record Searchable (heads links ends m a : ℕ) : Type 0 where
  pub node_row_lem : node_cell a 1 < heads
  pub links_hold : edge_cells * m ≤ links
  pub ends_hold : edge_cells * m ≤ ends
