-- Ours beside the Rust, call by call, in the order of graph.rs. `rows_of g` is the Rust's graph with the rows of g: what the Rust makes of it
-- is what ours tells, and the rows that it leaves are those of the network that ours leaves. A number stands with each refusal.
use Prim.{tt}
use Rattle.std.specs.Prelude.{ℕ, ◌≤◌, ◌<◌, ◌≡◌, cond, List, map, ltb, ℤ, pos, length}
use Rattle.index.specs.declared.EdgeDirection.{EdgeDirection}
use Rattle.index.specs.declared.Refusal.TheVariants.{Full, NoNode, NoEdge, Nothing, Short}
use Rattle.tables.specs.Net.{Net}
use Rattle.tables.specs.Answers.{out, done, refused, onto, give}
use Rattle.lookups.specs.Lookups.{node_weight, edge_weight, edge_endpoints, first_edge, next_edge, set_node_weight, set_edge_weight}
use Rattle.rows.specs.Calls.{add_node, add_edge, all_edge_weights, clear, clear_edges}
use Rattle.lists.specs.declared.Item.TheVariants.{Number}
use Rattle.legs.specs.Legs.{Tables3, give_three}
use Rattle.walks.specs.Walks.{neighbors, edge_weights, edges_between, edges_mut, edges}
use Rattle.find.specs.Find.{find_edge, contains_edge, update_edge}
use Rattle.walker.specs.declared.Walker.{Walker}
use Rattle.walker.specs.Steps.{begin, step}
use Rattle.removal.specs.Removal.{weight_told, remove_edge}
use Rattle.closing.specs.Closing.{remove_node}
use Rattle.original.specs.Std.{endless, on_option}
use Rattle.original.specs.Rust as Rust
use Rattle.original.specs.Iterators as Iterators
use Rattle.alike.specs.Same.{rows_of, option_told, run_told, valueless, seen, Ends, referred, walker_at, iterator_at, step_told}

pub record AsRust (g : Net) : Type 0 where
  pub node-count : Rust.node_count (rows_of g) ≡ g.n
  pub edge_count : Rust.edge_count (rows_of g) ≡ g.m
  -- unless it is refused 2: the Rust's vectors grow, the tables lent do not
  pub add_node_lem : (w : ℤ) → ((add_node g w).answer.number ≡ 2 → ⊥) → seen (add_node g w) ≡ run_told Full 0 (rows_of g) (Rust.add_node (rows_of g) w)
  -- None: 3
  pub node-weight : (a : ℕ) → node_weight g a ≡ option_told NoNode (pos 0) (Rust.node_weight (rows_of g) a)
  -- a panic: 3
  pub add_edge_lem : (a b w : ℕ) → ((add_edge g a b w).answer.number ≡ 2 → ⊥)
      → seen (add_edge g a b w) ≡ run_told NoNode 0 (rows_of g) (Rust.add_edge (rows_of g) a b w)
  pub update_edge_lem : (a b w : ℕ) → ((update_edge g a b w).answer.number ≡ 2 → ⊥)
      → seen (update_edge g a b w) ≡ run_told NoNode 0 (rows_of g) (Rust.update_edge (rows_of g) a b w)
  -- its search ends
  pub update_ends : (a b w : ℕ) → Rust.update_edge (rows_of g) a b w ≡ endless → ⊥
  -- None: 4
  pub edge-weight : (e : ℕ) → edge_weight g e ≡ option_told NoEdge 0 (Rust.edge_weight (rows_of g) e)
  pub edge_weight_mut : (e w : ℕ)
      → seen (set_edge_weight g e w) ≡ on_option (Rust.edge_weight_mut (rows_of g) e w) (out (refused NoEdge tt) (rows_of g)) (λ rows. out (done tt) rows)
  pub edge_endpoints_lem : (e : ℕ) → edge_endpoints g e ≡ option_told NoEdge (0, 0) (Rust.edge_endpoints (rows_of g) e)
  -- None: 3. The weights given to the closure stand in the table lent; 7 where it has no room for them
  pub remove-node : (a : ℕ) (items : List ℕ) → Ends (Rust.remove_node_with (rows_of g) a) (λ (w, given, rows).
      (length given ≤ length items
      → (weight_told (remove_node g a items).answer ≡ option_told NoNode (pos 0) w)
      × (rows_of (remove_node g a items).after.0 ≡ rows)
      × ((remove_node g a items).after.1 ≡ onto given items))
      × (length items < length given → remove_node g a items ≡ out (refused Short (pos 0, 0, 0)) (g, items)))
  -- None: 4
  pub remove-edge : (e : ℕ) → Ends (Rust.remove_edge (rows_of g) e) (λ (w, rows).
      (weight_told (remove_edge g e).answer ≡ option_told NoEdge 0 w) × (rows_of (remove_edge g e).after ≡ rows))
  -- all items of the iterator, into a table: 7 where it is too short
  pub neighbors-given : (a : ℕ) (table : List ℕ) → Ends (Iterators.neighbors (rows_of g) a) (λ items. neighbors g a table ≡ give items table)
  pub edges-given : (a : ℕ) (t : Tables3) → Ends (Iterators.edges (rows_of g) a) (λ found. edges g a t ≡ give_three (λ item. map (referred item) found) t)
  -- the rows whose weights are lent
  pub edges_mut_lem : (a : ℕ) (table : List ℕ) → Ends (Iterators.edges_mut (rows_of g) a) (λ rows. edges_mut g a table ≡ give rows table)
  pub edges_between_lem : (a b : ℕ) (table : List ℕ)
      → Ends (Iterators.edges_between (rows_of g) a b) (λ found. edges_between g a b table ≡ give (map (referred Number) found) table)
  -- yes is 1, no is 0
  pub contains_edge_lem : (a b : ℕ) → Ends (Rust.contains_edge (rows_of g) a b) (λ holds. contains_edge g a b ≡ done (cond holds 1 0))
  -- None: 3 where a is missing, else 5
  pub find-edge : (a b : ℕ) → Ends (Rust.find_edge (rows_of g) a b) (λ o. find_edge g a b ≡ option_told (cond (ltb a g.n) Nothing NoNode) 0 o)
  pub edge-weights : (a : ℕ) (table : List ℕ) → Ends (Iterators.edge_weights (rows_of g) a) (λ items. edge_weights g a table ≡ give items table)
  pub edge_weights_mut : (a : ℕ) (table : List ℕ) → Ends (Iterators.edge_weights_mut (rows_of g) a) (λ rows. edges_mut g a table ≡ give rows table)
  pub all_edge_weights_lem : (table : List ℕ) → all_edge_weights g table ≡ give (Iterators.all_edge_weights (rows_of g)) table
  -- None: 3 or 4 where the row is missing, else 5
  pub first_edge_lem : (a : ℕ) (d : EdgeDirection) → first_edge g a d ≡ option_told (cond (ltb a g.n) Nothing NoNode) 0 (Rust.first_edge (rows_of g) a d)
  pub next_edge_lem : (e : ℕ) (d : EdgeDirection) → next_edge g e d ≡ option_told (cond (ltb e g.m) Nothing NoEdge) 0 (Rust.next_edge (rows_of g) e d)
  pub clear-all : seen (clear g) ≡ out (done tt) (Rust.clear (rows_of g))
  pub clear-edges : seen (clear_edges g) ≡ out (done tt) (Rust.clear_edges (rows_of g))
  -- `graph[a] = w` and `graph[e] = w`; a panic: 3, 4
  pub index_mut_node : (a : ℕ) (w : ℤ) → seen (set_node_weight g a w) ≡ run_told NoNode tt (rows_of g) (valueless (Rust.index_mut_node (rows_of g) a w))
  pub index_mut_edge : (e w : ℕ) → seen (set_edge_weight g e w) ≡ run_told NoEdge tt (rows_of g) (valueless (Rust.index_mut_edge (rows_of g) e w))
  -- the walker begins where the iterator of `neighbors` begins, and a step is a `next`. None: 5
  pub walker_begins : (a : ℕ) → begin g a ≡ done (walker_at (Iterators.around_of (rows_of g) a))
  pub walker_steps : (w : Walker) → step g w ≡ step_told w (Iterators.next_around Iterators.neighbor_items (iterator_at g w))
