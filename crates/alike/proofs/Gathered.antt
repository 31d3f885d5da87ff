-- Every call on every sound network that fits: what the Rust makes of its rows is what ours tells and leaves.
use Prim.Native.Nat.{ℕ}
use mathlib.Core.Path.{◌≡◌}
use mathlib.Core.Bool.{true}
use mathlib.Core.List.{List}
use Rattle.tables.specs.Net.{Net, fits}
use Rattle.sound.specs.Sound.{Sound}
use Rattle.alike.specs.Calls.{AsRust}
use Rattle.alike.proofs.Cells.{node-count, edge_count}
use Rattle.alike.proofs.Single.{add_node_lem, node-weight, edge-weight, edge_weight_mut, edge_endpoints_lem, all_edge_weights_lem}
use Rattle.alike.proofs.Single.{first_edge_lem, next_edge_lem, clear-all, clear-edges, set-node_weight, set-edge_weight}
use Rattle.alike.proofs.Finding.{add_edge_so, update_edge_lem, update_ends, contains_edge_lem, find-edge}
use Rattle.alike.proofs.Walking.{neighbors-given, edges-given, edges_between_lem, edge-weights}
use Rattle.alike.proofs.Mutable.{edges_mut_lem}
use Rattle.alike.proofs.Stepping.{begins, steps}
use Rattle.alike.proofs.Taking.{remove-edge}
use Rattle.alike.proofs.Closing.{remove-node}

pub as_rust : (g : Net) (ls : ℕ → ℕ → List ℕ) → fits g ≡ true → Sound g ls → AsRust g
as_rust g ls f S =
    record {
      node-count = node-count g;
      edge_count = edge_count g;
      add_node_lem = add_node_lem g f;
      node-weight = node-weight g f;
      add_edge_lem = λ a b w. add_edge_so g a b w f;
      update_edge_lem = λ a b w. update_edge_lem g a b w f;
      update_ends = λ a b w. update_ends g a b w f ls S;
      edge-weight = edge-weight g f;
      edge_weight_mut = edge_weight_mut g f;
      edge_endpoints_lem = edge_endpoints_lem g f;
      remove-node = λ a. remove-node g ls a f S;
      remove-edge = λ e. remove-edge g ls e f S;
      neighbors-given = neighbors-given g ls f S;
      edges-given = edges-given g ls f S;
      edges_mut_lem = edges_mut_lem g ls f S;
      edges_between_lem = edges_between_lem g ls f S;
      contains_edge_lem = contains_edge_lem g ls f S;
      find-edge = find-edge g ls f S;
      edge-weights = edge-weights g ls f S;
      edge_weights_mut = edges_mut_lem g ls f S;
      all_edge_weights_lem = all_edge_weights_lem g f;
      first_edge_lem = first_edge_lem g f;
      next_edge_lem = next_edge_lem g f;
      clear-all = clear-all g f;
      clear-edges = clear-edges g f;
      index_mut_node = set-node_weight g f;
      index_mut_edge = set-edge_weight g f;
      walker_begins = λ a. begins g a f;
      walker_steps = λ w. steps g w f;
    }
