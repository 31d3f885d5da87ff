-- Every recorded case comes out as graph.rs was recorded to do.
use mathlib.Core.Path.{◌≡◌, refl}
use mathlib.Core.List.{map}
use Rattle.original.specs.Rust.{add_node, node_weight, add_edge, edge_weight, edge_weight_mut, edge_endpoints, lead_past, change_links_of}
use Rattle.original.specs.Rust.{change_edge_links, remove_edge_adjust_indices, remove_edge, remove_edges_of, renumber, remove_node_with, find_along}
use Rattle.original.specs.Rust.{find_edge_from_node, find_edge, contains_edge, update_edge, first_edge, next_edge, clear, clear_edges}
use Rattle.original.specs.Rust.{index_mut_node, index_mut_edge}
use Rattle.original.specs.Iterators.{collect, next_incoming, next_around, neighbors, edges, edge_weights, next_between, edges_between, next_mut, edges_mut, all_edge_weights}
use Rattle.original.specs.Recorded.{Case, perform, made, computed, recorded}

pub sample_holds : map computed recorded ≡ map (λ (c : Case). c.outcome) recorded
unfolding perform made add_node node_weight add_edge edge_weight edge_weight_mut edge_endpoints lead_past change_links_of change_edge_links
    remove_edge_adjust_indices remove_edge remove_edges_of renumber remove_node_with find_along find_edge_from_node find_edge contains_edge
    update_edge first_edge next_edge clear clear_edges index_mut_node index_mut_edge collect next_incoming next_around neighbors edges
    edge_weights next_between edges_between next_mut edges_mut all_edge_weights
sample_holds = refl
