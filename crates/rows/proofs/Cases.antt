-- Network A of the order, built by the definitions from an empty network, computes to its rows.
use mathlib.Core.Path.{◌≡◌, refl}
use lib.IntN.{pos, negsuc}
use Rattle.tables.specs.Net.{Net, fit}
use Rattle.tables.specs.Rows.{with_node, with_edge}
use Rattle.tables.proofs.NetworkA.{empty, network_a}
use Rattle.rows.specs.Calls.{add_node, add_edge, linked}

-- what a call leaves is what the next one finds
abbrev nodes : Net → Net
nodes g = (add_node (add_node (add_node g (pos 5)).after (negsuc 2)).after (pos 8)).after

abbrev edges : Net → Net
edges g = (add_edge (add_edge (add_edge (add_edge g 0 1 10).after 1 2 11).after 0 2 12).after 1 1 13).after

pub network_a_lem : edges (nodes (empty 3 4)) ≡ network_a
unfolding network_a add_node add_edge linked fit with_node with_edge
network_a_lem = refl

-- each of its adds is answered by the next number; one more of either kind is refused 2, before the missing node is looked at
pub last_added : (add_edge (add_edge (add_edge (add_edge (nodes (empty 3 4)) 0 1 10).after 1 2 11).after 0 2 12).after 1 1 13).answer ≡ record { number = 0; values = 3 }
unfolding add_node add_edge linked fit with_node with_edge
last_added = refl

pub no_row : add_edge network_a 0 9 14 ≡ record { answer = record { number = 2; values = 0 }; after = network_a }
unfolding network_a add_edge fit
no_row = refl

-- with a row free the missing node is refused 3
pub no_node : add_edge (nodes (empty 3 1)) 0 9 14 ≡ record { answer = record { number = 3; values = 0 }; after = nodes (empty 3 1) }
unfolding add_node add_edge fit with_node
no_node = refl
