-- The contract of each call settles it: a second answer that meets it is equal. Assumes nothing.
use Prim.{tt}
use mathlib.Core.Path.{◌≡◌, refl, ap}
use Rattle.tables.specs.Net.{net_of}
use Rattle.tables.specs.Answers.{out, told_node, told_edge, told_change, told_items}
use Rattle.walker.specs.Steps.{step}
use Rattle.removal.specs.Removal.{told_edge_removed}
use Rattle.closing.specs.Closing.{told_node_removed}
use Rattle.tables.proofs.Told.{node_told_once, edge_told_once, node_weight_told_once, edge_weight_told_once, ends_told_once, change_told_once, items_told_once}
use Rattle.find.proofs.Told.{contains_told_once}
use Rattle.walker.proofs.Told.{begun_told_once, step_told-once, summed_told_once}
use Rattle.removal.proofs.Told.{edge_removed_told_once}
use Rattle.closing.proofs.Told.{node_removed_told_once}
use Rattle.index.proofs as index
use Rattle.index.specs.contracts as index_contracts
use Rattle.lookups.proofs as lookups
use Rattle.lookups.specs.contracts as lookups_contracts
use Rattle.rows.proofs as rows
use Rattle.rows.specs.contracts as rows_contracts
use Rattle.walks.proofs as walks
use Rattle.walks.specs.contracts as walks_contracts
use Rattle.find.proofs as find
use Rattle.find.specs.contracts as find_contracts
use Rattle.walker.proofs as walker
use Rattle.walker.specs.contracts as walker_contracts
use Rattle.lent.proofs as lent
use Rattle.lent.specs.contracts as lent_contracts
use Rattle.sound.proofs as sound
use Rattle.sound.specs.contracts as sound_contracts
use Rattle.removal.proofs as removal
use Rattle.removal.specs.contracts as removal_contracts
use Rattle.closing.proofs as closing
use Rattle.closing.specs.contracts as closing_contracts
use Rattle.image.proofs as image
use Rattle.image.specs.contracts as image_contracts
use Rattle.demands.specs.Settles.{Ensures, SettlesAll, SettlesByHand}
use Rattle.demands.proofs.Alike.{alike, answers-alike, told-alike, all_columns, node_columns, edge_columns}

pub node-index : SettlesAll index_contracts.NodeIndex.index.ended index.NodeIndex.index.Reads.Pre index.NodeIndex.index.Reads.Post
node-index = (λ κs given. tt, λ κs given x y p q. answers-alike p q)

pub node-is_end : SettlesAll index_contracts.NodeIndex.is_end.ended index.NodeIndex.is_end.Reads.Pre index.NodeIndex.is_end.Reads.Post
node-is_end = (λ κs given. tt, λ κs given x y p q. answers-alike p q)

pub edge_index : SettlesAll index_contracts.EdgeIndex.index.ended index.EdgeIndex.index.Reads.Pre index.EdgeIndex.index.Reads.Post
edge_index = (λ κs given. tt, λ κs given x y p q. answers-alike p q)

pub edge-is_end : SettlesAll index_contracts.EdgeIndex.is_end.ended index.EdgeIndex.is_end.Reads.Pre index.EdgeIndex.is_end.Reads.Post
edge-is_end = (λ κs given. tt, λ κs given x y p q. answers-alike p q)

pub direction_number : SettlesAll index_contracts.EdgeDirection.number.ended index.EdgeDirection.number.Reads.Pre index.EdgeDirection.number.Reads.Post
direction_number = (λ κs given. tt, λ κs given x y p q. answers-alike p q)

pub direction_of_lem : SettlesAll index_contracts.EdgeDirectionFromUsize.from.ended index.EdgeDirectionFromUsize.from.Reads.Pre index.EdgeDirectionFromUsize.from.Reads.Post
direction_of_lem = (λ κs given. tt, λ κs given x y p q. answers-alike p q)

pub refusal-number : SettlesAll index_contracts.Refusal.number.ended index.Refusal.number.Reads.Pre index.Refusal.number.Reads.Post
refusal-number = (λ κs given. tt, λ κs given x y p q. answers-alike p q)

pub node-weight : SettlesAll lookups_contracts.node_weight.ended lookups.node_weight.Reads.Pre lookups.node_weight.Reads.Post
node-weight = (λ κs given. tt, λ κs given x y p q. ap (λ r. (r, _)) (node_weight_told_once _ _ (alike p q)))

pub edge-weight : SettlesAll lookups_contracts.edge_weight.ended lookups.edge_weight.Reads.Pre lookups.edge_weight.Reads.Post
edge-weight = (λ κs given. tt, λ κs given x y p q. ap (λ r. (r, _)) (edge_weight_told_once _ _ (alike p q)))

pub edge_endpoints_lem : SettlesAll lookups_contracts.edge_endpoints.ended lookups.edge_endpoints.Reads.Pre lookups.edge_endpoints.Reads.Post
edge_endpoints_lem = (λ κs given. tt, λ κs given x y p q. ap (λ r. (r, _)) (ends_told_once _ _ (alike p q)))

pub first_edge_lem : SettlesAll lookups_contracts.first_edge.ended lookups.first_edge.Reads.Pre lookups.first_edge.Reads.Post
first_edge_lem = (λ κs given. tt, λ κs given x y p q. ap (λ r. (r, _)) (edge_told_once _ _ (alike p q)))

pub next_edge_lem : SettlesAll lookups_contracts.next_edge.ended lookups.next_edge.Reads.Pre lookups.next_edge.Reads.Post
next_edge_lem = (λ κs given. tt, λ κs given x y p q. ap (λ r. (r, _)) (edge_told_once _ _ (alike p q)))

pub set-node_weight : SettlesAll lookups_contracts.set_node_weight.ended lookups.set_node_weight.Reads.Pre lookups.set_node_weight.Reads.Post
set-node_weight = (λ κs given. tt, λ κs given x y p q. ap (λ o. (o.0, (o.1.weights, _))) (told-alike told_change change_told_once p q))

pub set-edge_weight : SettlesAll lookups_contracts.set_edge_weight.ended lookups.set_edge_weight.Reads.Pre lookups.set_edge_weight.Reads.Post
set-edge_weight = (λ κs given. tt, λ κs given x y p q. ap (λ o. (o.0, (_, (_, (o.1.registers, _))))) (told-alike told_change change_told_once p q))

pub add_node_lem : SettlesAll rows_contracts.add_node.ended rows.add_node.Reads.Pre rows.add_node.Reads.Post
add_node_lem = (λ κs given. tt, λ κs given x y p q. ap (λ o. (o.0, node_columns o.1 _)) (told-alike told_node node_told_once p q))

pub add_edge_lem : SettlesAll rows_contracts.add_edge.ended rows.add_edge.Reads.Pre rows.add_edge.Reads.Post
add_edge_lem = (λ κs given. tt, λ κs given x y p q. ap (λ o. (o.0, edge_columns o.1 _)) (told-alike told_edge edge_told_once p q))

pub all_edge_weights_lem : SettlesAll rows_contracts.all_edge_weights.ended rows.all_edge_weights.Reads.Pre rows.all_edge_weights.Reads.Post
all_edge_weights_lem = (λ κs given. tt, λ κs given x y p q. ap (λ o. (o.0, (_, (o.1, _)))) (told-alike told_items items_told_once p q))

pub clear-edges : SettlesAll rows_contracts.clear_edges.ended rows.clear_edges.Reads.Pre rows.clear_edges.Reads.Post
clear-edges = (λ κs given. tt, λ κs given x y p q. ap (λ o. (o.0, edge_columns o.1 _)) (told-alike told_change change_told_once p q))

pub clear : SettlesAll rows_contracts.clear.ended rows.clear.Reads.Pre rows.clear.Reads.Post
clear = (λ κs given. tt, λ κs given x y p q. ap (λ o. (o.0, all_columns o.1 _)) (told-alike told_change change_told_once p q))

pub neighbors : SettlesAll walks_contracts.neighbors.ended walks.neighbors.Reads.Pre walks.neighbors.Reads.Post
neighbors = (λ κs given. tt, λ κs given x y p q. ap (λ o. (o.0, (_, (_, (o.1, _))))) (told-alike told_items items_told_once p q))

pub edge-weights : SettlesAll walks_contracts.edge_weights.ended walks.edge_weights.Reads.Pre walks.edge_weights.Reads.Post
edge-weights = (λ κs given. tt, λ κs given x y p q. ap (λ o. (o.0, (_, (_, (o.1, _))))) (told-alike told_items items_told_once p q))

pub edges_between_lem : SettlesAll walks_contracts.edges_between.ended walks.edges_between.Reads.Pre walks.edges_between.Reads.Post
edges_between_lem = (λ κs given. tt, λ κs given x y p q. ap (λ o. (o.0, (_, (_, (_, (o.1, _)))))) (told-alike told_items items_told_once p q))

pub edges_mut_lem : SettlesAll walks_contracts.edges_mut.ended walks.edges_mut.Reads.Pre walks.edges_mut.Reads.Post
edges_mut_lem = (λ κs given. tt, λ κs given x y p q. ap (λ o. (o.0, (_, (_, (o.1, _))))) (told-alike told_items items_told_once p q))

pub edge_weights_mut : SettlesAll walks_contracts.edge_weights_mut.ended walks.edge_weights_mut.Reads.Pre walks.edge_weights_mut.Reads.Post
edge_weights_mut = (λ κs given. tt, λ κs given x y p q. ap (λ o. (o.0, (_, (_, (o.1, _))))) (told-alike told_items items_told_once p q))

pub edges : SettlesAll walks_contracts.edges.ended walks.edges.Reads.Pre walks.edges.Reads.Post
edges = (λ κs given. tt, λ κs given x y p q. ap (λ o. (o.0, (_, (_, (o.1.numbers, (o.1.sources, (o.1.targets, _))))))) (told-alike told_items items_told_once p q))

pub find-edge : SettlesAll find_contracts.find_edge.ended find.find_edge.Reads.Pre find.find_edge.Reads.Post
find-edge = (λ κs given. tt, λ κs given x y p q. ap (λ r. (r, _)) (edge_told_once _ _ (alike p q)))

pub contains_edge_lem : SettlesAll find_contracts.contains_edge.ended find.contains_edge.Reads.Pre find.contains_edge.Reads.Post
contains_edge_lem = (λ κs given. tt, λ κs given x y p q. ap (λ r. (r, _)) (contains_told_once _ _ (alike p q)))

pub update_edge_lem : SettlesAll find_contracts.update_edge.ended find.update_edge.Reads.Pre find.update_edge.Reads.Post
update_edge_lem = (λ κs given. tt, λ κs given x y p q. ap (λ o. (o.0, edge_columns o.1 _)) (told-alike told_edge edge_told_once p q))

pub walker_new : SettlesAll walker_contracts.Walker.new.ended walker.Walker.new.Reads.Pre walker.Walker.new.Reads.Post
walker_new = (λ κs given. tt, λ κs given x y p q. ap (λ r. (r, _)) (begun_told_once _ _ (alike p q)))

pub walker_step : SettlesAll walker_contracts.Walker.step.ended walker.Walker.step.Reads.Pre walker.Walker.step.Reads.Post
walker_step = (λ κs given. tt, λ κs given x y p q. ap (λ r. (r, _)) (step_told-once _ _ (alike p q)))

pub walker_next : SettlesAll lent_contracts.next.ended lent.next.Reads.Pre lent.next.Reads.Post
walker_next = (λ κs given. tt, λ κs given x y p q. ap (λ o. (o.0, (o.1, _))) (told-alike told_node node_told_once p q))

-- the same of the clauses of `next` as they stand in any model of the logic, before the prover reads them: here is their claim
abbrev next_ensures : Ensures lent_contracts.next.ended
next_ensures κs (w, (net, none)) r left = out (told_node r) left.0.now ≡ step (net_of net) w.now

pub walker_next_written : SettlesByHand lent_contracts.next.ended (λ M 𝓤. lent_contracts.next.clauses {M = M} {𝓤 = 𝓤}) next_ensures
walker_next_written =
    record {
      asks_nothing = λ M 𝓤 𝓛 mem run κs given ghost. refl;
      is_claim = λ M 𝓤 𝓛 mem run κs given ghost r s. refl;
      settles = λ κs given x y p q. ap (λ o. (o.0, (o.1, _))) (told-alike told_node node_told_once p q);
    }

pub sum-around : SettlesAll walker_contracts.sum_around.ended walker.sum_around.Reads.Pre walker.sum_around.Reads.Post
sum-around = (λ κs given. tt, λ κs given x y p q. ap (λ r. (r, _)) (summed_told_once _ _ (alike p q)))

pub check : SettlesAll sound_contracts.check.ended sound.check.Reads.Pre sound.check.Reads.Post
check = (λ κs given. tt, λ κs given x y p q. answers-alike p q)

pub remove-edge : SettlesAll removal_contracts.remove_edge.ended removal.remove_edge.Reads.Pre removal.remove_edge.Reads.Post
remove-edge = (λ κs given. tt, λ κs given x y p q. ap (λ o. (o.0, edge_columns o.1 _)) (told-alike told_edge_removed edge_removed_told_once p q))

pub remove-node : SettlesAll closing_contracts.remove_node.ended closing.remove_node.Reads.Pre closing.remove_node.Reads.Post
remove-node = (λ κs given. tt, λ κs given x y p q. ap (λ o. (o.0, all_columns o.1.0 (_, (o.1.1, _)))) (told-alike told_node_removed node_removed_told_once p q))

pub image_write_lem : SettlesAll image_contracts.image_write.ended image.image_write.Reads.Pre image.image_write.Reads.Post
image_write_lem = (λ κs given. tt, λ κs given x y p q. ap (λ o. (o.0, (_, (o.1, _)))) (told-alike told_items items_told_once p q))

pub image_read_lem : SettlesAll image_contracts.image_read.ended image.image_read.Reads.Pre image.image_read.Reads.Post
image_read_lem = (λ κs given. tt, λ κs given x y p q. ap (λ o. (o.0, all_columns o.1 _)) (told-alike told_change change_told_once p q))
