-- The same of the calls for other languages, and of the parts that tell their answers. Assumes nothing.
use Prim.{tt}
use mathlib.Core.Path.{ap}
use mir.Syntax.{Dict}
use denote.RattleType.{RattleType}
use denote.Param.Laws.{Laws, IsCopy}
use Rattle.std.specs.declared.clone.Clone.{Ghosts}
use Rattle.cells.specs.declared.parts.InCells as InCells
use Rattle.cells.proofs as cells
use Rattle.cells.specs.contracts as cells_contracts
use Rattle.exportrows.proofs as exportrows
use Rattle.exportrows.specs.contracts as exportrows_contracts
use Rattle.exportlists.proofs as exportlists
use Rattle.exportlists.specs.contracts as exportlists_contracts
use Rattle.exportremovals.proofs as exportremovals
use Rattle.exportremovals.specs.contracts as exportremovals_contracts
use Rattle.exportdirectory.proofs as exportdirectory
use Rattle.exportdirectory.specs.contracts as exportdirectory_contracts
use Rattle.demands.specs.Settles.{Settles, SettlesAll}
use Rattle.demands.proofs.Alike.{alike, answers-alike, all_columns, node_columns, edge_columns, no_columns}

pub cells_of_u32 : Settles cells_contracts.parts.U32InCells.in_cells.ended cells.parts.U32InCells.in_cells.Reads.Post
cells_of_u32 κs given x y p q = answers-alike p q

pub cells_of_i32 : Settles cells_contracts.parts.I32InCells.in_cells.ended cells.parts.I32InCells.in_cells.Reads.Post
cells_of_i32 κs given x y p q = answers-alike p q

pub cells_of_i64 : Settles cells_contracts.parts.I64InCells.in_cells.ended cells.parts.I64InCells.in_cells.Reads.Post
cells_of_i64 κs given x y p q = answers-alike p q

pub cells_of_bool : Settles cells_contracts.parts.BoolInCells.in_cells.ended cells.parts.BoolInCells.in_cells.Reads.Post
cells_of_bool κs given x y p q = answers-alike p q

pub cells_of_node : Settles cells_contracts.parts.NodeIndexInCells.in_cells.ended cells.parts.NodeIndexInCells.in_cells.Reads.Post
cells_of_node κs given x y p q = answers-alike p q

pub cells_of_edge : Settles cells_contracts.parts.EdgeIndexInCells.in_cells.ended cells.parts.EdgeIndexInCells.in_cells.Reads.Post
cells_of_edge κs given x y p q = answers-alike p q

pub cells_of_ends : Settles cells_contracts.parts.Tuple2NodeIndexNodeIndexInCells.in_cells.ended cells.parts.Tuple2NodeIndexNodeIndexInCells.in_cells.Reads.Post
cells_of_ends κs given x y p q = answers-alike p q

pub cells_of_walker : Settles cells_contracts.parts.WalkerInCells.in_cells.ended cells.parts.WalkerInCells.in_cells.Reads.Post
cells_of_walker κs given x y p q = answers-alike p q

pub cells_of_removed_edge : Settles cells_contracts.parts.RemovedEdgeInCells.in_cells.ended cells.parts.RemovedEdgeInCells.in_cells.Reads.Post
cells_of_removed_edge κs given x y p q = answers-alike p q

pub cells_of_removed_node : Settles cells_contracts.parts.RemovedNodeInCells.in_cells.ended cells.parts.RemovedNodeInCells.in_cells.Reads.Post
cells_of_removed_node κs given x y p q = answers-alike p q

-- for every type of value and of cells
module _ (T C : RattleType) (lt : Laws T) (lc : Laws C) (t : IsCopy T) (c : IsCopy C)
    (g : InCells.Ghosts T.Denot C.Denot) (d : Dict) (gt : Ghosts T.Denot) (dt : Dict) (gc : Ghosts C.Denot) (dc : Dict) where
  pub cells_tell : Settles (cells_contracts.parts.tell.ended T C g d gt dt gc dc) (cells.parts.tell.Reads.Post T C lt lc t c g d gt dt gc dc)
  cells_tell κs given x y p q = ap (λ o. (o.number, (_, (o.values, _)))) (alike p q)

pub cells_tell_ends : Settles cells_contracts.parts.tell_ends.ended cells.parts.tell_ends.Reads.Post
cells_tell_ends κs given x y p q = ap (λ o. (o.number, (_, (o.values.0, (o.values.1, _))))) (alike p q)

pub cells_tell_change : Settles cells_contracts.parts.tell_change.ended cells.parts.tell_change.Reads.Post
cells_tell_change κs given x y p q = ap (λ o. (o.number, _)) (alike p q)

pub cells-walker_in : Settles cells_contracts.parts.walker_in.ended cells.parts.walker_in.Reads.Post
cells-walker_in κs given x y p q = answers-alike p q

pub cells_tell_walker : Settles cells_contracts.parts.tell_walker.ended cells.parts.tell_walker.Reads.Post
cells_tell_walker κs given x y p q = ap (λ o. (o.number, (_, (o.values, _)))) (alike p q)

pub cells_tell_step : Settles cells_contracts.parts.tell_step.ended cells.parts.tell_step.Reads.Post
cells_tell_step κs given x y p q = ap (λ o. (o.answer.number, (_, (o.after, (o.answer.values, _))))) (alike p q)

pub cells_tell_check : Settles cells_contracts.parts.tell_check.ended cells.parts.tell_check.Reads.Post
cells_tell_check κs given x y p q = ap (λ o. (o.number, (_, (o.values.0, (o.values.1, (o.values.2, _)))))) (alike p q)

pub cells_tell_edge_removed : Settles cells_contracts.parts.tell_edge_removed.ended cells.parts.tell_edge_removed.Reads.Post
cells_tell_edge_removed κs given x y p q = ap (λ o. (o.number, (_, (o.values.0, (o.values.1, (o.values.2, _)))))) (alike p q)

pub cells_tell_node_removed : Settles cells_contracts.parts.tell_node_removed.ended cells.parts.tell_node_removed.Reads.Post
cells_tell_node_removed κs given x y p q = ap (λ o. (o.number, (_, (o.values.0, (o.values.1, (o.values.2, _)))))) (alike p q)

pub net-node_weight : SettlesAll exportrows_contracts.net_node_weight.ended exportrows.net_node_weight.Reads.Pre exportrows.net_node_weight.Reads.Post
net-node_weight = (λ κs given. tt, λ κs given x y p q. ap (λ o. (o.number, (_, (_, (_, (_, (_, (_, (_, (_, (o.values, _))))))))))) (alike p q))

pub net-edge_weight : SettlesAll exportrows_contracts.net_edge_weight.ended exportrows.net_edge_weight.Reads.Pre exportrows.net_edge_weight.Reads.Post
net-edge_weight = (λ κs given. tt, λ κs given x y p q. ap (λ o. (o.number, (_, (_, (_, (_, (_, (_, (_, (_, (o.values, _))))))))))) (alike p q))

pub net-edge_endpoints : SettlesAll exportrows_contracts.net_edge_endpoints.ended exportrows.net_edge_endpoints.Reads.Pre exportrows.net_edge_endpoints.Reads.Post
net-edge_endpoints = (λ κs given. tt, λ κs given x y p q. ap (λ o. (o.number, (_, (_, (_, (_, (_, (_, (_, (_, (o.values.0, (o.values.1, _)))))))))))) (alike p q))

pub net-first_edge : SettlesAll exportrows_contracts.net_first_edge.ended exportrows.net_first_edge.Reads.Pre exportrows.net_first_edge.Reads.Post
net-first_edge = (λ κs given. tt, λ κs given x y p q. ap (λ o. (o.number, (_, (_, (_, (_, (_, (_, (_, (_, (_, (o.values, _)))))))))))) (alike p q))

pub net-next_edge : SettlesAll exportrows_contracts.net_next_edge.ended exportrows.net_next_edge.Reads.Pre exportrows.net_next_edge.Reads.Post
net-next_edge = (λ κs given. tt, λ κs given x y p q. ap (λ o. (o.number, (_, (_, (_, (_, (_, (_, (_, (_, (_, (o.values, _)))))))))))) (alike p q))

pub net-set_node_weight : SettlesAll exportrows_contracts.net_set_node_weight.ended exportrows.net_set_node_weight.Reads.Pre exportrows.net_set_node_weight.Reads.Post
net-set_node_weight = (λ κs given. tt, λ κs given x y p q. ap (λ o. (o.answer.number, (o.after.weights, _))) (alike p q))

pub net-set_edge_weight : SettlesAll exportrows_contracts.net_set_edge_weight.ended exportrows.net_set_edge_weight.Reads.Pre exportrows.net_set_edge_weight.Reads.Post
net-set_edge_weight = (λ κs given. tt, λ κs given x y p q. ap (λ o. (o.answer.number, (_, (_, (o.after.registers, _))))) (alike p q))

pub net-add_node : SettlesAll exportrows_contracts.net_add_node.ended exportrows.net_add_node.Reads.Pre exportrows.net_add_node.Reads.Post
net-add_node = (λ κs given. tt, λ κs given x y p q. ap (λ o. (o.answer.number, node_columns o.after (_, (o.answer.values, _)))) (alike p q))

pub net-add_edge : SettlesAll exportrows_contracts.net_add_edge.ended exportrows.net_add_edge.Reads.Pre exportrows.net_add_edge.Reads.Post
net-add_edge = (λ κs given. tt, λ κs given x y p q. ap (λ o. (o.answer.number, edge_columns o.after (_, (_, (_, (o.answer.values, _)))))) (alike p q))

pub net-all_edge_weights : SettlesAll exportrows_contracts.net_all_edge_weights.ended exportrows.net_all_edge_weights.Reads.Pre exportrows.net_all_edge_weights.Reads.Post
net-all_edge_weights = (λ κs given. tt, λ κs given x y p q. ap (λ o. (o.answer.number, (_, (_, (_, (_, (_, (_, (_, (o.after, (o.answer.values, _))))))))))) (alike p q))

pub net-clear_edges : SettlesAll exportrows_contracts.net_clear_edges.ended exportrows.net_clear_edges.Reads.Pre exportrows.net_clear_edges.Reads.Post
net-clear_edges = (λ κs given. tt, λ κs given x y p q. ap (λ o. (o.answer.number, edge_columns o.after _)) (alike p q))

pub net-clear : SettlesAll exportrows_contracts.net_clear.ended exportrows.net_clear.Reads.Pre exportrows.net_clear.Reads.Post
net-clear = (λ κs given. tt, λ κs given x y p q. ap (λ o. (o.answer.number, all_columns o.after _)) (alike p q))

pub net-neighbors : SettlesAll exportlists_contracts.net_neighbors.ended exportlists.net_neighbors.Reads.Pre exportlists.net_neighbors.Reads.Post
net-neighbors = (λ κs given. tt, λ κs given x y p q. ap (λ o. (o.answer.number, (_, (_, (_, (_, (_, (_, (_, (_, (o.after, (o.answer.values, _)))))))))))) (alike p q))

pub net-edge_weights : SettlesAll exportlists_contracts.net_edge_weights.ended exportlists.net_edge_weights.Reads.Pre exportlists.net_edge_weights.Reads.Post
net-edge_weights = (λ κs given. tt, λ κs given x y p q. ap (λ o. (o.answer.number, (_, (_, (_, (_, (_, (_, (_, (_, (o.after, (o.answer.values, _)))))))))))) (alike p q))

pub net-edges_between : SettlesAll exportlists_contracts.net_edges_between.ended exportlists.net_edges_between.Reads.Pre exportlists.net_edges_between.Reads.Post
net-edges_between = (λ κs given. tt, λ κs given x y p q. ap (λ o. (o.answer.number, (_, (_, (_, (_, (_, (_, (_, (_, (_, (o.after, (o.answer.values, _))))))))))))) (alike p q))

pub net-edges_mut : SettlesAll exportlists_contracts.net_edges_mut.ended exportlists.net_edges_mut.Reads.Pre exportlists.net_edges_mut.Reads.Post
net-edges_mut = (λ κs given. tt, λ κs given x y p q. ap (λ o. (o.answer.number, (_, (_, (_, (_, (_, (_, (_, (_, (o.after, (o.answer.values, _)))))))))))) (alike p q))

pub net_edge_weights_mut : SettlesAll exportlists_contracts.net_edge_weights_mut.ended exportlists.net_edge_weights_mut.Reads.Pre exportlists.net_edge_weights_mut.Reads.Post
net_edge_weights_mut = (λ κs given. tt, λ κs given x y p q. ap (λ o. (o.answer.number, (_, (_, (_, (_, (_, (_, (_, (_, (o.after, (o.answer.values, _)))))))))))) (alike p q))

pub net-edges : SettlesAll exportlists_contracts.net_edges.ended exportlists.net_edges.Reads.Pre exportlists.net_edges.Reads.Post
net-edges = (
  λ κs given. tt,
  λ κs given x y p q. ap (λ o. (o.answer.number, no_columns (_, (o.after.numbers, (o.after.sources, (o.after.targets, (o.answer.values, _))))))) (alike p q),
)

pub net-find_edge : SettlesAll exportlists_contracts.net_find_edge.ended exportlists.net_find_edge.Reads.Pre exportlists.net_find_edge.Reads.Post
net-find_edge = (λ κs given. tt, λ κs given x y p q. ap (λ o. (o.number, (_, (_, (_, (_, (_, (_, (_, (_, (_, (o.values, _)))))))))))) (alike p q))

pub net-contains_edge : SettlesAll exportlists_contracts.net_contains_edge.ended exportlists.net_contains_edge.Reads.Pre exportlists.net_contains_edge.Reads.Post
net-contains_edge = (λ κs given. tt, λ κs given x y p q. ap (λ o. (o.number, (_, (_, (_, (_, (_, (_, (_, (_, (_, (o.values, _)))))))))))) (alike p q))

pub net-update_edge : SettlesAll exportlists_contracts.net_update_edge.ended exportlists.net_update_edge.Reads.Pre exportlists.net_update_edge.Reads.Post
net-update_edge = (λ κs given. tt, λ κs given x y p q. ap (λ o. (o.answer.number, edge_columns o.after (_, (_, (_, (o.answer.values, _)))))) (alike p q))

pub net-sum_around : SettlesAll exportlists_contracts.net_sum_around.ended exportlists.net_sum_around.Reads.Pre exportlists.net_sum_around.Reads.Post
net-sum_around = (λ κs given. tt, λ κs given x y p q. ap (λ o. (o.number, (_, (_, (_, (_, (_, (_, (_, (_, (o.values, _))))))))))) (alike p q))

pub net-check : SettlesAll exportlists_contracts.net_check.ended exportlists.net_check.Reads.Pre exportlists.net_check.Reads.Post
net-check = (λ κs given. tt, λ κs given x y p q. ap (λ o. (o.number, (_, (_, (_, (_, (_, (_, (_, (o.values.0, (o.values.1, (o.values.2, _)))))))))))) (alike p q))

pub net_walker_new : SettlesAll exportlists_contracts.net_walker_new.ended exportlists.net_walker_new.Reads.Pre exportlists.net_walker_new.Reads.Post
net_walker_new = (λ κs given. tt, λ κs given x y p q. ap (λ o. (o.number, (_, (_, (_, (_, (_, (_, (_, (_, (o.values, _))))))))))) (alike p q))

pub net_walker_next : SettlesAll exportlists_contracts.net_walker_next.ended exportlists.net_walker_next.Reads.Pre exportlists.net_walker_next.Reads.Post
net_walker_next = (λ κs given. tt, λ κs given x y p q. ap (λ o. (o.answer.number, (_, (_, (_, (_, (_, (_, (_, (o.after, (o.answer.values, _))))))))))) (alike p q))

pub net-remove_edge : SettlesAll exportremovals_contracts.net_remove_edge.ended exportremovals.net_remove_edge.Reads.Pre exportremovals.net_remove_edge.Reads.Post
net-remove_edge = (
  λ κs given. tt,
  λ κs given x y p q. ap (λ o. (o.answer.number, edge_columns o.after (_, (o.answer.values.0, (o.answer.values.1, (o.answer.values.2, _)))))) (alike p q),
)

pub net-remove_node : SettlesAll exportremovals_contracts.net_remove_node.ended exportremovals.net_remove_node.Reads.Pre exportremovals.net_remove_node.Reads.Post
net-remove_node = (
  λ κs given. tt,
  λ κs given x y p q. ap (λ o. (o.answer.number, all_columns o.after.0 (_, (o.after.1, (o.answer.values.0, (o.answer.values.1, (o.answer.values.2, _))))))) (alike p q),
)

pub net-image_write : SettlesAll exportremovals_contracts.net_image_write.ended exportremovals.net_image_write.Reads.Pre exportremovals.net_image_write.Reads.Post
net-image_write = (λ κs given. tt, λ κs given x y p q. ap (λ o. (o.answer.number, (_, (_, (_, (_, (_, (_, (_, (o.after, (o.answer.values, _))))))))))) (alike p q))

pub net-image_read : SettlesAll exportremovals_contracts.net_image_read.ended exportremovals.net_image_read.Reads.Pre exportremovals.net_image_read.Reads.Post
net-image_read = (λ κs given. tt, λ κs given x y p q. ap (λ o. (o.answer.number, all_columns o.after _)) (alike p q))

pub net_dir_check : SettlesAll exportdirectory_contracts.net_dir_check.ended exportdirectory.net_dir_check.Reads.Pre exportdirectory.net_dir_check.Reads.Post
net_dir_check = (λ κs given. tt, λ κs given x y p q. ap (λ o. (o.number, no_columns (_, (o.values.0, (o.values.1, (o.values.2, _)))))) (alike p q))

pub net_dir_add_edge : SettlesAll exportdirectory_contracts.net_dir_add_edge.ended exportdirectory.net_dir_add_edge.Reads.Pre exportdirectory.net_dir_add_edge.Reads.Post
net_dir_add_edge = (
  λ κs given. tt,
  λ κs given x y p q. ap (λ o. (o.answer.number, edge_columns o.after.net (o.after.directory, (_, (_, (_, (o.answer.values, _))))))) (alike p q),
)

pub net_dir_update_edge : SettlesAll exportdirectory_contracts.net_dir_update_edge.ended exportdirectory.net_dir_update_edge.Reads.Pre exportdirectory.net_dir_update_edge.Reads.Post
net_dir_update_edge = (
  λ κs given. tt,
  λ κs given x y p q. ap (λ o. (o.answer.number, edge_columns o.after.net (o.after.directory, (_, (_, (_, (o.answer.values, _))))))) (alike p q),
)

pub net_dir_set_edge_weight : SettlesAll exportdirectory_contracts.net_dir_set_edge_weight.ended exportdirectory.net_dir_set_edge_weight.Reads.Pre exportdirectory.net_dir_set_edge_weight.Reads.Post
net_dir_set_edge_weight = (
  λ κs given. tt,
  λ κs given x y p q. ap (λ o. (o.answer.number, (_, (_, (o.after.net.registers, (_, (_, (_, (_, (o.after.directory, _)))))))))) (alike p q),
)

pub net_dir_clear_edges : SettlesAll exportdirectory_contracts.net_dir_clear_edges.ended exportdirectory.net_dir_clear_edges.Reads.Pre exportdirectory.net_dir_clear_edges.Reads.Post
net_dir_clear_edges = (λ κs given. tt, λ κs given x y p q. ap (λ o. (o.answer.number, edge_columns o.after.net (o.after.directory, _))) (alike p q))

pub net_dir_clear : SettlesAll exportdirectory_contracts.net_dir_clear.ended exportdirectory.net_dir_clear.Reads.Pre exportdirectory.net_dir_clear.Reads.Post
net_dir_clear = (λ κs given. tt, λ κs given x y p q. ap (λ o. (o.answer.number, all_columns o.after.net (o.after.directory, _))) (alike p q))

pub net_dir_remove_edge : SettlesAll exportdirectory_contracts.net_dir_remove_edge.ended exportdirectory.net_dir_remove_edge.Reads.Pre exportdirectory.net_dir_remove_edge.Reads.Post
net_dir_remove_edge = (
  λ κs given. tt,
  λ κs given x y p q.
      ap (λ o. (o.answer.number, edge_columns o.after.net (o.after.directory, (_, (o.answer.values.0, (o.answer.values.1, (o.answer.values.2, _))))))) (alike p q),
)

pub net_dir_find_number : SettlesAll exportdirectory_contracts.net_dir_find_number.ended exportdirectory.net_dir_find_number.Reads.Pre exportdirectory.net_dir_find_number.Reads.Post
net_dir_find_number = (λ κs given. tt, λ κs given x y p q. ap (λ o. (o.number, no_columns (_, (_, (o.values, _))))) (alike p q))

pub net_dir_remove_number : SettlesAll exportdirectory_contracts.net_dir_remove_number.ended exportdirectory.net_dir_remove_number.Reads.Pre exportdirectory.net_dir_remove_number.Reads.Post
net_dir_remove_number = (
  λ κs given. tt,
  λ κs given x y p q.
      ap (λ o. (o.answer.number, edge_columns o.after.net (o.after.directory, (_, (o.answer.values.0, (o.answer.values.1, (o.answer.values.2, _))))))) (alike p q),
)

pub net_dir_remove_node : SettlesAll exportdirectory_contracts.net_dir_remove_node.ended exportdirectory.net_dir_remove_node.Reads.Pre exportdirectory.net_dir_remove_node.Reads.Post
net_dir_remove_node = (
  λ κs given. tt,
  λ κs given x y p q.
      ap (λ o. (
        o.answer.number,
        all_columns o.after.0.net
            (o.after.0.directory, (_, (o.after.1, (o.answer.values.0, (o.answer.values.1, (o.answer.values.2, _)))))),
      )) (alike p q),
)

pub net_dir_image_write : SettlesAll exportdirectory_contracts.net_dir_image_write.ended exportdirectory.net_dir_image_write.Reads.Pre exportdirectory.net_dir_image_write.Reads.Post
net_dir_image_write = (λ κs given. tt, λ κs given x y p q. ap (λ o. (o.answer.number, no_columns (_, (o.after, (o.answer.values, _))))) (alike p q))

pub net_dir_image_read : SettlesAll exportdirectory_contracts.net_dir_image_read.ended exportdirectory.net_dir_image_read.Reads.Pre exportdirectory.net_dir_image_read.Reads.Post
net_dir_image_read = (λ κs given. tt, λ κs given x y p q. ap (λ o. (o.answer.number, all_columns o.after.net (o.after.directory, _))) (alike p q))
