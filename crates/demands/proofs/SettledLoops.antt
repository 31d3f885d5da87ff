-- The same of the bench's loops, and of the parts that say what an answer adds to their sums. Assumes nothing.
use Prim.{tt}
use mathlib.Core.Path.{ap}
use mir.Syntax.{Dict}
use denote.RattleType.{RattleType}
use denote.Param.Laws.{Laws, IsCopy}
use Rattle.std.specs.declared.clone.Clone.{Ghosts}
use Rattle.loops.specs.declared.parts.Addend as Addend
use Rattle.loops.proofs as loops
use Rattle.loops.specs.contracts as loops_contracts
use Rattle.dirloops.proofs as dirloops
use Rattle.dirloops.specs.contracts as dirloops_contracts
use Rattle.demands.specs.Settles.{Settles, SettlesAll}
use Rattle.demands.proofs.Alike.{alike, answers-alike, node_columns, edge_columns, no_columns}

pub loops_node_addend : Settles loops_contracts.parts.NodeIndexAddend.addend.ended loops.parts.NodeIndexAddend.addend.Reads.Post
loops_node_addend κs given x y p q = answers-alike p q

pub loops_edge_addend : Settles loops_contracts.parts.EdgeIndexAddend.addend.ended loops.parts.EdgeIndexAddend.addend.Reads.Post
loops_edge_addend κs given x y p q = answers-alike p q

pub loops_removed_edge_addend : Settles loops_contracts.parts.RemovedEdgeAddend.addend.ended loops.parts.RemovedEdgeAddend.addend.Reads.Post
loops_removed_edge_addend κs given x y p q = answers-alike p q

-- for every type of what a call tells
module _ (T : RattleType) (lt : Laws T) (t : IsCopy T) (g : Addend.Ghosts T.Denot) (d : Dict) (gt : Ghosts T.Denot) (dt : Dict) where
  pub loops_adds : Settles (loops_contracts.parts.adds.ended T g d gt dt) (loops.parts.adds.Reads.Post T lt t g d gt dt)
  loops_adds κs given x y p q = answers-alike p q

pub loops_items_add : Settles loops_contracts.parts.items_add.ended loops.parts.items_add.Reads.Post
loops_items_add κs given x y p q = answers-alike p q

pub loops_total : Settles loops_contracts.parts.total.ended loops.parts.total.Reads.Post
loops_total κs given x y p q = answers-alike p q

pub loop_add_nodes : SettlesAll loops_contracts.loop_add_nodes.ended loops.loop_add_nodes.Reads.Pre loops.loop_add_nodes.Reads.Post
loop_add_nodes = (λ κs given. tt, λ κs given x y p q. ap (λ o. (o.sum, node_columns o.after _)) (alike p q))

pub loop_add_edges : SettlesAll loops_contracts.loop_add_edges.ended loops.loop_add_edges.Reads.Pre loops.loop_add_edges.Reads.Post
loop_add_edges = (λ κs given. tt, λ κs given x y p q. ap (λ o. (o.sum, edge_columns o.after _)) (alike p q))

pub loop_find_edges : SettlesAll loops_contracts.loop_find_edges.ended loops.loop_find_edges.Reads.Pre loops.loop_find_edges.Reads.Post
loop_find_edges = (λ κs given. tt, λ κs given x y p q. answers-alike p q)

pub loop_neighbors : SettlesAll loops_contracts.loop_neighbors.ended loops.loop_neighbors.Reads.Pre loops.loop_neighbors.Reads.Post
loop_neighbors = (λ κs given. tt, λ κs given x y p q. ap (λ o. (o.sum, no_columns (o.after, _))) (alike p q))

pub loop_remove_edges : SettlesAll loops_contracts.loop_remove_edges.ended loops.loop_remove_edges.Reads.Pre loops.loop_remove_edges.Reads.Post
loop_remove_edges = (λ κs given. tt, λ κs given x y p q. ap (λ o. (o.sum, edge_columns o.after _)) (alike p q))

-- with a directory
pub loop_dir_add_edges : SettlesAll dirloops_contracts.loop_dir_add_edges.ended dirloops.loop_dir_add_edges.Reads.Pre dirloops.loop_dir_add_edges.Reads.Post
loop_dir_add_edges = (λ κs given. tt, λ κs given x y p q. ap (λ o. (o.sum, edge_columns o.after.net (o.after.directory, _))) (alike p q))

pub loop_find_numbers : SettlesAll dirloops_contracts.loop_find_numbers.ended dirloops.loop_find_numbers.Reads.Pre dirloops.loop_find_numbers.Reads.Post
loop_find_numbers = (λ κs given. tt, λ κs given x y p q. answers-alike p q)

pub loop_remove_numbers : SettlesAll dirloops_contracts.loop_remove_numbers.ended dirloops.loop_remove_numbers.Reads.Pre dirloops.loop_remove_numbers.Reads.Post
loop_remove_numbers = (λ κs given. tt, λ κs given x y p q. ap (λ o. (o.sum, edge_columns o.after.net (o.after.directory, _))) (alike p q))
