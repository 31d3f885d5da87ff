-- The contract of each part settles it: a second answer that meets it is equal. Assumes nothing.
use Prim.{tt}
use Prim.Native.Nat.{ℕ}
use mathlib.Core.Path.{ap, sym, ◌∙◌}
use mathlib.Core.List.{List, []}
use lib.ListN.{length}
use mir.Syntax.{w64}
use mir.Val.{Fits}
use denote.RattleType.{RattleType}
use denote.Param.{value_of}
use Rattle.tables.specs.Answers.{Out, told_change, told_items, onto}
use Rattle.removal.specs.Removal.{told_edge_removed}
use Rattle.closing.specs.Closing.{told_node_removed}
use Rattle.tables.proofs.Told.{change_told_once, items_told_once}
use Rattle.removal.proofs.Told.{edge_removed_told_once}
use Rattle.closing.proofs.Told.{node_removed_told_once}
use Rattle.tables.proofs as tables
use Rattle.tables.specs.contracts as tables_contracts
use Rattle.lists.proofs as lists
use Rattle.lists.specs.contracts as lists_contracts
use Rattle.legs.proofs as legs
use Rattle.legs.specs.contracts as legs_contracts
use Rattle.find.proofs as find
use Rattle.find.specs.contracts as find_contracts
use Rattle.walker.proofs as walker
use Rattle.walker.specs.contracts as walker_contracts
use Rattle.sound.proofs as sound
use Rattle.sound.specs.contracts as sound_contracts
use Rattle.links.proofs as links
use Rattle.links.specs.contracts as links_contracts
use Rattle.removal.proofs as removal
use Rattle.removal.specs.contracts as removal_contracts
use Rattle.stripping.proofs as stripping
use Rattle.stripping.specs.contracts as stripping_contracts
use Rattle.dropping.proofs as dropping
use Rattle.dropping.specs.contracts as dropping_contracts
use Rattle.closing.proofs as closing
use Rattle.closing.specs.contracts as closing_contracts
use Rattle.layout.proofs as layout
use Rattle.layout.specs.contracts as layout_contracts
use Rattle.imagerows.proofs as imagerows
use Rattle.imagerows.specs.contracts as imagerows_contracts
use Rattle.loading.proofs as loading
use Rattle.loading.specs.contracts as loading_contracts
use Rattle.demands.specs.Settles.{Settles, SettlesAll}
use Rattle.demands.proofs.Alike.{alike, answers-alike, told-alike, all_columns}

pub network-fits : SettlesAll tables_contracts.network.Network.fits.ended tables.network.Network.fits.Reads.Pre tables.network.Network.fits.Reads.Post
network-fits = (λ κs given. tt, λ κs given x y p q. answers-alike p q)

pub tables_fits : Settles tables_contracts.parts.fits.ended tables.parts.fits.Reads.Post
tables_fits κs given x y p q = answers-alike p q

pub tables_write_node : Settles tables_contracts.parts.write_node.ended tables.parts.write_node.Reads.Post
tables_write_node κs given x y p q = λ i. (_, (alike p.weights_are q.weights_are i, (alike p.heads_are q.heads_are i, _)))

pub tables_write_edge : Settles tables_contracts.parts.write_edge.ended tables.parts.write_edge.Reads.Post
tables_write_edge κs given x y p q = λ i. (_, (alike p.registers_are q.registers_are i, (alike p.links_are q.links_are i, (alike p.ends_are q.ends_are i, _))))

pub tables_link_edge : Settles tables_contracts.parts.link_edge.ended tables.parts.link_edge.Reads.Post
tables_link_edge κs given x y p q =
    let registers = alike p.row_is.registers_are q.row_is.registers_are in
    let links = alike p.row_is.links_are q.row_is.links_are in
    let ends = alike p.row_is.ends_are q.row_is.ends_are in
    λ i. (_, (alike p.heads_are q.heads_are i, (registers i, (links i, (ends i, _)))))

pub tables_vacate_nodes : Settles tables_contracts.parts.vacate_nodes.ended tables.parts.vacate_nodes.Reads.Post
tables_vacate_nodes κs given x y p q = λ i. (_, (alike p.weights_are q.weights_are i, (alike p.heads_are q.heads_are i, _)))

pub tables_vacate_edges : Settles tables_contracts.parts.vacate_edges.ended tables.parts.vacate_edges.Reads.Post
tables_vacate_edges κs given x y p q = λ i. (_, (alike p.registers_are q.registers_are i, (alike p.links_are q.links_are i, (alike p.ends_are q.ends_are i, _))))

pub node-bare : SettlesAll tables_contracts.row.Node.bare.ended tables.row.Node.bare.Reads.Pre tables.row.Node.bare.Reads.Post
node-bare = (λ κs given. tt, λ κs given x y p q. answers-alike p q)

pub edge-vacant : SettlesAll tables_contracts.row.Edge.vacant.ended tables.row.Edge.vacant.Reads.Pre tables.row.Edge.vacant.Reads.Post
edge-vacant = (λ κs given. tt, λ κs given x y p q. answers-alike p q)

pub lists-picks : Settles lists_contracts.parts.picks.ended lists.parts.picks.Reads.Post
lists-picks κs given x y p q = answers-alike p q

pub lists-first : Settles lists_contracts.parts.first.ended lists.parts.first.Reads.Post
lists-first κs given x y p q = answers-alike p q

pub lists_count_both : Settles lists_contracts.parts.count_both.ended lists.parts.count_both.Reads.Post
lists_count_both κs given x y p q = answers-alike p q

pub lists_count_taken : Settles lists_contracts.parts.count_taken.ended lists.parts.count_taken.Reads.Post
lists_count_taken κs given x y p q = answers-alike p q

pub lists_give : Settles lists_contracts.parts.give.ended lists.parts.give.Reads.Post
lists_give κs given x y p q = ap (λ (o : Out ℕ (List ℕ)). (o.answer.values, (_, (_, (_, (_, (_, (_, (_, (_, (_, (o.after, _)))))))))))) (alike p q)

pub legs_along : Settles legs_contracts.parts.along.ended legs.parts.along.Reads.Post
legs_along κs given x y p q = answers-alike p q

pub legs_settle : Settles legs_contracts.parts.settle.ended legs.parts.settle.Reads.Post
legs_settle κs given x y p q = answers-alike p q

pub legs_give-both : Settles legs_contracts.parts.give_both.ended legs.parts.give_both.Reads.Post
legs_give-both κs given x y p q = ap (λ (o : Out ℕ (List ℕ)). (o.answer.values, (_, (_, (_, (_, (_, (_, (_, (_, (o.after, _))))))))))) (alike p q)

pub legs_walk : Settles legs_contracts.parts.walk.ended legs.parts.walk.Reads.Post
legs_walk κs given x y p q = ap (λ o. (o.0, (_, (_, (_, (_, (_, (_, (_, (o.1, _)))))))))) (told-alike told_items items_told_once p q)

pub legs_walk_edges : Settles legs_contracts.parts.walk_edges.ended legs.parts.walk_edges.Reads.Post
legs_walk_edges κs given x y p q = ap (λ o. (o.0, (_, (_, (_, (_, (_, (_, (o.1.numbers, (o.1.sources, (o.1.targets, _))))))))))) (told-alike told_items items_told_once p q)

pub find-seek : Settles find_contracts.parts.seek.ended find.parts.seek.Reads.Post
find-seek κs given x y p q = answers-alike p q

pub walker_sum : Settles walker_contracts.parts.sum.ended walker.parts.sum.Reads.Post
walker_sum κs given x y p q = answers-alike p.answer_is q.answer_is

pub sound_walk_list : Settles sound_contracts.parts.walk_list.ended sound.parts.walk_list.Reads.Post
sound_walk_list κs given x y p q = answers-alike p q

pub sound_walk_lists : Settles sound_contracts.parts.walk_lists.ended sound.parts.walk_lists.Reads.Post
sound_walk_lists κs given x y p q = answers-alike p q

pub links_change_link : Settles links_contracts.parts.change_link.ended links.parts.change_link.Reads.Post
links_change_link κs given x y p q =
    let r = alike p.answer_is q.answer_is in
    λ i. (r i, (alike (rw r at p.heads_are) q.heads_are i, (alike (rw r at p.links_are) q.links_are i, _)))

pub links_change_edge_links : Settles links_contracts.parts.change_edge_links.ended links.parts.change_edge_links.Reads.Post
links_change_edge_links κs given x y p q =
    let r = alike p.answer_is q.answer_is in
    λ i. (r i, (alike (rw r at p.heads_are) q.heads_are i, (alike (rw r at p.links_are) q.links_are i, _)))

pub links_relink : Settles links_contracts.parts.relink.ended links.parts.relink.Reads.Post
links_relink κs given x y p q = λ i. (_, (alike p.0 q.0 i, (alike p.1 q.1 i, _)))

pub links_lead : Settles links_contracts.parts.lead.ended links.parts.lead.Reads.Post
links_lead κs given x y p q = λ i. (_, (alike p.heads_are q.heads_are i, (alike p.links_are q.links_are i, _)))

pub links_move_last : Settles links_contracts.parts.move_last.ended links.parts.move_last.Reads.Post
links_move_last κs given x y p q = λ i. (_, (alike p.registers_are q.registers_are i, (alike p.links_are q.links_are i, (alike p.ends_are q.ends_are i, _))))

pub removal_take_out : Settles removal_contracts.parts.take_out.ended removal.parts.take_out.Reads.Post
removal_take_out κs given x y p q =
    ap (λ o. (o.0, (o.1.heads, (o.1.registers, (o.1.links, (o.1.ends, (_, (o.1.m, _)))))))) (told-alike told_edge_removed edge_removed_told_once (p []) (q []))

pub removal_fill_gap : Settles removal_contracts.parts.fill_gap.ended removal.parts.fill_gap.Reads.Post
removal_fill_gap κs given x y p q =
    ap (λ o. (o.0, (o.1.heads, (o.1.registers, (o.1.links, (o.1.ends, (_, (o.1.m, _)))))))) (told-alike told_edge_removed edge_removed_told_once (p []) (q []))

pub stripping_strip : Settles stripping_contracts.parts.strip.ended stripping.parts.strip.Reads.Post
stripping_strip κs given x y p q =
    let e = alike (p.rest []) (q.rest []) in
    let count = p.count_is ∙ ap length (ap (λ t. t.given) e) ∙ sym q.count_is in
    let items = p.items_are ∙ ap (λ t. onto t.given given.1.1.1.1.1.1.1.0.now) e ∙ sym q.items_are in
    λ i. (record { rows = (e i).rows; count = count i }, ((e i).rest.heads, ((e i).rest.registers, ((e i).rest.links, ((e i).rest.ends, (_, ((e i).rest.m, (_, (items i, _)))))))))

pub dropping_renumber : Settles dropping_contracts.parts.renumber.ended dropping.parts.renumber.Reads.Post
dropping_renumber κs given x y p q = λ i. (alike p.rows_are q.rows_are i, (_, (alike p.ends_are q.ends_are i, _)))

pub dropping_move_node : Settles dropping_contracts.parts.move_node.ended dropping.parts.move_node.Reads.Post
dropping_move_node κs given x y p q = λ i. (_, (alike p.weights_are q.weights_are i, (alike p.heads_are q.heads_are i, _)))

pub dropping_drop_node : Settles dropping_contracts.parts.drop_node.ended dropping.parts.drop_node.Reads.Post
dropping_drop_node κs given x y p q =
    let weights = alike p.moved.weights_are q.moved.weights_are in
    let heads = alike p.moved.heads_are q.moved.heads_are in
    λ i. (alike p.rows_are q.rows_are i, (weights i, (heads i, (_, (alike p.ends_are q.ends_are i, (alike p.nodes q.nodes i, _))))))

pub closing_take_node : Settles closing_contracts.parts.take_node.ended closing.parts.take_node.Reads.Post
closing_take_node κs given x y p q = ap (λ o. (o.0, all_columns o.1.0 (_, (o.1.1, _)))) (told-alike told_node_removed node_removed_told_once p q)

pub closing_close : Settles closing_contracts.parts.close.ended closing.parts.close.Reads.Post
closing_close κs given x y p q = ap (λ o. (o.0, all_columns o.1.0 (_, (o.1.1, _)))) (told-alike told_node_removed node_removed_told_once p q)

pub image_length_lem : SettlesAll layout_contracts.image_length.ended layout.image_length.Reads.Pre layout.image_length.Reads.Post
image_length_lem = (λ κs given. tt, λ κs given x y p q. answers-alike p q)

pub bits : SettlesAll layout_contracts.bits.ended layout.bits.Reads.Pre layout.bits.Reads.Post
bits = (λ κs given. tt, λ κs given x y p q. answers-alike p q)

pub signed : SettlesAll layout_contracts.signed.ended layout.signed.Reads.Pre layout.signed.Reads.Post
signed = (λ κs given. tt, λ κs given x y p q. answers-alike p q)

-- for every width
pub layout_put_number : (K : RattleType) (f : Fits w64 (value_of K)) → Settles (layout_contracts.parts.put_number.ended K) (layout.parts.put_number.Reads.Post (value_of K) f)
layout_put_number K f κs given x y p q = ap (λ l. (_, (l, _))) (alike p q)

pub layout_number_at : (K : RattleType) (f : Fits w64 (value_of K)) → Settles (layout_contracts.parts.number_at.ended K) (layout.parts.number_at.Reads.Post (value_of K) f)
layout_number_at K f κs given x y p q = answers-alike p q

pub layout_put_head : Settles layout_contracts.parts.put_head.ended layout.parts.put_head.Reads.Post
layout_put_head κs given x y p q = ap (λ l. (_, (l, _))) (alike p q)

pub layout_marked : Settles layout_contracts.parts.marked.ended layout.parts.marked.Reads.Post
layout_marked κs given x y p q = answers-alike p q

pub layout_node_put : Settles layout_contracts.parts.NodeRow.put.ended layout.parts.NodeRow.put.Reads.Post
layout_node_put κs given x y p q = ap (λ l. (_, (_, (l, _)))) (alike p q)

pub layout_node_at : Settles layout_contracts.parts.NodeRow.at.ended layout.parts.NodeRow.at.Reads.Post
layout_node_at κs given x y p q = answers-alike p q

pub layout_edge_put : Settles layout_contracts.parts.EdgeRow.put.ended layout.parts.EdgeRow.put.Reads.Post
layout_edge_put κs given x y p q = ap (λ l. (_, (_, (l, _)))) (alike p q)

pub layout_edge_at : Settles layout_contracts.parts.EdgeRow.at.ended layout.parts.EdgeRow.at.Reads.Post
layout_edge_at κs given x y p q = answers-alike p q

pub imagerows_node_of : Settles imagerows_contracts.parts.row.NodeTableRow.of.ended imagerows.parts.row.NodeTableRow.of.Reads.Post
imagerows_node_of κs given x y p q = answers-alike p q

pub imagerows_node_store : Settles imagerows_contracts.parts.row.NodeTableRow.store.ended imagerows.parts.row.NodeTableRow.store.Reads.Post
imagerows_node_store κs given x y p q = ap (λ g. (_, (_, (g.weights, (g.heads, (g.registers, (g.links, (g.ends, _)))))))) (alike (p 0 0) (q 0 0))

pub imagerows_edge_of : Settles imagerows_contracts.parts.row.EdgeTableRow.of.ended imagerows.parts.row.EdgeTableRow.of.Reads.Post
imagerows_edge_of κs given x y p q = answers-alike p q

pub imagerows_edge_store : Settles imagerows_contracts.parts.row.EdgeTableRow.store.ended imagerows.parts.row.EdgeTableRow.store.Reads.Post
imagerows_edge_store κs given x y p q = ap (λ g. (_, (_, (g.weights, (g.heads, (g.registers, (g.links, (g.ends, _)))))))) (alike (p 0 0) (q 0 0))

pub imagerows_write : Settles imagerows_contracts.parts.write.ended imagerows.parts.write.Reads.Post
imagerows_write κs given x y p q = ap (λ l. (_, (_, (l, _)))) (alike p q)

pub imagerows_load : Settles imagerows_contracts.parts.load.ended imagerows.parts.load.Reads.Post
imagerows_load κs given x y p q = ap (λ g. (_, (g.weights, (g.heads, (g.registers, (g.links, (g.ends, _))))))) (alike p q)

pub loading_is_sound : Settles loading_contracts.parts.is_sound.ended loading.parts.is_sound.Reads.Post
loading_is_sound κs given x y p q = answers-alike p q

pub loading_empty : Settles loading_contracts.parts.empty.ended loading.parts.empty.Reads.Post
loading_empty κs given x y p q = ap (λ g. (_, (g.weights, (g.heads, (g.registers, (g.links, (g.ends, _))))))) (alike p q)

pub loading_read_one : Settles loading_contracts.parts.read_one.ended loading.parts.read_one.Reads.Post
loading_read_one κs given x y p q = ap (λ o. (o.0, all_columns o.1 _)) (told-alike told_change change_told_once p q)
