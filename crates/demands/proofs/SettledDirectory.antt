-- The contracts of the calls with a directory, and of their parts, settle them: a second answer that meets one is equal.
use Prim.{Unit, tt}
use mathlib.Core.Path.{◌≡◌, refl, sym, ap, ◌∙◌}
use mathlib.Core.List.{[]}
use lib.ListN.{length}
use Rattle.std.proofs.Common.{Result, Ok, Err}
use Rattle.index.specs.declared.Refusal.{Refusal}
use Rattle.index.proofs.Laws.{untold, untold_refusal}
use Rattle.tables.specs.Answers.{told_edge, told_change, told_items, onto}
use Rattle.tables.proofs.Told.{told-once, edge_told_once, change_told_once, items_told_once}
use Rattle.removal.specs.Removal.{told_edge_removed}
use Rattle.removal.proofs.Told.{edge_removed_told_once}
use Rattle.closing.specs.Closing.{told_node_removed}
use Rattle.closing.proofs.Told.{node_removed_told_once}
use Rattle.directory.specs.Directory.{register_in, register_of, directory_of}
use Rattle.dirrows.specs.Parts.{claim_no}
use Rattle.dirremoval.specs.Parts.{directory_after}
use Rattle.directory.proofs as directory
use Rattle.directory.specs.contracts as directory_contracts
use Rattle.dirsound.proofs as dirsound
use Rattle.dirsound.specs.contracts as dirsound_contracts
use Rattle.dirrows.proofs as dirrows
use Rattle.dirrows.specs.contracts as dirrows_contracts
use Rattle.dirfind.proofs as dirfind
use Rattle.dirfind.specs.contracts as dirfind_contracts
use Rattle.dirremoval.proofs as dirremoval
use Rattle.dirremoval.specs.contracts as dirremoval_contracts
use Rattle.bynumber.proofs as bynumber
use Rattle.bynumber.specs.contracts as bynumber_contracts
use Rattle.dirstripping.proofs as dirstripping
use Rattle.dirstripping.specs.contracts as dirstripping_contracts
use Rattle.dirclosing.proofs as dirclosing
use Rattle.dirclosing.specs.contracts as dirclosing_contracts
use Rattle.dirimage.proofs as dirimage
use Rattle.dirimage.specs.contracts as dirimage_contracts
use Rattle.demands.specs.Settles.{Settles, SettlesAll}
use Rattle.demands.proofs.Alike.{alike, answers-alike, told-alike, all_columns, edge_columns}

pub dir_check : SettlesAll dirsound_contracts.check.ended dirsound.check.Reads.Pre dirsound.check.Reads.Post
dir_check = (λ κs given. tt, λ κs given x y p q. answers-alike p q)

pub dir_add_edge : SettlesAll dirrows_contracts.add_edge.ended dirrows.add_edge.Reads.Pre dirrows.add_edge.Reads.Post
dir_add_edge = (λ κs given. tt, λ κs given x y p q. ap (λ o. (o.0, edge_columns o.1.net (o.1.directory, _))) (told-alike told_edge edge_told_once p q))

pub dir_set_edge_weight : SettlesAll dirrows_contracts.set_edge_weight.ended dirrows.set_edge_weight.Reads.Pre dirrows.set_edge_weight.Reads.Post
dir_set_edge_weight = (
  λ κs given. tt,
  λ κs given x y p q. ap (λ o. (o.0, (_, (_, (o.1.net.registers, (_, (_, (_, (_, (o.1.directory, _)))))))))) (told-alike told_change change_told_once p q),
)

pub dir_clear_edges : SettlesAll dirrows_contracts.clear_edges.ended dirrows.clear_edges.Reads.Pre dirrows.clear_edges.Reads.Post
dir_clear_edges = (λ κs given. tt, λ κs given x y p q. ap (λ o. (o.0, edge_columns o.1.net (o.1.directory, _))) (told-alike told_change change_told_once p q))

pub dir_clear : SettlesAll dirrows_contracts.clear.ended dirrows.clear.Reads.Pre dirrows.clear.Reads.Post
dir_clear = (λ κs given. tt, λ κs given x y p q. ap (λ o. (o.0, all_columns o.1.net (o.1.directory, _))) (told-alike told_change change_told_once p q))

pub dir_update_edge : SettlesAll dirfind_contracts.update_edge.ended dirfind.update_edge.Reads.Pre dirfind.update_edge.Reads.Post
dir_update_edge = (λ κs given. tt, λ κs given x y p q. ap (λ o. (o.0, edge_columns o.1.net (o.1.directory, _))) (told-alike told_edge edge_told_once p q))

pub dir_remove_edge : SettlesAll dirremoval_contracts.remove_edge.ended dirremoval.remove_edge.Reads.Pre dirremoval.remove_edge.Reads.Post
dir_remove_edge = (
  λ κs given. tt,
  λ κs given x y p q. ap (λ o. (o.0, edge_columns o.1.net (o.1.directory, _))) (told-alike told_edge_removed edge_removed_told_once p q),
)

pub find-number : SettlesAll bynumber_contracts.find_number.ended bynumber.find_number.Reads.Pre bynumber.find_number.Reads.Post
find-number = (λ κs given. tt, λ κs given x y p q. ap (λ r. (r, _)) (edge_told_once _ _ (alike p q)))

pub remove-number : SettlesAll bynumber_contracts.remove_number.ended bynumber.remove_number.Reads.Pre bynumber.remove_number.Reads.Post
remove-number = (
  λ κs given. tt,
  λ κs given x y p q. ap (λ o. (o.0, edge_columns o.1.net (o.1.directory, _))) (told-alike told_edge_removed edge_removed_told_once p q),
)

pub dir_remove_node : SettlesAll dirclosing_contracts.remove_node.ended dirclosing.remove_node.Reads.Pre dirclosing.remove_node.Reads.Post
dir_remove_node = (
  λ κs given. tt,
  λ κs given x y p q. ap (λ o. (o.0, all_columns o.1.0.net (o.1.0.directory, (_, (o.1.1, _))))) (told-alike told_node_removed node_removed_told_once p q),
)

pub dir_image_write : SettlesAll dirimage_contracts.image_write.ended dirimage.image_write.Reads.Pre dirimage.image_write.Reads.Post
dir_image_write = (λ κs given. tt, λ κs given x y p q. ap (λ o. (o.0, (_, (_, (o.1, _))))) (told-alike told_items items_told_once p q))

pub dir_image_read : SettlesAll dirimage_contracts.image_read.ended dirimage.image_read.Reads.Pre dirimage.image_read.Reads.Post
dir_image_read = (λ κs given. tt, λ κs given x y p q. ap (λ o. (o.0, all_columns o.1.net (o.1.directory, _))) (told-alike told_change change_told_once p q))

-- parts
pub directory_entry : Settles directory_contracts.parts.entry.ended directory.parts.entry.Reads.Post
directory_entry κs given x y p q = λ i. (record { 0 = alike p q i }, _)

pub directory_enter : Settles directory_contracts.parts.enter.ended directory.parts.enter.Reads.Post
directory_enter κs given x y p q = λ i. (_, (alike p q i, _))

pub directory_named : Settles directory_contracts.parts.named.ended directory.parts.named.Reads.Post
directory_named κs given x y p q = answers-alike p q

pub directory_rows_named : Settles directory_contracts.parts.rows_named.ended directory.parts.rows_named.Reads.Post
directory_rows_named κs given x y p q = answers-alike p q

pub directory_bears : Settles directory_contracts.parts.bears.ended directory.parts.bears.Reads.Post
directory_bears κs given x y p q = answers-alike p q

pub directory_stands : Settles directory_contracts.parts.stands.ended directory.parts.stands.Reads.Post
directory_stands κs given x y p q = answers-alike p q

pub directory_entries_stand : Settles directory_contracts.parts.entries_stand.ended directory.parts.entries_stand.Reads.Post
directory_entries_stand κs given x y p q = answers-alike p q

pub directory_is_right : Settles directory_contracts.parts.is_right.ended directory.parts.is_right.Reads.Post
directory_is_right κs given x y p q = answers-alike p q

pub directory_follow : Settles directory_contracts.parts.follow.ended directory.parts.follow.Reads.Post
directory_follow κs given x y p q = λ i. (_, (alike p q i, _))

-- no two claims have one number
claim_is : (r : Result Unit Refusal) → untold (Ok tt) Err (claim_no r) ≡ r
claim_is (Ok u) = refl
claim_is (Err why) = untold_refusal (Ok tt) Err why

claim_told_once : (r s : Result Unit Refusal) → claim_no r ≡ claim_no s → r ≡ s
claim_told_once = told-once claim_no (untold (Ok tt) Err) claim_is

pub dirrows_addable : Settles dirrows_contracts.parts.addable.ended dirrows.parts.addable.Reads.Post
dirrows_addable κs given x y p q = ap (λ r. (r, _)) (claim_told_once _ _ (alike (p 0) (q 0)))

pub dirrows_free_for : Settles dirrows_contracts.parts.free_for.ended dirrows.parts.free_for.Reads.Post
dirrows_free_for κs given x y p q = answers-alike p q

pub dirrows_reweigh : Settles dirrows_contracts.parts.reweigh.ended dirrows.parts.reweigh.Reads.Post
dirrows_reweigh κs given x y p q =
    let r = alike p.answer_is q.answer_is in
    λ i. (r i, (alike (rw r at p.registers_are) q.registers_are i, (alike (rw r at p.directory_is) q.directory_is i, _)))

pub dirremoval_take_out : Settles dirremoval_contracts.parts.take_out.ended dirremoval.parts.take_out.Reads.Post
dirremoval_take_out κs given x y p q =
    let e = told-alike told_edge_removed edge_removed_told_once (p.taken []) (q.taken []) in
    let d =
    p.directory_is
    ∙ ap (λ o. directory_after o.0 o.1.registers o.1.m given.1.1.1.1.1.1.1.0.0 given.1.1.1.1.1.1.0.now) e
    ∙ sym q.directory_is in
    λ i. ((e i).0, ((e i).1.heads, ((e i).1.registers, ((e i).1.links, ((e i).1.ends, (_, ((e i).1.m, (d i, _))))))))

pub dirstripping_strip : Settles dirstripping_contracts.parts.strip.ended dirstripping.parts.strip.Reads.Post
dirstripping_strip κs given x y p q =
    let e = alike (p.strips.rest []) (q.strips.rest []) in
    let count = p.strips.count_is ∙ ap length (ap (λ t. t.given) e) ∙ sym q.strips.count_is in
    let items = p.strips.items_are ∙ ap (λ t. onto t.given given.1.1.1.1.1.1.1.1.0.now) e ∙ sym q.strips.items_are in
    let d = p.directory_is ∙ ap (λ t. directory_of (length given.1.1.1.1.1.1.0.now) (register_in t.rest.registers) t.rest.m) e ∙ sym q.directory_is in
    λ i. (
      record { rows = (e i).rows; count = count i },
      ((e i).rest.heads, ((e i).rest.registers, ((e i).rest.links, ((e i).rest.ends, (_, ((e i).rest.m, (d i, (_, (items i, _))))))))),
    )

pub dirclosing_take_node : Settles dirclosing_contracts.parts.take_node.ended dirclosing.parts.take_node.Reads.Post
dirclosing_take_node κs given x y p q =
    let e = alike p.closes q.closes in
    let d = p.directory_is ∙ ap (λ o. directory_of (length given.1.1.1.1.1.1.1.0.now) (register_of o.after.0) o.after.0.m) e ∙ sym q.directory_is in
    λ i. (
      record { weight = (e i).answer.values.0; rows = (e i).answer.values.1; count = (e i).answer.values.2 },
      all_columns (e i).after.0 (d i, (_, ((e i).after.1, _))),
    )

pub dirclosing_removable : Settles dirclosing_contracts.parts.removable.ended dirclosing.parts.removable.Reads.Post
dirclosing_removable κs given x y p q = ap (λ r. (r, _)) (claim_told_once _ _ (alike p q))

pub dirimage_fill_by : Settles dirimage_contracts.parts.fill_by.ended dirimage.parts.fill_by.Reads.Post
dirimage_fill_by κs given x y p q = ap (λ o. (o.0, all_columns o.1.net (o.1.directory, _))) (told-alike told_change change_told_once p q)
