-- Refused by what `addable` or the number's claim told; past both, the parts' columns and the entry are the definition's.
use Rattle.std.proofs.Common.{sym, arith}
use Rattle.std.proofs.lemmas.Result.{err_from_is_err_and}
use Rattle.tables.specs.Net.{net}
use Rattle.rows.proofs.Served.{edge-linked}
use Rattle.directory.specs.Directory.{filed}
use Rattle.dirrows.proofs.Ways.{Room, not_addable, room, entered_so}
use Rattle.dirrows.proofs.add_edge.Goals as goal

pub link_edge-requires : goal.link_edge-requires
link_edge-requires c =
    let g = net c.args.weights.now c.args.heads.now c.args.registers.now c.args.links.now c.args.ends.now c.args.n c.args.m.now in
    let r : Room g c.args.a.0 c.args.b.0 = room (filed g c.args.directory.now) _ _ c.args.w _ c.addable.ensures c.in_ok-addable.was in
    let f = r.fit in
    record { source_row = omega arith; target_row = omega arith; edge_row_lem = record { registers_hold = omega arith; links_hold = omega arith; ends_hold = omega arith } }

pub overflow_add-m : goal.overflow_add-m
overflow_add-m c =
    let g = net c.args.weights.now c.args.heads.now c.args.registers.now c.args.links.now c.args.ends.now c.args.n c.args.m.now in
    let r : Room g c.args.a.0 c.args.b.0 = room (filed g c.args.directory.now) _ _ c.args.w _ c.addable.ensures c.in_ok-addable.was in
    let f = r.fit in
    omega arith

pub returns-in_err-addable : goal.returns-in_err-addable
returns-in_err-addable c =
    let g = net c.args.weights.now c.args.heads.now c.args.registers.now c.args.links.now c.args.ends.now c.args.n c.args.m.now in
    let p = err_from_is_err_and c.from_residual.result c.from_residual.ensures.1 in
    rw (p.1, p.2) (not_addable (filed g c.args.directory.now) _ _ _ _ c.addable.ensures _ c.in_err-addable.was)

pub returns : goal.returns
returns c =
    let g = net c.args.weights.now c.args.heads.now c.args.registers.now c.args.links.now c.args.ends.now c.args.n c.args.m.now in
    entered_so (filed g c.args.directory.now) _ _ _ _ c.addable.ensures c.in_ok-addable.was _ _
    (sym c.in_ok-free_for.ensures) (edge-linked _ _ _ _ _ _ _ _ _ _ c.link_edge.ensures) c.enter.ensures
