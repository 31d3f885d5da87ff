-- Refused by what `removable` told; where nothing stands against it, the part leaves what the definition says.
use Rattle.std.proofs.Common.{Ok}
use Rattle.std.proofs.lemmas.Result.{err_from_is_err_and}
use Rattle.tables.specs.Net.{net}
use Rattle.directory.specs.Directory.{filed}
use Rattle.dirclosing.proofs.Ways.{refused_so, ready_so, taken_so}
use Rattle.dirclosing.proofs.remove_node.Goals as goal

pub take_node-requires : goal.take_node-requires
take_node-requires c =
    let a = c.args in
    let f = filed (net a.weights.now a.heads.now a.registers.now a.links.now a.ends.now a.n.now a.m.now) a.directory.now in
    ready_so f a.a.0 a.items.now c.removable.result c.removable.ensures c.in_ok-removable.was

pub returns-in_err-removable : goal.returns-in_err-removable
returns-in_err-removable c =
    let a = c.args in
    let f = filed (net a.weights.now a.heads.now a.registers.now a.links.now a.ends.now a.n.now a.m.now) a.directory.now in
    let p = err_from_is_err_and c.from_residual.result c.from_residual.ensures.1 in
    rw (p.1, p.2) (refused_so f a.a.0 a.items.now c.removable.result c.removable.ensures _ c.in_err-removable.was)

pub returns : goal.returns
returns c =
    let a = c.args in
    let f = filed (net a.weights.now a.heads.now a.registers.now a.links.now a.ends.now a.n.now a.m.now) a.directory.now in
    taken_so f a.a.0 a.items.now c.removable.result c.removable.ensures c.in_ok-removable.was (Ok c.take_node.result) _ _ _ c.take_node.ensures
