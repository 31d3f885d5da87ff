-- Each `return` is told by how the two legs were prepared.
use Rattle.std.proofs.Common.{◌≡◌, ◌∙◌, arith}
use Rattle.std.proofs.lemmas.Result.{err_from_is_err_and}
use Rattle.lists.specs.declared.Item.TheVariants.{Number, Far}
use Rattle.legs.specs.Legs.{tables3}
use Rattle.legs.proofs.Laws.{least_room, edges_told_by, ready, as_many, written-many, items_few_both, three_written}
use Rattle.legs.proofs.parts.walk_edges.Goals as goal

pub returns-in_err-both : goal.returns-in_err-both
returns-in_err-both c =
    let a = c.args in
    let t = tables3 a.numbers.now a.sources.now a.targets.now in
    let room : c.min-room.result ≡ least_room t = rw c.min.ensures at c.min-room.ensures in
    let p = err_from_is_err_and c.from_residual.result c.from_residual.ensures.1 in
    rw (p.1, p.2) (edges_told_by a.registers.now a.links.now a.ends.now a.m a.first a.second t room c.prepare.ensures c.in_err-both.was)

pub give_both-requires : goal.give_both-requires
give_both-requires c = ready c.requires c.prepare.ensures c.in_ok-both.was (omega arith)

pub give_both-requires-2 : goal.give_both-requires-2
give_both-requires-2 c = ready c.requires c.prepare.ensures c.in_ok-both.was (omega arith)

pub give_both-count-requires : goal.give_both-count-requires
give_both-count-requires c = ready c.requires c.prepare.ensures c.in_ok-both.was (omega arith)

pub overflow_cast-result : goal.overflow_cast-result
overflow_cast-result c =
    let a = c.args in
    let n = written-many _ _ _ c.give_both-count.ensures in
    record { fits = omega (arith, n, items_few_both a.registers.now a.links.now a.ends.now a.m Far a.first a.second, c.requires.few) }

pub returns : goal.returns
returns c =
    let a = c.args in
    let t = tables3 a.numbers.now a.sources.now a.targets.now in
    let room : c.min-room.result ≡ least_room t = rw c.min.ensures at c.min-room.ensures in
    three_written _ _ _ t _ _ _ (as_many a.registers.now a.links.now a.ends.now a.m Far Number a.first a.second)
    c.give_both.ensures c.give_both-2.ensures c.give_both-count.ensures
    ∙ edges_told_by a.registers.now a.links.now a.ends.now a.m a.first a.second t room c.prepare.ensures c.in_ok-both.was
