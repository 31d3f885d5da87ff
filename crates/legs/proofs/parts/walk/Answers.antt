-- Each `return` is told by how the two legs were prepared.
use Rattle.std.proofs.Common.{sym, ◌∙◌, arith}
use Rattle.std.proofs.lemmas.Result.{err_from_is_err_and}
use Rattle.legs.proofs.Laws.{told_by, both-fit, written-many, items_few_both}
use Rattle.legs.proofs.parts.walk.Goals as goal

pub returns-in_err-both : goal.returns-in_err-both
returns-in_err-both c =
    let p = err_from_is_err_and c.from_residual.result c.from_residual.ensures.1 in
    rw (p.1, p.2) (told_by c.args.registers.now _ _ _ c.args.item _ _ c.args.items.now c.prepare.ensures c.in_err-both.was)

pub give_both-count-requires : goal.give_both-count-requires
give_both-count-requires c =
    let f = both-fit _ _ _ _ _ _ (sym c.prepare.ensures ∙ c.in_ok-both.was) in
    record { legs = c.requires; first_rows = f.first_rows; second_rows = f.second_rows; room = f.holds }

pub overflow_cast-result : goal.overflow_cast-result
overflow_cast-result c =
    let a = c.args in
    let n = written-many _ _ _ c.give_both-count.ensures in
    record { fits = omega (arith, n, items_few_both a.registers.now a.links.now a.ends.now a.m a.item a.first a.second, c.requires.few) }

pub returns : goal.returns
returns c =
    c.give_both-count.ensures ∙ told_by c.args.registers.now _ _ _ c.args.item _ _ c.args.items.now c.prepare.ensures c.in_ok-both.was
