-- Each `return` is told by the extents of the two lists, and what is taken of them.
use Rattle.std.proofs.Common.{rules, arith}
use Rattle.legs.proofs.Laws.{both-known, none-settled, both-settled, leg_few}
use Rattle.legs.proofs.parts.settle.Goals as goal

pub returns-in_err-rows : goal.returns-in_err-rows
returns-in_err-rows c =
    rw c.from_residual.ensures
    (none-settled _ c.args.ends.now _ c.args.first c.args.second c.count_both.ensures c.in_err-rows.was)

pub taken-mid-requires : goal.taken-mid-requires
taken-mid-requires c =
    let b = both-known c.args.first c.args.second c.count_both.ensures c.in_ok-rows.was in
    record { edges = search rules; all_rows = b.first_rows }

pub taken-more-requires : goal.taken-more-requires
taken-more-requires c =
    let b = both-known c.args.first c.args.second c.count_both.ensures c.in_ok-rows.was in
    record { edges = search rules; all_rows = b.second_rows }

pub overflow_add-result : goal.overflow_add-result
overflow_add-result c =
    let a = c.args in
    let f = leg_few a.links.now a.ends.now a.m a.first in
    let g = leg_few a.links.now a.ends.now a.m a.second in
    record { fits = omega (arith, c.taken-mid.ensures, c.taken-more.ensures, f, g, c.requires.few) }

pub returns : goal.returns
returns c =
    let b = both-known c.args.first c.args.second c.count_both.ensures c.in_ok-rows.was in
    both-settled c.args.links.now c.args.ends.now c.args.m c.args.first c.args.second b c.taken-mid.ensures c.taken-more.ensures
