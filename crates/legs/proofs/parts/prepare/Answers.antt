-- Each `return` is told by the extents of the two lists and the test that led there.
use Rattle.std.proofs.Common.{rules}
use Rattle.std.proofs.lemmas.Result.{err_from_is_err_and}
use Rattle.legs.proofs.Laws.{one_broken, both-known, room_for-rows, room_for_items, no_room}
use Rattle.legs.proofs.parts.prepare.Goals as goal

pub returns-in_err-rows : goal.returns-in_err-rows
returns-in_err-rows c =
    let none = rw c.in_err-rows.was at c.ok_or.ensures.ok_part in
    let why = rw none at c.ok_or.ensures.value in
    let p = err_from_is_err_and c.from_residual.result c.from_residual.ensures.1 in
    let b = one_broken _ c.args.ends.now _ c.args.first c.args.second c.args.room c.count_both-extents.ensures none in
    cc (p.1, p.2, c.in_err-rows.was)

pub taken-mid-requires : goal.taken-mid-requires
taken-mid-requires c =
    let b = both-known c.args.first c.args.second c.count_both-extents.ensures (rw c.in_ok-rows.was at c.ok_or.ensures.ok_part) in
    record { edges = search rules; all_rows = b.first_rows }

pub taken-more-requires : goal.taken-more-requires
taken-more-requires c =
    let b = both-known c.args.first c.args.second c.count_both-extents.ensures (rw c.in_ok-rows.was at c.ok_or.ensures.ok_part) in
    record { edges = search rules; all_rows = b.second_rows }

pub returns-then-room-mid : goal.returns-then-room-mid
returns-then-room-mid c =
    let b = both-known c.args.first c.args.second c.count_both-extents.ensures (rw c.in_ok-rows.was at c.ok_or.ensures.ok_part) in
    no_room _ c.args.ends.now _ c.args.first c.args.second _ b (rw (← c.taken-mid.ensures, ← c.taken-more.ensures) c.if-room-mid.true)

pub returns-else-room-mid : goal.returns-else-room-mid
returns-else-room-mid c =
    let b = both-known c.args.first c.args.second c.count_both-extents.ensures (rw c.in_ok-rows.was at c.ok_or.ensures.ok_part) in
    room_for_items _ c.args.ends.now _ c.args.first c.args.second _ b (rw (← c.taken-mid.ensures, ← c.taken-more.ensures) c.if-room-mid.false)

pub returns-else-room-rows : goal.returns-else-room-rows
returns-else-room-rows c =
    let b = both-known c.args.first c.args.second c.count_both-extents.ensures (rw c.in_ok-rows.was at c.ok_or.ensures.ok_part) in
    room_for-rows _ c.args.ends.now _ c.args.first c.args.second _ b c.if-room-rows.false
