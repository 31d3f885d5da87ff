-- The second leg is given behind the first.
use Rattle.std.proofs.Common.{rules, arith, length, ◌∙◌}
use Rattle.legs.specs.Legs.{leg_takes}
use Rattle.legs.proofs.Laws.{gives-length, written-many, leg_given, room_behind, both-written}
use Rattle.legs.proofs.parts.give_both.Goals as goal

pub offset_bounds-items-mid : goal.offset_bounds-items-mid
offset_bounds-items-mid c =
    let a = c.args in
    let r = c.requires.room in
    let g = leg_given a.registers.now a.links.now a.ends.now a.m a.item a.first _ _ c.give-mid.ensures (omega arith) in
    let mid = g.0 in
    search rules

pub slice_bounds-rest-count : goal.slice_bounds-rest-count
slice_bounds-rest-count c =
    let a = c.args in
    let r = c.requires.room in
    let g = leg_given a.registers.now a.links.now a.ends.now a.m a.item a.first _ _ c.give-mid.ensures (omega arith) in
    omega (arith, g.0, g.1)

pub slice_bounds-rest-start : goal.slice_bounds-rest-start
slice_bounds-rest-start c =
    let a = c.args in
    let r = c.requires.room in
    let g = leg_given a.registers.now a.links.now a.ends.now a.m a.item a.first _ _ c.give-mid.ensures (omega arith) in
    omega (arith, g.0, g.1)

pub give-requires : goal.give-requires
give-requires c =
    let a = c.args in
    let r = c.requires.room in
    let g = leg_given a.registers.now a.links.now a.ends.now a.m a.item a.first _ _ c.give-mid.ensures (omega arith) in
    record {
      known = record { edges = search rules; all_rows = c.requires.second_rows };
      registers_hold = c.requires.legs.registers_hold;
      room = room_behind c.give-mid.new.items c.give-mid.result (length (leg_takes a.links.now a.ends.now a.m a.second)) (omega (arith, g.0, g.1));
    }

pub overflow_add-result : goal.overflow_add-result
overflow_add-result c =
    let a = c.args in
    let f = written-many _ _ _ c.give-mid.ensures ∙ gives-length a.registers.now a.links.now a.ends.now a.m a.item a.first in
    let g = written-many _ _ _ c.give.ensures ∙ gives-length a.registers.now a.links.now a.ends.now a.m a.item a.second in
    let r = c.requires.room in
    search rules

pub returns : goal.returns
returns c = both-written _ _ _ _ _ c.give-mid.ensures c.give.ensures
