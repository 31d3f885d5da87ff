-- Each end is what `located` says of the columns at entry.
use Rattle.std.proofs.Common.{refl, ap, ◌∙◌, arith}
use Rattle.lists.specs.declared.Spot.TheVariants.{Head}
use Rattle.links.proofs.Hits.{place_of, place_kept}
use Rattle.links.proofs.Walks.{no_source, no_target, not_met, outgoing_hit, as_before, incoming_hit, both-met, second_not_met}
use Rattle.links.proofs.parts.change_edge_links.Goals as goal

pub returns-then-n-a : goal.returns-then-n-a
returns-then-n-a c = record { answer_is = no_source _ _ _ _ _ _ _ c.index-cell.ensures c.if-n-a.true; heads_are = refl; links_are = refl }

pub returns-then-n-b : goal.returns-then-n-b
returns-then-n-b c = record { answer_is = no_target _ _ _ _ _ _ _ c.index-cell.ensures c.if-n-b.true; heads_are = refl; links_are = refl }

pub change_link-requires-2 : goal.change_link-requires-2
change_link-requires-2 c =
    let f = c.change_link.ensures in
    let s = c.requires in
    let same = as_before _ _ c.args.ends.now _ _ _ _ c.index-cell.ensures _ c.if-n-a.false _ _ _ f.answer_is f.heads_are f.links_are _ _ c.in_ok-outgoing.was in
    record {
      direction = omega arith;
      head = omega (arith, c.change_link.auto.heads, c.if-n-b.false, s.heads_hold);
      first_is = rw (← c.index-2.ensures) (ap (λ lk. lk (Head c.index-2.result)) same);
      links_hold = omega (arith, c.change_link.auto.links, s.links_hold);
    }

pub relink-requires : goal.relink-requires
relink-requires c =
    let f = c.change_link.ensures in
    let k = c.change_link.auto in
    let l = c.change_link-2.auto in
    let s = c.requires in
    let h = outgoing_hit _ _ c.args.ends.now _ _ _ _ c.index-cell.ensures _ c.if-n-a.false _ _ _ f.answer_is f.heads_are f.links_are _ _ c.in_ok-outgoing.was in
    place_kept 0 _ (l.heads ∙ k.heads) (l.links ∙ k.links) (place_of _ _ _ _ 0 (omega arith) s.heads_hold s.links_hold _ h.spot)

pub overflow_add-result : goal.overflow_add-result
overflow_add-result c =
    let E = c.args.ends.now in
    let x = c.index-cell.ensures in
    let f = c.change_link.ensures in
    let g = c.change_link-2.ensures in
    let z = c.in_ok-outgoing.was in
    let h = outgoing_hit _ _ E _ _ _ _ x _ c.if-n-a.false _ _ _ f.answer_is f.heads_are f.links_are _ _ z in
    let i =
    incoming_hit _ _ E _ _ _ _ x _ c.if-n-a.false _ _ _ f.answer_is f.heads_are f.links_are _ _ z _ c.if-n-b.false _ _ _
    g.answer_is g.heads_are g.links_are _ _ c.in-Some.is in
    record { fits = omega (arith, h.few, i.few, c.requires.edges_most) }

pub returns-in_err-outgoing : goal.returns-in_err-outgoing
returns-in_err-outgoing c =
    let f = c.change_link.ensures in
    let t = not_met _ _ c.args.ends.now _ _ _ _ c.index-cell.ensures _ c.if-n-a.false _ _ _ f.answer_is f.heads_are f.links_are c.in_err-outgoing.was in
    rw c.from_residual.ensures (record { answer_is = t.0; heads_are = t.1; links_are = t.2 })

pub returns-in_default : goal.returns-in_default
returns-in_default c =
    let f = c.change_link.ensures in
    let g = c.change_link-2.ensures in
    let h = c.relink.ensures in
    let t =
    second_not_met _ _ c.args.ends.now _ _ _ _ c.index-cell.ensures _ c.if-n-a.false _ _ _ f.answer_is f.heads_are f.links_are _ _
    c.in_ok-outgoing.was _ c.if-n-b.false _ _ _ g.answer_is g.heads_are g.links_are _ _ c.in_default.is h.0 h.1 in
    record { answer_is = t.0; heads_are = t.1; links_are = t.2 }

pub returns : goal.returns
returns c =
    let f = c.change_link.ensures in
    let g = c.change_link-2.ensures in
    let t =
    both-met _ _ c.args.ends.now _ _ _ _ c.index-cell.ensures _ c.if-n-a.false _ _ _ f.answer_is f.heads_are f.links_are _ _
    c.in_ok-outgoing.was _ c.if-n-b.false _ _ _ g.answer_is g.heads_are g.links_are _ _ c.in-Some.is in
    record { answer_is = t.0; heads_are = t.1; links_are = t.2 }
