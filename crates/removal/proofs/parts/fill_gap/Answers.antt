-- The last row is lost, or moves.
use Rattle.std.proofs.Common.{arith}
use Rattle.removal.proofs.Reaches.{reached}
use Rattle.removal.proofs.Ways.{last_lost, last_moves}
use Rattle.removal.proofs.parts.fill_gap.Goals as goal

pub overflow_add-result : goal.overflow_add-result
overflow_add-result c =
    let p = c.requires in
    let w = reached _ _ _ _ _ _ _ _ c.change_edge_links.ensures.answer_is c.in-Some.is in
    record { fits = omega (arith, w.few, p.few, p.removable.within.edges_most) }

pub returns-in_default : goal.returns-in_default
returns-in_default c =
    λ W.
    let f = c.change_edge_links.ensures in
    let h = c.lead.ensures in
    last_lost W _ _ _ _ _ _ _ _ _ _ _ _ _ f.answer_is f.heads_are f.links_are _ _ c.in_default.is h.heads_are h.links_are

pub returns : goal.returns
returns c =
    λ W.
    let f = c.change_edge_links.ensures in
    let h = c.move_last.ensures in
    last_moves W _ _ _ _ _ _ _ _ _ _ _ _ _ f.answer_is f.heads_are f.links_are _ _ _ _ _ c.in-Some.is c.index.ensures
    h.registers_are h.links_are h.ends_are
