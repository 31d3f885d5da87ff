use Rattle.std.proofs.Common.{◌<◌, length, refl, sym, ap, ◌∙◌, arith}
use Rattle.index.specs.Index.{is_end}
use Rattle.index.proofs.Laws.{number-below}
use Rattle.stripping.proofs.Headwise.{head-is, head-goes, number_of-all, head-cell, removable_so, served_so, turned_by}
use Rattle.stripping.proofs.Phases.{few_edges, phased_more, room_for-more, phased_rest, phased_items, phased_as}
use Rattle.dirstripping.proofs.Turns.{right_turned, directory_so}
use Rattle.dirstripping.proofs.parts.strip.Goals as goal
use Rattle.dirstripping.proofs.parts.strip.Goals.{then-is_end, else-is_end+in_default}

pub bounds-heads-index : goal.bounds-heads-index
bounds-heads-index c =
    let l : c.loop-d.d-index < 2 = omega arith in
    let f = head-cell c.heads.invariant.0.alive _ c.requires.strippable.node in
    omega (arith, f.0, c.index.ensures, c.number.ensures, number_of-all c.loop-d.d-index l)

pub take_out-requires : goal.take_out-requires
take_out-requires c =
    let H = c.heads.heads in
    let head = head-is H c.heads.links c.index.ensures c.number.ensures refl in
    let edge = head-goes H c.heads.links c.index.ensures c.number.ensures refl c.is_end.ensures c.if-is_end.false in
    removable_so _ _ _ _ _ _ _ _ _ _ _ _ _ _ _ _ _ _ _ c.heads.invariant.0 (number-below _) c.requires.strippable.node edge H H H H 0 _ head

-- there is room for the edge's weight
pub bounds-items-count : goal.bounds-items-count
bounds-items-count c =
    let p = c.requires.strippable in
    let l : c.loop-d.d-index < 2 = omega arith in
    let k = number_of-all c.loop-d.d-index l in
    let edge = head-goes c.heads.heads c.heads.links c.index.ensures c.number.ensures k c.is_end.ensures c.if-is_end.false in
    room_for-more _ _ _ _ _ _ _ _ c.loop-d.invariant.0 (rw k at c.heads.invariant.0) p.totals p.room l p.node edge

-- few edges are counted
pub overflow_add-count : goal.overflow_add-count
overflow_add-count c =
    let i = c.heads.invariant.0 in
    let l = c.loop-d.invariant.0 in
    let f = few_edges c.requires.strippable in
    let room : c.heads.count < length c.heads.items = bounds-items-count c in
    omega (arith, i.each, l.each, f)

pub heads-smaller : goal.heads-smaller
heads-smaller c =
    let k = c.take_out.auto in
    let head = head-is c.heads.heads c.heads.links c.index.ensures c.number.ensures refl in
    let edge = head-goes c.heads.heads c.heads.links c.index.ensures c.number.ensures refl c.is_end.ensures c.if-is_end.false in
    let small : c.in-Ok.gone.rows < 4294967296 = omega arith in
    let l : c.loop-d.d-index < 2 = omega arith in
    let d = number_of-all c.loop-d.d-index l in
    let p = c.requires.strippable in
    let room = room_for-more _ _ _ _ _ _ _ _ c.loop-d.invariant.0 (rw d at c.heads.invariant.0) p.totals p.room l p.node (rw d at edge) in
    (turned_by _ _ _ _ _ _ _ _ _ _ _ _ _ _ _ _ _ _ _ c.heads.invariant.0 (number-below _) c.requires.strippable.node edge _ _ _ _ _ _ _ _
    c.in-Ok.is head c.take_out.ensures.taken k.heads k.registers k.links k.ends small room).0

pub heads-preserved : goal.heads-preserved
heads-preserved c =
    let i = c.heads.invariant in
    let k = c.take_out.auto in
    let r = c.take_out.ensures in
    let H = c.heads.heads in
    let head = head-is H c.heads.links c.index.ensures c.number.ensures refl in
    let edge = head-goes H c.heads.links c.index.ensures c.number.ensures refl c.is_end.ensures c.if-is_end.false in
    let small : c.in-Ok.gone.rows < 4294967296 = omega arith in
    let l : c.loop-d.d-index < 2 = omega arith in
    let d = number_of-all c.loop-d.d-index l in
    let p = c.requires.strippable in
    let room = room_for-more _ _ _ _ _ _ _ _ c.loop-d.invariant.0 (rw d at i.0) p.totals p.room l p.node (rw d at edge) in
    let t =
    turned_by _ _ _ _ _ _ _ _ _ _ _ _ _ _ _ _ _ _ _ i.0 (number-below _) p.node edge _ _ _ _ _ _ _ _
    c.in-Ok.is head r.taken k.heads k.registers k.links k.ends small room in
    let b = removable_so _ _ _ _ _ _ _ _ _ _ _ _ _ _ _ _ _ _ _ i.0 (number-below _) p.node edge H H H H 0 _ head in
    (rw c.from-rows.ensures t.1, k.directory ∙ i.1, right_turned i.0.alive _ _ _ c.in-Ok.is b.within.edge r.taken r.directory_is i.2)

pub loop-d-preserved : goal.loop-d-preserved
loop-d-preserved c =
    let l : c.loop-d.d-index < 2 = omega arith in
    let k = number_of-all c.loop-d.d-index l in
    let head = head-is c.heads.heads c.heads.links c.index.ensures c.number.ensures k in
    let e = ap is_end (sym head) ∙ sym c.is_end.ensures in
    let i = c.heads.invariant in
    let o = c.loop-d.invariant in
    let t = rw k at i.0 in
    elim c.if-is_end.branch [
      | then-is_end w ↦ (
        phased_as _ _ _ _ _ _ _ _ (phased_more _ _ _ _ _ _ _ _ o.0 t l (e ∙ w.if-is_end.true)) w.heads-is w.registers-is w.links-is w.ends-is w.m-is,
        ap length w.directory-is ∙ i.1 ∙ o.1,
        rw (w.registers-is, w.m-is, w.directory-is) i.2,
      )
      | else-is_end+in_default w ↦
          absurd (served_so _ _ _ _ _ _ _ _ _ _ _ _ _ _ _ _ _ _ _ t l c.requires.strippable.node (e ∙ w.if-is_end.false) _ _ _ _ _ _ _ _
          w.in_default.is head (w.take_out.ensures.taken t.alive.totals))
    ]

pub returns : goal.returns
returns c =
    let i = c.loop-d.invariant in
    let p = i.0 in
    let f = few_edges c.requires.strippable in
    record {
      strips =
          record {
            given = p.given;
            rest = phased_rest _ _ _ _ _ _ _ _ p (omega arith);
            count_is = sym p.many;
            items_are = phased_items _ _ _ _ _ _ _ _ p;
            fewer = p.fewer;
            few = omega (arith, p.few, f);
          };
      directory_is = directory_so c.loop-d.registers _ _ c.args.directory.now i.2 i.1 (omega (arith, p.fewer, f));
    }
