use Rattle.std.proofs.Common.{◌≡◌, arith, [], ◌∷◌, ◌++◌, length, length-set, sym, ap, ◌∙◌}
use Rattle.tables.specs.Net.{edge_cell}
use Rattle.lists.proofs.Walks.{onward, all_met}
use Rattle.dropping.specs.Drop.{ended}
use Rattle.dropping.proofs.Ends.{ended-more, all_out_lem}
use Rattle.dropping.proofs.parts.renumber.Goals as goal

pub loop-rows-preserved : goal.loop-rows-preserved
loop-rows-preserved c =
    let l = c.loop-rows in
    let i = l.invariant in
    let a = c.args in
    rw c.index.ensures (
      i.0 ++ (l.e ∷ []),
      onward i.1 c.if-m-e.false (λ h. omega (arith, h)) (c.type_inv.links _).fits,
      length-set l.ends (edge_cell l.e a.k) a.a.0 ∙ i.2,
      rw i.3 (sym (ended-more a.k a.a.0 i.0 l.e a.ends.now)),
    )

pub returns-then-m-e : goal.returns-then-m-e
returns-then-m-e c =
    let i = c.loop-rows.invariant in
    let w = sym (all_met i.1 c.if-m-e.true) in
    record { rows_are = sym i.1.many ∙ ap length w; few = i.1.most; ends_are = i.3 ∙ ap (λ xs. ended c.args.k c.args.a.0 xs c.args.ends.now) w }

pub returns : goal.returns
returns c =
    let i = c.loop-rows.invariant in
    let z : c.loop-rows.rows ≡ c.args.m = omega (arith, i.1.most) in
    let w = sym (all_out_lem i.1 z) in
    record {
      rows_are = sym z ∙ sym i.1.many ∙ ap length w;
      few = omega arith;
      ends_are = i.3 ∙ ap (λ xs. ended c.args.k c.args.a.0 xs c.args.ends.now) w;
    }
