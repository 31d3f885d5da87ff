use Rattle.std.proofs.Common.{[], ◌∷◌, ◌++◌, sym, ◌∙◌, arith}
use Rattle.lists.proofs.Walks.{onward, filter_leaves}
use Rattle.lists.proofs.Firsts.{first_hit, first_end, first_broken}
use Rattle.lists.proofs.parts.first.Goals as goal

pub loop-e-preserved : goal.loop-e-preserved
loop-e-preserved c =
    let i = c.loop-e.invariant in
    let q = c.index-row.ensures in
    let t = rw q at (sym c.picks.ensures ∙ c.if-picks.false) in
    rw q (
      i.0 ++ (c.loop-e.e ∷ []),
      onward i.1 (omega arith) c.if-rows-m.false (c.type_inv.links _).fits,
      filter_leaves _ i.0 c.loop-e.e t ∙ i.2,
    )

pub returns-then-m-e : goal.returns-then-m-e
returns-then-m-e c = let i = c.loop-e.invariant in first_end _ i.1 i.2 c.if-m-e.true

pub returns-then-rows-m : goal.returns-then-rows-m
returns-then-rows-m c = let i = c.loop-e.invariant in first_broken _ i.1 i.2 (omega arith) c.if-rows-m.true

pub returns-then-picks : goal.returns-then-picks
returns-then-picks c =
    let i = c.loop-e.invariant in
    let t = rw c.index-row.ensures at (sym c.picks.ensures ∙ c.if-picks.true) in
    first_hit _ i.1 i.2 (omega arith) c.if-rows-m.false t
