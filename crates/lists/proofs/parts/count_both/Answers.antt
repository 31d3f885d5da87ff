use Rattle.std.proofs.Common.{[], ◌∷◌, ◌++◌, arith}
use Rattle.lists.proofs.Walks.{onward}
use Rattle.lists.proofs.Counts.{first_endless, second_endless, both-ended}
use Rattle.lists.proofs.parts.count_both.Goals as goal

pub returns-then-rows-m : goal.returns-then-rows-m
returns-then-rows-m c = first_endless c.loop-e.invariant.1 _ _ c.loop-e-test.true c.if-rows-m.true

-- both lists are a row further on
pub loop-e-preserved-then-f-m : goal.loop-e-preserved-then-f-m
loop-e-preserved-then-f-m c =
    let l = c.loop-e in
    let i = l.invariant in
    rw (c.index.ensures, c.index-then-f-m.ensures) (
      i.0 ++ (l.e ∷ []),
      onward i.1 c.loop-e-test.true c.if-rows-m.false (c.type_inv.links _).fits,
      (i.2.0 ++ (l.f ∷ []), onward i.2.1 c.if-f-m.true (λ h. omega arith) (c.type_inv.links _).fits),
      omega arith,
    )

-- the first alone
pub loop-e-preserved : goal.loop-e-preserved
loop-e-preserved c =
    let l = c.loop-e in
    let i = l.invariant in
    rw c.index.ensures (
      i.0 ++ (l.e ∷ []),
      onward i.1 c.loop-e-test.true c.if-rows-m.false (c.type_inv.links _).fits,
      i.2,
      omega arith,
    )

pub returns-then-others-m : goal.returns-then-others-m
returns-then-others-m c =
    second_endless c.loop-e.invariant.1 c.loop-f.invariant.1 c.loop-e-test.false c.loop-f-test.true c.if-others-m.true

pub loop-f-preserved : goal.loop-f-preserved
loop-f-preserved c =
    let l = c.loop-f in
    let i = l.invariant in
    rw c.index-in-loop-f.ensures
    (i.0 ++ (l.f ∷ []), onward i.1 c.loop-f-test.true c.if-others-m.false (c.type_inv.links _).fits)

pub returns : goal.returns
returns c = both-ended c.loop-e.invariant.1 c.loop-f.invariant.1 c.loop-e-test.false c.loop-f-test.false
