-- Each list is told by how its search ended.
use Rattle.std.proofs.Common.{refl, ◌∙◌, ◌≡◌, sym, arith}
use Rattle.find.specs.Parts.{sought_from}
use Rattle.find.proofs.Laws.{turn}
use Rattle.find.proofs.parts.seek.Goals as goal

pub loop-direction-init : goal.loop-direction-init
unfolding sought_from
loop-direction-init c = refl

pub returns-in-At : goal.returns-in-At
returns-in-At c =
    let a = c.args in
    let t = turn a.heads.now a.links.now a.ends.now a.m a.a.0 a.b.0 c.loop-direction.direction-index c.loop-direction-test.true c.number-k.ensures
    (rw c.index.ensures at c.in-At.ensures) in
    sym (c.loop-direction.invariant ∙ t)

pub returns-in-Broken : goal.returns-in-Broken
returns-in-Broken c =
    let a = c.args in
    let t = turn a.heads.now a.links.now a.ends.now a.m a.a.0 a.b.0 c.loop-direction.direction-index c.loop-direction-test.true c.number-k.ensures
    (rw c.index.ensures at c.in-Broken.ensures) in
    sym (c.loop-direction.invariant ∙ t)

pub loop-direction-preserved : goal.loop-direction-preserved
loop-direction-preserved c =
    let a = c.args in
    let t = turn a.heads.now a.links.now a.ends.now a.m a.a.0 a.b.0 c.loop-direction.direction-index c.loop-direction-test.true c.number-k.ensures
    (rw c.index.ensures at c.in-End.ensures) in
    c.loop-direction.invariant ∙ t

pub returns : goal.returns
returns c =
    let a = c.args in
    let i : c.loop-direction.direction-index ≡ 2 = omega arith in
    sym (rw i at c.loop-direction.invariant)
