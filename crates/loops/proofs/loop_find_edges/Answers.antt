use Prim.{tt}
use Rattle.std.proofs.Common.{◌+◌, ◌*◌, ◌≡◌, ◌/◌, ◌<◌, length, refl, ap, arith}
use Rattle.tables.specs.Answers.{out}
use Rattle.loops.proofs.Laws.{calls-more, row_cell}
use Rattle.loops.proofs.loop_find_edges.Goals as goal

pub loop-a-preserved : goal.loop-a-preserved
loop-a-preserved c =
    let i = c.loop-a.a-index in
    let xs = c.args.pairs.now in
    let k = length xs / 2 in
    let l : i < k = omega (arith, c.as_chunks.ensures.front_len) in
    let a = row_cell 2 k i 0 (2 * i) xs l (omega arith) (omega arith) in
    let b = row_cell 2 k i 1 (2 * i + 1) xs l (omega arith) refl in
    let e = rw (c.as_chunks.ensures.front, a, b) at c.find_edge-answer.ensures in
    calls-more _ _ _ c.loop-a.invariant (ap (λ t. out t tt) e) c.adds-sum.ensures refl

pub returns : goal.returns
returns c =
    let e : c.loop-a.a-index ≡ length c.args.pairs.now / 2 = omega (arith, c.as_chunks.ensures.front_len) in
    rw e at (ap (λ o. o.sum) c.loop-a.invariant)
