use Rattle.std.proofs.Common.{◌+◌, ◌*◌, ◌≡◌, ◌/◌, ◌<◌, length, refl, arith}
use Rattle.loops.proofs.Laws.{calls-more, row_cell}
use Rattle.dirloops.proofs.loop_dir_add_edges.Goals as goal

pub loop-a-preserved : goal.loop-a-preserved
loop-a-preserved c =
    let i = c.loop-a.a-index in
    let xs = c.args.edges.now in
    let k = length xs / 3 in
    let l : i < k = omega (arith, c.as_chunks.ensures.front_len) in
    let a = row_cell 3 k i 0 (3 * i) xs l (omega arith) (omega arith) in
    let b = row_cell 3 k i 1 (3 * i + 1) xs l (omega arith) refl in
    let w = row_cell 3 k i 2 (3 * i + 2) xs l (omega arith) refl in
    let e = rw (c.as_chunks.ensures.front, a, b, w) at c.add_edge-answer.ensures in
    calls-more _ _ _ c.loop-a.invariant e c.adds-sum.ensures refl

pub returns : goal.returns
returns c =
    let e : c.loop-a.a-index ≡ length c.args.edges.now / 3 = omega (arith, c.as_chunks.ensures.front_len) in
    rw e at c.loop-a.invariant
