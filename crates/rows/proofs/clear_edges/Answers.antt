use Rattle.std.proofs.Common.{◌≡◌, ◌*◌, ◌≤◌, length, sym, ◌∙◌, arith}
use Prim.{tt}
use Rattle.std.proofs.Math.Seq.{length-take-le}
use Rattle.index.specs.Index.{END}
use Rattle.tables.specs.Net.{net, with_nodes, with_counts, node_cells}
use Rattle.tables.specs.Answers.{out, done}
use Rattle.tables.specs.Rows.{filled, vacant_edges}
use Rattle.tables.proofs.Guards.{guards}
use Rattle.tables.proofs.Laws.{fitting}
use Rattle.tables.proofs.Front.{prefix_filled}
use Rattle.rows.specs.Calls.{clear_edges}
use Rattle.rows.proofs.Served.{edges-vacated}
use Rattle.rows.proofs.clear_edges.Goals as goal

pub slice_bounds-fill-end-2 : goal.slice_bounds-fill-end-2
slice_bounds-fill-end-2 c = let f = fitting c.fits.ensures c.if-not-fits.false in sym (length-take-le _ _ (omega arith))

pub returns : goal.returns
unfolding clear_edges
returns c =
    let f = fitting c.fits.ensures c.if-not-fits.false in
    let room : node_cells * c.args.n ≤ length c.args.heads.now = omega arith in
    let heads = prefix_filled c.args.heads.now (node_cells * c.args.n) _ _ room (c.fill.ensures.after (λ y h. h)) in
    let g = net c.args.weights.now c.args.heads.now c.args.registers.now c.args.links.now c.args.ends.now c.args.n c.args.m.now in
    let past : out (done tt) (with_counts (with_nodes (vacant_edges g 0 g.m) g.weights (filled g.heads 0 (node_cells * g.n) END)) g.n 0) ≡ clear_edges g =
    search guards depth 9 in
    edges-vacated _ _ _ _ _ _ _ _ heads c.vacate_edges.ensures ∙ past
