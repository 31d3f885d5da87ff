-- The rows stored, and vacant past them.
use Rattle.std.proofs.Common.{◌∙◌, ap, length}
use Rattle.tables.specs.Net.{Net, with_counts}
use Rattle.tables.specs.Rows.{with_edge, vacant_nodes, vacant_edges}
use Rattle.imagerows.specs.Image.{edge_in, each, loaded}
use Rattle.imagerows.proofs.parts.load.Goals as goal

pub returns : goal.returns
unfolding loaded vacant_nodes vacant_edges
returns c =
    let a = c.args in
    let v = c.vacate_nodes.ensures in
    let w = c.vacate_edges.ensures in
    let stored = c.store_rows-2.ensures a.n a.m ∙ ap (each (λ h e. with_edge h e (edge_in a.bytes.now a.n e)) a.m) (c.store_rows.ensures a.n a.m) in
    let vacate = λ (h : Net). with_counts (vacant_edges (vacant_nodes h a.n (length a.weights.now)) a.m (length a.registers.now)) a.n a.m in
    rw (v.weights_are, v.heads_are, w.registers_are, w.links_are, w.ends_are) (ap vacate stored)
