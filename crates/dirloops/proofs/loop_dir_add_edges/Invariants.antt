-- So many rows on it stands where the calls for them lead.
use Rattle.std.proofs.Common.{◌≡◌}
use Rattle.tables.specs.Net.{net}
use Rattle.directory.specs.Directory.{filed}
use Rattle.loops.specs.Loops.{sums, calls}
use Rattle.dirloops.specs.Loops.{adds_edge_filed}
use Rattle.dirloops.proofs.loop_dir_add_edges.Given as goal

abbrev pub invariant-loop-a : goal.invariant-loop-a
invariant-loop-a l =
    sums l.sum (filed (net l.weights l.heads l.registers l.links l.ends l.n l.m) l.directory)
    ≡ calls (adds_edge_filed l.edges) (filed (net l.weights l.fn.heads l.fn.registers l.fn.links l.fn.ends l.n l.fn.m) l.fn.directory) l.a-index
