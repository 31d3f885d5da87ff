-- So many rows on the sum is that of the calls for them.
use Prim.{tt}
use Rattle.std.proofs.Common.{◌≡◌}
use Rattle.tables.specs.Net.{net}
use Rattle.loops.specs.Loops.{sums, calls, finds_edge}
use Rattle.loops.proofs.loop_find_edges.Given as goal

abbrev pub invariant-loop-a : goal.invariant-loop-a
invariant-loop-a l =
    sums l.sum tt ≡ calls (finds_edge (net l.weights l.heads l.registers l.links l.ends l.n l.m) l.pairs) tt l.a-index
