-- So many rows on it stands where the calls for them lead.
use Rattle.std.proofs.Common.{◌≡◌}
use Rattle.tables.specs.Net.{net}
use Rattle.loops.specs.Loops.{sums, calls, adds_edge}
use Rattle.loops.proofs.loop_add_edges.Given as goal

abbrev pub invariant-loop-a : goal.invariant-loop-a
invariant-loop-a l =
    sums l.sum (net l.weights l.heads l.registers l.links l.ends l.n l.m)
    ≡ calls (adds_edge l.edges) (net l.weights l.fn.heads l.fn.registers l.fn.links l.fn.ends l.n l.fn.m) l.a-index
