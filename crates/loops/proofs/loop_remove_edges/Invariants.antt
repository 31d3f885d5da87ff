-- So many numbers on it stands where the calls for them lead.
use Rattle.std.proofs.Common.{◌≡◌}
use Rattle.tables.specs.Net.{net}
use Rattle.loops.specs.Loops.{sums, calls, takes_edge}
use Rattle.loops.proofs.loop_remove_edges.Given as goal

abbrev pub invariant-loop-e : goal.invariant-loop-e
invariant-loop-e l =
    sums l.sum (net l.weights l.heads l.registers l.links l.ends l.n l.m)
    ≡ calls (takes_edge l.numbers) (net l.weights l.fn.heads l.fn.registers l.fn.links l.fn.ends l.n l.fn.m) l.e-index
