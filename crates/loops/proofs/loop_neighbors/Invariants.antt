-- Before node a it stands where the calls of the nodes before it lead.
use Rattle.std.proofs.Common.{◌≡◌}
use Rattle.tables.specs.Net.{net}
use Rattle.loops.specs.Loops.{sums, calls, gives_neighbors}
use Rattle.loops.proofs.loop_neighbors.Given as goal

abbrev pub invariant-loop-a : goal.invariant-loop-a
invariant-loop-a l =
    sums l.sum l.items ≡ calls (gives_neighbors (net l.weights l.heads l.registers l.links l.ends l.n l.m)) l.fn.items l.a
