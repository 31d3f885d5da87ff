-- So many totals on it stands where the calls for them lead.
use Rattle.std.proofs.Common.{◌≡◌}
use Rattle.tables.specs.Net.{net}
use Rattle.loops.specs.Loops.{sums, calls, adds_node}
use Rattle.loops.proofs.loop_add_nodes.Given as goal

abbrev pub invariant-loop-w : goal.invariant-loop-w
invariant-loop-w l =
    sums l.sum (net l.weights l.heads l.registers l.links l.ends l.n l.m)
    ≡ calls (adds_node l.totals) (net l.fn.weights l.fn.heads l.registers l.links l.ends l.fn.n l.m) l.w-index
