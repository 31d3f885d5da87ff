-- So many numbers on it stands where the calls for them lead.
use Rattle.std.proofs.Common.{◌≡◌}
use Rattle.tables.specs.Net.{net}
use Rattle.directory.specs.Directory.{filed}
use Rattle.loops.specs.Loops.{sums, calls}
use Rattle.dirloops.specs.Loops.{takes_number}
use Rattle.dirloops.proofs.loop_remove_numbers.Given as goal

abbrev pub invariant-loop-r : goal.invariant-loop-r
invariant-loop-r l =
    sums l.sum (filed (net l.weights l.heads l.registers l.links l.ends l.n l.m) l.directory)
    ≡ calls (takes_number l.numbers) (filed (net l.weights l.fn.heads l.fn.registers l.fn.links l.fn.ends l.n l.fn.m) l.fn.directory) l.r-index
