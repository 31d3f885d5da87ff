-- So many numbers on the sum is that of the calls for them.
use Prim.{tt}
use Rattle.std.proofs.Common.{◌≡◌}
use Rattle.tables.specs.Net.{net}
use Rattle.directory.specs.Directory.{filed}
use Rattle.loops.specs.Loops.{sums, calls}
use Rattle.dirloops.specs.Loops.{finds_number}
use Rattle.dirloops.proofs.loop_find_numbers.Given as goal

abbrev pub invariant-loop-r : goal.invariant-loop-r
invariant-loop-r l =
    sums l.sum tt ≡ calls (finds_number (filed (net l.weights l.heads l.registers l.links l.ends l.n l.m) l.directory) l.numbers) tt l.r-index
