-- The columns go as without a directory, and each turn leaves the directory right.
use Rattle.std.proofs.Common.{◌≡◌, length}
use Rattle.index.specs.Index.{number_of}
use Rattle.stripping.proofs.Headwise.{Turned}
use Rattle.stripping.proofs.Phases.{Phased}
use Rattle.directory.specs.Directory.{register_in, Right}
use Rattle.dirstripping.proofs.parts.strip.Given as goal

abbrev pub invariant-heads : goal.invariant-heads
invariant-heads l =
    Turned l.n (number_of l.d) l.a.0 l.initial.heads l.initial.registers l.initial.links l.initial.ends l.initial.m l.initial.items l.initial.rows l.initial.count
    l.heads l.registers l.links l.ends l.m l.items l.rows l.count
    × (length l.directory ≡ length l.initial.directory) × Right (register_in l.registers) l.m l.directory

abbrev pub decreases-heads : goal.decreases-heads
decreases-heads l = l.m

abbrev pub invariant-loop-d : goal.invariant-loop-d
invariant-loop-d l =
    Phased l.n l.a.0 l.fn.heads l.fn.registers l.fn.links l.fn.ends l.fn.m l.fn.items l.heads l.registers l.links l.ends l.m l.items l.rows l.count l.d-index
    × (length l.directory ≡ length l.fn.directory) × Right (register_in l.registers) l.m l.directory
