-- Each turn of the inner loop takes out one head, each of the outer one empties a list.
use Rattle.index.specs.Index.{number_of}
use Rattle.stripping.proofs.Headwise.{Turned}
use Rattle.stripping.proofs.Phases.{Phased}
use Rattle.stripping.proofs.parts.strip.Given as goal

abbrev pub invariant-heads : goal.invariant-heads
invariant-heads l =
    Turned l.n (number_of l.d) l.a.0 l.initial.heads l.initial.registers l.initial.links l.initial.ends l.initial.m l.initial.items l.initial.rows l.initial.count
    l.heads l.registers l.links l.ends l.m l.items l.rows l.count

abbrev pub decreases-heads : goal.decreases-heads
decreases-heads l = l.m

abbrev pub invariant-loop-d : goal.invariant-loop-d
invariant-loop-d l =
    Phased l.n l.a.0 l.fn.heads l.fn.registers l.fn.links l.fn.ends l.fn.m l.fn.items l.heads l.registers l.links l.ends l.m l.items l.rows l.count l.d-index
