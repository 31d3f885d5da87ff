-- The directions before this one have no fault.
use Rattle.tables.specs.Net.{net_of}
use Rattle.sound.proofs.Verdicts.{WaysRead}
use Rattle.sound.proofs.check.Given as goal

abbrev pub invariant-loop-d : goal.invariant-loop-d
invariant-loop-d l = WaysRead (net_of l.net) l.d-index l.rows
