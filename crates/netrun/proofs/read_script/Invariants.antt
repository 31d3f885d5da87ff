-- What was read so far stands in front.
use Rattle.std.proofs.Common.{◌-◌, length}
use Rattle.netrun.proofs.Reading.{Read}
use Rattle.netrun.proofs.read_script.Given as goal

abbrev pub invariant-loop-at : goal.invariant-loop-at
invariant-loop-at g l = Read (g.R.Read.remaining l.fn.input) (g.R.Read.remaining l.input) l.fn.script l.script l.at

abbrev pub decreases-loop-at : goal.decreases-loop-at
decreases-loop-at g l = length l.fn.script - l.at
