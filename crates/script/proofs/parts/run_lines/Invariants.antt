-- What is written, and what the lines left come to, is what the whole script comes to; the desk has the tables that it had.
use Rattle.std.proofs.Common.{◌-◌, ◌≤◌, length}
use Rattle.dispatch.specs.Step.{state_of}
use Rattle.dispatch.specs.Parts.{SameTables}
use Rattle.script.proofs.Turns.{Going}
use Rattle.script.proofs.parts.run_lines.Given as goal

abbrev pub invariant-loop-at : goal.invariant-loop-at
invariant-loop-at l = record {
  going : Going l.script l.fn.out l.limit (state_of l.fn.desk) l.out (state_of l.desk) l.at l.to;
  same : SameTables l.fn.desk l.desk;
  few : length l.desk.items.now ≤ 65536;
}

abbrev pub decreases-loop-at : goal.decreases-loop-at
decreases-loop-at l = length l.script - l.at
