-- No more are counted than were looked at.
use Rattle.std.proofs.Common.{◌≤◌}
use Rattle.replay.proofs.touched.Given as goal

abbrev pub invariant-loop-b : goal.invariant-loop-b
invariant-loop-b l = l.count ≤ l.b-index
