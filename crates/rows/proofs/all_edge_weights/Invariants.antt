-- After e turns the first e cells are those of the column.
use Rattle.std.proofs.Common.{◌≡◌}
use Rattle.tables.proofs.Front.{front}
use Rattle.rows.proofs.all_edge_weights.Given as goal

abbrev pub invariant-loop-e : goal.invariant-loop-e
invariant-loop-e l = l.items ≡ front l.net.registers.now l.fn.items l.e
