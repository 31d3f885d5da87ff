-- The numbers stored and those left to scan are the operands.
use Rattle.text.proofs.Scanning.{Going}
use Rattle.text.proofs.parts.read_operands.Given as goal

abbrev pub invariant-loop-k : goal.invariant-loop-k
invariant-loop-k l = Going l.text l.count l.numbers l.rest l.k
