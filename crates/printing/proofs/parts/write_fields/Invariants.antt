-- With the fields left the bytes are what they are to be.
use Rattle.printing.proofs.Fields.{Going}
use Rattle.printing.proofs.parts.write_fields.Given as goal

abbrev pub invariant-loop-x : goal.invariant-loop-x
invariant-loop-x l = Going l.fn.out l.at l.fields l.out l.to l.x-index
