-- The text, by its first byte.
use borrow.Author.Tests.{eq-eqb, ne_eqb}
use Rattle.text.specs.Numbers.{weight_operand}
use Rattle.text.proofs.Fields.{nothing_there, first_there}
use Rattle.text.proofs.parts.read_weight_operand.Goals as goal

pub returns-in_default : goal.returns-in_default
unfolding weight_operand
returns-in_default c = rw (nothing_there _ c.in_default.len_below)

pub returns-then-first-ne32 : goal.returns-then-first-ne32
unfolding weight_operand
returns-then-first-ne32 c = rw (first_there _ c.in-len1-up.len_at_least, ne_eqb _ 32 c.if-first-ne32.true)

pub returns : goal.returns
unfolding weight_operand
returns c = rw (first_there _ c.in-len1-up.len_at_least, eq-eqb _ 32 c.if-first-ne32.false) c.read_weight.ensures
