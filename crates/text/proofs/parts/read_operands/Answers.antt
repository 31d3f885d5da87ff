use Rattle.std.proofs.Common.{arith, sym, ◌∙◌}
use Rattle.std.proofs.lemmas.Bool.Decides.{nat_tests}
use Rattle.text.proofs.Scanning.{start, field-refused, field_within, field_stored, more_there, all_there}
use Rattle.text.proofs.parts.read_operands.Goals as goal

pub loop-k-init : goal.loop-k-init
loop-k-init c = start _ _

pub returns-in_err-x : goal.returns-in_err-x
returns-in_err-x c = c.from_residual.ensures ∙ field-refused c.loop-k.invariant c.loop-k-test.true (sym c.in_err-x.was ∙ c.read_field.ensures)

pub slice_bounds-rest-count : goal.slice_bounds-rest-count
slice_bounds-rest-count c = field_within c.loop-k.invariant c.loop-k-test.true (sym c.in_ok-x.was ∙ c.read_field.ensures)

pub slice_bounds-rest-start : goal.slice_bounds-rest-start
slice_bounds-rest-start c = field_within c.loop-k.invariant c.loop-k-test.true (sym c.in_ok-x.was ∙ c.read_field.ensures)

pub loop-k-preserved : goal.loop-k-preserved
loop-k-preserved c = field_stored c.loop-k.invariant c.loop-k-test.true (sym c.in_ok-x.was ∙ c.read_field.ensures)

pub returns-then-not-is_empty : goal.returns-then-not-is_empty
returns-then-not-is_empty c = more_there c.loop-k.invariant c.loop-k-test.false (let h = c.if-not-is_empty.ensures in grind (arith, nat_tests))

pub returns : goal.returns
returns c = all_there c.loop-k.invariant c.loop-k-test.false (let h = c.if-not-is_empty.ensures in grind (arith, nat_tests))
