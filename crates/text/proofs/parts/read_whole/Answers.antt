use Rattle.std.proofs.Common.{zero-add, ◌∙◌}
use Rattle.text.proofs.Fields.{whole_bad, whole_part, whole_all}
use Rattle.text.proofs.parts.read_whole.Goals as goal

pub returns-in_err-value : goal.returns-in_err-value
returns-in_err-value c = c.from_residual.ensures ∙ whole_bad _ _ c.read_digits.ensures _ c.in_err-value.was

pub returns-then-len-text : goal.returns-then-len-text
returns-then-len-text c = whole_part 0 _ c.read_digits.ensures c.in_ok-value.was (zero-add _) c.if-len-text.true

pub returns : goal.returns
returns c = rw c.if-len-text.false (whole_all 0 _ c.read_digits.ensures c.in_ok-value.was (zero-add _) c.if-len-text.false)
