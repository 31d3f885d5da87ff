-- The text, by its first byte.
use Rattle.std.proofs.Common.{◌+◌, ◌∙◌, sym, arith}
use borrow.Author.Tests.{eq-eqb, ne_eqb}
use Rattle.text.specs.Parts.{read_field}
use Rattle.text.proofs.Fields.{nothing_there, first_there, none_behind, number_behind, number_short}
use Rattle.text.proofs.parts.read_field.Goals as goal

pub returns-in_default : goal.returns-in_default
unfolding read_field
returns-in_default c = rw (nothing_there _ c.in_default.len_below)

pub returns-then-first-ne32 : goal.returns-then-first-ne32
unfolding read_field
returns-then-first-ne32 c = rw (first_there _ c.in-len1-up.len_at_least, ne_eqb _ 32 c.if-first-ne32.true)

pub returns-in_err-x : goal.returns-in_err-x
unfolding read_field
returns-in_err-x c =
    let e = sym c.in_err-x.was ∙ c.read_number.ensures in
    c.from_residual.ensures ∙ rw (first_there _ c.in-len1-up.len_at_least, eq-eqb _ 32 c.if-first-ne32.false) (none_behind (0 + 1) _ e)

pub overflow_add-result : goal.overflow_add-result
overflow_add-result c =
    let e = sym c.in_ok-x.was ∙ c.read_number.ensures in
    record { fits = omega (arith, number_short 0 _ e) }

pub returns : goal.returns
unfolding read_field
returns c =
    let e = sym c.in_ok-x.was ∙ c.read_number.ensures in
    rw (first_there _ c.in-len1-up.len_at_least, eq-eqb _ 32 c.if-first-ne32.false) (number_behind (0 + 1) _ e)
