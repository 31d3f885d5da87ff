-- The line by its first byte, and what is behind it.
use Rattle.std.proofs.Common.{◌∙◌, sym}
use Rattle.text.proofs.Fields.{nothing_there, first_there}
use Rattle.obeying.proofs.Reading.{count_so, empty_line, unknown_line, bad_line, good_line}
use Rattle.obeying.proofs.parts.read_line.Goals as goal

pub returns-in_default : goal.returns-in_default
returns-in_default c = rw (nothing_there _ c.in_default.len_below) empty_line

pub returns-in_err-count : goal.returns-in_err-count
returns-in_err-count c =
    let e = sym c.in_err-count.was ∙ c.operands_of.ensures in
    rw (first_there _ c.in-len1-up.len_at_least, c.from_residual.ensures) (unknown_line _ _ e)

pub read_numbers-requires : goal.read_numbers-requires
read_numbers-requires c = count_so _ (sym c.in_ok-count.was ∙ c.operands_of.ensures)

pub returns-in_err-numbers : goal.returns-in_err-numbers
returns-in_err-numbers c =
    let e = sym c.in_err-numbers.was ∙ c.read_numbers.ensures in
    rw (first_there _ c.in-len1-up.len_at_least, c.from_residual-in_err-numbers.ensures) (bad_line _ _ e)

pub returns : goal.returns
returns c =
    let e = sym c.in_ok-numbers.was ∙ c.read_numbers.ensures in
    rw (first_there _ c.in-len1-up.len_at_least) (good_line _ _ e)
