use Rattle.std.proofs.Common.{◌∙◌}
use Rattle.text.proofs.Fields.{number_bad, number_over, number_fits}
use Rattle.text.proofs.Turned.{over_told, fits_told}
use Rattle.text.proofs.parts.read_number.Goals as goal

pub returns-in_err-value : goal.returns-in_err-value
returns-in_err-value c = c.from_residual.ensures ∙ number_bad 0 _ c.read_digits.ensures c.in_err-value.was

pub returns-in_err-x : goal.returns-in_err-x
returns-in_err-x c =
    c.from_residual-in_err-x.ensures ∙ number_over 0 _ c.read_digits.ensures c.in_ok-value.was (over_told _ c.try_from.ensures c.in_err-x.ensures.value)

pub returns : goal.returns
returns c =
    let (fits, same) = fits_told _ c.try_from.ensures c.in_ok-x.ensures.value in
    rw same (number_fits 0 _ c.read_digits.ensures c.in_ok-value.was fits)
