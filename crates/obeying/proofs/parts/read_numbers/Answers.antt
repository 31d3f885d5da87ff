-- A weight or up to three numbers, read or bad, each by its law.
use Rattle.std.proofs.Common.{◌∙◌, sym, rules}
use mir.Facts.{to_z-of_z}
use mir.Syntax.{w32}
use Rattle.obeying.proofs.Reading.{weight_bad, weight_good, numbers_bad, numbers_good}
use Rattle.obeying.proofs.parts.read_numbers.Goals as goal

pub returns-in_err-w : goal.returns-in_err-w
returns-in_err-w c = c.from_residual.ensures ∙ weight_bad _ c.if-letter-eq78.true (sym c.in_err-w.was ∙ c.read_weight_operand.ensures)

pub returns-then-letter-eq78 : goal.returns-then-letter-eq78
returns-then-letter-eq78 c =
    let e = sym c.in_ok-w.was ∙ c.read_weight_operand.ensures in
    rw (to_z-of_z {w = w32} {z = c.in_ok-w.w} (search rules)) (weight_good _ c.if-letter-eq78.true e)

pub returns-in_err-a : goal.returns-in_err-a
returns-in_err-a c =
    let e = sym c.in_err-a.was ∙ c.read_operands.ensures in
    c.from_residual-in_err-a.ensures ∙ numbers_bad _ c.if-letter-eq78.false c.requires.0 e

pub returns : goal.returns
returns c = numbers_good _ c.if-letter-eq78.false c.requires.0 (sym c.in_ok-a.was ∙ c.read_operands.ensures)
