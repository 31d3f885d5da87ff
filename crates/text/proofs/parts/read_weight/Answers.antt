-- The field, by its first byte and by the digits read.
use Rattle.std.proofs.Common.{◌∙◌, arith}
use Rattle.printing.proofs.Signs.{opposite, mag_opposite}
use Rattle.text.proofs.Fields.{nothing_there, first_there, whole_small, negative_bad, plain_bad}
use Rattle.text.proofs.Turned.{negative_turned, plain_turned}
use Rattle.text.proofs.parts.read_weight.Goals as goal

pub returns-in_default : goal.returns-in_default
returns-in_default c = rw (nothing_there _ c.in_default.len_below)

pub returns-in_err-value : goal.returns-in_err-value
returns-in_err-value c =
    c.from_residual.ensures
    ∙ rw (first_there _ c.in-len1-up.len_at_least) (negative_bad _ _ _ c.if-first-eq45.true c.read_whole.ensures c.in_err-value.was)

pub overflow_cast-value : goal.overflow_cast-value
overflow_cast-value c = record { sfits = omega (arith, whole_small _ _ c.read_whole.ensures c.in_ok-value.was) }

pub overflow_sub-value : goal.overflow_sub-value
overflow_sub-value c =
    let v = c.in_ok-value.value in
    let h = whole_small _ _ c.read_whole.ensures c.in_ok-value.was in
    rw (opposite v (omega (arith, h))) (record { sfits = omega (arith, h, mag_opposite v) })

pub returns-then-first-eq45 : goal.returns-then-first-eq45
returns-then-first-eq45 c =
    rw (first_there _ c.in-len1-up.len_at_least)
    (c.ok.ensures.value ∙ negative_turned _ _ _ _ c.if-first-eq45.true c.read_whole.ensures c.in_ok-value.was c.try_from.ensures)

pub returns-in_err-value-2 : goal.returns-in_err-value-2
returns-in_err-value-2 c =
    let e = first_there _ c.in-len1-up.len_at_least in
    c.from_residual-in_err-value-2.ensures ∙ rw e (plain_bad _ _ _ c.if-first-eq45.false (rw e at c.read_whole-2.ensures) c.in_err-value-2.was)

pub returns : goal.returns
returns c =
    let e = first_there _ c.in-len1-up.len_at_least in
    rw e (c.ok-2.ensures.value ∙ plain_turned _ _ _ _ c.if-first-eq45.false (rw e at c.read_whole-2.ensures) c.in_ok-value-2.was c.try_from-2.ensures)
