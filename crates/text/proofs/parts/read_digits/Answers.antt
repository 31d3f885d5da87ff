-- The front tells how many digits the text begins with, or that they are too many.
use Rattle.std.proofs.Common.{sym, zero-add, arith}
use Rattle.text.proofs.Runs.{few_counted, front_digits, front_long, none_or_more, all_read}
use Rattle.text.proofs.parts.read_digits.Goals as goal

pub returns-then-len-eq0 : goal.returns-then-len-eq0
returns-then-len-eq0 c = none_or_more 0 _ c.min.ensures c.run_len-len.ensures (omega arith) c.then-len-eq0.either

pub slice_bounds-value_of-end : goal.slice_bounds-value_of-end
slice_bounds-value_of-end c = sym (front_long 0 _ (few_counted 0 _ c.min.ensures c.run_len-len.ensures c.if-len-gt-MOST_DIGITS.false))

pub value_of-requires : goal.value_of-requires
value_of-requires c =
    let e = few_counted 0 _ c.min.ensures c.run_len-len.ensures c.if-len-gt-MOST_DIGITS.false in
    (front_digits 0 _ e, omega (arith, front_long 0 _ e))

pub returns : goal.returns
returns c =
    let e = few_counted 0 _ c.min.ensures c.run_len-len.ensures c.if-len-gt-MOST_DIGITS.false in
    rw (← zero-add c.run_len-len.result) (all_read 0 _ e c.if-len-eq0.false c.if-len-gt-MOST_DIGITS.false c.value_of.ensures)
