use Rattle.std.proofs.Common.{◌∙◌, sym, ap, arith}
use Rattle.directory.specs.Directory.{register_in}
use Rattle.directory.proofs.Every.{every-none}
use Rattle.dirrows.specs.Parts.{claim_no}
use Rattle.dirimage.proofs.Turns.{none-entered, turn_entered, turn_below, turn_apart, no_cell, not_apart, all_apart, all_entered}
use Rattle.dirimage.proofs.parts.enter_rows.Goals as goal

pub loop-e-init : goal.loop-e-init
loop-e-init c =
    let same = c.fill.auto.self in
    record {
      long = same;
      is = rw same at (none-entered (register_in c.args.registers.now) _ _ (c.fill.ensures.after (λ y e. e)) same);
      below = every-none _;
      told = sym (every-none _);
    }

pub returns-then-directory-r : goal.returns-then-directory-r
returns-then-directory-r c =
    let i = c.loop-e.invariant in
    record { answer_is = no_cell _ _ _ _ c.loop-e-test.true (omega arith); directory_is = λ z. absurd (omega (arith, ap claim_no z)) }

pub loop-e-preserved : goal.loop-e-preserved
loop-e-preserved c =
    let i = c.loop-e.invariant in
    let number = register_in c.args.registers.now in
    record {
      long = c.enter.auto.directory ∙ i.long;
      is = turn_entered number _ _ _ _ i.is c.enter.ensures;
      below = turn_below number _ _ i.below (omega arith);
      told = turn_apart number _ _ _ _ _ _ i.told i.is c.entry.ensures c.is_end-apart.ensures (omega arith) (omega (arith, c.ranges.m));
    }

pub returns-then-not-apart : goal.returns-then-not-apart
returns-then-not-apart c =
    let i = c.loop-e.invariant in
    record {
      answer_is = not_apart _ _ _ _ _ c.loop-e.auto.e-end c.loop-e-test.false i.below i.told (rw c.if-not-apart.true);
      directory_is = λ z. absurd (omega (arith, ap claim_no z));
    }

pub returns : goal.returns
returns c =
    let i = c.loop-e.invariant in
    let left = c.loop-e-test.false in
    record {
      answer_is = all_apart _ _ _ _ _ c.loop-e.auto.e-end left i.below i.told (rw c.if-not-apart.false);
      directory_is = λ z. all_entered _ _ _ _ _ c.loop-e.auto.e-end left i.below i.told _ i.is;
    }
