use Rattle.std.proofs.Common.{refl, rules, arith}
use Rattle.obeying.proofs.Listing.{listed_so}
use Rattle.script.proofs.Turns.{started, same_on, few_on, turned, stopped, ended}
use Rattle.script.proofs.parts.run_lines.Goals as goal

pub loop-at-init : goal.loop-at-init
loop-at-init c = record { going = started _ _ _ _; same = search rules; few = c.requires.few }

pub answer-requires : goal.answer-requires
answer-requires c =
    let does = c.answer_line-reply.ensures.does in (
      listed_so _ _ does (few_on _ _ does c.loop-at.invariant.few),
      record { within = c.loop-at.invariant.going.within; held = omega (arith, c.loop-at.auto.out, c.requires.held) },
    )

pub returns-in_default-clause-does : goal.returns-in_default-clause-does
returns-in_default-clause-does c =
    stopped c.loop-at.invariant.going c.loop-at-test.true c.line_end-end.ensures c.answer_line-reply.ensures.does c.answer.ensures c.in_default.is refl refl

pub returns-in_default-clause-same : goal.returns-in_default-clause-same
returns-in_default-clause-same c = same_on c.loop-at.invariant.same c.answer_line-reply.ensures.same

pub loop-at-preserved : goal.loop-at-preserved
loop-at-preserved c =
    let does = c.answer_line-reply.ensures.does in
    record {
      going = turned c.loop-at.invariant.going c.loop-at-test.true c.line_end-end.ensures does c.requires.held c.answer.ensures c.in-Some.is;
      same = same_on c.loop-at.invariant.same c.answer_line-reply.ensures.same;
      few = few_on _ _ does c.loop-at.invariant.few;
    }

pub returns-clause-does : goal.returns-clause-does
returns-clause-does c = ended c.loop-at.invariant.going c.loop-at-test.false refl refl
