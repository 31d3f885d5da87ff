-- The two lists are settled, and their edges counted.
use Rattle.std.proofs.Common.{◌≡◌, Some, None, arith}
use Rattle.tables.specs.Net.{net}
use Rattle.closing.proofs.Closes.{fit_of_lem, both-settled, not_broken, counted_so, enough, too_short, long_enough}
use Rattle.closing.proofs.parts.close.Goals as goal

pub along-first-requires : goal.along-first-requires
along-first-requires c = omega (arith, fit_of_lem c.requires, c.requires.node)

pub along-second-requires : goal.along-second-requires
along-second-requires c = omega (arith, fit_of_lem c.requires, c.requires.node)

pub settle-requires : goal.settle-requires
settle-requires c =
    let f = fit_of_lem c.requires in
    record {
      few = omega (arith, f.edges_most, f.m_within);
      registers_hold = omega arith;
      links_hold = omega (arith, f.links_agree, f.m_within);
      ends_hold = omega (arith, f.ends_agree, f.m_within);
      first_way = rw c.along-first.ensures (omega arith);
      second_way = rw c.along-second.ensures (omega arith);
    }

pub returns-in_err-both : goal.returns-in_err-both
returns-in_err-both c =
    let a = c.args in
    let g = net a.weights.now a.heads.now a.registers.now a.links.now a.ends.now a.n.now a.m.now in
    let s = both-settled g a.a.0 c.along-first.ensures c.along-second.ensures c.settle.ensures in
    let lost : c.settle.result ≡ None = grind arith in
    absurd (not_broken _ _ c.requires _ s lost)

pub returns-then-items-both : goal.returns-then-items-both
returns-then-items-both c =
    let found : c.settle.result ≡ Some c.in_ok-both.both = grind arith in
    too_short _ _ c.requires _ _ (counted_so _ _ c.requires c.along-first.ensures c.along-second.ensures c.settle.ensures found) c.if-items-both.true

pub take_node-requires : goal.take_node-requires
take_node-requires c =
    let found : c.settle.result ≡ Some c.in_ok-both.both = grind arith in
    let n = counted_so _ _ c.requires c.along-first.ensures c.along-second.ensures c.settle.ensures found in
    record { closable = c.requires; room = enough _ _ c.requires _ _ n c.if-items-both.false }

pub returns : goal.returns
returns c =
    let found : c.settle.result ≡ Some c.in_ok-both.both = grind arith in
    let n = counted_so _ _ c.requires c.along-first.ensures c.along-second.ensures c.settle.ensures found in
    long_enough _ _ c.requires _ _ _ n c.if-items-both.false c.take_node.ensures
