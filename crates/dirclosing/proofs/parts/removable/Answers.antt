-- Past the check the two lists are settled, and their edges counted.
use Rattle.std.proofs.Common.{◌≡◌, sym, ◌∙◌, Some, None, arith}
use Rattle.tables.specs.Net.{net_of}
use Rattle.closing.proofs.Closes.{fit_of_lem, both-settled, not_broken, counted_so}
use Rattle.directory.specs.Directory.{filed}
use Rattle.dirclosing.proofs.Ways.{all_accepted, closable_told, short_so, room_so}
use Rattle.dirclosing.proofs.parts.removable.Goals as goal

pub along-first-requires : goal.along-first-requires
along-first-requires c =
    let f = filed (net_of c.args.net) c.args.directory.now in
    omega (arith, fit_of_lem (closable_told f c.check.ensures c.is_err.ensures.value c.if-is_err.false c.if-net-a.false), c.if-net-a.false)

pub along-second-requires : goal.along-second-requires
along-second-requires c =
    let f = filed (net_of c.args.net) c.args.directory.now in
    omega (arith, fit_of_lem (closable_told f c.check.ensures c.is_err.ensures.value c.if-is_err.false c.if-net-a.false), c.if-net-a.false)

pub settle-requires : goal.settle-requires
settle-requires c =
    let f = filed (net_of c.args.net) c.args.directory.now in
    let t = fit_of_lem (closable_told f c.check.ensures c.is_err.ensures.value c.if-is_err.false c.if-net-a.false) in
    record {
      few = omega (arith, t.edges_most, t.m_within);
      registers_hold = omega arith;
      links_hold = omega (arith, t.links_agree, t.m_within);
      ends_hold = omega (arith, t.ends_agree, t.m_within);
      first_way = rw c.along-first.ensures (omega arith);
      second_way = rw c.along-second.ensures (omega arith);
    }

pub returns-in_err-both : goal.returns-in_err-both
returns-in_err-both c =
    let a = c.args in
    let f = filed (net_of a.net) a.directory.now in
    let C = closable_told f c.check.ensures c.is_err.ensures.value c.if-is_err.false c.if-net-a.false in
    let b = both-settled f.net a.a.0 c.along-first.ensures c.along-second.ensures c.settle.ensures in
    let lost : c.settle.result ≡ None = grind arith in
    absurd (not_broken _ _ C _ b lost)

pub returns-then-items-both : goal.returns-then-items-both
returns-then-items-both c =
    let f = filed (net_of c.args.net) c.args.directory.now in
    let s = all_accepted f _ c.check.ensures (sym c.is_err.ensures.value ∙ c.if-is_err.false) in
    let C = closable_told f c.check.ensures c.is_err.ensures.value c.if-is_err.false c.if-net-a.false in
    let found : c.settle.result ≡ Some c.in_ok-both.both = grind arith in
    short_so f _ _ s c.if-net-a.false _ (counted_so _ _ C c.along-first.ensures c.along-second.ensures c.settle.ensures found) c.if-items-both.true

pub returns : goal.returns
returns c =
    let f = filed (net_of c.args.net) c.args.directory.now in
    let s = all_accepted f _ c.check.ensures (sym c.is_err.ensures.value ∙ c.if-is_err.false) in
    let C = closable_told f c.check.ensures c.is_err.ensures.value c.if-is_err.false c.if-net-a.false in
    let found : c.settle.result ≡ Some c.in_ok-both.both = grind arith in
    room_so f _ _ s c.if-net-a.false _ (counted_so _ _ C c.along-first.ensures c.along-second.ensures c.settle.ensures found) c.if-items-both.false
