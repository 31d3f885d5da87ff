-- Past the tests it is told by what the two lists added.
use Rattle.std.proofs.Common.{arith, ◌≡◌, ◌≤◌, ◌*◌, ◌^◌, sym, ◌∙◌, Some, None, Err}
use Rattle.std.proofs.lemmas.Result.{err_from_is_err_and}
use lib.Signed.{mag}
use mir.Facts.{to_z-of_z}
use mir.Syntax.{w64}
use mir.Val.{to_z, of_z}
use Rattle.index.specs.declared.Refusal.TheVariants.{Broken}
use Rattle.tables.specs.Net.{Net, net_of}
use Rattle.tables.proofs.Guards.{guards}
use Rattle.tables.proofs.Laws.{fitting}
use Rattle.walker.specs.Sums.{sum_around}
use Rattle.walker.proofs.Around.{of_lists, out_adds, in_adds, sum-stops, both_summed}
use Rattle.walker.proofs.sum_around.Goals as goal

pub returns-in_err-z : goal.returns-in_err-z
unfolding sum_around of_lists
returns-in_err-z c =
    let g : Net = net_of c.args.net in
    let a = c.args.a.0 in
    let none = rw c.in_err-z.was at c.ok_or.ensures.ok_part in
    let why = rw none at c.ok_or.ensures.value in
    let p = err_from_is_err_and c.from_residual.result c.from_residual.ensures.1 in
    let refused : c.from_residual.result ≡ Err Broken = cc (p.1, p.2, c.in_err-z.was) in
    let past : of_lists g a ≡ sum_around g a = search guards depth 9 in
    let o : out_adds g a None = rw c.index-row.ensures at (sym none ∙ c.sum-outs.ensures.answer_is) in
    rw refused (sum-stops g a o ∙ past)

pub returns : goal.returns
unfolding sum_around of_lists
returns c =
    let f = fitting c.fits.ensures c.if-not-fits.false in
    let g : Net = net_of c.args.net in
    let a = c.args.a.0 in
    let z = c.in_ok-z.z in
    let some = rw c.in_ok-z.was at c.ok_or.ensures.ok_part in
    let l = rw some at c.sum-outs.ensures.small in
    let small : mag z ≤ 2 ^ 31 * c.args.net.m = omega arith in
    let held : to_z w64 (of_z w64 z) ≡ z = to_z-of_z {w = w64} {z = z} (record { sfits = omega (arith, small) }) in
    let past : of_lists g a ≡ sum_around g a = search guards depth 9 in
    let o : out_adds g a (Some z) = rw c.index-row.ensures at (sym some ∙ c.sum-outs.ensures.answer_is) in
    let i : in_adds g a (to_z w64 (of_z w64 z)) c.sum-both.result = rw c.index-row.ensures at c.sum-both.ensures.answer_is in
    rw c.ok_or-2.ensures.value (both_summed g a o held c.sum-both.result i ∙ past)
