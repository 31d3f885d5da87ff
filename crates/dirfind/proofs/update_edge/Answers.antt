-- It is told by the search of the call without a directory; an edge that was found, by its claim.
use Rattle.std.proofs.Common.{sym, ◌∙◌, arith, rules}
use Rattle.std.proofs.lemmas.Result.{err_from_is_err_and}
use denote.Enum.Bare.{same_true, same_false}
use Rattle.index.specs.contracts.Refusal.{the_type}
use Rattle.index.specs.declared.Refusal.TheVariants.{Broken}
use Rattle.tables.specs.Net.{net}
use Rattle.tables.proofs.Laws.{fit-says}
use Rattle.dirfind.proofs.Ways.{found_so, endless_so, missing_so, update_refused, as_add, update_told}
use Rattle.dirfind.proofs.update_edge.Goals as goal

pub reweigh-requires : goal.reweigh-requires
reweigh-requires c =
    let g = net c.args.weights.now c.args.heads.now c.args.registers.now c.args.links.now c.args.ends.now c.args.n c.args.m.now in
    let z = found_so g _ _ c.args.w _ c.in-Ok.ensures in
    let f = fit-says _ _ _ _ _ _ _ z.2 in
    omega (arith, z.1, f.m_within)

pub returns-in_err-reweigh-in-Ok : goal.returns-in_err-reweigh-in-Ok
returns-in_err-reweigh-in-Ok c =
    let p = err_from_is_err_and c.from_residual.result c.from_residual.ensures.1 in
    rw (p.1, p.2) (update_told _ _ _ _ _ _ _ _ _ _ _ _ _ c.in-Ok.ensures c.in_err-reweigh-in-Ok.ensures)

pub returns-in_ok-reweigh-in-Ok : goal.returns-in_ok-reweigh-in-Ok
returns-in_ok-reweigh-in-Ok c = update_told _ _ _ _ _ _ _ _ _ _ _ _ _ c.in-Ok.ensures c.in_ok-reweigh-in-Ok.ensures

pub returns-in-Err : goal.returns-in-Err
returns-in-Err c =
    let broken = same_true the_type (search rules) c.in-Err.why Broken (sym c.eq.ensures ∙ c.if-eq.true) in
    update_refused _ _ _ _ c.in-Err.why (endless_so _ _ _ _ c.in-Err.why broken c.in-Err.ensures)

pub returns-in-Err-2 : goal.returns-in-Err-2
returns-in-Err-2 c =
    let other = same_false the_type c.in-Err.why Broken (sym c.eq.ensures ∙ c.if-eq.false) in
    c.add_edge.ensures ∙ as_add _ _ _ _ (missing_so _ _ _ _ c.in-Err.why other c.in-Err.ensures)
