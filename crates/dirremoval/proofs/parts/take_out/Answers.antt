-- What the part without a directory leaves, and the directory.
use Rattle.std.proofs.Common.{refl, arith}
use Rattle.std.proofs.lemmas.Result.{err_from_is_err_and}
use Rattle.dirremoval.proofs.parts.take_out.Goals as goal

pub follow-requires : goal.follow-requires
follow-requires c = let p = c.requires in omega (arith, p.within.edge, p.registers_hold)

pub returns-in_err-removed : goal.returns-in_err-removed
returns-in_err-removed c =
    let p = err_from_is_err_and c.from_residual.result c.from_residual.ensures.1 in
    rw (p.1, p.2) (record { taken = c.in_err-removed.ensures; directory_is = refl })

pub returns : goal.returns
returns c = record { taken = c.in_ok-removed.ensures; directory_is = c.follow.ensures }
