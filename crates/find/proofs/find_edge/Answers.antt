-- A search is refused for 6 alone.
use Rattle.std.proofs.lemmas.Result.{err_from_is_err_and}
use Rattle.tables.proofs.Guards.{guards}
use Rattle.find.specs.Find.{find_edge}
use Rattle.find.proofs.Laws.{sought-broken}
use Rattle.find.proofs.find_edge.Goals as goal

pub returns-in_err-e : goal.returns-in_err-e
unfolding find_edge
returns-in_err-e c =
    let p = err_from_is_err_and c.from_residual.result c.from_residual.ensures.1 in
    let s = sought-broken _ _ _ _ _ _ c.seek.ensures c.in_err-e.was in
    rw (p.1, p.2, s.0, s.1) (search guards depth 9)
