-- Rows that cannot be filed are emptied.
use Rattle.tables.specs.Net.{net}
use Rattle.dirimage.proofs.Served.{rows-emptied}
use Rattle.dirimage.proofs.parts.fill_by.Goals as goal

pub returns-then-is_err : goal.returns-then-is_err
returns-then-is_err c =
    let a = c.args in
    let g = net a.weights.now a.heads.now a.registers.now a.links.now a.ends.now a.n.now a.m.now in
    let o = c.file-claim.ensures in
    rows-emptied g a.directory.now _ a.told _ _ c.in_default.is (rw (← c.is_err.ensures.value) c.if-is_err.true) o.answer_is c.empty.ensures o.directory_is
