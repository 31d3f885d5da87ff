-- `guards` finds each test's fact; past the tests the call is its part.
use Rattle.std.proofs.Common.{◌≡◌, ◌∙◌}
use Rattle.tables.specs.Net.{net}
use Rattle.tables.proofs.Guards.{guards}
use Rattle.directory.specs.Directory.{filed}
use Rattle.dirremoval.specs.Removal.{remove_edge_filed}
use Rattle.dirremoval.proofs.Ways.{taken_out_filed, as_tested, part_so}
use Rattle.dirremoval.proofs.remove_edge.Goals as goal

pub returns : goal.returns
returns c =
    let f = filed (net c.args.weights.now c.args.heads.now c.args.registers.now c.args.links.now c.args.ends.now c.args.n c.args.m.now) c.args.directory.now in
    let past : taken_out_filed f c.args.e.0 ≡ remove_edge_filed f c.args.e.0 = search guards depth 9 ∙ as_tested _ _ in
    part_so f _ c.take_out.result _ _ (c.take_out.ensures.taken c.args.weights.now) c.take_out.ensures.directory_is ∙ past
