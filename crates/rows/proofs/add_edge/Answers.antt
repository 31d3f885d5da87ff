use Rattle.std.proofs.Common.{◌≡◌, ◌∙◌}
use Rattle.tables.specs.Net.{net}
use Rattle.tables.specs.Answers.{out, done}
use Rattle.tables.proofs.Guards.{guards}
use Rattle.rows.specs.Calls.{add_edge, linked}
use Rattle.rows.proofs.Served.{edge-linked}
use Rattle.rows.proofs.add_edge.Goals as goal

pub returns : goal.returns
unfolding add_edge
returns c =
    let g = net c.args.weights.now c.args.heads.now c.args.registers.now c.args.links.now c.args.ends.now c.args.n c.args.m.now in
    let past : out (done g.m) (linked g c.args.a.0 c.args.b.0 c.args.w) ≡ add_edge g c.args.a.0 c.args.b.0 c.args.w = search guards depth 9 in
    edge-linked _ _ _ _ _ _ _ _ _ _ c.link_edge.ensures ∙ past
