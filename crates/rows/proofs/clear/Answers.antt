use Rattle.std.proofs.Common.{◌≡◌, ◌∙◌}
use Prim.{tt}
use Rattle.tables.specs.Net.{net, with_counts}
use Rattle.tables.specs.Answers.{out, done}
use Rattle.tables.specs.Rows.{vacant_nodes, vacant_edges}
use Rattle.tables.proofs.Guards.{guards}
use Rattle.rows.specs.Calls.{clear}
use Rattle.rows.proofs.Served.{all_vacated}
use Rattle.rows.proofs.clear.Goals as goal

pub returns : goal.returns
unfolding clear
returns c =
    let g = net c.args.weights.now c.args.heads.now c.args.registers.now c.args.links.now c.args.ends.now c.args.n.now c.args.m.now in
    let past : out (done tt) (with_counts (vacant_nodes (vacant_edges g 0 g.m) 0 g.n) 0 0) ≡ clear g = search guards depth 9 in
    all_vacated _ _ _ _ _ _ _ c.vacate_edges.ensures c.vacate_nodes.ensures ∙ past
