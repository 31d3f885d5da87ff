use Rattle.std.proofs.Common.{◌≡◌, ◌∙◌, ◌+◌, rules, w32, SFits}
use Rattle.std.proofs.lemmas.Int.{to_z-of_z}
use Rattle.tables.specs.Net.{net, with_counts}
use Rattle.tables.specs.Answers.{out, done}
use Rattle.tables.specs.Rows.{bare, with_node}
use Rattle.tables.proofs.Guards.{guards}
use Rattle.rows.specs.Calls.{add_node}
use Rattle.rows.proofs.Served.{node-written}
use Rattle.rows.proofs.add_node.Goals as goal

pub returns : goal.returns
unfolding add_node
returns c =
    let h : SFits w32 c.args.w = search rules in
    let row : c.bare.result ≡ bare c.args.w = rw (to_z-of_z w32 c.args.w h) at c.bare.ensures in
    let g = net c.args.weights.now c.args.heads.now c.args.registers.now c.args.links.now c.args.ends.now c.args.n.now c.args.m in
    let past : out (done g.n) (with_counts (with_node g g.n (bare c.args.w)) (g.n + 1) g.m) ≡ add_node g c.args.w = search guards depth 9 in
    node-written _ _ _ _ _ _ _ _ _ row c.write_node.ensures ∙ past
