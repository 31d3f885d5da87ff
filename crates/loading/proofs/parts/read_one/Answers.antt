-- Past the tests the rows are settled.
use Rattle.std.proofs.Common.{◌≡◌, ◌∙◌, arith}
use Rattle.tables.specs.Net.{net}
use Rattle.tables.proofs.Guards.{guards}
use Rattle.imagerows.specs.Image.{loaded}
use Rattle.loading.specs.Loading.{settled, read_one}
use Rattle.loading.proofs.Served.{rows_settled}
use Rattle.loading.proofs.parts.read_one.Goals as goal

pub returns : goal.returns
unfolding read_one
returns c =
    let a = c.args in
    let g = net a.weights.now a.heads.now a.registers.now a.links.now a.ends.now a.n.now a.m.now in
    let nodes = c.number_at-nodes.result in
    let edges = c.number_at-edges.result in
    let past : settled (loaded g a.bytes.now nodes edges) ≡ read_one g a.bytes.now = grind (arith, guards) in
    rows_settled g _ nodes edges c.load.ensures c.settle.ensures ∙ past
