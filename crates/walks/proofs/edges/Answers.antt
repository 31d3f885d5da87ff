-- Past the tests the call is its two legs, into three tables.
use Rattle.std.proofs.Common.{◌≡◌, ◌∙◌}
use Rattle.tables.specs.Net.{Net, net_of}
use Rattle.tables.proofs.Guards.{guards}
use Rattle.lists.specs.declared.Pick.TheVariants.{Every, NotTo}
use Rattle.legs.specs.Legs.{leg_at, Tables3, tables3, edges_told}
use Rattle.walks.specs.Walks.{edges}
use Rattle.walks.proofs.edges.Goals as goal

pub returns : goal.returns
unfolding edges
returns c =
    let a = c.args in
    let g : Net = net_of a.net in
    let t : Tables3 = tables3 a.numbers.now a.sources.now a.targets.now in
    let past : edges_told g.registers g.links g.ends g.m (leg_at g.heads 0 Every a.a.0) (leg_at g.heads 1 (NotTo a.a) a.a.0) t ≡ edges g a.a.0 t
    = search guards depth 9 in
    rw (c.along-first.ensures, c.along-second.ensures) at c.walk_edges.ensures ∙ past
