-- Past the tests the call is its two legs.
use Rattle.std.proofs.Common.{ℕ, ◌≡◌, ◌∙◌, ◌-◌}
use Rattle.index.specs.Index.{number_of}
use Rattle.tables.specs.Net.{Net, net_of}
use Rattle.tables.proofs.Guards.{guards}
use Rattle.legs.specs.declared.parts.Leg.{Leg}
use Rattle.legs.specs.Legs.{leg_at}
use Rattle.walks.specs.Walks.{walked_legs}
use Rattle.walks.proofs.Calls.{items_told}
use Rattle.walks.proofs.walk_around.Goals as goal

pub returns : goal.returns
unfolding walked_legs
returns c =
    let a = c.args in
    let g : Net = net_of a.net in
    let k : ℕ = number_of a.direction in
    let first : Leg = leg_at g.heads k a.first a.a.0 in
    let second : Leg = leg_at g.heads (1 - k) a.second a.a.0 in
    let past : items_told g a.item first second a.items.now ≡ walked_legs g a.a.0 a.item k a.first a.second a.items.now = search guards depth 9 in
    let one : c.along-first.result ≡ first = rw c.number-k.ensures at c.along-first.ensures in
    let other : c.along-second.result ≡ second = rw c.number-k.ensures at c.along-second.ensures in
    rw (one, other) at c.walk.ensures ∙ past
