-- the lists before this one have no such row
use Rattle.std.proofs.Common.{◌≡◌}
use Rattle.find.specs.Parts.{sought_from}
use Rattle.find.proofs.Laws.{from_list}
use Rattle.find.proofs.parts.seek.Given as goal

abbrev pub invariant-loop-direction : goal.invariant-loop-direction
invariant-loop-direction l =
    sought_from l.heads l.links l.ends l.m l.a.0 l.b.0 ≡ from_list l.heads l.links l.ends l.m l.a.0 l.b.0 l.direction-index
