-- `e` stands at some spot, and to walk on from there with the rows that are left gives what the whole walk gives.
use Rattle.std.proofs.Common.{◌≡◌, ◌-◌, ◌≤◌}
use Rattle.lists.specs.declared.Spot.{Spot}
use Rattle.lists.specs.Walk.{cell, link_in}
use Rattle.sound.specs.Check.{walked, node_walked}
use Rattle.sound.proofs.parts.walk_list.Given as goal

abbrev pub invariant-loop-e : goal.invariant-loop-e
invariant-loop-e l = record {
  most : l.rows ≤ l.m;
  spot : Spot;
  stands : link_in l.heads l.links l.k spot ≡ l.e.0;
  same : walked (link_in l.heads l.links l.k) (cell l.ends l.k) l.m l.a.0 (l.m - l.rows) spot l.rows ≡ node_walked (link_in l.heads l.links l.k) (cell l.ends l.k) l.m l.a.0 l.read;
}

abbrev pub decreases-loop-e : goal.decreases-loop-e
decreases-loop-e l = l.m - l.rows
