-- `link` stands at some spot, is not e, and to seek on from there with the rows left gives what the whole search gives; the columns are those
-- at entry until the loop is left.
use Rattle.std.proofs.Common.{ℕ, ◌≡◌, ◌-◌, ◌≤◌, List}
use Rattle.lists.specs.declared.Spot.{Spot}
use Rattle.lists.specs.declared.Spot.TheVariants.{Head}
use Rattle.lists.specs.Walk.{link_in}
use Rattle.links.specs.Links.{seek}
use Rattle.links.proofs.parts.change_link.Given as goal

pub record Going (heads links : List ℕ) (m k first e link rows : ℕ) : Type 0 where
  pub few : rows ≤ m
  pub other : link ≡ e → ⊥
  pub so_far : (a : ℕ) → link_in heads links k (Head a) ≡ first
      → (s : Spot) × (link_in heads links k s ≡ link) × (seek (link_in heads links k) m e (m - rows) s rows ≡ seek (link_in heads links k) m e m (Head a) 0)

abbrev pub invariant-loop-rows : goal.invariant-loop-rows
invariant-loop-rows l = Going l.heads l.fn.links l.m l.k l.fn.first.0 l.e.0 l.link.0 l.rows × (l.links ≡ l.fn.links)
