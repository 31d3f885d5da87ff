-- What the parts ask of their callers, and what they leave.
use Rattle.std.specs.Prelude.{ℕ, ◌+◌, ◌-◌, ◌≤◌, ◌<◌, ◌≡◌, List, ℤ, Result}
use Rattle.index.specs.declared.Refusal.{Refusal}
use Rattle.tables.specs.Net.{Loan, Lent, net}
use Rattle.tables.specs.Answers.{out}
use Rattle.links.specs.declared.Located.{Located}
use Rattle.links.specs.Links.{led}
use Rattle.links.specs.Parts.{Within, Places}
use Rattle.removal.specs.declared.removed.RemovedEdge.{RemovedEdge}
use Rattle.removal.specs.Removal.{told_edge_removed, taken_out, last_moved}

-- edge e of m can be taken out of the columns
pub record Removable (heads registers links ends n m e : ℕ) : Type 0 where
  pub within : Within heads links ends n m e
  pub registers_hold : m ≤ registers

-- it is bypassed: the links at `place` led to it; and it is not the last row
pub record Gap (heads registers links ends n m e : ℕ) (place : Located) : Type 0 where
  pub removable : Removable heads registers links ends n m e
  pub places : Places heads links place.outgoing place.incoming
  pub not_last : e < m - 1
  pub few : place.rows ≤ m + m

-- a removal has no part in the node weights: whatever they are, it leaves what its definition says
abbrev pub Count : Type 0
Count = Loan ℕ

abbrev pub TakesOut : (heads registers links ends : Lent ℕ) → ℕ → Count → ℕ → Result RemovedEdge Refusal → Type 0
TakesOut heads registers links ends n m e r =
    (weights : List ℤ)
    → out (told_edge_removed r) (net weights heads.new registers.new links.new ends.new n m.new)
    ≡ taken_out (net weights heads.old registers.old links.old ends.old n m.old) e

abbrev pub FillsGap : (heads registers links ends : Lent ℕ) → ℕ → Count → ℕ → Located → Result RemovedEdge Refusal → Type 0
FillsGap heads registers links ends n m e place r =
    (weights : List ℤ)
    → (let h = net weights heads.old registers.old links.old ends.old n m.old in
    out (told_edge_removed r) (net weights heads.new registers.new links.new ends.new n m.new)
    ≡ last_moved (led h place.outgoing place.incoming e e) h e (m.old - 1) place.rows)
