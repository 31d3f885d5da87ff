-- What the parts ask of their callers, and what they leave.
use Rattle.std.specs.Prelude.{ℕ, ◌≤◌, ◌<◌, ◌≡◌, true, List, ℤ, length}
use Rattle.tables.specs.Net.{Lent, net, fits}
use Rattle.tables.specs.Answers.{onto}
use Rattle.sound.specs.Sound.{Sound}
use Rattle.removal.specs.Parts.{Count}
use Rattle.stripping.specs.declared.parts.Stripped.{Stripped}
use Rattle.stripping.specs.Heads.{strip, stripped}

-- the network, with some node weights, fits and is sound, a is one of its nodes, and the table has room for the weights of a's edges
pub record Strippable (heads registers links ends : List ℕ) (n m a items : ℕ) : Type 0 where
  pub totals : List ℤ
  pub fit : fits (net totals heads registers links ends n m) ≡ true
  pub lists : ℕ → ℕ → List ℕ
  pub sound : Sound (net totals heads registers links ends n m) lists
  pub node : a < n
  pub room : length (stripped (net totals heads registers links ends n m) a).given ≤ items

-- what the stripping leaves, whatever the node weights are: the weights given stand at the front of the table
pub record Strips (heads registers links ends : Lent ℕ) (n : ℕ) (m : Count) (a : ℕ) (items : Lent ℕ) (r : Stripped) : Type 0 where
  pub given : List ℕ
  pub rest : (totals : List ℤ)
      → strip (net totals heads.new registers.new links.new ends.new n m.new) given r.rows
      ≡ stripped (net totals heads.old registers.old links.old ends.old n m.old) a
  pub count_is : r.count ≡ length given
  pub items_are : items.new ≡ onto given items.old
  -- no edge is new, and the rows can be counted on
  pub fewer : m.new ≤ m.old
  pub few : r.rows ≤ 281474976710656
