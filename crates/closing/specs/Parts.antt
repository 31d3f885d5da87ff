-- What the parts ask of their callers, and what they leave.
use Rattle.std.specs.Prelude.{ℕ, ◌≤◌, ◌<◌, ◌≡◌, true, List, length}
use Rattle.tables.specs.Net.{Net, fits}
use Rattle.sound.specs.Sound.{Sound}
use Rattle.stripping.specs.Heads.{stripped}

-- the network fits and is sound, and a is one of its nodes
pub record Closable (g : Net) (a : ℕ) : Type 0 where
  pub fit : fits g ≡ true
  pub lists : ℕ → ℕ → List ℕ
  pub sound : Sound g lists
  pub node : a < g.n

-- and the table has room for the weights of its edges
pub record Ready (g : Net) (a items : ℕ) : Type 0 where
  pub closable : Closable g a
  pub room : length (stripped g a).given ≤ items
