-- What the theorems on images speak of, beside the calls.
use Rattle.std.specs.Prelude.{ℕ, ◌^◌, ◌<◌, ◌≡◌, pos, get_or}
use Rattle.std.specs.Int.Signed.{mag}
use Rattle.tables.specs.Net.{Net}
use Rattle.tables.specs.Rows.{node_row, edge_row}

-- what the columns of i32 and u32 always have: every cell fits in 32 bits
pub record Cells (g : Net) : Type 0 where
  pub weights_fit : (i : ℕ) → mag (get_or g.weights i (pos 0)) < 2 ^ 31
  pub heads_fit : (i : ℕ) → get_or g.heads i 0 < 2 ^ 32
  pub registers_fit : (i : ℕ) → get_or g.registers i 0 < 2 ^ 32
  pub links_fit : (i : ℕ) → get_or g.links i 0 < 2 ^ 32
  pub ends_fit : (i : ℕ) → get_or g.ends i 0 < 2 ^ 32

-- the same counts, and the same rows below them
pub record SameRows (g h : Net) : Type 0 where
  pub n_is : h.n ≡ g.n
  pub m_is : h.m ≡ g.m
  pub nodes_are : (a : ℕ) → a < g.n → node_row h a ≡ node_row g a
  pub edges_are : (e : ℕ) → e < g.m → edge_row h e ≡ edge_row g e
