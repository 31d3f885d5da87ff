-- Whether rows that were loaded can be filed in a directory.
use Prim.{Unit, tt}
use Rattle.std.specs.Prelude.{ℕ, Bool, not, eqb, ltb, Result, Ok, Err}
use Rattle.index.specs.declared.Refusal.{Refusal}
use Rattle.index.specs.declared.Refusal.TheVariants.{Taken, Beyond}
use Rattle.tables.specs.Answers.{unless}
use Rattle.directory.specs.Directory.{every}

-- the number of row e has one of so many cells
abbrev pub has_cell : (ℕ → ℕ) → (cells e : ℕ) → Bool
has_cell number cells e = ltb (number e) cells

-- no row before e bears its number
abbrev pub is_first : (ℕ → ℕ) → ℕ → Bool
is_first number e = every (λ x. not (eqb (number x) (number e))) e

-- m rows: 12 where a number has no cell, over all rows; then 11 where a number is borne twice
unfoldable pub filing : (ℕ → ℕ) → (m cells : ℕ) → Result Unit Refusal
filing number m cells =
    unless (every (has_cell number cells) m) (Err Beyond)
    (unless (every (is_first number) m) (Err Taken)
    (Ok tt))
