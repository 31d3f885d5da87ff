-- What the parts ask of their callers and what they leave.
use Rattle.std.specs.Prelude.{ℕ, ◌+◌, ◌≤◌, ◌≡◌, List, ◌++◌, length, take, drop}

-- how long a text is, and that this is not much
pub record Measures (text : List ℕ) (most r : ℕ) : Type 0 where
  pub is : r ≡ length text
  pub few : r ≤ most

-- the bytes with `text` from `at` on; all others are as they were
unfoldable pub put : List ℕ → ℕ → List ℕ → List ℕ
put bytes at text = take at bytes ++ text ++ drop (at + length text) bytes

-- a part that writes `text` at `at` leaves that, and answers where the text ends
pub record Writes (before after : List ℕ) (at : ℕ) (text : List ℕ) (r : ℕ) : Type 0 where
  pub bytes_are : after ≡ put before at text
  pub ends_at : r ≡ at + length text
