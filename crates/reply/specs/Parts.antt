-- What the parts ask of their callers and what they leave.
use Rattle.std.specs.Prelude.{ℕ, ◌+◌, ◌≤◌, Option, Some, None, cond, List, ◌∷◌, ◌++◌, leb, length}
use Rattle.printing.specs.Digits.{digits, field}
use Rattle.printing.specs.Parts.{put}
use Rattle.reply.specs.declared.Reply.{Reply}
use Rattle.reply.specs.Replies.{values_text}

-- the output table holds the items that the reply speaks of, and they are not many
pub record Listed (r : Reply) (table : List ℕ) : Type 0 where
  pub held : r.items ≤ length table
  pub few : r.items ≤ 65536

-- the answers so far end at the limit or before, and the output has the bytes up to the limit
pub record Room (at limit : ℕ) (bytes : List ℕ) : Type 0 where
  pub within : at ≤ limit
  pub held : limit ≤ length bytes

-- what stands before the items
abbrev pub head_text : Reply → List ℕ
head_text r = (r.letter ∷ field (digits r.number)) ++ values_text r

-- a line that ends at the limit or before is written whole behind the answers so far; of any other no byte is
unfoldable pub answered : List ℕ → (at limit : ℕ) → List ℕ → Option ℕ × List ℕ
answered bytes at limit line =
    cond (leb (at + length line) limit) (Some (at + length line), put bytes at line) (None, bytes)
