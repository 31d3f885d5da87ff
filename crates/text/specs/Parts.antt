-- What the parts ask of their callers and what they leave.
use Rattle.std.specs.Prelude.{ℕ, ◌+◌, ◌≤◌, ◌≡◌, Option, Some, None, cond, List, [], ◌∷◌, eqb, ℤ, length, get_or, drop}
use Rattle.std.proofs.Math.Option.{none, some}
use Rattle.std.proofs.Math.Option as Math·
use Rattle.printing.specs.Bytes.{newline, space}
use Rattle.text.specs.Bytes.{is_digit, before}
use Rattle.text.specs.Numbers.{magnitude, number}

-- the digits that a text begins with
unfoldable pub run : List ℕ → List ℕ
run [] = []
run (b ∷ bs) = cond (is_digit b) (b ∷ run bs) []

-- their value, which may not fit 32 bits, and where they end: `at` is where the text begins, and where whole digits do end is given
abbrev pub spelled_to : ℕ → Math·.Option ℕ → Option (ℕ × ℕ)
spelled_to end none = None
spelled_to end (some x) = Some (x, end)

unfoldable pub read_digits : ℕ → List ℕ → Option (ℕ × ℕ)
read_digits at text = spelled_to (at + length (run text)) (magnitude (run text))

-- the same where the text is to be nothing but digits
unfoldable pub read_whole : ℕ → List ℕ → Option (ℕ × ℕ)
read_whole end text = spelled_to end (magnitude text)

-- the number that a text begins with, and where it ends
unfoldable pub read_number : ℕ → List ℕ → Option (ℕ × ℕ)
read_number at text = spelled_to (at + length (run text)) (number (run text))

-- one space before it
unfoldable pub read_field : ℕ → List ℕ → Option (ℕ × ℕ)
read_field at [] = None
read_field at (b ∷ bs) = cond (eqb b space) (read_number (at + 1) bs) None

-- the operands of a command, as three numbers: those that it has not are 0
abbrev pub three_of : Math·.Option (List ℕ) → Option (List ℕ)
three_of none = None
three_of (some xs) = Some (get_or xs 0 0 ∷ get_or xs 1 0 ∷ get_or xs 2 0 ∷ [])

abbrev pub weight_of : Math·.Option ℤ → Option ℤ
weight_of none = None
weight_of (some w) = Some w

-- where the line from `at` on ends: its newline, or the end of the script
pub record EndsLine (script : List ℕ) (at r : ℕ) : Type 0 where
  pub is : r ≡ at + length (before newline (drop at script))
  pub held : r ≤ length script
