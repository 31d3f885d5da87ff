-- Answer lines, computed from the definition. Each comment gives the line, without its newline. Assumes nothing.
use Prim.Native.Nat.{ℕ}
use mathlib.Core.Path.{◌≡◌, refl}
use Rattle.std.specs.Prelude.{Option, Some, None}
use mathlib.Core.List.{[], ◌∷◌}
use lib.IntN.{ℤ, pos, negsuc}
use Rattle.printing.specs.Digits.{spelt, digits, fields_text}
use Rattle.reply.specs.declared.Reply.{Reply}
use Rattle.reply.specs.declared.Value.{Value}
use Rattle.reply.specs.declared.Value.TheVariants.{Number, NoRow}
use Rattle.reply.specs.Replies.{bare_reply, line_of}

-- a served command: the values that it has, and how many items follow
abbrev served : (letter : ℕ) → (first second third : Option Value) → (items : ℕ) → Reply
served letter first second third items =
    record { letter = letter; number = 0; first = first; second = second; third = third; items = items }

abbrev one : ℤ → Option Value
one z = Some (Number z)

-- |N 0 0|
pub node : line_of (served 78 (one (pos 0)) None None 0) [] ≡ 78 ∷ 32 ∷ 48 ∷ 32 ∷ 48 ∷ 10 ∷ []
unfolding line_of digits spelt fields_text
node = refl

-- |X 0 10 3 2|
pub edge-out : line_of (served 88 (one (pos 10)) (one (pos 3)) (one (pos 2)) 0) []
    ≡ 88 ∷ 32 ∷ 48 ∷ 32 ∷ 49 ∷ 48 ∷ 32 ∷ 51 ∷ 32 ∷ 50 ∷ 10 ∷ []
unfolding line_of digits spelt fields_text
edge-out = refl

-- |X 0 13 - 0|
pub last_edge_out : line_of (served 88 (one (pos 13)) (Some NoRow) (one (pos 0)) 0) []
    ≡ 88 ∷ 32 ∷ 48 ∷ 32 ∷ 49 ∷ 51 ∷ 32 ∷ 45 ∷ 32 ∷ 48 ∷ 10 ∷ []
unfolding line_of digits spelt fields_text
last_edge_out = refl

-- |D 0 5 2 2 12 10|; what the table holds past the items is not printed
pub node-out : line_of (served 68 (one (pos 5)) (one (pos 2)) (one (pos 2)) 2) (12 ∷ 10 ∷ 7 ∷ [])
    ≡ 68 ∷ 32 ∷ 48 ∷ 32 ∷ 53 ∷ 32 ∷ 50 ∷ 32 ∷ 50 ∷ 32 ∷ 49 ∷ 50 ∷ 32 ∷ 49 ∷ 48 ∷ 10 ∷ []
unfolding line_of digits spelt fields_text
node-out = refl

-- |W 0 3 1 2 0|
pub neighbours : line_of (served 87 (one (pos 3)) None None 3) (1 ∷ 2 ∷ 0 ∷ [])
    ≡ 87 ∷ 32 ∷ 48 ∷ 32 ∷ 51 ∷ 32 ∷ 49 ∷ 32 ∷ 50 ∷ 32 ∷ 48 ∷ 10 ∷ []
unfolding line_of digits spelt fields_text
neighbours = refl

-- |A 0 -3|
pub sum : line_of (served 65 (one (negsuc 2)) None None 0) [] ≡ 65 ∷ 32 ∷ 48 ∷ 32 ∷ 45 ∷ 51 ∷ 10 ∷ []
unfolding line_of digits spelt fields_text
sum = refl

-- |D 3| and |? 10|: a refusal, and a line that is no command
pub bare :
    (line_of (bare_reply 68 3) [] ≡ 68 ∷ 32 ∷ 51 ∷ 10 ∷ [])
    × (line_of (bare_reply 63 10) [] ≡ 63 ∷ 32 ∷ 49 ∷ 48 ∷ 10 ∷ [])
unfolding line_of digits spelt fields_text
bare = (refl, refl)
