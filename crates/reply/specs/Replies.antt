-- The answer line of a command, as bytes.
use Rattle.std.specs.Prelude.{ℕ, Option, Some, None, List, [], ◌∷◌, ◌++◌, take}
use Rattle.printing.specs.Bytes.{newline, minus}
use Rattle.printing.specs.Digits.{digits, signed, field, fields_text}
use Rattle.reply.specs.declared.Reply.{Reply}
use Rattle.reply.specs.declared.Value.{Value}
use Rattle.reply.specs.declared.Value.TheVariants.{Number, NoRow}

-- a letter and a number alone: a refusal, or a command that has nothing to tell
abbrev pub bare_reply : (letter number : ℕ) → Reply
bare_reply letter number = record { letter = letter; number = number; first = None; second = None; third = None; items = 0 }

-- a value's text: `-` where there is none
abbrev pub value_text : Value → List ℕ
value_text (Number z) = signed z
value_text NoRow = minus ∷ []

-- a value with its space, where the reply has it
abbrev pub value_field : Option Value → List ℕ
value_field None = []
value_field (Some v) = field (value_text v)

-- those of the values that the reply has, a space before each
abbrev pub values_text : Reply → List ℕ
values_text r = value_field r.first ++ value_field r.second ++ value_field r.third

-- letter, answer number, values, items, newline
unfoldable pub line_of : Reply → List ℕ → List ℕ
line_of r table =
    (r.letter ∷ field (digits r.number)) ++ values_text r ++ fields_text (take r.items table) ++ (newline ∷ [])
