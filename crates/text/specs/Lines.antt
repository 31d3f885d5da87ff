-- The lines of a script.
use Rattle.std.specs.Prelude.{ℕ, cond, List, [], ◌∷◌, eqb}
use Rattle.printing.specs.Bytes.{newline}

-- b stands in front of what the first line has
abbrev pub in_front : ℕ → List (List ℕ) → List (List ℕ)
in_front b [] = (b ∷ []) ∷ []
in_front b (line ∷ others) = (b ∷ line) ∷ others

-- a newline ends a line; the last line of a script may do without
unfoldable pub lines : List ℕ → List (List ℕ)
lines [] = []
lines (b ∷ bs) = cond (eqb b newline) ([] ∷ lines bs) (in_front b (lines bs))
