-- What is printed of a run: its answer lines, then how it ended.
use Rattle.std.specs.Prelude.{ℕ, cond, List, [], ◌∷◌, ◌++◌, eqb}
use Rattle.printing.specs.Bytes.{newline}
use Rattle.printing.specs.Digits.{digits, field}
use Rattle.script.specs.Script.{most_bytes, run}

-- `!` and the answer number of a run that was not done; nothing behind one that was
unfoldable pub ending_of : ℕ → List ℕ
ending_of number = cond (eqb number 0) [] ((33 ∷ []) ++ field (digits number) ++ (newline ∷ []))

-- the answer lines, at most 16,384 bytes, and the ending
unfoldable pub told_run : List ℕ → List ℕ
told_run script = (run script most_bytes).bytes ++ ending_of (run script most_bytes).number
