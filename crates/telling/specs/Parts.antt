-- What a run with its ending asks of its output, and leaves there.
use Rattle.std.specs.Prelude.{ℕ, ◌+◌, ◌≤◌, ◌≡◌, List, length, take}
use Rattle.printing.specs.Parts.{Writes}
use Rattle.script.specs.Script.{most_bytes}
use Rattle.telling.specs.Telling.{told_run}

-- the answer lines of any run and its ending have room in so many bytes
abbrev pub told_bytes : ℕ
told_bytes = most_bytes + 4

-- what is printed of a script stands at the front of the output, r bytes; `&out[..r]` asks the second
pub record PrintsRun (script before after : List ℕ) (r : ℕ) : Type 0 where
  pub writes : Writes before after 0 (told_run script) r
  pub held : (r ≤ length after) × (r ≡ length (take r after))
