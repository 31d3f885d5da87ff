-- What the parts give back.
use Rattle.std.specs.Prelude.{ℕ, ◌≡◌, List, Option, Some, None}
use Rattle.std.proofs.Math.Option.{none, some}
use Rattle.std.proofs.Math.Option as Math·
use Rattle.dispatch.specs.declared.Numbers.{Numbers}
use Rattle.dispatch.specs.Step.{State, no_command, step}
use Rattle.obeying.specs.Line.{line_answer}

-- the numbers behind a letter, or that there are none
abbrev pub behind_of : Math·.Option Numbers → Option Numbers
behind_of none = None
behind_of (some o) = Some o

-- a line read: whatever the state, it is answered as its letter's command with its numbers, or as no command
abbrev pub ReadAs : List ℕ → Option (ℕ × Numbers) → Type 0
ReadAs line None = (s : State) → no_command s ≡ line_answer line s
ReadAs line (Some (letter, o)) = (s : State) → step letter o s ≡ line_answer line s
