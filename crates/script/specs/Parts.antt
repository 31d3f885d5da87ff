-- What the parts ask of their callers and what they leave.
use Rattle.std.specs.Prelude.{ℕ, ◌+◌, ◌≤◌, ◌≡◌, Option, Some, None, List, [], ◌∷◌, leb, length}
use Rattle.index.specs.declared.Refusal.{Refusal}
use Rattle.index.specs.Refusals.{refusal_no}
use Rattle.tables.specs.Answers.{unless, onto}
use Rattle.text.specs.Lines.{lines}
use Rattle.commands.specs.Commands.{Replied}
use Rattle.dispatch.specs.Step.{State}
use Rattle.script.specs.declared.parts.Ended.{Ended}
use Rattle.script.specs.Script.{most_bytes, answers, text_of, run_from}

-- a script that is not too long, an output that has the bytes up to the limit, a table of not too many items
pub record Runnable (script output : List ℕ) (limit : ℕ) (items : List ℕ) : Type 0 where
  pub short : length script ≤ most_bytes
  pub held : limit ≤ length output
  pub few : length items ≤ 65536

-- the state that a run leaves: that behind the last line obeyed, whose answer may be the one that did not fit
unfoldable pub state_left : (limit at : ℕ) → State → List (Replied State) → State
state_left limit at s [] = s
state_left limit at s (o ∷ others) =
    unless (leb (at + length (text_of o)) limit) o.after
    (state_left limit (at + length (text_of o)) o.after others)

-- the answer number of a run, by what stopped it
abbrev pub stop_no : Option Refusal → ℕ
stop_no None = 0
stop_no (Some why) = refusal_no why

-- a script run from state s on: the answer number, how many bytes were written, these bytes at the front of the output, and the state t
pub record Ends (s t : State) (limit : ℕ) (script before after : List ℕ) (r : Ended) : Type 0 where
  pub number_is : stop_no r.stopped ≡ (run_from s limit script).number
  pub bytes_are : r.bytes ≡ length (run_from s limit script).bytes
  pub output_is : after ≡ onto (run_from s limit script).bytes before
  pub state-is : t ≡ state_left limit 0 s (answers (lines script) s)
