-- A run, line after line: where it starts, `started`; a line that fits, `turned`; one that does not, `stopped`; the end of the script, `ended`.
use Prim.Native.Nat.{ℕ, ◌+◌, ◌-◌, ◌≤◌, ◌<◌}
use mathlib.Core.Path.{◌≡◌, refl, sym, ap, ap₂, ◌∙◌}
use mathlib.Core.List.{List, [], ◌∷◌, ◌++◌, map}
use native.Mathlib.Nat.{zero-add}
use native.Mathlib.Omega.{arith}
use borrow.Author.Tests.{le-leb, lt-leb}
use lib.ListN.{length, take, drop, length-append}
use lib.Seq.{slice}
use denote.MutBor.{MutBor}
use Rattle.index.specs.declared.Refusal.TheVariants.{Short}
use Rattle.index.specs.Refusals.{refusal_no}
use Rattle.tables.specs.Answers.{onto}
use Rattle.text.specs.Lines.{lines}
use Rattle.printing.specs.Parts.{put}
use Rattle.text.specs.Parts.{EndsLine}
use Rattle.text.proofs.Cutting.{part_is, lines_at, lines_end}
use Rattle.printing.proofs.Putting.{put_on, put-nothing}
use Rattle.reply.specs.declared.Reply.{Reply}
use Rattle.std.specs.Prelude.{Option, Some, None}
use Rattle.reply.specs.Replies.{line_of}
use Rattle.reply.specs.Parts.{answered}
use Rattle.reply.proofs.Fitting.{written, untouched}
use Rattle.commands.specs.Commands.{Replied, replied}
use Rattle.dispatch.specs.declared.Desk.{Desk}
use Rattle.dispatch.specs.Parts.{SameTable, SameTables}
use Rattle.dispatch.specs.Step.{State}
use Rattle.obeying.proofs.Sizes.{line_sizes}
use Rattle.script.specs.declared.parts.Ended.{Ended}
use Rattle.obeying.specs.Line.{line_answer}
use Rattle.script.specs.Script.{answers, text_of, Ran, ran, printed, run_from}
use Rattle.script.specs.Parts.{state_left, stop_no, Ends}

-- the first line's answer, then those of the others
answers_next : (line : List ℕ) (others : List (List ℕ)) (s : State) → answers (line ∷ others) s ≡ line_answer line s ∷ answers others (line_answer line s).after
unfolding answers
answers_next line others s = refl

answers-none : (s : State) → answers [] s ≡ []
unfolding answers
answers-none s = refl

module _ (limit : ℕ) (before : List ℕ) where
  printed-none : printed limit before [] ≡ ran 0 before
  unfolding printed
  printed-none = refl

  module _ (text : List ℕ) (others : List (List ℕ)) where
    printed-on : length before + length text ≤ limit → printed limit before (text ∷ others) ≡ printed limit (before ++ text) others
    unfolding printed
    printed-on h = rw (le-leb (length before + length text) limit h)

    printed-stop : limit < length before + length text → printed limit before (text ∷ others) ≡ ran (refusal_no Short) before
    unfolding printed
    printed-stop h = rw (lt-leb (length before + length text) limit h)

module _ (limit at : ℕ) (s : State) where
  left-none : state_left limit at s [] ≡ s
  unfolding state_left
  left-none = refl

  module _ (o : Replied State) (others : List (Replied State)) where
    left-on : at + length (text_of o) ≤ limit → state_left limit at s (o ∷ others) ≡ state_left limit (at + length (text_of o)) o.after others
    unfolding state_left
    left-on h = rw (le-leb (at + length (text_of o)) limit h)

    left-stop : limit < at + length (text_of o) → state_left limit at s (o ∷ others) ≡ o.after
    unfolding state_left
    left-stop h = rw (lt-leb (at + length (text_of o)) limit h)

same_table : {A : Type 0} {a b c : MutBor A} → SameTable a b → SameTable b c → SameTable a c
same_table p q = record { name = p.name ∙ q.name; place = p.place ∙ q.place }

-- what stays on a desk, call after call
pub same_on : {a b c : Desk} → SameTables a b → SameTables b c → SameTables a c
same_on p q = record {
  weights_stay = same_table p.weights_stay q.weights_stay;
  heads_stay = same_table p.heads_stay q.heads_stay;
  registers_stay = same_table p.registers_stay q.registers_stay;
  links_stay = same_table p.links_stay q.links_stay;
  ends_stay = same_table p.ends_stay q.ends_stay;
  items_stay = same_table p.items_stay q.items_stay;
  sources_stay = same_table p.sources_stay q.sources_stay;
  targets_stay = same_table p.targets_stay q.targets_stay;
}

-- a line leaves as many items as it finds room for
pub few_on : (line : List ℕ) (s : State) {r : Reply} {t : State} → replied r t ≡ line_answer line s → length s.tables.numbers ≤ 65536
    → length t.tables.numbers ≤ 65536
few_on line s e h = omega (arith, (line_sizes line s).1.0, ap (λ (o : Replied State). length o.after.tables.numbers) e)

-- text at the front of an output
pub front_is : (bytes text : List ℕ) → put bytes 0 text ≡ onto text bytes
unfolding put
front_is bytes text = ap (λ n. text ++ drop n bytes) (zero-add (length text))

-- what the run comes to, with its bytes at the front of the output
ends_so : {s t : State} {limit : ℕ} {script before after : List ℕ} {q : Ended} {number : ℕ} {bytes : List ℕ} → run_from s limit script ≡ ran number bytes
    → stop_no q.stopped ≡ number → q.bytes ≡ length bytes → after ≡ put before 0 bytes → t ≡ state_left limit 0 s (answers (lines script) s)
    → Ends s t limit script before after q
ends_so {s} {t} {limit} {script} {before} {after} {q} {number} {bytes} o n b e l =
    record {
      number_is = n ∙ sym (ap (λ (r : Ran). r.number) o);
      bytes_are = b ∙ sym (ap (λ (r : Ran). length r.bytes) o);
      output_is = e ∙ front_is before bytes ∙ sym (ap (λ (r : Ran). onto r.bytes before) o);
      state-is = l;
    }

-- the answers from byte `at` of a script on
abbrev answers_from : List ℕ → ℕ → State → List (Replied State)
answers_from script at s = answers (lines (drop at script)) s

-- a run that stands at byte `at` of its script, in state s, with `to` bytes written: what is left to print behind them is what the whole comes to
pub record Going (script output₀ : List ℕ) (limit : ℕ) (s₀ : State) (output : List ℕ) (s : State) (at to : ℕ) : Type 0 where
  pub so_far : List ℕ
  pub long : to ≡ length so_far
  pub within : to ≤ limit
  pub output_is : output ≡ put output₀ 0 so_far
  pub rest : printed limit so_far (map text_of (answers_from script at s)) ≡ run_from s₀ limit script
  pub left_is : state_left limit to s (answers_from script at s) ≡ state_left limit 0 s₀ (answers (lines script) s₀)

pub started : (script output : List ℕ) (limit : ℕ) (s : State) → Going script output limit s output s 0 0
started script output limit s =
    record { so_far = []; long = refl; within = omega arith; output_is = put-nothing output 0 (omega arith); rest = refl; left_is = refl }

module _ {script output₀ : List ℕ} {limit : ℕ} {s₀ : State} {output : List ℕ} {s : State} {at to : ℕ} (g : Going script output₀ limit s₀ output s at to) where
  -- one line more: its reply r, and the state t that it leaves
  module _ {end : ℕ} {r : Reply} {t : State} (more : at < length script) (e : EndsLine script at end) (a : replied r t ≡ line_answer (take (end - at) (drop at script)) s) where
    next : answers_from script at s ≡ replied r t ∷ answers_from script (end + 1) t
    next =
        ap (λ ls. answers ls s) (lines_at more e)
        ∙ answers_next (slice at end script) (lines (drop (end + 1) script)) s
        ∙ ap (λ o. o ∷ answers_from script (end + 1) o.after) (sym (a ∙ ap (λ l. line_answer l s) (part_is e)))

    to_print : printed limit g.so_far (map text_of (replied r t ∷ answers_from script (end + 1) t)) ≡ run_from s₀ limit script
    to_print = sym (ap (λ os. printed limit g.so_far (map text_of os)) next) ∙ g.rest

    to_leave : state_left limit to s (replied r t ∷ answers_from script (end + 1) t) ≡ state_left limit 0 s₀ (answers (lines script) s₀)
    to_leave = sym (ap (state_left limit to s) next) ∙ g.left_is

    pub turned : {w : Option ℕ} {after : List ℕ} {stop : ℕ} → limit ≤ length output₀ → (w, after) ≡ answered output to limit (line_of r t.tables.numbers)
        → w ≡ Some stop → Going script output₀ limit s₀ after t (end + 1) stop
    turned {w} {after} {stop} room h u =
        let text = line_of r t.tables.numbers in
        let v = written output to limit text (rw u at h) in
        let others = answers_from script (end + 1) t in
        record {
          so_far = g.so_far ++ text;
          long = omega (arith, g.long, v.1.ends_at, length-append g.so_far text);
          within = omega (arith, v.0, v.1.ends_at);
          output_is =
              v.1.bytes_are ∙ ap₂ (λ b n. put b n text) g.output_is (g.long ∙ sym (zero-add (length g.so_far)))
              ∙ put_on output₀ 0 g.so_far text (omega (arith, g.long, v.0));
          rest = sym (printed-on limit g.so_far text (map text_of others) (omega (arith, g.long, v.0))) ∙ to_print;
          left_is = ap (λ n. state_left limit n t others) v.1.ends_at ∙ sym (left-on limit to s (replied r t) others v.0) ∙ to_leave;
        }

    pub stopped : {w : Option ℕ} {after : List ℕ} {q : Ended} → (w, after) ≡ answered output to limit (line_of r t.tables.numbers) → w ≡ None
        → stop_no q.stopped ≡ refusal_no Short → q.bytes ≡ to → Ends s₀ t limit script output₀ after q
    stopped {w} {after} h f n b =
        let text = line_of r t.tables.numbers in
        let u = untouched output to limit text (rw f at h) in
        let others = answers_from script (end + 1) t in
        let o = sym to_print ∙ printed-stop limit g.so_far text (map text_of others) (omega (arith, g.long, u.0)) in
        ends_so o n (b ∙ g.long) (u.1 ∙ g.output_is) (sym (left-stop limit to s (replied r t) others u.0) ∙ to_leave)

  pub ended : {q : Ended} → length script ≤ at → stop_no q.stopped ≡ 0 → q.bytes ≡ to → Ends s₀ s limit script output₀ output q
  ended h n b =
      let none_left : answers_from script at s ≡ [] = ap (λ ls. answers ls s) (lines_end script at h) ∙ answers-none s in
      let o = sym g.rest ∙ ap (λ os. printed limit g.so_far (map text_of os)) none_left ∙ printed-none limit g.so_far in
      ends_so o n (b ∙ g.long) g.output_is (sym (left-none limit to s) ∙ sym (ap (state_left limit to s) none_left) ∙ g.left_is)
