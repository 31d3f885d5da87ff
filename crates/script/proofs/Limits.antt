-- A run writes no byte past its limit, `run-most`, `run_room`; it is told 0, 1 or 7, `run-number`. It writes whole lines only, those of the first so many
-- lines of the script, `run-whole`; where it is told 0, those of all, `run-all`.
use Prim.Native.Nat.{ℕ, suc, ◌+◌, ◌≤◌, min}
use mathlib.Core.Path.{◌≡◌, refl, sym, ◌∙◌}
use mathlib.Core.Logic.{◌⊎◌, inl, inr}
use mathlib.Core.List.{List, [], ◌∷◌, ◌++◌, map, append-nil, append_assoc}
use native.Mathlib.Nat.{min-le_left, min-le_right}
use native.Mathlib.Omega.{arith}
use borrow.Author.Tests.{leb-true}
use lib.Dec.{leb}
use lib.ListN.{length, take, length-append}
use Rattle.tables.proofs.Laws.{tested}
use Rattle.text.specs.Lines.{lines}
use Rattle.dispatch.specs.Step.{State}
use Rattle.script.specs.Script.{most_bytes, answers, text_of, Ran, printed, begun, run_from, run}

abbrev Most : ℕ → Ran → Type 0
Most limit r = length r.bytes ≤ limit

printed-most : (limit : ℕ) (before : List ℕ) (texts : List (List ℕ)) → length before ≤ limit → Most limit (printed limit before texts)
unfolding printed
printed-most limit before [] h = h
printed-most limit before (text ∷ others) h =
    tested (Most limit) (leb (length before + length text) limit) _ _ h (λ l.
    printed-most limit (before ++ text) others (omega (arith, leb-true (length before + length text) limit l, length-append before text)))

pub from_most : (s : State) (limit : ℕ) (script : List ℕ) → Most limit (run_from s limit script)
from_most s limit script = printed-most limit [] (map text_of (answers (lines script) s)) (omega arith)

-- the limit is the room of the output, or 16,384 where it has more
module _ (script : List ℕ) (room : ℕ) where
  abbrev Within : Ran → Type 0
  Within r = Most (min room most_bytes) r

  pub run-within : Within (run script room)
  unfolding run
  run-within = tested Within (leb (length script) most_bytes) _ _ (omega arith) (λ l. from_most begun (min room most_bytes) script)

  pub run-most : length (run script room).bytes ≤ most_bytes
  run-most = omega (arith, run-within, min-le_right room most_bytes)

  pub run_room : length (run script room).bytes ≤ room
  run_room = omega (arith, run-within, min-le_left room most_bytes)

-- no more lines, a script too long, or a line that does not fit
abbrev Told : Ran → Type 0
Told r = (r.number ≡ 0) ⊎ ((r.number ≡ 1) ⊎ (r.number ≡ 7))

printed-number : (limit : ℕ) (before : List ℕ) (texts : List (List ℕ)) → Told (printed limit before texts)
unfolding printed
printed-number limit before [] = inl refl
printed-number limit before (text ∷ others) =
    tested Told (leb (length before + length text) limit) _ _ (inr (inr refl)) (λ l. printed-number limit (before ++ text) others)

pub run-number : (script : List ℕ) (room : ℕ) → ((run script room).number ≡ 0) ⊎ (((run script room).number ≡ 1) ⊎ ((run script room).number ≡ 7))
unfolding run
run-number script room = tested Told (leb (length script) most_bytes) _ _ (inr (inl refl)) (λ l. printed-number (min room most_bytes) [] (map text_of (answers (lines script) begun)))

-- lines one behind the other
abbrev joined : List (List ℕ) → List ℕ
joined [] = []
joined (text ∷ others) = text ++ joined others

abbrev Front : List ℕ → List (List ℕ) → Ran → Type 0
Front before texts r = (count : ℕ) × (r.bytes ≡ before ++ joined (take count texts))

abbrev All : List ℕ → List (List ℕ) → Ran → Type 0
All before texts r = r.number ≡ 0 → r.bytes ≡ before ++ joined texts

module _ (limit : ℕ) where
  printed-whole : (before : List ℕ) (texts : List (List ℕ)) → Front before texts (printed limit before texts)
  unfolding printed
  printed-whole before [] = (0, sym (append-nil before))
  printed-whole before (text ∷ others) =
      tested (Front before (text ∷ others)) (leb (length before + length text) limit) _ _ (0, sym (append-nil before)) (λ l.
      let r = printed-whole (before ++ text) others in
      (suc r.0, r.1 ∙ append_assoc before text (joined (take r.0 others))))

  printed-all : (before : List ℕ) (texts : List (List ℕ)) → All before texts (printed limit before texts)
  unfolding printed
  printed-all before [] = λ z. sym (append-nil before)
  printed-all before (text ∷ others) =
      tested (All before (text ∷ others)) (leb (length before + length text) limit) _ _ (λ z. absurd (omega arith)) (λ l z.
      printed-all (before ++ text) others z ∙ append_assoc before text (joined others))

module _ (script : List ℕ) (room : ℕ) where
  abbrev texts : List (List ℕ)
  texts = map text_of (answers (lines script) begun)

  pub run-whole : (count : ℕ) × ((run script room).bytes ≡ joined (take count texts))
  unfolding run
  run-whole = tested (Front [] texts) (leb (length script) most_bytes) _ _ (0, refl) (λ l. printed-whole (min room most_bytes) [] texts)

  pub run-all : (run script room).number ≡ 0 → (run script room).bytes ≡ joined texts
  unfolding run
  run-all = tested (All [] texts) (leb (length script) most_bytes) _ _ (λ z. absurd (omega arith)) (λ l. printed-all (min room most_bytes) [] texts)
