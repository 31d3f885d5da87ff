-- The ending of a run, by its answer number: `ending_0`, `ending_1`, `ending_7`; it takes four bytes at most, `run_ending`. A run with its ending behind
-- it is what is printed of it: `told_so`.
use Prim.Native.Nat.{ℕ, ◌+◌, ◌/◌, ◌%◌, ◌≤◌, min}
use mathlib.Core.Path.{◌≡◌, refl, sym, ap, ◌∙◌}
use mathlib.Core.Logic.{⊎_elim}
use mathlib.Core.List.{List, [], ◌∷◌, ◌++◌}
use native.Mathlib.Nat.{min-eq_right, zero-add}
use native.Mathlib.Omega.{arith}
use borrow.Author.Tests.{ne_eqb}
use lib.ListN.{length, length-append}
use lib.Seq.{length-take-le}
use Rattle.printing.specs.Bytes.{newline}
use Rattle.printing.specs.Digits.{digits, spelt, field}
use Rattle.printing.specs.Parts.{Writes}
use Rattle.printing.proofs.Putting.{put-nothing, writes_on}
use Rattle.reply.proofs.Texts.{writes_three}
use Rattle.script.specs.Script.{most_bytes, run, packed}
use Rattle.script.proofs.Limits.{run-most, run-number}
use Rattle.script.proofs.Turns.{front_is}
use Rattle.telling.specs.Telling.{ending_of, told_run}
use Rattle.telling.specs.Parts.{told_bytes, PrintsRun}

-- nothing; `! 1` and a newline; `! 7` and a newline
pub ending_0 : ending_of 0 ≡ []
unfolding ending_of
ending_0 = refl

pub ending_1 : ending_of 1 ≡ 33 ∷ 32 ∷ 49 ∷ 10 ∷ []
unfolding ending_of digits spelt
ending_1 = refl

pub ending_7 : ending_of 7 ≡ 33 ∷ 32 ∷ 55 ∷ 10 ∷ []
unfolding ending_of digits spelt
ending_7 = refl

-- any number but 0
pub ending_is : (number : ℕ) → (number ≡ 0 → ⊥) → ending_of number ≡ (33 ∷ []) ++ field (digits number) ++ (newline ∷ [])
unfolding ending_of
ending_is number h = rw (ne_eqb number 0 h)

pub ending_long : (number : ℕ) → (number ≡ 0 → ⊥) → length (ending_of number) ≡ 3 + length (digits number)
ending_long number h =
    ap length (ending_is number h)
    ∙ omega (arith, length-append ((33 ∷ []) ++ field (digits number)) (newline ∷ []), length-append (33 ∷ []) (field (digits number)))

-- the parts of an ending, written one behind the other
module _ (number at : ℕ) (before : List ℕ) (room : at + length (ending_of number) ≤ length before) where
  pub no_ending : number ≡ 0 → Writes before before at (ending_of number) at
  no_ending z =
      let e : ending_of number ≡ [] = ap ending_of z ∙ ending_0 in
      rw e (record { bytes_are = put-nothing before at (omega (arith, room)); ends_at = omega arith })

  pub ended : {one two after : List ℕ} {p q r : ℕ} → (number ≡ 0 → ⊥) → Writes before one at (33 ∷ []) p → Writes one two p (field (digits number)) q
      → Writes two after q (newline ∷ []) r → Writes before after at (ending_of number) r
  ended h why value end = rw (ending_is number h) (writes_three (rw (ending_is number h) at room) why value end)

-- a run is told 0, 1 or 7
pub run_ending : (script : List ℕ) (room : ℕ) → length (ending_of (run script room).number) ≤ 4
run_ending script room =
    ⊎_elim
    (λ h. omega (arith, ap (λ x. length (ending_of x)) h, ap length ending_0))
    (⊎_elim
    (λ h. omega (arith, ap (λ x. length (ending_of x)) h, ap length ending_1))
    (λ h. omega (arith, ap (λ x. length (ending_of x)) h, ap length ending_7)))
    (run-number script room)

-- a run into so much room, as it is told in one number, and behind it its ending
module _ (script before : List ℕ) {between : List ℕ} {told : ℕ} (room : told_bytes ≤ length before) (e : (told, between) ≡ packed (run script (length before)) before) where
  bytes_are : told % 4294967296 ≡ length (run script (length before)).bytes
  bytes_are = omega (arith, ap (λ (p : ℕ × List ℕ). p.0) e, run-most script (length before))

  number_is : told / 4294967296 ≡ (run script (length before)).number
  number_is = omega (arith, ap (λ (p : ℕ × List ℕ). p.0) e, run-most script (length before))

  pub ending_room : told % 4294967296 + length (ending_of (told / 4294967296)) ≤ length before
  ending_room =
      omega (arith, bytes_are, run-most script (length before), ap (λ x. length (ending_of x)) number_is, run_ending script (length before), room)

  -- more room than that changes nothing
  same_run : run script (length before) ≡ run script most_bytes
  unfolding run
  same_run = let l : min (length before) most_bytes ≡ most_bytes = min-eq_right (omega (arith, room)) in rw l

  told-whole : {after : List ℕ} {r : ℕ} → Writes between after (told % 4294967296) (ending_of (told / 4294967296)) r → Writes before after 0 (told_run script) r
  unfolding told_run
  told-whole {after} {r} w =
      let g = run script (length before) in
      let lines : Writes before between 0 g.bytes (told % 4294967296) =
      record {
        bytes_are = ap (λ (p : ℕ × List ℕ). p.1) e ∙ sym (front_is before g.bytes);
        ends_at = bytes_are ∙ sym (zero-add (length g.bytes));
      } in
      let ending : Writes between after (told % 4294967296) (ending_of g.number) r = rw number_is at w in
      rw (← same_run) (writes_on (omega (arith, run-most script (length before), run_ending script (length before), room)) lines ending)

  pub told_so : {after : List ℕ} {r : ℕ} → length after ≡ length before
      → Writes between after (told % 4294967296) (ending_of (told / 4294967296)) r → PrintsRun script before after r
  told_so {after} {r} long w =
      let within : r ≤ length after = omega (arith, w.ends_at, ending_room, long) in
      record { writes = told-whole w; held = (within, sym (length-take-le _ _ within)) }
