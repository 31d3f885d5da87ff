-- A line as it is read: the numbers behind its letter, `weight_bad` to `numbers_good`; then what it is read as, `empty_line` to `good_line`.
-- What holds of every command, and of none, holds of every line: `line_so`.
use Prim.Native.Nat.{ℕ, ◌≤◌, ◌<◌}
use mathlib.Core.Path.{◌≡◌, refl, ap}
use mathlib.Core.List.{List, [], ◌∷◌}
use mathlib.Core.Option.{Option, none, some}
use native.Mathlib.Decide.{ℕ_discrete}
use native.Mathlib.Omega.{arith}
use lib.ListN.{get_or}
use borrow.Author.Tests.{eq-eqb, ne_eqb}
use lib.IntN.{ℤ, pos}
use Rattle.std.specs.Prelude.{Some, None}
use Rattle.std.proofs.lemmas.Option.{same_Some}
use Rattle.text.specs.Numbers.{operands, weight_operand}
use Rattle.text.specs.Parts.{three_of, weight_of}
use Rattle.commands.specs.Commands.{Replied}
use Rattle.letters.specs.Letters.{operands_of, command_has}
use Rattle.letters.proofs.Counts.{few_counts}
use Rattle.dispatch.specs.declared.Numbers.{Numbers}
use Rattle.dispatch.specs.Step.{State, no_command, step}
use Rattle.dispatch.specs.Parts.{NotAdding, NotChanging, NotTelling}
use Rattle.dispatch.proofs.Letters.{of_none}
use Rattle.obeying.specs.Line.{weight_alone, up_to_three, numbers_behind, obeyed, line_answer}
use Rattle.obeying.specs.Parts.{behind_of, ReadAs}

-- a weight, or up to three numbers, that were read or not
bad_weight : (o : Option ℤ) → None ≡ weight_of o → None ≡ behind_of (weight_alone o)
bad_weight none h = refl
bad_weight (some w) h = absurd (let z : ◌≡◌ {A = ℕ} 0 1 = cc in omega arith)

good_weight : (o : Option ℤ) {w : ℤ} → Some w ≡ weight_of o → Some (record { w = w; a = 0; b = 0; c = 0 }) ≡ behind_of (weight_alone o)
good_weight none h = absurd (let z : ◌≡◌ {A = ℕ} 0 1 = cc in omega arith)
good_weight (some v) h = cc

bad_three : (o : Option (List ℕ)) → None ≡ three_of o → None ≡ behind_of (up_to_three o)
bad_three none h = refl
bad_three (some xs) h = absurd (let z : ◌≡◌ {A = ℕ} 0 1 = cc in omega arith)

good_three : (o : Option (List ℕ)) {ns : List ℕ} → Some ns ≡ three_of o
    → Some (record { w = pos 0; a = get_or ns 0 0; b = get_or ns 1 0; c = get_or ns 2 0 }) ≡ behind_of (up_to_three o)
good_three none h = absurd (let z : ◌≡◌ {A = ℕ} 0 1 = cc in omega arith)
good_three (some xs) {ns} h =
    ap (λ l. Some (record { w = pos 0; a = get_or l 0 0; b = get_or l 1 0; c = get_or l 2 0 }))
    (same_Some ns (get_or xs 0 0 ∷ get_or xs 1 0 ∷ get_or xs 2 0 ∷ []) h)

module _ {letter : ℕ} (text : List ℕ) where
  module _ (k : letter ≡ 78) where
    pub weight_bad : None ≡ weight_of (weight_operand text) → None ≡ behind_of (numbers_behind letter text)
    unfolding numbers_behind
    weight_bad h = rw (eq-eqb letter 78 k) (bad_weight (weight_operand text) h)

    pub weight_good : {w : ℤ} → Some w ≡ weight_of (weight_operand text) → Some (record { w = w; a = 0; b = 0; c = 0 }) ≡ behind_of (numbers_behind letter text)
    unfolding numbers_behind
    weight_good h = rw (eq-eqb letter 78 k) (good_weight (weight_operand text) h)

  module _ {count : ℕ} (k : letter ≡ 78 → ⊥) (n : count ≡ operands_of letter) where
    pub numbers_bad : None ≡ three_of (operands count text) → None ≡ behind_of (numbers_behind letter text)
    unfolding numbers_behind
    numbers_bad h = rw (ne_eqb letter 78 k, ← n) (bad_three (operands count text) h)

    pub numbers_good : {ns : List ℕ} → Some ns ≡ three_of (operands count text)
        → Some (record { w = pos 0; a = get_or ns 0 0; b = get_or ns 1 0; c = get_or ns 2 0 }) ≡ behind_of (numbers_behind letter text)
    unfolding numbers_behind
    numbers_good h = rw (ne_eqb letter 78 k, ← n) (good_three (operands count text) h)

-- a letter that has more numbers than any command is none of theirs, whatever stands behind it
module _ (letter : ℕ) (h : 3 < operands_of letter) where
  no_letter : (x : ℕ) → operands_of x ≤ 3 → letter ≡ x → ⊥
  no_letter x l k = omega (arith, ap operands_of k)

  not_adding : NotAdding letter
  unfolding operands_of
  not_adding = record { not_N = no_letter 78 (omega arith); not_E = no_letter 69 (omega arith); not_U = no_letter 85 (omega arith) }

  not_changing : NotChanging letter
  unfolding operands_of
  not_changing =
      record {
        not_adding = not_adding;
        not_X = no_letter 88 (omega arith);
        not_D = no_letter 68 (omega arith);
        not_C = no_letter 67 (omega arith);
        not_Z = no_letter 90 (omega arith);
      }

  not_telling : NotTelling letter
  unfolding operands_of
  not_telling =
      record {
        not_F = no_letter 70 (omega arith);
        not_W = no_letter 87 (omega arith);
        not_G = no_letter 71 (omega arith);
        not_M = no_letter 77 (omega arith);
        not_B = no_letter 66 (omega arith);
        not_A = no_letter 65 (omega arith);
        not_S = no_letter 83 (omega arith);
      }

  unknown : (o : Numbers) (s : State) → no_command s ≡ step letter o s
  unknown o s = of_none o s not_changing not_telling refl

  unknown_obeyed : (o : Option Numbers) (s : State) → no_command s ≡ obeyed letter o s
  unknown_obeyed none s = refl
  unknown_obeyed (some o) s = unknown o s

-- how many numbers a letter has, where it is a command's
command_count : (count : ℕ) {n : ℕ} → Some n ≡ command_has count → (n ≡ count) × (count ≡ 4 → ⊥)
command_count count {n} h =
    elim (ℕ_discrete count 4) [
      | yes q ↦ absurd (let z : ◌≡◌ {A = ℕ} 0 1 = cc (rw (eq-eqb count 4 q) at h) in omega arith)
      | no q ↦ (same_Some n count (rw (ne_eqb count 4 q) at h), q)
    ]

no_command_count : (count : ℕ) → None ≡ command_has count → count ≡ 4
no_command_count count h =
    elim (ℕ_discrete count 4) [
      | yes q ↦ q
      | no q ↦ absurd (let z : ◌≡◌ {A = ℕ} 0 1 = cc (rw (ne_eqb count 4 q) at h) in omega arith)
    ]

pub count_so : (letter : ℕ) {n : ℕ} → Some n ≡ command_has (operands_of letter) → (n ≡ operands_of letter) × (n ≤ 3)
count_so letter h = let q = command_count (operands_of letter) h in (q.0, omega (arith, q.0, q.1, few_counts letter))

-- what a line is read as
pub empty_line : ReadAs [] None
unfolding line_answer
empty_line s = refl

module _ (letter : ℕ) (text : List ℕ) where
  pub unknown_line : None ≡ command_has (operands_of letter) → ReadAs (letter ∷ text) None
  unfolding line_answer
  unknown_line h s = unknown_obeyed letter (omega (arith, no_command_count (operands_of letter) h)) (numbers_behind letter text) s

  pub bad_line : None ≡ behind_of (numbers_behind letter text) → ReadAs (letter ∷ text) None
  unfolding line_answer
  bad_line h s = none_so (numbers_behind letter text) h
    where
      none_so : (o : Option Numbers) → None ≡ behind_of o → no_command s ≡ obeyed letter o s
      none_so none h = refl
      none_so (some o) h = absurd (let z : ◌≡◌ {A = ℕ} 0 1 = cc in omega arith)

  pub good_line : {o : Numbers} → Some o ≡ behind_of (numbers_behind letter text) → ReadAs (letter ∷ text) (Some (letter, o))
  unfolding line_answer
  good_line {o} h s = some_so (numbers_behind letter text) h
    where
      some_so : (p : Option Numbers) → Some o ≡ behind_of p → step letter o s ≡ obeyed letter p s
      some_so none h = absurd (let z : ◌≡◌ {A = ℕ} 0 1 = cc in omega arith)
      some_so (some p) h = ap (λ x. step letter x s) (same_Some o p h)

-- whatever the line
module _ (P : Replied State → Type 0) (s : State) (bad : P (no_command s)) (good : (letter : ℕ) (o : Numbers) → P (step letter o s)) where
  obeyed_so : (letter : ℕ) (o : Option Numbers) → P (obeyed letter o s)
  obeyed_so letter none = bad
  obeyed_so letter (some o) = good letter o

  pub line_so : (line : List ℕ) → P (line_answer line s)
  unfolding line_answer
  line_so [] = bad
  line_so (letter ∷ text) = obeyed_so letter (numbers_behind letter text)
