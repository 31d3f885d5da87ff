-- From the digits read to what they spell: a number, a whole field, a node weight.
use Prim.Native.Nat.{ℕ, ◌+◌, ◌-◌, ◌≤◌, ◌<◌}
use mathlib.Core.Path.{◌≡◌, refl, sym, ap, ◌∙◌}
use mathlib.Core.Bool.{Bool, true, false}
use mathlib.Core.List.{List, [], ◌∷◌}
use mathlib.Core.Option.{Option, none, some}
use Rattle.std.specs.Prelude.{Some, None}
use Rattle.std.specs.declared.option.Option as Std·
use Rattle.std.proofs.lemmas.Option.{some_pair_parts}
use native.Mathlib.Nat.{zero-add}
use native.Mathlib.Omega.{arith}
use borrow.Author.Tests.{lt-ltb, le-ltb, eq-eqb, ne_eqb}
use lib.IntN.{pos, neg_ℤ}
use lib.ListN.{length, get_or, take, drop}
use Rattle.std.proofs.lemmas.List.{take_all}
use Rattle.printing.specs.Bytes.{minus}
use Rattle.text.specs.Bytes.{is_digit}
use Rattle.text.specs.Numbers.{are_digits, magnitude, number, weight}
use Rattle.text.specs.Parts.{run, spelled_to, read_digits, read_whole, read_number, weight_of}
use Rattle.text.proofs.Runs.{and_l, and_r, run_digit, run-stops, run-empty, run_short, no_digits, magnitude_small}

-- a text, by its first byte
pub nothing_there : (text : List ℕ) → length text < 1 → text ≡ []
nothing_there [] h = refl
nothing_there (b ∷ bs) h = absurd (omega arith)

pub first_there : (text : List ℕ) → 1 ≤ length text → text ≡ get_or text 0 0 ∷ take (length text - 1) (drop 1 text)
first_there [] h = absurd (omega arith)
first_there (b ∷ bs) h = ap (λ s. b ∷ s) (sym (take_all (length (b ∷ bs) - 1) bs (omega arith)))

-- what `None` or a value tells of the digits
pub spelled_none : (end : ℕ) (o : Option ℕ) → None ≡ spelled_to end o → o ≡ none
spelled_none end none h = refl
spelled_none end (some x) h = absurd (let z : ◌≡◌ {A = ℕ} 0 1 = cc in omega arith)

pub spelled_some : (end : ℕ) (o : Option ℕ) {v s : ℕ} → Some (v, s) ≡ spelled_to end o → (o ≡ some v) × (s ≡ end)
spelled_some end none h = absurd (let z : ◌≡◌ {A = ℕ} 0 1 = cc in omega arith)
spelled_some end (some x) {v} {s} h = let e = some_pair_parts v x s end h in (ap some (sym e.0), e.1)

-- a text all of digits is its own run
run-all : (text : List ℕ) → are_digits text ≡ true → run text ≡ text
run-all [] d = run-empty
run-all (b ∷ bs) d =
    run_digit b bs (and_l (is_digit b) (are_digits bs) d) ∙ ap (λ s. b ∷ s) (run-all bs (and_r (is_digit b) (are_digits bs) d))

run-whole : (text : List ℕ) → length (run text) ≡ length text → run text ≡ text
run-whole [] h = run-empty
run-whole (b ∷ bs) h = go (is_digit b) refl (run-whole bs)
  where
    go : (t : Bool) → is_digit b ≡ t → (length (run bs) ≡ length bs → run bs ≡ bs) → run (b ∷ bs) ≡ b ∷ bs
    go true e r = run_digit b bs e ∙ ap (λ s. b ∷ s) (r (omega (arith, sym (ap length (run_digit b bs e)) ∙ h)))
    go false e r = absurd (omega (arith, sym (ap length (run-stops b bs e)) ∙ h))

whole_none : (text : List ℕ) → magnitude (run text) ≡ none → magnitude text ≡ none
whole_none text h = go (are_digits text) refl
  where
    go : (t : Bool) → are_digits text ≡ t → magnitude text ≡ none
    go true d = ap magnitude (sym (run-all text d)) ∙ h
    go false d = no_digits text d

part_none : (text : List ℕ) → (length (run text) ≡ length text → ⊥) → magnitude text ≡ none
part_none text n = go (are_digits text) refl
  where
    go : (t : Bool) → are_digits text ≡ t → magnitude text ≡ none
    go true d = absurd (n (ap length (run-all text d)))
    go false d = no_digits text d

module _ (at : ℕ) (text : List ℕ) {r : Std·.Option (ℕ × ℕ)} (e : r ≡ read_digits at text) where
  run_none : r ≡ None → magnitude (run text) ≡ none
  unfolding read_digits
  run_none h = spelled_none (at + length (run text)) (magnitude (run text)) (sym h ∙ e)

  run-some : {v s : ℕ} → r ≡ Some (v, s) → (magnitude (run text) ≡ some v) × (s ≡ at + length (run text))
  unfolding read_digits
  run-some h = spelled_some (at + length (run text)) (magnitude (run text)) (sym h ∙ e)

  pub number_bad : r ≡ None → None ≡ read_number at text
  unfolding read_number
  number_bad h = rw (run_none h)

  pub number_over : {v s : ℕ} → r ≡ Some (v, s) → 4294967295 < v → None ≡ read_number at text
  unfolding read_number
  number_over {v} h o = rw ((run-some h).0, le-ltb v 4294967296 (omega arith))

  pub number_fits : {v s : ℕ} → r ≡ Some (v, s) → v ≤ 4294967295 → Some (v, s) ≡ read_number at text
  unfolding read_number
  number_fits {v} h o = let q = run-some h in rw (q.0, lt-ltb v 4294967296 (omega arith), q.1)

  pub whole_bad : (end : ℕ) → r ≡ None → None ≡ read_whole end text
  unfolding read_whole
  whole_bad end h = rw (whole_none text (run_none h))

  module _ {v s end : ℕ} (h : r ≡ Some (v, s)) (l : at + length text ≡ end) where
    pub whole_part : (s ≡ end → ⊥) → None ≡ read_whole end text
    unfolding read_whole
    whole_part n = let q = run-some h in rw (part_none text (λ k. n (omega arith)))

    pub whole_all : s ≡ end → Some (v, end) ≡ read_whole end text
    unfolding read_whole
    whole_all k = let q = run-some h in rw (ap magnitude (sym (run-whole text (omega arith))) ∙ q.0)

-- a number behind `at` bytes more
module _ (at : ℕ) (text : List ℕ) where
  pub none_behind : None ≡ read_number 0 text → None ≡ read_number at text
  unfolding read_number
  none_behind h = rw (spelled_none (0 + length (run text)) (number (run text)) h)

  module _ {x len : ℕ} (h : Some (x, len) ≡ read_number 0 text) where
    number_is : (number (run text) ≡ some x) × (len ≡ 0 + length (run text))
    unfolding read_number
    number_is = spelled_some (0 + length (run text)) (number (run text)) h

    pub number_behind : Some (x, at + len) ≡ read_number at text
    unfolding read_number
    number_behind = let q = number_is in rw (q.0, q.1, zero-add (length (run text)))

    pub number_short : len ≤ length text
    number_short = let q = number_is in omega (arith, q.1, run_short text)

-- a node weight, by its sign
module _ (end : ℕ) (text : List ℕ) {r : Std·.Option (ℕ × ℕ)} (e : r ≡ read_whole end text) where
  field-none : r ≡ None → magnitude text ≡ none
  unfolding read_whole
  field-none h = spelled_none end (magnitude text) (sym h ∙ e)

  field-some : {v s : ℕ} → r ≡ Some (v, s) → magnitude text ≡ some v
  unfolding read_whole
  field-some h = (spelled_some end (magnitude text) (sym h ∙ e)).0

  pub whole_small : {v s : ℕ} → r ≡ Some (v, s) → v < 10000000000
  whole_small h = magnitude_small text (field-some h)

module _ (end b : ℕ) (bs : List ℕ) {r : Std·.Option (ℕ × ℕ)} where
  module _ (m : b ≡ minus) (e : r ≡ read_whole end bs) where
    pub negative_bad : r ≡ None → None ≡ weight_of (weight (b ∷ bs))
    negative_bad h = rw (eq-eqb b minus m, field-none end bs e h)

    pub negative_over : {v s : ℕ} → r ≡ Some (v, s) → 2147483648 < v → None ≡ weight_of (weight (b ∷ bs))
    negative_over {v} h o = rw (eq-eqb b minus m, field-some end bs e h, le-ltb v 2147483649 (omega arith))

    pub negative_fits : {v s : ℕ} → r ≡ Some (v, s) → v ≤ 2147483648 → Some (neg_ℤ (pos v)) ≡ weight_of (weight (b ∷ bs))
    negative_fits {v} h o = rw (eq-eqb b minus m, field-some end bs e h, lt-ltb v 2147483649 (omega arith))

  module _ (m : b ≡ minus → ⊥) (e : r ≡ read_whole end (b ∷ bs)) where
    pub plain_bad : r ≡ None → None ≡ weight_of (weight (b ∷ bs))
    plain_bad h = rw (ne_eqb b minus m, field-none end (b ∷ bs) e h)

    pub plain_over : {v s : ℕ} → r ≡ Some (v, s) → 2147483647 < v → None ≡ weight_of (weight (b ∷ bs))
    plain_over {v} h o = rw (ne_eqb b minus m, field-some end (b ∷ bs) e h, le-ltb v 2147483648 (omega arith))

    pub plain_fits : {v s : ℕ} → r ≡ Some (v, s) → v ≤ 2147483647 → Some (pos v) ≡ weight_of (weight (b ∷ bs))
    plain_fits {v} h o = rw (ne_eqb b minus m, field-some end (b ∷ bs) e h, lt-ltb v 2147483648 (omega arith))
