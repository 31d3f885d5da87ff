-- Operands read from the left, a space and the digits behind it at a time, are the numbers behind the spaces.
use Prim.Native.Nat.{ℕ, zero, suc, ◌+◌, ◌-◌, ◌≤◌, ◌<◌}
use mathlib.Core.Path.{◌≡◌, refl, sym, ap, ◌∙◌}
use mathlib.Core.Bool.{Bool, true, false, cond}
use mathlib.Core.List.{List, [], ◌∷◌, ◌++◌, append_assoc}
use mathlib.Core.Option.{Option, none, some}
use Rattle.std.specs.Prelude.{Some, None}
use native.Mathlib.Nat.{sub-zero, zero-add}
use native.Mathlib.Numerals.{add-one}
use native.Mathlib.Decide.{ℕ_discrete}
use native.Mathlib.Omega.{arith}
use borrow.Author.Tests.{eq-eqb, ne_eqb}
use lib.Dec.{eqb, eqb-zero-suc, eqb-suc-zero, eqb-suc-suc}
use lib.ListN.{length, set, take, drop, length-set}
use lib.Seq.{sets, set_out}
use Rattle.std.proofs.lemmas.List.{take_all, length-drop}
use Rattle.printing.specs.Bytes.{space}
use Rattle.text.specs.Bytes.{is_digit, before}
use Rattle.text.specs.Numbers.{are_digits, number, both, numbers, fields, operands}
use Rattle.text.specs.Parts.{run, read_number, read_field, three_of}
use Rattle.text.proofs.Runs.{and_false, run_digit, run-stops, run-empty, run_short, no_digits}
use Rattle.text.proofs.Fields.{nothing_there, first_there, spelled_none, spelled_some}
use Rattle.text.proofs.Cutting.{before-mark, before-other, before-none}

-- `count` times a space and the digits behind it, and nothing else
abbrev pub scan : ℕ → List ℕ → Option (List ℕ)
scan zero [] = some []
scan zero (b ∷ bs) = none
scan (suc count) [] = none
scan (suc count) (b ∷ bs) = cond (eqb b space) (both (number (run bs)) (scan count (drop (length (run bs)) bs))) none

-- the numbers of fields, where they are `count`
abbrev counted : ℕ → List (List ℕ) → Option (List ℕ)
counted count fs = cond (eqb (length fs) count) (numbers fs) none

both-none : (o : Option ℕ) → both o none ≡ none
both-none none = refl
both-none (some x) = refl

cond_both : (t : Bool) (o : Option ℕ) (xs : Option (List ℕ)) → cond t (both o xs) none ≡ both o (cond t xs none)
cond_both true o xs = refl
cond_both false o xs = sym (both-none o)

fields-space : (b : ℕ) (bs : List ℕ) → b ≡ space → fields (b ∷ bs) ≡ before space bs ∷ fields bs
unfolding fields
fields-space b bs h = rw (eq-eqb b space h)

fields-other : (b : ℕ) (bs : List ℕ) → (b ≡ space → ⊥) → fields (b ∷ bs) ≡ fields bs
unfolding fields
fields-other b bs h = rw (ne_eqb b space h)

fields-none : fields [] ≡ []
unfolding fields
fields-none = refl

-- the end of the text
ended : (count : ℕ) → counted count [] ≡ scan count []
ended zero = refl
ended (suc count) = rw (eqb-zero-suc count)

-- a byte that is neither a space nor a digit
scan_other : (count b : ℕ) (bs : List ℕ) → (b ≡ space → ⊥) → scan count (b ∷ bs) ≡ none
scan_other zero b bs n = refl
scan_other (suc count) b bs n = rw (ne_eqb b space n)

not_digits : (pre : List ℕ) (b : ℕ) (bs : List ℕ) → is_digit b ≡ false → are_digits (pre ++ (b ∷ bs)) ≡ false
not_digits [] b bs h = rw h
not_digits (x ∷ pre) b bs h = rw (not_digits pre b bs h) (and_false (is_digit x))

-- behind digits `pre`: the field up to the next space, and the digits read
abbrev Agree : List ℕ → Type 0
Agree text =
    (pre : List ℕ) (count : ℕ) → both (number (pre ++ before space text)) (counted count (fields text)) ≡ both (number (pre ++ run text)) (scan count (drop (length (run text)) text))

-- a space, and the field behind it
one_field : (b : ℕ) (bs : List ℕ) → Agree bs → b ≡ space → (count : ℕ) → counted count (before space bs ∷ fields bs) ≡ scan count (b ∷ bs)
one_field b bs agree q zero = rw (eqb-suc-zero (length (fields bs)))
one_field b bs agree q (suc count) =
    rw (eqb-suc-suc (length (fields bs)) count, eq-eqb b space q)
    (cond_both (eqb (length (fields bs)) count) (number (before space bs)) (numbers (fields bs)) ∙ agree [] count)

step : (b : ℕ) (bs : List ℕ) → Agree bs → Agree (b ∷ bs)
step b bs agree pre count =
    elim (ℕ_discrete b space) [
      | yes q ↦
          rw (before-mark space b bs q, fields-space b bs q, run-stops b bs (rw q refl), one_field b bs agree q count)
      | no q ↦ go q (is_digit b) refl
    ]
  where
    go : (b ≡ space → ⊥) → (t : Bool) → is_digit b ≡ t
        → both (number (pre ++ before space (b ∷ bs))) (counted count (fields (b ∷ bs)))
        ≡ both (number (pre ++ run (b ∷ bs))) (scan count (drop (length (run (b ∷ bs))) (b ∷ bs)))
    go q true h =
        rw (before-other space b bs q, fields-other b bs q, run_digit b bs h, ← append_assoc pre (b ∷ []) (before space bs), ← append_assoc pre (b ∷ []) (run bs))
        (agree (pre ++ (b ∷ [])) count)
    go q false h =
        rw (before-other space b bs q, no_digits (pre ++ (b ∷ before space bs)) (not_digits pre b (before space bs) h), run-stops b bs h, scan_other count b bs q)
        (sym (both-none (number (pre ++ []))))

agreed : (text : List ℕ) → Agree text
agreed [] pre count = rw (before-none space, fields-none, run-empty, ended count)
agreed (b ∷ bs) pre count = step b bs (agreed bs) pre count

pub operands-scan : (count : ℕ) (text : List ℕ) → operands count text ≡ scan count text
unfolding operands
operands-scan count [] = rw (before-none space, fields-none) (ended count)
operands-scan count (b ∷ bs) =
    elim (ℕ_discrete b space) [
      | yes q ↦ rw (before-mark space b bs q, fields-space b bs q) (one_field b bs (agreed bs) q count)
      | no q ↦ rw (before-other space b bs q, eqb-suc-zero (length (before space bs))) (sym (scan_other count b bs q))
    ]

-- a loop that stores each number where its turn is
abbrev pub stored : List ℕ → ℕ → Option (List ℕ) → Option (List ℕ)
stored ns k none = none
stored ns k (some xs) = some (sets ns k xs)

stored_one : (ns : List ℕ) (k x : ℕ) (o : Option (List ℕ)) → stored ns k (both (some x) o) ≡ stored (set ns k x) (k + 1) o
stored_one ns k x none = refl
stored_one ns k x (some xs) = rw (add-one k)

-- what a field that was read says of the scan
field_bad : (at count : ℕ) (text : List ℕ) → None ≡ read_field at text → scan (suc count) text ≡ none
unfolding read_field read_number
field_bad at count [] h = refl
field_bad at count (b ∷ bs) h =
    elim (ℕ_discrete b space) [
      | yes q ↦
          let e = spelled_none (at + 1 + length (run bs)) (number (run bs)) (rw (eq-eqb b space q) at h) in
          rw (eq-eqb b space q, e)
      | no q ↦ rw (ne_eqb b space q)
    ]

field_value : (at count : ℕ) (text : List ℕ) {x s : ℕ} → Some (x, s) ≡ read_field at text
    → (L : ℕ) × (s ≡ at + L) × (L ≤ length text) × (scan (suc count) text ≡ both (some x) (scan count (drop L text)))
unfolding read_field read_number
field_value at count [] h = absurd (let z : ◌≡◌ {A = ℕ} 0 1 = cc in omega arith)
field_value at count (b ∷ bs) h =
    elim (ℕ_discrete b space) [
      | yes q ↦
          let e = spelled_some (at + 1 + length (run bs)) (number (run bs)) (rw (eq-eqb b space q) at h) in
          (suc (length (run bs)), omega (arith, e.1), omega (arith, run_short bs), rw (eq-eqb b space q, e.0))
      | no q ↦ absurd (let z : ◌≡◌ {A = ℕ} 0 1 = cc (rw (ne_eqb b space q) at h) in omega arith)
    ]

-- k numbers are stored, and `rest` is still to be read
pub record Going (text : List ℕ) (count : ℕ) (ns rest : List ℕ) (k : ℕ) : Type 0 where
  pub few : k ≤ count
  pub long : length ns ≡ 3
  pub so_far : stored ns k (scan (count - k) rest) ≡ stored (0 ∷ 0 ∷ 0 ∷ []) 0 (scan count text)

pub start : (text : List ℕ) (count : ℕ) → Going text count (0 ∷ 0 ∷ 0 ∷ []) text 0
start text count = record { few = omega arith; long = refl; so_far = rw (sub-zero count) }

stored_none : (ns : List ℕ) (k : ℕ) (o : Option (List ℕ)) → none ≡ stored ns k o → o ≡ none
stored_none ns k none h = refl
stored_none ns k (some xs) h = absurd (let z : ◌≡◌ {A = ℕ} 0 1 = cc in omega arith)

sets_past : (ns : List ℕ) (k : ℕ) (xs : List ℕ) → length ns ≤ k → sets ns k xs ≡ ns
sets_past ns k [] h = refl
sets_past ns k (x ∷ xs) h = rw (set_out ns k x h) (sets_past ns (suc k) xs (omega arith))

three : (xs : List ℕ) → three_of (some (sets (0 ∷ 0 ∷ 0 ∷ []) 0 xs)) ≡ three_of (some xs)
three [] = refl
three (x ∷ []) = refl
three (x ∷ y ∷ []) = refl
three (x ∷ y ∷ z ∷ xs) = rw (sets_past (x ∷ y ∷ z ∷ []) 3 xs (omega arith))

three_whole : (ns : List ℕ) → length ns ≡ 3 → three_of (some ns) ≡ Some ns
three_whole [] h = absurd (omega arith)
three_whole (x ∷ []) h = absurd (omega arith)
three_whole (x ∷ y ∷ []) h = absurd (omega arith)
three_whole (x ∷ y ∷ z ∷ []) h = refl
three_whole (x ∷ y ∷ z ∷ u ∷ ns) h = absurd (omega arith)

handed : (ns : List ℕ) (o : Option (List ℕ)) → some ns ≡ stored (0 ∷ 0 ∷ 0 ∷ []) 0 o → three_of (some ns) ≡ three_of o
handed ns none h = absurd (let z : ◌≡◌ {A = ℕ} 0 1 = cc in omega arith)
handed ns (some xs) h = ap three_of h ∙ three xs

module _ {text : List ℕ} {count : ℕ} {ns rest : List ℕ} {k : ℕ} (g : Going text count ns rest k) where
  refused : scan (count - k) rest ≡ none → None ≡ three_of (operands count text)
  refused e =
      let n = stored_none (0 ∷ 0 ∷ 0 ∷ []) 0 (scan count text) (sym (ap (stored ns k) e) ∙ g.so_far) in
      rw (operands-scan count text, n)

  module _ (h : k < count) where
    left : count - k ≡ suc (count - (k + 1))
    left = omega arith

    pub field-refused : None ≡ read_field 0 rest → None ≡ three_of (operands count text)
    field-refused e = refused (rw left (field_bad 0 (count - (k + 1)) rest e))

    module _ {x len : ℕ} (e : Some (x, len) ≡ read_field 0 rest) where
      pub field_within : len ≤ length rest
      field_within = let q = field_value 0 (count - (k + 1)) rest e in omega (arith, q.1, q.2)

      pub field_stored : Going text count (set ns k x) (take (length rest - len) (drop len rest)) (k + 1)
      field_stored =
          let q = field_value 0 (count - (k + 1)) rest e in
          let behind : take (length rest - len) (drop len rest) ≡ drop q.0 rest =
          take_all (length rest - len) (drop len rest) (omega (arith, length-drop len rest)) ∙ ap (λ n. drop n rest) (q.1 ∙ zero-add q.0) in
          record {
            few = omega arith;
            long = length-set ns k x ∙ g.long;
            so_far =
                ap (λ t. stored (set ns k x) (k + 1) (scan (count - (k + 1)) t)) behind
                ∙ sym (stored_one ns k x (scan (count - (k + 1)) (drop q.0 rest)))
                ∙ ap (stored ns k) (sym q.3)
                ∙ ap (λ n. stored ns k (scan n rest)) (sym left)
                ∙ g.so_far;
          }

  module _ (h : count ≤ k) where
    none_left : count - k ≡ 0
    none_left = omega arith

    pub more_there : 1 ≤ length rest → None ≡ three_of (operands count text)
    more_there n = refused (rw (none_left, first_there rest n))

    pub all_there : length rest < 1 → Some ns ≡ three_of (operands count text)
    all_there e =
        let q : some ns ≡ stored (0 ∷ 0 ∷ 0 ∷ []) 0 (scan count text) = rw (none_left, nothing_there rest e) at g.so_far in
        sym (three_whole ns g.long) ∙ handed ns (scan count text) q ∙ ap three_of (sym (operands-scan count text))
