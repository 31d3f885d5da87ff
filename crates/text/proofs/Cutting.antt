-- Lines, one after the other.
use Prim.Native.Nat.{ℕ, suc, ◌+◌, ◌-◌, ◌≤◌, ◌<◌}
use mathlib.Core.Path.{◌≡◌, refl, sym, ap, ap₂, subst, ◌∙◌}
use mathlib.Core.List.{List, [], ◌∷◌}
use native.Mathlib.Nat.{suc-add}
use native.Mathlib.Numerals.{add-one}
use native.Mathlib.Decide.{ℕ_discrete}
use native.Mathlib.Omega.{arith}
use borrow.Author.Tests.{eq-eqb, ne_eqb}
use mathlib.Core.Bool.{cond}
use lib.Dec.{eqb}
use Rattle.std.specs.List.{position_or_len}
use Rattle.std.proofs.lemmas.List.Recursion.{is_position_or_len}
use Rattle.std.proofs.lemmas.List.{length-take}
use lib.ListN.{length, get_or, take, drop, drop_of_length-le}
use lib.Seq.{slice, drop-cons, take-add, drop_at, drop-drop, length-take-le}
use Rattle.printing.specs.Bytes.{newline}
use Rattle.text.specs.Bytes.{before}
use Rattle.text.specs.Lines.{lines, in_front}
use Rattle.text.specs.Parts.{EndsLine}

-- what stands before a mark, by the first byte
pub before-mark : (mark b : ℕ) (bs : List ℕ) → b ≡ mark → before mark (b ∷ bs) ≡ []
unfolding before
before-mark mark b bs h = rw (eq-eqb b mark h)

pub before-other : (mark b : ℕ) (bs : List ℕ) → (b ≡ mark → ⊥) → before mark (b ∷ bs) ≡ b ∷ before mark bs
unfolding before
before-other mark b bs h = rw (ne_eqb b mark h)

pub before-none : (mark : ℕ) → before mark [] ≡ []
unfolding before
before-none mark = refl

pub before-taken : (mark : ℕ) (text : List ℕ) → take (length (before mark text)) text ≡ before mark text
before-taken mark [] = rw (before-none mark)
before-taken mark (b ∷ bs) =
    elim (ℕ_discrete b mark) [
      | yes q ↦ rw (before-mark mark b bs q)
      | no q ↦ rw (before-other mark b bs q) (ap (λ s. b ∷ s) (before-taken mark bs))
    ]

-- a loop that looks for the mark
module _ (mark : ℕ) (s : List ℕ) (i : ℕ) where
  pub mark-here : i < length s → get_or s i 0 ≡ mark → length (before mark (drop i s)) ≡ 0
  mark-here h e = rw (drop-cons s i 0 h, before-mark mark (get_or s i 0) (drop (suc i) s) e)

  pub mark-later : i < length s → (get_or s i 0 ≡ mark → ⊥) → length (before mark (drop i s)) ≡ 1 + length (before mark (drop (i + 1) s))
  mark-later h n = rw (drop-cons s i 0 h, before-other mark (get_or s i 0) (drop (suc i) s) n, add-one i) (omega arith)

  pub mark_never : length s ≤ i → length (before mark (drop i s)) ≡ 0
  mark_never h = ap (λ t. length (before mark t)) (drop_of_length-le s {i = i} h) ∙ ap length (before-none mark)

-- a text that is not empty: its first line, and the lines behind that line's newline
pub lines_next : (b : ℕ) (bs : List ℕ) → lines (b ∷ bs) ≡ before newline (b ∷ bs) ∷ lines (drop (length (before newline (b ∷ bs)) + 1) (b ∷ bs))
unfolding lines
lines_next b [] =
    elim (ℕ_discrete b newline) [
      | yes q ↦ rw (before-mark newline b [] q, eq-eqb b newline q)
      | no q ↦ rw (before-other newline b [] q, before-none newline, ne_eqb b newline q)
    ]
lines_next b (d ∷ ds) =
    elim (ℕ_discrete b newline) [
      | yes q ↦ rw (before-mark newline b (d ∷ ds) q, eq-eqb b newline q)
      | no q ↦
          rw (before-other newline b (d ∷ ds) q, ne_eqb b newline q)
          (ap (in_front b) (lines_next d ds) ∙ ap (λ n. (b ∷ before newline (d ∷ ds)) ∷ lines (drop n (b ∷ d ∷ ds))) (sym (suc-add (length (before newline (d ∷ ds))) 1)))
    ]

-- the bytes from `at` up to `end`, taken behind those before `at`
pub slice_taken : (script : List ℕ) (at n : ℕ) → at ≤ length script → slice at (at + n) script ≡ take n (drop at script)
slice_taken script at n h = rw (take-add at n script) (drop_at (take at script) (take n (drop at script)) at (length-take-le at script h))

-- a line lent, and as it is cut
pub part_is : {script : List ℕ} {at end : ℕ} → EndsLine script at end → take (end - at) (drop at script) ≡ slice at end script
part_is {script} {at} {end} e =
    let n : at + (end - at) ≡ end = omega (arith, e.is) in
    sym (slice_taken script at (end - at) (omega (arith, e.is, e.held))) ∙ ap (λ k. slice at k script) n

-- a loop over a script that stands at `at`: one line, up to where it ends, then the lines behind its newline
pub lines_at : {script : List ℕ} {at end : ℕ} → at < length script → EndsLine script at end
    → lines (drop at script) ≡ slice at end script ∷ lines (drop (end + 1) script)
lines_at {script} {at} {end} h e =
    let t = drop at script in
    let n = length (before newline t) in
    let next : lines t ≡ before newline t ∷ lines (drop (n + 1) t) =
    subst (λ u. lines u ≡ before newline u ∷ lines (drop (length (before newline u) + 1) u)) (sym (drop-cons script at 0 h)) (lines_next (get_or script at 0) (drop (suc at) script)) in
    let line : slice at end script ≡ before newline t =
    rw e.is (slice_taken script at n (omega arith) ∙ before-taken newline t) in
    let to : at + (n + 1) ≡ end + 1 = omega (arith, e.is) in
    let rest : drop (n + 1) t ≡ drop (end + 1) script = drop-drop (n + 1) at script ∙ ap (λ k. drop k script) to in
    next ∙ ap₂ (λ l r. l ∷ lines r) (sym line) rest

pub lines_end : (script : List ℕ) (at : ℕ) → length script ≤ at → lines (drop at script) ≡ []
unfolding lines
lines_end script at h = rw (drop_of_length-le script {i = at} h)

-- a search for the mark finds where the text before it ends
pub before_len_is : (mark : ℕ) (text : List ℕ) → length (before mark text) ≡ position_or_len (λ b. eqb b mark) text
before_len_is mark = is_position_or_len (λ text. length (before mark text)) (λ b. eqb b mark) (ap length (before-none mark)) (next mark)
  where
    next : (mark b : ℕ) (bs : List ℕ) → length (before mark (b ∷ bs)) ≡ cond (eqb b mark) 0 (1 + length (before mark bs))
    next mark b bs =
        elim (ℕ_discrete b mark) [
          | yes q ↦ rw (before-mark mark b bs q, eq-eqb b mark q)
          | no q ↦ rw (before-other mark b bs q, ne_eqb b mark q) (omega arith)
        ]

pub before_short : (mark : ℕ) (text : List ℕ) → length (before mark text) ≤ length text
before_short mark text = omega (arith, ap length (before-taken mark text), length-take {A = ℕ})
