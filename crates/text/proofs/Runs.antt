-- The digits that a text begins with, read one by one.
use Prim.Native.Nat.{ℕ, zero, suc, ◌+◌, ◌*◌, ◌-◌, ◌^◌, ◌≤◌, ◌<◌, min}
use mathlib.Core.Path.{◌≡◌, refl, sym, ap, subst, ◌∙◌}
use mathlib.Core.Bool.{Bool, true, false, cond, not, ◌&&◌}
use mathlib.Core.Logic.{◌⊎◌, inl, inr, ⊎_elim}
use mathlib.Core.List.{List, [], ◌∷◌, ◌++◌}
use mathlib.Core.Option.{none, some}
use native.Mathlib.Nat.{pow-suc, pow-le-pow_right}
use native.Mathlib.Numerals.{add-one}
use native.Mathlib.Omega.{arith}
use native.Mathlib.Decide.{dec_lt}
use borrow.Author.Tests.{le-leb, lt-leb, leb-true, lt-ltb, le-ltb}
use lib.Dec.{leb, ltb}
use Rattle.std.specs.Prelude.{Some, None}
use Rattle.std.specs.Option.{unwrap_or}
use Rattle.std.specs.declared.option.Option as Std·
use Rattle.std.specs.List.{position_or_len}
use Rattle.std.proofs.lemmas.List.Recursion.{is_position_or_len}
use Rattle.std.proofs.lemmas.List.{take_more, length-take}
use lib.ListN.{length, get_or, take}
use lib.Seq.{take-length}
use Rattle.text.specs.Bytes.{is_digit}
use Rattle.text.specs.Numbers.{are_digits, value_on, magnitude}
use Rattle.text.specs.Parts.{run, read_digits}

pub and_true : {a b : Bool} → a ≡ true → b ≡ true → a && b ≡ true
and_true p q = rw (p, q)

pub and_false : (a : Bool) → a && false ≡ false
and_false true = refl
and_false false = refl

pub and_l : (a b : Bool) → a && b ≡ true → a ≡ true
and_l true b h = refl
and_l false b h = h

pub and_r : (a b : Bool) → a && b ≡ true → b ≡ true
and_r true b h = h
and_r false b h = absurd (let z : ◌≡◌ {A = ℕ} 0 1 = cc in omega arith)

pub digit_range : (b : ℕ) → is_digit b ≡ true → (48 ≤ b) × (b ≤ 57)
digit_range b h = (leb-true 48 b (and_l (leb 48 b) (leb b 57) h), leb-true b 57 (and_r (leb 48 b) (leb b 57) h))

-- what begins with a digit, and what does not
pub run_digit : (b : ℕ) (bs : List ℕ) → is_digit b ≡ true → run (b ∷ bs) ≡ b ∷ run bs
unfolding run
run_digit b bs h = rw h

pub run-stops : (b : ℕ) (bs : List ℕ) → is_digit b ≡ false → run (b ∷ bs) ≡ []
unfolding run
run-stops b bs h = rw h

pub run-empty : run [] ≡ []
unfolding run
run-empty = refl

pub run-digits : (text : List ℕ) → are_digits (run text) ≡ true
unfolding run
run-digits [] = refl
run-digits (b ∷ bs) = go (is_digit b) refl (run-digits bs)
  where
    go : (t : Bool) → is_digit b ≡ t → are_digits (run bs) ≡ true → are_digits (cond t (b ∷ run bs) []) ≡ true
    go true h d = rw h d
    go false h d = refl

pub run_short : (text : List ℕ) → length (run text) ≤ length text
unfolding run
run_short [] = omega arith
run_short (b ∷ bs) = go (is_digit b) (run_short bs)
  where
    go : (t : Bool) → length (run bs) ≤ length bs → length (cond t (b ∷ run bs) []) ≤ suc (length bs)
    go true h = omega arith
    go false h = omega arith

-- when digits have a value
module _ (field : List ℕ) where
  pub magnitude-is : are_digits field ≡ true → 1 ≤ length field → length field ≤ 10 → magnitude field ≡ some (value_on 0 field)
  unfolding magnitude
  magnitude-is d l u = rw (d, le-leb 1 (length field) l, le-leb (length field) 10 u)

  pub no_digits : are_digits field ≡ false → magnitude field ≡ none
  unfolding magnitude
  no_digits d = rw d

  pub too_many : 10 < length field → magnitude field ≡ none
  unfolding magnitude
  too_many h = rw (lt-leb (length field) 10 h, and_false (are_digits field && leb 1 (length field)))

pub none_at_all : magnitude [] ≡ none
unfolding magnitude
none_at_all = refl

pub value_last : (v : ℕ) (xs : List ℕ) (b : ℕ) → value_on v (xs ++ (b ∷ [])) ≡ value_on v xs * 10 + (b - 48)
value_last v [] b = refl
value_last v (x ∷ xs) b = value_last (v * 10 + (x - 48)) xs b

pub no_length : {A : Type 0} (xs : List A) → length xs ≡ 0 → xs ≡ []
no_length [] h = refl
no_length (x ∷ xs) h = absurd (omega arith)

-- the run ends at the first byte that is no digit
pub run_len_is : (text : List ℕ) → length (run text) ≡ position_or_len (λ b. not (is_digit b)) text
run_len_is = is_position_or_len (λ text. length (run text)) (λ b. not (is_digit b)) (ap length run-empty) (λ b bs. next b bs (is_digit b) refl)
  where
    next : (b : ℕ) (bs : List ℕ) (t : Bool) → is_digit b ≡ t → length (run (b ∷ bs)) ≡ cond (not (is_digit b)) 0 (1 + length (run bs))
    next b bs true h = rw h (ap length (run_digit b bs h) ∙ omega arith)
    next b bs false h = rw h (ap length (run-stops b bs h))

-- a search that finds nothing stops at the end of the text
pub stops_at : {o : Std·.Option ℕ} {r m p n : ℕ} → r ≡ unwrap_or o n → o ≡ cond (ltb p n) (Some p) None → m ≡ p → m ≤ n → r ≡ m
stops_at {o} {r} {m} {p} {n} e f q h =
    elim (dec_lt p n) [
      | yes t ↦ let s : o ≡ Some p = rw (lt-ltb p n t) at f in (rw s at e) ∙ sym q
      | no t ↦ let s : o ≡ None = rw (le-ltb p n (omega arith)) at f in (rw s at e) ∙ omega arith
    ]

-- a loop over digits, k of them met
pub digit_at : (digits : List ℕ) (k : ℕ) → are_digits digits ≡ true → k < length digits → is_digit (get_or digits k 0) ≡ true
digit_at [] k d h = absurd (omega arith)
digit_at (b ∷ bs) zero d h = and_l (is_digit b) (are_digits bs) d
digit_at (b ∷ bs) (suc k) d h = digit_at bs k (and_r (is_digit b) (are_digits bs) d) (omega arith)

pub value_more : (digits : List ℕ) (k : ℕ) → k < length digits
    → value_on 0 (take (k + 1) digits) ≡ value_on 0 (take k digits) * 10 + (get_or digits k 0 - 48)
value_more digits k h = ap (value_on 0) (take_more digits k 0 h) ∙ value_last 0 (take k digits) (get_or digits k 0)

pub value_small : (digits : List ℕ) → are_digits digits ≡ true → (k : ℕ) → k ≤ length digits → value_on 0 (take k digits) < 10 ^ k
value_small digits d zero h = omega arith
value_small digits d (suc k) h =
    let n = digit_range (get_or digits k 0) (digit_at digits k d (omega arith)) in
    let more : value_on 0 (take (suc k) digits) ≡ value_on 0 (take k digits) * 10 + (get_or digits k 0 - 48) =
    rw (← add-one k) (value_more digits k (omega arith)) in
    omega (arith, more, value_small digits d k (omega arith), pow-suc 10 k)

-- at most ten digits have a value below 10 ^ 10
pub value_below : (digits : List ℕ) → are_digits digits ≡ true → (k : ℕ) → k ≤ length digits → k ≤ 9 → value_on 0 (take k digits) < 1000000000
value_below digits d k h u = omega (arith, value_small digits d k h, pow-le-pow_right {n = 10} (omega arith) {i = k} {j = 9} u)

pub run_front : (text : List ℕ) → take (length (run text)) text ≡ run text
run_front [] = rw run-empty
run_front (b ∷ bs) = go (is_digit b) refl (run_front bs)
  where
    go : (t : Bool) → is_digit b ≡ t → take (length (run bs)) bs ≡ run bs → take (length (run (b ∷ bs))) (b ∷ bs) ≡ run (b ∷ bs)
    go true h e = rw (run_digit b bs h) (ap (λ s. b ∷ s) e)
    go false h e = rw (run-stops b bs h)

-- the run of the first k bytes is the first k of the run
pub run-cut : (k : ℕ) (text : List ℕ) → run (take k text) ≡ take k (run text)
run-cut zero text = run-empty
run-cut (suc k) [] = rw run-empty
run-cut (suc k) (b ∷ bs) = go (is_digit b) refl (run-cut k bs)
  where
    go : (t : Bool) → is_digit b ≡ t → run (take k bs) ≡ take k (run bs) → run (b ∷ take k bs) ≡ take (suc k) (run (b ∷ bs))
    go true h e = rw (run_digit b (take k bs) h, run_digit b bs h) (ap (λ s. b ∷ s) e)
    go false h e = rw (run-stops b (take k bs) h, run-stops b bs h)

-- so many digits stand at the front of a text
module _ (at : ℕ) (text : List ℕ) {len : ℕ} (e : len ≡ length (run text)) where
  pub front_is : take len text ≡ run text
  front_is = rw e (run_front text)

  pub front_digits : are_digits (take len text) ≡ true
  front_digits = rw front_is (run-digits text)

  pub front_long : length (take len text) ≡ len
  front_long = rw front_is (sym e)

  pub none_or_many : (len ≡ 0) ⊎ ((len ≡ 0 → ⊥) × (10 < len)) → None ≡ read_digits at text
  unfolding read_digits
  none_or_many =
      ⊎_elim
      (λ z. rw (no_length (run text) (omega (arith, e)), none_at_all))
      (λ m. rw (too_many (run text) (omega (arith, e, m.1))))

  pub all_read : {value : ℕ} → (len ≡ 0 → ⊥) → len ≤ 10 → value ≡ value_on 0 (take len text) → Some (value, at + len) ≡ read_digits at text
  unfolding read_digits
  all_read n m v = rw (magnitude-is (run text) (run-digits text) (omega (arith, e)) (omega (arith, e)), v, front_is, e)

counted_cut : (text : List ℕ) (k : ℕ) {len : ℕ} → len ≡ length (run (take k text)) → len ≡ min k (length (run text))
counted_cut text k e = e ∙ ap length (run-cut k text) ∙ length-take k (run text)

-- one byte more than the most digits tells how many digits there are, or that they are too many
module _ (at : ℕ) (text : List ℕ) {k len most : ℕ} (cut : k ≡ min (length text) (most + 1)) (e : len ≡ length (run (take k text))) where
  pub few_counted : len ≤ most → len ≡ length (run text)
  few_counted h = omega (arith, counted_cut text k e, cut, run_short text)

  pub none_or_more : 10 ≤ most → (len ≡ 0) ⊎ ((len ≡ 0 → ⊥) × (most < len)) → None ≡ read_digits at text
  none_or_more many =
      ⊎_elim
      (λ z. none_or_many at text (few_counted (omega (arith, z))) (inl z))
      (λ m. none_or_many at text refl (inr ((λ z. omega (arith, counted_cut text k e, m.1, z)), omega (arith, counted_cut text k e, m.1))))

-- ten digits at most have a value that 64 bits hold
pub magnitude_small : (text : List ℕ) {v : ℕ} → magnitude text ≡ some v → v < 10000000000
unfolding magnitude
magnitude_small text {v} e = go (are_digits text && leb 1 (length text) && leb (length text) 10) refl e
  where
    go : (t : Bool) → are_digits text && leb 1 (length text) && leb (length text) 10 ≡ t → cond t (some (value_on 0 text)) none ≡ some v → v < 10000000000
    go true h e =
        let few = leb-true (length text) 10 (and_r (are_digits text && leb 1 (length text)) (leb (length text) 10) h) in
        let d = and_l (are_digits text) (leb 1 (length text)) (and_l (are_digits text && leb 1 (length text)) (leb (length text) 10) h) in
        let small : value_on 0 text < 10 ^ length text = subst (λ (s : List ℕ). value_on 0 s < 10 ^ length text) (take-length text) (value_small text d (length text) (omega arith)) in
        let same : value_on 0 text ≡ v = cc in
        omega (arith, same, small, pow-le-pow_right {n = 10} (omega arith) {i = length text} {j = 10} few)
    go false h e = absurd (let z : ◌≡◌ {A = ℕ} 0 1 = cc in omega arith)
