-- What a test of all numbers below another says, `every-says`, `every_so`; a directory is right exactly where its test passes: `right_says`, `right_so`.
use Prim.Native.Nat.{ℕ, zero, suc, ◌+◌, ◌≤◌, ◌<◌}
use mathlib.Core.Path.{◌≡◌, refl, sym, ap, ◌∙◌}
use mathlib.Core.Bool.{Bool, true, false, ◌&&◌, ◌||◌}
use mathlib.Core.List.{List}
use native.Mathlib.Nat.{not-suc-le-zero, zero-add}
use native.Mathlib.Numerals.{add-one}
use native.Mathlib.Decide.{ℕ_discrete, dec_lt}
use native.Mathlib.Omega.{arith}
use borrow.Author.Tests.{eq-eqb, ne_eqb, lt-ltb, le-ltb, eqb-true, ltb-true}
use lib.Dec.{eqb, ltb}
use lib.ListN.{length, get_or, take}
use Rattle.std.specs.List.{list_all, enumerate_from}
use lib.Seq.{take-length}
use Rattle.std.proofs.lemmas.List.Folds.{list_all_more}
use Rattle.std.proofs.lemmas.List.FromFn.{length-enumerate_from, get_or-enumerate_from}
use Rattle.std.proofs.lemmas.List.{get_or-take, length-take-le}
use Rattle.index.specs.Index.{END, is_end}
use Rattle.tables.proofs.Laws.{both}
use Rattle.directory.specs.Directory.{entry, Right, every, row_named, bears, stands, entry_stands, rows_named, entries_stand, is_right, register_in}
use Rattle.directory.proofs.Laws.{inside}

and_false : (a b : Bool) → b ≡ false → (a && b) ≡ false
and_false true b h = h
and_false false b h = refl

pub every-none : (test : ℕ → Bool) → every test 0 ≡ true
unfolding every
every-none test = refl

pub every_more : (test : ℕ → Bool) (x : ℕ) → every test x ≡ true → test x ≡ true → every test (x + 1) ≡ true
unfolding every
every_more test x p q = rw (add-one x, p, q)

pub every-says : (test : ℕ → Bool) (n : ℕ) → every test n ≡ true → (x : ℕ) → x < n → test x ≡ true
unfolding every
every-says test zero p x h = absurd (not-suc-le-zero h)
every-says test (suc n) p x h =
    let b = both (every test n) (test n) p in
    elim (ℕ_discrete x n) [
      | yes q ↦ rw q b.1
      | no q ↦ every-says test n b.0 x (omega arith)
    ]

pub every_so : (test : ℕ → Bool) (n : ℕ) → ((x : ℕ) → x < n → test x ≡ true) → every test n ≡ true
unfolding every
every_so test zero p = refl
every_so test (suc n) p = rw (every_so test n (λ x h. p x (omega arith)), p n (omega arith))

-- one that fails is enough
pub not_every : (test : ℕ → Bool) (n x : ℕ) → x < n → test x ≡ false → every test n ≡ false
unfolding every
not_every test zero x h q = absurd (not-suc-le-zero h)
not_every test (suc n) x h q =
    elim (ℕ_discrete x n) [
      | yes e ↦ and_false (every test n) (test n) (rw (← e) q)
      | no e ↦ rw (not_every test n x (omega arith) q)
    ]

bears-says : (number : ℕ → ℕ) (m x r : ℕ) → bears number m x r ≡ true → (x < m) × (number x ≡ r)
bears-says number m x r p =
    let b = both (ltb x m) (eqb (number x) r) p in
    (ltb-true x m b.0, eqb-true (number x) r b.1)

stands-says : (number : ℕ → ℕ) (m x r : ℕ) → (x ≡ END → ⊥) → stands number m x r ≡ true → bears number m x r ≡ true
stands-says number m x r n p = rw (ne_eqb x END n) at p

module _ (number : ℕ → ℕ) (m : ℕ) (d : List ℕ) where
  pub right_says : is_right number m d ≡ true → Right number m d
  unfolding is_right rows_named entries_stand
  right_says p =
      let b = both (every (row_named number d) m) (every (entry_stands number m d) (length d)) p in
      record {
        named = λ e h. eqb-true (entry d (number e)) e (every-says (row_named number d) m b.0 e h);
        borne =
            λ r n.
            bears-says number m (entry d r) r
            (stands-says number m (entry d r) r n (every-says (entry_stands number m d) (length d) b.1 r (inside d r n)));
      }

  pub right_so : Right number m d → is_right number m d ≡ true
  unfolding is_right rows_named entries_stand
  right_so R =
      rw (
        every_so (row_named number d) m (λ e h. eq-eqb (entry d (number e)) e (R.named e h)),
        every_so (entry_stands number m d) (length d) (λ r h.
            elim (ℕ_discrete (entry d r) END) [
              | yes q ↦ rw (eq-eqb (entry d r) END q)
              | no q ↦ (let b = R.borne r q in rw (ne_eqb (entry d r) END q, lt-ltb (entry d r) m b.0, eq-eqb (number (entry d r)) r b.1))
            ]),
      )

-- a test of each element of a list, where the element at a place stands for the place
pub every_listed : {X : Type 0} (p : X → Bool) (test : ℕ → Bool) (xs : List X) (d : X) → ((k : ℕ) → k < length xs → p (get_or xs k d) ≡ test k)
    → (i : ℕ) → i ≤ length xs → list_all p (take i xs) ≡ every test i
unfolding every
every_listed p test xs d s zero h = refl
every_listed p test xs d s (suc i) h =
    rw (← add-one i, list_all_more p xs i d (omega arith), every_listed p test xs d s i (omega arith), s i (omega arith))

-- of a whole list, of n elements
all_listed : {X : Type 0} (p : X → Bool) (test : ℕ → Bool) (xs : List X) (d : X) (n : ℕ) → length xs ≡ n
    → ((k : ℕ) → k < length xs → p (get_or xs k d) ≡ test k) → list_all p xs ≡ every test n
all_listed p test xs d n q s =
    rw (← q) (ap (list_all p) (sym (take-length xs)) ∙ every_listed p test xs d s (length xs) (omega arith))

-- an element with its index
numbered : (xs : List ℕ) (x k : ℕ) → k < length xs → get_or (enumerate_from 0 xs) k (0, x) ≡ (k, get_or xs k x)
numbered xs x k h = get_or-enumerate_from 0 xs k (0, x) h ∙ ap (λ (i : ℕ). (i, get_or xs k x)) (zero-add k)

-- the tests of all rows and of all entries, as the iterators come to them
module _ (numbers d : List ℕ) where
  pub rows_listed : list_all (λ (p : ℕ × ℕ). eqb (entry d p.1) p.0) (enumerate_from 0 numbers) ≡ rows_named (register_in numbers) (length numbers) d
  unfolding rows_named
  rows_listed =
      all_listed (λ (p : ℕ × ℕ). eqb (entry d p.1) p.0) (row_named (register_in numbers) d) (enumerate_from 0 numbers) (0, 0) (length numbers)
      (length-enumerate_from 0 numbers)
      (λ k h. ap (λ (p : ℕ × ℕ). eqb (entry d p.1) p.0) (numbered numbers 0 k (omega (arith, length-enumerate_from 0 numbers))))

  pub entries_listed : list_all (λ (p : ℕ × ℕ). stands (register_in numbers) (length numbers) p.1 p.0) (enumerate_from 0 d)
      ≡ entries_stand (register_in numbers) (length numbers) d
  unfolding entries_stand
  entries_listed =
      let test : ℕ × ℕ → Bool = λ p. stands (register_in numbers) (length numbers) p.1 p.0 in
      all_listed test (entry_stands (register_in numbers) (length numbers) d) (enumerate_from 0 d) (0, END) (length d) (length-enumerate_from 0 d)
      (λ k h. ap test (numbered d END k (omega (arith, length-enumerate_from 0 d))))

-- two numberings that agree on the rows in use
every_same : (p q : ℕ → Bool) (n : ℕ) → ((x : ℕ) → x < n → p x ≡ q x) → every p n ≡ every q n
unfolding every
every_same p q zero s = refl
every_same p q (suc n) s = rw (every_same p q n (λ x h. s x (omega arith)), s n (omega arith))

module _ (f g : ℕ → ℕ) (m : ℕ) (s : (x : ℕ) → x < m → f x ≡ g x) where
  pub bears_same : (x r : ℕ) → bears f m x r ≡ bears g m x r
  bears_same x r =
      elim (dec_lt x m) [
        | yes h ↦ rw (lt-ltb x m h, s x h)
        | no h ↦ rw (le-ltb x m (omega arith))
      ]

  pub right_same : (d : List ℕ) → is_right f m d ≡ is_right g m d
  unfolding is_right rows_named entries_stand
  right_same d =
      rw (
        every_same (row_named f d) (row_named g d) m (λ e h. ap (λ r. eqb (entry d r) e) (s e h)),
        every_same (entry_stands f m d) (entry_stands g m d) (length d) (λ r h. ap (λ b. is_end (entry d r) || b) (bears_same (entry d r) r)),
      )

-- the numbers of the rows in use stand at the front of their column
module _ (registers : List ℕ) (m : ℕ) (h : m ≤ length registers) where
  in_front : (x : ℕ) → x < m → register_in (take m registers) x ≡ register_in registers x
  in_front x l = get_or-take m registers x 0 l

  pub front_long : m ≡ length (take m registers)
  front_long = sym (length-take-le m registers h)

  pub bears_front : (x r : ℕ) → bears (register_in (take m registers)) (length (take m registers)) x r ≡ bears (register_in registers) m x r
  bears_front x r = rw (length-take-le m registers h) (bears_same (register_in (take m registers)) (register_in registers) m in_front x r)

  pub right_front : (d : List ℕ) → is_right (register_in (take m registers)) (length (take m registers)) d ≡ is_right (register_in registers) m d
  right_front d = rw (length-take-le m registers h) (right_same (register_in (take m registers)) (register_in registers) m in_front d)

-- what a lookup among the numbers of the rows in use comes to
pub ruleset fronting = (front_long, bears_front, right_front)
