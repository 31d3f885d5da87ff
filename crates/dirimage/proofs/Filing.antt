-- Whether rows can be filed, in the order's words: `filing-beyond`, `filing-taken`, `filing-free`.
-- Rows that can be filed have a right directory, `filed-right`; rows that have one can be filed, `right_files`.
use Prim.{Unit, tt}
use Prim.Native.Nat.{ℕ, zero, suc, ◌≤◌, ◌<◌}
use mathlib.Core.Path.{◌≡◌, refl, sym, ap, ◌∙◌}
use mathlib.Core.Bool.{Bool, true, false, not, ◌&&◌}
use mathlib.Core.Logic.{◌↔◌}
use mathlib.Core.List.{List}
use native.Mathlib.Nat.{not-suc-le-zero}
use native.Mathlib.Decide.{ℕ_discrete, dec_lt}
use native.Mathlib.Omega.{arith}
use borrow.Author.Tests.{eq-eqb, ne_eqb, ltb-true, ltb-false, eqb-true, eqb-false, not-true, not-false}
use lib.Dec.{eqb}
use lib.ListN.{length, set, replicate}
use lib.Seq.{get_or-set_same, get_or-set_other}
use Rattle.std.specs.Prelude.{Result, Ok, Err}
use Rattle.index.specs.declared.Refusal.{Refusal}
use Rattle.index.specs.declared.Refusal.TheVariants.{Taken, Beyond}
use Rattle.index.specs.Index.{END, is_end}
use Rattle.tables.specs.Answers.{unless}
use Rattle.directory.specs.Directory.{entry, every, directory_of, Right}
use Rattle.directory.proofs.Every.{every-says, every_so}
use Rattle.directory.proofs.Laws.{directory_length, has_cell_lem, apart, right_none, right_built}
use Rattle.dirrows.specs.Parts.{claim_no}
use Rattle.dirimage.specs.Loading.{has_cell, is_first, filing}
use Rattle.dirimage.specs.Load.{SomeBeyond, AllBelow, BorneTwice}

-- a test that does not hold of all fails somewhere
some_fails : (test : ℕ → Bool) (n : ℕ) → every test n ≡ false → (x : ℕ) × (x < n) × (test x ≡ false)
unfolding every
some_fails test zero p = absurd (let z : ◌≡◌ {A = ℕ} 0 1 = cc in omega arith)
some_fails test (suc n) p = go (every test n) (λ z. some_fails test n z) p
  where
    go : (b : Bool) → (b ≡ false → (x : ℕ) × (x < n) × (test x ≡ false)) → (b && test n) ≡ false → (x : ℕ) × (x < suc n) × (test x ≡ false)
    go true before q = (n, omega arith, q)
    go false before q = let r = before refl in (r.0, omega (arith, r.1), r.2)

-- once e rows are entered, none stands at number r exactly where none of them bears it
pub none-borne : (number : ℕ → ℕ) (cells r e : ℕ) → r < cells → e ≤ END
    → is_end (entry (directory_of cells number e) r) ≡ every (λ x. not (eqb (number x) r)) e
unfolding directory_of every
none-borne number cells r zero h s =
    elim (ℕ_discrete (entry (replicate cells END) r) END) [
      | yes q ↦ eq-eqb _ END q
      | no q ↦ absurd (not-suc-le-zero ((right_none number cells).borne r q).0)
    ]
none-borne number cells r (suc e) h s =
    let c = directory_of cells number e in
    elim (ℕ_discrete r (number e)) [
      | yes q ↦
          (let z : entry (set c (number e) e) r ≡ e =
          ap (entry (set c (number e) e)) q ∙ get_or-set_same c (number e) e END (rw (directory_length cells number e) (omega arith)) in
          ap is_end z ∙ ne_eqb e END (λ y. omega arith) ∙ rw (eq-eqb (number e) r (sym q)) (sym (and_none (every (λ x. not (eqb (number x) r)) e))))
      | no q ↦
          rw (get_or-set_other c (number e) r e END q, none-borne number cells r e h (omega arith), ne_eqb (number e) r (λ z. q (sym z)))
          (sym (and_all (every (λ x. not (eqb (number x) r)) e)))
    ]
  where
    and_none : (b : Bool) → (b && false) ≡ false
    and_none true = refl
    and_none false = refl

    and_all : (b : Bool) → (b && true) ≡ b
    and_all true = refl
    and_all false = refl

-- how the rows can be filed, by the numbers that they bear
pub data FilingEnds (number : ℕ → ℕ) (m cells : ℕ) (r : Result Unit Refusal) : Type 0 where
  beyond : r ≡ Err Beyond → SomeBeyond number m cells → FilingEnds number m cells r
  taken : r ≡ Err Taken → AllBelow number m cells → BorneTwice number m → FilingEnds number m cells r
  free : r ≡ Ok tt → AllBelow number m cells → (BorneTwice number m → ⊥) → FilingEnds number m cells r

module _ (number : ℕ → ℕ) (m cells : ℕ) where
  below_says : every (has_cell number cells) m ≡ true → AllBelow number m cells
  below_says p e h = ltb-true (number e) cells (every-says (has_cell number cells) m p e h)

  beyond_says : every (has_cell number cells) m ≡ false → SomeBeyond number m cells
  beyond_says p =
      let f = some_fails (has_cell number cells) m p in
      (f.0, f.1, ltb-false (number f.0) cells f.2)

  -- a row that is not the first to bear its number has another before it
  twice_says : every (is_first number) m ≡ false → BorneTwice number m
  twice_says p =
      let f = some_fails (is_first number) m p in
      let e = f.0 in
      let b = some_fails (λ x. not (eqb (number x) (number e))) e f.2 in
      let x = b.0 in
      (x, e, omega (arith, b.1, f.1), f.1, λ z. omega (arith, b.1, z), eqb-true (number x) (number e) (not-false _ b.2))

  apart_says : every (is_first number) m ≡ true → BorneTwice number m → ⊥
  apart_says p (e, x, h, k, n, q) =
      elim (dec_lt e x) [
        | yes l ↦ earlier e x k l q
        | no l ↦ earlier x e h (omega arith) (sym q)
      ]
    where
      earlier : (e x : ℕ) → x < m → e < x → number e ≡ number x → ⊥
      earlier e x k l q =
          eqb-false (number e) (number x) (not-true _ (every-says (λ y. not (eqb (number y) (number x))) x (every-says (is_first number) m p x k) e l)) q

  pub filing-ends : FilingEnds number m cells (filing number m cells)
  unfolding filing
  filing-ends = go (every (has_cell number cells) m) (every (is_first number) m) refl refl
    where
      go : (i j : Bool) → every (has_cell number cells) m ≡ i → every (is_first number) m ≡ j
          → FilingEnds number m cells (unless i (Err Beyond) (unless j (Err Taken) (Ok tt)))
      go false j p q = beyond refl (beyond_says p)
      go true false p q = taken refl (below_says p) (twice_says q)
      go true true p q = free refl (below_says p) (apart_says q)

  -- 12 exactly where the number of a row has no cell
  pub filing-beyond : filing number m cells ≡ Err Beyond ↔ SomeBeyond number m cells
  filing-beyond = go (filing number m cells) filing-ends
    where
      go : (r : Result Unit Refusal) → FilingEnds number m cells r → r ≡ Err Beyond ↔ SomeBeyond number m cells
      go r (beyond z s) = (λ p. s, λ s. z)
      go r (taken z a b) = (λ p. absurd (omega (arith, ap claim_no (sym z ∙ p))), λ s. absurd (omega (arith, a s.0 s.1, s.2)))
      go r (free z a b) = (λ p. absurd (omega (arith, ap claim_no (sym z ∙ p))), λ s. absurd (omega (arith, a s.0 s.1, s.2)))

  -- 11 exactly where each has one and two rows bear the same
  pub filing-taken : filing number m cells ≡ Err Taken ↔ AllBelow number m cells × BorneTwice number m
  filing-taken = go (filing number m cells) filing-ends
    where
      go : (r : Result Unit Refusal) → FilingEnds number m cells r → r ≡ Err Taken ↔ AllBelow number m cells × BorneTwice number m
      go r (beyond z s) = (λ p. absurd (omega (arith, ap claim_no (sym z ∙ p))), λ t. absurd (omega (arith, t.0 s.0 s.1, s.2)))
      go r (taken z a b) = (λ p. (a, b), λ t. z)
      go r (free z a n) = (λ p. absurd (omega (arith, ap claim_no (sym z ∙ p))), λ t. absurd (n t.1))

  -- else they can be filed
  pub filing-free : filing number m cells ≡ Ok tt ↔ AllBelow number m cells × (BorneTwice number m → ⊥)
  filing-free = go (filing number m cells) filing-ends
    where
      go : (r : Result Unit Refusal) → FilingEnds number m cells r → r ≡ Ok tt ↔ AllBelow number m cells × (BorneTwice number m → ⊥)
      go r (beyond z s) = (λ p. absurd (omega (arith, ap claim_no (sym z ∙ p))), λ t. absurd (omega (arith, t.0 s.0 s.1, s.2)))
      go r (taken z a b) = (λ p. absurd (omega (arith, ap claim_no (sym z ∙ p))), λ t. absurd (t.1 b))
      go r (free z a n) = (λ p. (a, n), λ t. z)

  -- the number tells which
  pub filing-number : (claim_no (filing number m cells) ≡ 12 → filing number m cells ≡ Err Beyond)
      × (claim_no (filing number m cells) ≡ 11 → filing number m cells ≡ Err Taken)
  filing-number = go (filing number m cells) filing-ends
    where
      go : (r : Result Unit Refusal) → FilingEnds number m cells r → (claim_no r ≡ 12 → r ≡ Err Beyond) × (claim_no r ≡ 11 → r ≡ Err Taken)
      go r (beyond z s) = (λ p. z, λ p. absurd (omega (arith, ap claim_no z)))
      go r (taken z a b) = (λ p. absurd (omega (arith, ap claim_no z)), λ p. z)
      go r (free z a n) = (λ p. absurd (omega (arith, ap claim_no z)), λ p. absurd (omega (arith, ap claim_no z)))

  -- rows that can be filed have a right directory
  pub filed-right : m ≤ END → filing number m cells ≡ Ok tt → Right number m (directory_of cells number m)
  filed-right s p =
      let (a, n) = filing-free.0 p in
      right_built number cells m s a
      (λ e h.
      eqb-true (entry (directory_of cells number e) (number e)) END
      (none-borne number cells (number e) e (a e h) (omega arith)
      ∙ every_so (λ x. not (eqb (number x) (number e))) e (λ x l.
      ap not (ne_eqb (number x) (number e) (λ q. n (x, e, omega arith, h, λ y. omega arith, q))))))

-- the rows of a right directory can be filed in one that is as long
pub right_files : (number : ℕ → ℕ) (m : ℕ) (d : List ℕ) → m ≤ END → Right number m d → filing number m (length d) ≡ Ok tt
right_files number m d s R =
    (filing-free number m (length d)).1 (λ e h. has_cell_lem number m d R s e h, λ t. t.4 (apart number m d R s t.0 t.1 t.2 t.3 t.5))
