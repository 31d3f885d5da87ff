-- The turns of the loop that enters the rows.
use Prim.{tt}
use Prim.Native.Nat.{ℕ, ◌+◌, ◌≤◌, ◌<◌}
use mathlib.Core.Path.{◌≡◌, sym, ap, ◌∙◌}
use mathlib.Core.Bool.{Bool, true, false, not, ◌&&◌}
use mathlib.Core.List.{List}
use native.Mathlib.Numerals.{add-one}
use native.Mathlib.Omega.{arith}
use borrow.Author.Tests.{lt-ltb, le-ltb, not-true, not-false}
use lib.ListN.{length, set, replicate}
use Rattle.std.specs.Prelude.{Ok, Err}
use Rattle.index.specs.declared.Refusal.TheVariants.{Taken, Beyond}
use Rattle.index.specs.Index.{END, is_end}
use Rattle.directory.specs.Directory.{entry, every, directory_of}
use Rattle.directory.proofs.Every.{every_more, not_every}
use Rattle.dirimage.specs.Loading.{has_cell, is_first, filing}
use Rattle.dirimage.proofs.Filing.{none-borne}

-- a directory of nones is that of no rows
pub none-entered : (number : ℕ → ℕ) (d : List ℕ) (cells : ℕ) → d ≡ replicate cells END → length d ≡ cells → d ≡ directory_of (length d) number 0
unfolding directory_of
none-entered number d cells p l = p ∙ ap (λ n. replicate n END) (sym l)

module _ (number : ℕ → ℕ) (cells e : ℕ) where
  -- one row more is entered
  pub turn_entered : (d c : List ℕ) → d ≡ directory_of cells number e → c ≡ set d (number e) e → c ≡ directory_of cells number (e + 1)
  unfolding directory_of
  turn_entered d c p q = rw (add-one e, q, p)

  pub turn_below : every (has_cell number cells) e ≡ true → number e < cells → every (has_cell number cells) (e + 1) ≡ true
  turn_below p h = every_more (has_cell number cells) e p (lt-ltb (number e) cells h)

  -- by what stood at its number
  pub turn_apart : (apart b : Bool) (x : ℕ) (d : List ℕ) → apart ≡ every (is_first number) e → d ≡ directory_of cells number e → x ≡ entry d (number e) → b ≡ is_end x
      → number e < cells → e ≤ END → (apart && b) ≡ every (is_first number) (e + 1)
  unfolding every
  turn_apart apart b x d a p q z h s =
      rw (add-one e, a, z, q, p, none-borne number cells (number e) e h s)

module _ (number : ℕ → ℕ) (m cells e : ℕ) where
  -- it has no cell
  pub no_cell : e < m → cells ≤ number e → Err Beyond ≡ filing number m cells
  unfolding filing
  no_cell h l = rw (not_every (has_cell number cells) m e h (le-ltb (number e) cells l))

  -- all are entered
  module _ (apart : Bool) (h : e ≤ m) (k : m ≤ e) (p : every (has_cell number cells) e ≡ true) (a : apart ≡ every (is_first number) e) where
    is : e ≡ m
    is = omega arith

    pub not_apart : not apart ≡ true → Err Taken ≡ filing number m cells
    unfolding filing
    not_apart n = rw (rw is at p, rw is at (sym a), not-true apart n)

    pub all_apart : not apart ≡ false → Ok tt ≡ filing number m cells
    unfolding filing
    all_apart n = rw (rw is at p, rw is at (sym a), not-false apart n)

    pub all_entered : (d : List ℕ) → d ≡ directory_of cells number e → d ≡ directory_of cells number m
    all_entered d q = rw is at q
