-- The rows that taking out an edge reads, where no list has more than D edges: at most 4 (D - 1), `most_rows`, and 3 (D - 1) where it is the
-- first edge of a list, `most_rows_first`.
use Prim.Native.Nat.{ℕ, ◌+◌, ◌*◌, ◌-◌, ◌≤◌, ◌<◌}
use mathlib.Core.Path.{◌≡◌, sym}
use mathlib.Core.Bool.{true}
use mathlib.Core.List.{List}
use native.Mathlib.Decide.{ℕ_discrete}
use native.Mathlib.Omega.{arith}
use borrow.Author.Tests.{eq-eqb, ne_eqb}
use Rattle.tables.specs.Net.{Net, fits}
use Rattle.sound.specs.Sound.{end_at, Sound}
use Rattle.sound.proofs.Listings.{without_in}
use Rattle.sound.proofs.Same.{members}
use Rattle.sound.proofs.Exactly.{small, two}
use Rattle.removal.specs.Lists.{pos, left, rows_before, rows_read, Longest}
use Rattle.removal.proofs.Members.{pos-below, no_longer}

module _ (g : Net) (ls : ℕ → ℕ → List ℕ) (e : ℕ) (f : fits g ≡ true) (S : Sound g ls) (lt : e < g.m) (D : ℕ) (longest : Longest g ls D) where
  before : (k : ℕ) → k < 2 → pos e (ls k (end_at g k e)) < D
  before k h =
      let d = members g ls (small g f) S k h in
      omega (arith, pos-below e (ls k (end_at g k e)) (d.listed e lt), longest k (end_at g k e) h (d.has_end e lt))

  -- another edge, with e gone
  before-other : (x : ℕ) → x < g.m → (e ≡ x → ⊥) → (k : ℕ) → k < 2 → pos x (left e ls k (end_at g k x)) < D
  before-other x l n k h =
      let d = members g ls (small g f) S k h in
      let a = end_at g k x in
      let i = without_in x e (ls k a) (d.listed x l) (λ q. n (sym q)) in
      omega (arith, pos-below x (left e ls k a) i, no_longer e (ls k a), longest k a h (d.has_end x l))

  -- those before e in its two lists, and those before the last row
  rest : (c : ℕ) → rows_before (end_at g) ls e ≤ c → rows_read (end_at g) ls (g.m - 1) e ≤ c + 2 * (D - 1)
  rest c b =
      let l = g.m - 1 in
      elim (ℕ_discrete e l) [
        | yes q ↦ rw (eq-eqb e l q) (omega arith)
        | no q ↦ rw (ne_eqb e l q) (omega (arith, before-other l (omega arith) q 0 (omega arith), before-other l (omega arith) q 1 (omega arith)))
      ]

  pub most_rows : rows_read (end_at g) ls (g.m - 1) e ≤ 4 * (D - 1)
  most_rows = omega (arith, rest (2 * (D - 1)) (omega (arith, before 0 (omega arith), before 1 (omega arith))))

  -- e is the first of its list in direction k
  pub most_rows_first : (k : ℕ) → k < 2 → pos e (ls k (end_at g k e)) ≡ 0 → rows_read (end_at g) ls (g.m - 1) e ≤ 3 * (D - 1)
  most_rows_first k h z =
      let one : (k : ℕ) → k < 2 → pos e (ls k (end_at g k e)) ≡ 0 → rows_before (end_at g) ls e ≤ D - 1 =
      two (λ k. pos e (ls k (end_at g k e)) ≡ 0 → rows_before (end_at g) ls e ≤ D - 1)
      (λ z. omega (arith, before 1 (omega arith)))
      (λ z. omega (arith, before 0 (omega arith))) in
      omega (arith, rest (D - 1) (one k h z))
