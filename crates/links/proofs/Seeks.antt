-- The clauses of `seek`, each under the facts that choose it; `link` is what stands at the spot s. Where a search starts: `seek_starts`, `seek-nowhere`.
use Prim.Native.Nat.{ℕ, zero, suc, ◌+◌, ◌-◌, ◌≤◌, ◌<◌}
use mathlib.Core.Path.{◌≡◌}
use Rattle.std.specs.Prelude.{Some, None}
use native.Mathlib.Omega.{arith}
use borrow.Author.Tests.{lt-ltb, le-ltb, eq-eqb, ne_eqb}
use Rattle.lists.specs.declared.Spot.{Spot}
use Rattle.lists.specs.declared.Spot.TheVariants.{Head, After}
use Rattle.links.specs.Links.{seek, searched}

module _ (lk : Spot → ℕ) (m e : ℕ) (s : Spot) (rows : ℕ) {link : ℕ} (is : lk s ≡ link) where
  pub seek_found : (left : ℕ) → link ≡ e → seek lk m e left s rows ≡ Some (s, rows)
  unfolding seek
  seek_found zero h = rw (is, eq-eqb link e h)
  seek_found (suc left) h = rw (is, eq-eqb link e h)

  pub seek-spent : (link ≡ e → ⊥) → rows ≡ m → seek lk m e (m - rows) s rows ≡ None
  unfolding seek
  seek-spent h q =
      let z : m - rows ≡ 0 = omega arith in
      rw (z, is, ne_eqb link e h)

  pub seek-past : (left : ℕ) → (link ≡ e → ⊥) → m ≤ link → seek lk m e left s rows ≡ None
  unfolding seek
  seek-past zero h p = rw (is, ne_eqb link e h)
  seek-past (suc left) h p = rw (is, ne_eqb link e h, le-ltb link m p)

  pub seek-on : (left : ℕ) → (link ≡ e → ⊥) → link < m → seek lk m e (suc left) s rows ≡ seek lk m e left (After link) (rows + 1)
  unfolding seek
  seek-on left h p = rw (is, ne_eqb link e h, lt-ltb link m p)

  pub seek-step : (link ≡ e → ⊥) → link < m → rows < m
      → seek lk m e (m - rows) s rows ≡ seek lk m e (m - (rows + 1)) (After link) (rows + 1)
  seek-step h p q =
      let z : m - rows ≡ suc (m - (rows + 1)) = omega arith in
      rw z (seek-on (m - (rows + 1)) h p)

-- from the head on, if the node is there
module _ (lk : Spot → ℕ) (node : ℕ → ℕ) (n m e : ℕ) where
  pub seek_starts : node e < n → searched lk node n m e ≡ seek lk m e m (Head (node e)) 0
  unfolding searched
  seek_starts l = rw (lt-ltb (node e) n l)

  pub seek-nowhere : n ≤ node e → searched lk node n m e ≡ None
  unfolding searched
  seek-nowhere l = rw (le-ltb (node e) n l)
