-- The directions in their order, and what the check has come to before each: `WaysRead`. `told_at` says what a direction's walk is told as.
use Prim.Native.Nat.{ℕ, zero, suc, ◌+◌, ◌≤◌, ◌<◌}
use mathlib.Core.Path.{◌≡◌, refl, sym, ap, ◌∙◌}
use mathlib.Core.Bool.{true}
use mathlib.Core.List.{[], ◌∷◌}
use native.Mathlib.Omega.{arith}
use lib.ListN.{get_or}
use Rattle.std.specs.Prelude.{Ok, Err}
use Rattle.std.specs.Result.{MatchResult, IsErrAnd}
use Rattle.std.proofs.lemmas.Result.{err_from_is_err_and}
use Rattle.index.specs.declared.NodeIndex.{NodeIndex}
use Rattle.index.specs.declared.EdgeDirection.{EdgeDirection}
use Rattle.index.specs.declared.EdgeDirection.TheVariants.{Outgoing, Incoming}
use Rattle.index.specs.Index.{END, number_of}
use Rattle.tables.specs.Net.{Net, fits}
use Rattle.lists.specs.Walk.{link_at}
use Rattle.sound.specs.declared.Fault.{Fault}
use Rattle.sound.specs.declared.Fault.TheVariants.{At}
use Rattle.sound.specs.Sound.{end_at}
use Rattle.sound.specs.Check.{Walked, Checked, way, checked}
use Rattle.sound.proofs.Exact.{way-rows}

-- a direction's walk, its fault told with the direction
abbrev pub told_of : EdgeDirection → Walked → Checked
told_of d (Ok rows) = Ok rows
told_of d (Err a) = Err (At d a)

pub told_at : (d : EdgeDirection) (w : Walked) (r : Checked) (P : NodeIndex → Fault → Type 0) → MatchResult w (λ x. r ≡ Ok x) (λ a. IsErrAnd r (P a))
    → ((a : NodeIndex) (y : Fault) → P a y → y ≡ At d a) → r ≡ told_of d w
told_at d (Ok rows) r P h is = h
told_at d (Err a) r P h is = let p = err_from_is_err_and r h in rw (p.1, is a p.0 p.2) refl

-- direction i
abbrev pub direction_at : ℕ → EdgeDirection
direction_at i = get_or (Outgoing ∷ Incoming ∷ []) i Outgoing

-- the first i directions have no fault, and `rows` rows
abbrev pub WaysRead : Net → ℕ → ℕ → Type 0
WaysRead g zero rows = rows ≡ 0
WaysRead g (suc zero) rows = way g 0 ≡ Ok rows
WaysRead g (suc (suc i)) rows = (i ≡ 0) × ((q r : ℕ) × (way g 0 ≡ Ok q) × (way g 1 ≡ Ok r) × (rows ≡ q + r))

walk_ok : (d : EdgeDirection) (w : Walked) (q : ℕ) → told_of d w ≡ Ok q → w ≡ Ok q
walk_ok d (Ok x) q h = cc
walk_ok d (Err a) q h = cc

module _ (g : Net) (f : fits g ≡ true) where
  fault_in_outgoing : (w : Walked) (y : Fault) → w ≡ way g 0 → told_of Outgoing w ≡ Err y → Err y ≡ checked g
  unfolding checked
  fault_in_outgoing (Ok q) y o h = cc
  fault_in_outgoing (Err a) y o h = rw (f, ← o) (sym h)

  fault_in_incoming : (w : Walked) (q : ℕ) (y : Fault) → way g 0 ≡ Ok q → w ≡ way g 1 → told_of Incoming w ≡ Err y → Err y ≡ checked g
  unfolding checked
  fault_in_incoming (Ok r) q y o i h = cc
  fault_in_incoming (Err a) q y o i h = rw (f, o, ← i) (sym h)

  pub way_faulty : (i rows k : ℕ) (w : Walked) (r : Checked) (y : Fault) → i < 2 → WaysRead g i rows → k ≡ number_of (direction_at i)
      → w ≡ way g k → r ≡ told_of (direction_at i) w → r ≡ Err y → Err y ≡ checked g
  way_faulty zero rows k w r y l s n o t h = fault_in_outgoing w y (rw n at o) (sym t ∙ h)
  way_faulty (suc zero) rows k w r y l s n o t h = fault_in_incoming w rows y s (rw n at o) (sym t ∙ h)
  way_faulty (suc (suc i)) rows k w r y l s n o t h = absurd (omega arith)

  pub way_sound : (i rows k : ℕ) (w : Walked) (r : Checked) (q : ℕ) → i < 2 → WaysRead g i rows → k ≡ number_of (direction_at i)
      → w ≡ way g k → r ≡ told_of (direction_at i) w → r ≡ Ok q → WaysRead g (i + 1) (rows + q)
  way_sound zero rows k w r q l s n o t h =
      let e : way g 0 ≡ Ok q = sym (rw n at o) ∙ walk_ok Outgoing w q (sym t ∙ h) in
      let z : q ≡ rows + q = omega arith in
      e ∙ ap Ok z
  way_sound (suc zero) rows k w r q l s n o t h = (refl, (rows, q, s, sym (rw n at o) ∙ walk_ok Incoming w q (sym t ∙ h), refl))
  way_sound (suc (suc i)) rows k w r q l s n o t h = absurd (omega arith)

  pub ways_read : (i rows : ℕ) → 2 ≤ i → WaysRead g i rows → Ok rows ≡ checked g
  unfolding checked
  ways_read zero rows l s = absurd (omega arith)
  ways_read (suc zero) rows l s = absurd (omega arith)
  ways_read (suc (suc i)) rows l s = rw (f, s.1.2, s.1.3, s.1.4) refl

  -- rows of a direction are m
  pub rows_most : g.m ≤ END → (i rows : ℕ) → i < 2 → WaysRead g i rows → rows ≤ g.m
  rows_most small zero rows l s = omega arith
  rows_most small (suc zero) rows l s = omega (arith, way-rows (link_at g 0) (end_at g 0) g.n g.m (way g 0) rows small refl s)
  rows_most small (suc (suc i)) rows l s = absurd (omega arith)

  pub walk_rows : g.m ≤ END → (i k : ℕ) (w : Walked) (r : Checked) (q : ℕ) → w ≡ way g k → r ≡ told_of (direction_at i) w → r ≡ Ok q → q ≡ g.m
  walk_rows small i k w r q o t h = way-rows (link_at g k) (end_at g k) g.n g.m w q small o (walk_ok (direction_at i) w q (sym t ∙ h))
