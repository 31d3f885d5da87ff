-- The first row that a walk takes, told from how the loop that looks for it ends.
use Prim.Native.Nat.{ℕ, ◌+◌, ◌-◌, ◌≤◌, ◌<◌}
use mathlib.Core.Path.{◌≡◌, ap, ◌∙◌}
use mathlib.Core.Bool.{Bool, true}
use mathlib.Core.List.{List, [], ◌∷◌, ◌++◌}
use borrow.Author.Tests.{lt-ltb, le-ltb}
use native.Mathlib.Omega.{arith}
use Rattle.lists.specs.Walk.{walk, stop, filter}
use Rattle.std.proofs.lemmas.List.Elements.{filter-append}
use Rattle.lists.specs.Parts.{first_of}
use Rattle.lists.specs.declared.Found.TheVariants.{At, End, Broken}
use Rattle.lists.proofs.Walks.{Along, walk-out, rest, all_met, stops_here, stops_short}

module _ {next : ℕ → ℕ} {m first : ℕ} {met : List ℕ} {e rows : ℕ} (p : ℕ → Bool) (a : Along next m first met e rows) (none : filter p met ≡ []) where
  first_rest : (xs : List ℕ) → walk next m m first ≡ met ++ xs → filter p (walk next m m first) ≡ filter p xs
  first_rest xs w = ap (filter p) w ∙ filter-append p met xs ∙ ap (λ l. l ++ filter p xs) none

  pub first_hit : e < m → (rows ≡ m → ⊥) → p e ≡ true → At (record { 0 = e }) ≡ first_of (filter p (walk next m m first)) m (stop next m m first)
  first_hit h n t = rw (first_rest (e ∷ walk next m (m - (rows + 1)) (next e)) (rest a h n), t)

  pub first_end : m ≤ e → End (record { 0 = e }) ≡ first_of (filter p (walk next m m first)) m (stop next m m first)
  first_end h = rw (all_met a h, none, stops_here a h, le-ltb e m h)

  pub first_broken : e < m → rows ≡ m → Broken ≡ first_of (filter p (walk next m m first)) m (stop next m m first)
  first_broken h n = rw (first_rest [] (a.whole ∙ ap (λ l. met ++ l) (walk-out next m (m - rows) e (omega arith))), stops_short a n, lt-ltb e m h)
