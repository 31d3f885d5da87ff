-- What a loop that counts has counted when it ends.
use Rattle.std.specs.Prelude.{Option, Some, None}
use Rattle.std.proofs.lemmas.Option.{none-some, cond_some}
use Prim.Native.Nat.{ℕ, ◌+◌, ◌≤◌, ◌<◌}
use mathlib.Core.Path.{◌≡◌, refl, sym, ap, ◌∙◌}
use mathlib.Core.Bool.{Bool, true, false, cond, not, ◌&&◌}
use mathlib.Core.List.{List, [], ◌∷◌, ◌++◌}
use borrow.Author.Tests.{lt-ltb, le-ltb}
use native.Mathlib.Omega.{arith}
use lib.Dec.{ltb}
use lib.ListN.{length, length-append}
use Rattle.std.proofs.lemmas.List.Sums.{length-filter, count_by-le-length}
use Rattle.lists.specs.Walk.{walk, stop, filter}
use Rattle.lists.specs.Parts.{extents_of}
use Rattle.lists.proofs.Walks.{Along, all_met, stops_here, stops_short, filter_takes, filter_leaves}

pub filter-length : (p : ℕ → Bool) (xs : List ℕ) → length (filter p xs) ≤ length xs
filter-length p xs = omega (arith, length-filter p xs, count_by-le-length p xs)

-- one row more, taken or left
pub count_takes : (p : ℕ → Bool) (xs : List ℕ) (e : ℕ) {taken : ℕ} → length (filter p xs) ≡ taken → p e ≡ true → length (filter p (xs ++ (e ∷ []))) ≡ taken + 1
count_takes p xs e n h = ap length (filter_takes p xs e h) ∙ length-append (filter p xs) (e ∷ []) ∙ ap (λ x. x + 1) n

pub count_leaves : (p : ℕ → Bool) (xs : List ℕ) (e : ℕ) {taken : ℕ} → length (filter p xs) ≡ taken → p e ≡ false → length (filter p (xs ++ (e ∷ []))) ≡ taken
count_leaves p xs e n h = ap length (filter_leaves p xs e h) ∙ n

-- the extents of two lists
module _ {next : ℕ → ℕ} {m first : ℕ} {met : List ℕ} {e rows : ℕ} (a : Along next m first met e rows) where
  pub first_endless : (others : List ℕ) (t : ℕ) → e < m → rows ≡ m → None ≡ extents_of (walk next m m first) (stop next m m first) others t m
  unfolding extents_of
  first_endless others t h n = rw (stops_short a n, lt-ltb e m h)

  module _ {next' : ℕ → ℕ} {first' : ℕ} {met' : List ℕ} {f others : ℕ} (b : Along next' m first' met' f others) (h : m ≤ e) where
    pub second_endless : f < m → others ≡ m → None ≡ extents_of (walk next m m first) (stop next m m first) (walk next' m m first') (stop next' m m first') m
    unfolding extents_of
    second_endless g n = rw (stops_here a h, le-ltb e m h, stops_short b n, lt-ltb f m g)

    pub both-ended : m ≤ f → Some (rows, others) ≡ extents_of (walk next m m first) (stop next m m first) (walk next' m m first') (stop next' m m first') m
    unfolding extents_of
    both-ended g = rw (all_met a h, stops_here a h, le-ltb e m h, a.many, all_met b g, stops_here b g, le-ltb f m g, b.many)

-- and what they say of them
pub extents_broken : (rows : List ℕ) (s : ℕ) (others : List ℕ) (t m : ℕ) → extents_of rows s others t m ≡ None → (not (ltb s m) && not (ltb t m)) ≡ false
unfolding extents_of
extents_broken rows s others t m = go (not (ltb s m) && not (ltb t m))
  where
    go : (b : Bool) → cond {A = Option (ℕ × ℕ)} b (Some (length rows, length others)) None ≡ None → b ≡ false
    go true h = absurd (none-some _ (sym h))
    go false h = refl

pub extents_rows : (rows : List ℕ) (s : ℕ) (others : List ℕ) (t m : ℕ) {r o : ℕ} → extents_of rows s others t m ≡ Some (r, o)
    → ((not (ltb s m) && not (ltb t m)) ≡ true) × (length rows ≡ r) × (length others ≡ o)
unfolding extents_of
extents_rows rows s others t m h = let p = cond_some _ _ _ h in (p.0, ap (λ x. x.0) p.1, ap (λ x. x.1) p.1)
