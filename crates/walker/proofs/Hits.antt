-- What the search for a row of the incoming list finds is a row; a step along that list.
use Prim.Native.Nat.{ℕ, ◌≤◌, ◌<◌}
use mathlib.Core.Path.{◌≡◌, refl}
use mathlib.Core.Bool.{Bool, true, false, cond}
use mathlib.Core.List.{List, [], ◌∷◌}
use lib.Dec.{ltb}
use borrow.Author.Tests.{le-ltb}
use native.Mathlib.Omega.{arith}
use Rattle.index.specs.declared.EdgeIndex.{EdgeIndex}
use Rattle.tables.specs.Net.{Net, fits}
use Rattle.lists.specs.declared.Found.TheVariants.{At, End, Broken}
use Rattle.lists.specs.declared.Pick.TheVariants.{NotTo}
use Rattle.lists.specs.Walk.{walk, filter, taken_from, stop_from}
use Rattle.lists.specs.Parts.{first_of}
use Rattle.lists.proofs.Walks.{taken_below}
use Rattle.walker.specs.declared.Walker.{Walker}
use Rattle.walker.specs.Steps.{incoming_step, step}

-- where nothing is taken, nothing is found
none_found : (m s : ℕ) {x : EdgeIndex} → At x ≡ first_of [] m s → ⊥
none_found m s {x} h = by (ltb s m) h
  where
    by : (b : Bool) → At x ≡ cond b Broken (End (record { 0 = s })) → ⊥
    by true h = let z : ◌≡◌ {A = ℕ} 0 1 = cc in omega arith
    by false h = let z : ◌≡◌ {A = ℕ} 0 1 = cc in omega arith

-- what is found is a row
pub found_below : (p : ℕ → Bool) (next : ℕ → ℕ) (m e s : ℕ) {x : EdgeIndex} → At x ≡ first_of (filter p (walk next m m e)) m s → x.0 < m
found_below p next m e s {x} h = by (filter p (walk next m m e)) refl h
  where
    by : (ys : List ℕ) → filter p (walk next m m e) ≡ ys → At x ≡ first_of ys m s → x.0 < m
    by [] q h = absurd (none_found m s h)
    by (y ∷ ys) q h =
        let z : x ≡ record { 0 = y } = cc in
        rw z (taken_below next m p m e y ys q)

-- the rows of the incoming list that a step may give, and the link where that list ends
abbrev pub others : Net → Walker → List ℕ
others g w = taken_from g.links g.ends g.m 1 (NotTo w.start) w.incoming.0

abbrev pub ended : Net → Walker → ℕ
ended g w = stop_from g.links g.m 1 w.incoming.0

-- where the columns fit and the outgoing list is at its end
pub incoming_step_lem : (g : Net) (w : Walker) → fits g ≡ true → g.m ≤ w.outgoing.0 → step g w ≡ incoming_step g w (others g w) (ended g w)
unfolding step
incoming_step_lem g w f o = rw (f, le-ltb _ _ o)
