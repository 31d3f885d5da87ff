-- The sum around a node, told from what its two lists add.
use Prim.Native.Nat.{ℕ}
use mathlib.Core.Path.{◌≡◌, refl}
use mathlib.Core.Bool.{Bool, true, false, not, ◌&&◌}
use mathlib.Core.List.{List, map}
use lib.Dec.{ltb}
use Rattle.std.proofs.Common.{Option, Some, None, ok_or}
use lib.IntN.{ℤ, pos, ◌+ℤ◌, +ℤ_idl}
use native.Mathlib.Omega.{arith}
use Rattle.index.specs.declared.Refusal.TheVariants as Refusal·
use Rattle.tables.specs.Net.{Net}
use Rattle.tables.specs.Answers.{Told, done, refused, unless}
use Rattle.lists.specs.declared.Spot.TheVariants.{Head}
use Rattle.lists.specs.declared.Pick.TheVariants.{Every, NotTo}
use Rattle.lists.specs.declared.Item.TheVariants.{Far}
use Rattle.lists.specs.Walk.{picks, broken, gives, link_at, stop_from, around}
use Rattle.walker.specs.Sums.{present, weighed, told_summed, tally_of}
use Rattle.walker.proofs.Totals.{present-append, weighed-append}

module _ (weights : List ℤ) (n m s : ℕ) (bs : List ℕ) (before : ℤ) where
  -- a list that adds a total: it ends, and no node of it is missing
  total-says : {z : ℤ} → Some z ≡ tally_of weights n m s bs before → (ltb s m ≡ false) × (present n bs ≡ true) × (z ≡ before +ℤ weighed weights bs)
  total-says {z} h = by (ltb s m) (present n bs) (before +ℤ weighed weights bs) h
    where
      by : (b c : Bool) (y : ℤ) → Some z ≡ unless (not b && c) None (Some y) → (b ≡ false) × (c ≡ true) × (z ≡ y)
      by true c y h = absurd (let q : ◌≡◌ {A = ℕ} 0 1 = cc in omega arith)
      by false true y h = (refl, refl, (cc))
      by false false y h = absurd (let q : ◌≡◌ {A = ℕ} 0 1 = cc in omega arith)

  broken-says : None ≡ tally_of weights n m s bs before → (not (ltb s m) && present n bs) ≡ false
  broken-says h = by (not (ltb s m) && present n bs) (before +ℤ weighed weights bs) h
    where
      by : (t : Bool) (y : ℤ) → None ≡ unless t None (Some y) → t ≡ false
      by true y h = absurd (let q : ◌≡◌ {A = ℕ} 0 1 = cc in omega arith)
      by false y h = refl

early : (a b c d : Bool) → (a && c) ≡ false → (a && b && (c && d)) ≡ false
early true true c d h = rw h
early true false c d h = refl
early false b c d h = refl

-- a node's neighbours along one list
abbrev outs : Net → ℕ → List ℕ
outs g a = map (gives g Far 0) (picks g 0 Every a)

abbrev ins : Net → ℕ → List ℕ
ins g a = map (gives g Far 1) (picks g 1 (NotTo (record { 0 = a })) a)

abbrev ended : Net → ℕ → ℕ → ℕ
ended g k a = stop_from g.links g.m k (link_at g k (Head a))

-- what the two lists come to
unfoldable pub of_lists : Net → ℕ → Told ℤ
of_lists g a =
    unless (not (broken g 0 a) && not (broken g 1 a) && present g.n (around g Far a)) (refused Refusal·.Broken (pos 0))
    (done (weighed g.weights (around g Far a)))

-- what each list adds: the outgoing one to 0, the incoming one to what that comes to
abbrev pub out_adds : Net → ℕ → Option ℤ → Type 0
out_adds g a v = v ≡ tally_of g.weights g.n g.m (ended g 0 a) (outs g a) (pos 0)

abbrev pub in_adds : Net → ℕ → ℤ → Option ℤ → Type 0
in_adds g a from v = v ≡ tally_of g.weights g.n g.m (ended g 1 a) (ins g a) from

module _ (g : Net) (a : ℕ) where
  pub sum-stops : out_adds g a None → refused Refusal·.Broken (pos 0) ≡ of_lists g a
  unfolding of_lists
  sum-stops h =
      let b = broken-says g.weights g.n g.m (ended g 0 a) (outs g a) (pos 0) h in
      let q = early (not (broken g 0 a)) (not (broken g 1 a)) (present g.n (outs g a)) (present g.n (ins g a)) b in
      rw (present-append g.n (outs g a) (ins g a), q)

  module _ {z from : ℤ} (o : out_adds g a (Some z)) (back : from ≡ z) where
    pub sum_stops_later : in_adds g a from None → refused Refusal·.Broken (pos 0) ≡ of_lists g a
    unfolding of_lists
    sum_stops_later h =
        let p = total-says g.weights g.n g.m (ended g 0 a) (outs g a) (pos 0) o in
        let q = broken-says g.weights g.n g.m (ended g 1 a) (ins g a) from h in
        rw (present-append g.n (outs g a) (ins g a), p.0, p.1, q)

    pub summed : {s : ℤ} → in_adds g a from (Some s) → done s ≡ of_lists g a
    unfolding of_lists
    summed h =
        let p = total-says g.weights g.n g.m (ended g 0 a) (outs g a) (pos 0) o in
        let q = total-says g.weights g.n g.m (ended g 1 a) (ins g a) from h in
        let both = weighed-append g.weights (outs g a) (ins g a) in
        let none = +ℤ_idl (weighed g.weights (outs g a)) in
        rw (present-append g.n (outs g a) (ins g a), p.0, p.1, q.0, q.1, both, q.2, back, p.2, none)

    -- so the answer of both lists, by what the incoming one adds
    pub both_summed : (v : Option ℤ) → in_adds g a from v → told_summed (ok_or v Refusal·.Broken) ≡ of_lists g a
    both_summed (Some s) h = summed h
    both_summed None h = sum_stops_later h
