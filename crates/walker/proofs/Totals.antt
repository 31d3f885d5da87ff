-- A loop that sums the weights of far ends: what it has summed so far, and how it may end.
use Prim.Native.Nat.{ℕ, ◌+◌, ◌-◌, ◌*◌, ◌^◌, ◌≤◌, ◌<◌}
use mathlib.Core.Path.{◌≡◌, refl, sym, ap, ◌∙◌}
use mathlib.Core.Bool.{Bool, true, false, cond, not, ◌&&◌}
use mathlib.Core.List.{List, [], ◌∷◌, ◌++◌, map, map-append, append-nil}
use lib.Dec.{ltb}
use Rattle.std.proofs.Common.{Option, Some, None}
use lib.IntN.{ℤ, pos, ◌+ℤ◌, +ℤ_idl, +ℤ_idr, +ℤ_assoc}
use lib.ListN.{get_or}
use lib.Signed.{mag}
use mir.Syntax.{w32, w64}
use mir.Val.{to_z, of_z}
use borrow.Author.Tests.{lt-ltb, le-ltb}
use native.Mathlib.Omega.{arith}
use Rattle.lists.specs.declared.Pick.{Pick}
use Rattle.lists.specs.Walk.{walk, stop, filter, cell, picked}
use Rattle.lists.proofs.Walks.{Along, rest, all_met, stops_here, stops_short}
use Rattle.std.proofs.lemmas.List.Elements.{filter-append}
use Rattle.walker.specs.Sums.{total, present, weighed, tally_of, Tallies}
use Rattle.walker.proofs.Signed.{mag_add, more_is}

-- the far ends of the rows that a walk takes
abbrev pub fars : (ℕ → Bool) → (ℕ → ℕ) → List ℕ → List ℕ
fars p far xs = map far (filter p xs)

total-append : (xs ys : List ℤ) → total (xs ++ ys) ≡ total xs +ℤ total ys
total-append [] ys = sym (+ℤ_idl (total ys))
total-append (x ∷ xs) ys = ap (λ (z : ℤ). x +ℤ z) (total-append xs ys) ∙ sym (+ℤ_assoc x (total xs) (total ys))

pub weighed-append : (weights : List ℤ) (bs cs : List ℕ) → weighed weights (bs ++ cs) ≡ weighed weights bs +ℤ weighed weights cs
weighed-append weights bs cs = let at : ℕ → ℤ = λ b. get_or weights b (pos 0) in ap total (map-append at bs cs) ∙ total-append (map at bs) (map at cs)

pub present-append : (n : ℕ) (bs cs : List ℕ) → present n (bs ++ cs) ≡ (present n bs && present n cs)
present-append n [] cs = refl
present-append n (b ∷ bs) cs = by (ltb b n) (present-append n bs cs)
  where
    by : (t : Bool) → present n (bs ++ cs) ≡ (present n bs && present n cs) → (t && present n (bs ++ cs)) ≡ (t && present n bs && present n cs)
    by true h = h
    by false h = refl

and_false : (a b : Bool) → b ≡ false → (a && b) ≡ false
and_false true b h = h
and_false false b h = refl

-- the loop has met these rows, and z is what it has summed
pub record Summing (weights : List ℤ) (n : ℕ) (p : ℕ → Bool) (far : ℕ → ℕ) (before : ℤ) (met : List ℕ) (z : ℤ) (rows : ℕ) : Type 0 where
  pub none-missing : present n (fars p far met) ≡ true
  pub sum_is : z ≡ before +ℤ weighed weights (fars p far met)
  pub small : mag z ≤ mag before + 2 ^ 31 * rows

module _ (weights : List ℤ) (n : ℕ) (p : ℕ → Bool) (far : ℕ → ℕ) (before : ℤ) where
  abbrev at : ℕ → ℤ
  at b = get_or weights b (pos 0)

  pub sum-begins : Summing weights n p far before [] before 0
  sum-begins = record { none-missing = refl; sum_is = sym (+ℤ_idr before); small = omega arith }

  fars_append : (xs ys : List ℕ) → fars p far (xs ++ ys) ≡ fars p far xs ++ fars p far ys
  fars_append xs ys = ap (map far) (filter-append p xs ys) ∙ map-append far (filter p xs) (filter p ys)

  fars_row : (e : ℕ) (xs : List ℕ) → p e ≡ true → fars p far (e ∷ xs) ≡ far e ∷ fars p far xs
  fars_row e xs t = ap (λ b. map far (cond b (e ∷ filter p xs) (filter p xs))) t

  fars_left : (e : ℕ) (xs : List ℕ) → p e ≡ false → fars p far (e ∷ xs) ≡ fars p far xs
  fars_left e xs t = ap (λ b. map far (cond b (e ∷ filter p xs) (filter p xs))) t

  -- one row more, taken or left
  pub sum_takes : {met : List ℕ} {z : ℤ} {rows : ℕ} (e : ℕ) → Summing weights n p far before met z rows → p e ≡ true → far e < n → mag (at (far e)) < 2 ^ 31
      → Summing weights n p far before (met ++ (e ∷ [])) (z +ℤ at (far e)) (rows + 1)
  sum_takes {met} {z} e s t l g =
      let q : fars p far (met ++ (e ∷ [])) ≡ fars p far met ++ (far e ∷ []) = fars_append met (e ∷ []) ∙ ap (λ xs. fars p far met ++ xs) (fars_row e [] t) in
      record {
        none-missing = rw (q, present-append n (fars p far met) (far e ∷ []), s.none-missing, lt-ltb _ _ l);
        sum_is = rw (q, weighed-append weights (fars p far met) (far e ∷ []), +ℤ_idr (at (far e)), s.sum_is) (+ℤ_assoc before (weighed weights (fars p far met)) (at (far e)));
        small = omega (arith, mag_add z (at (far e)), s.small);
      }

  pub sum_leaves : {met : List ℕ} {z : ℤ} {rows : ℕ} (e : ℕ) → Summing weights n p far before met z rows → p e ≡ false
      → Summing weights n p far before (met ++ (e ∷ [])) z (rows + 1)
  sum_leaves {met} {z} e s t =
      let q : fars p far (met ++ (e ∷ [])) ≡ fars p far met = fars_append met (e ∷ []) ∙ ap (λ xs. fars p far met ++ xs) (fars_left e [] t) ∙ append-nil (fars p far met) in
      record { none-missing = rw q s.none-missing; sum_is = rw q s.sum_is; small = omega (arith, s.small) }

  -- the sum as the code keeps it, in bits, after one weight more
  pub sum_turns : {met : List ℕ} {z : ℤ} {rows : ℕ} (e : ℕ) {b bits : ℕ} → Summing weights n p far before met z rows → p e ≡ true → b ≡ far e → far e < n
      → mag (at b) < 2 ^ 31 → mag z + 2 ^ 31 < 2 ^ 63 → bits ≡ of_z w64 (z +ℤ to_z w64 (of_z w64 (to_z w32 (of_z w32 (at b)))))
      → Summing weights n p far before (met ++ (e ∷ [])) (to_z w64 bits) (rows + 1)
  sum_turns {z = z} e {b} s t q l g room i =
      rw (i, more_is z (at b) room g, q) (sum_takes e s t l (rw q at g))

  module _ {next : ℕ → ℕ} {m first : ℕ} {met : List ℕ} {e rows : ℕ} (a : Along next m first met e rows) where
    abbrev tallied : Option ℤ
    tallied = tally_of weights n m (stop next m m first) (fars p far (walk next m m first)) before

    pub sum-ends : {z : ℤ} → Summing weights n p far before met z rows → m ≤ e → Some z ≡ tallied
    sum-ends s h = rw (all_met a h, stops_here a h, le-ltb e m h, s.none-missing, ← s.sum_is)

    pub sum-endless : e < m → rows ≡ m → None ≡ tallied
    sum-endless h r = rw (stops_short a r, lt-ltb e m h)

    pub sum_misses : {z : ℤ} → Summing weights n p far before met z rows → e < m → (rows ≡ m → ⊥) → p e ≡ true → n ≤ far e → None ≡ tallied
    sum_misses s h r t l =
        let xs = walk next m (m - (rows + 1)) (next e) in
        let q : fars p far (walk next m m first) ≡ fars p far met ++ (far e ∷ fars p far xs) =
        ap (fars p far) (rest a h r) ∙ fars_append met (e ∷ xs) ∙ ap (λ ys. fars p far met ++ ys) (fars_row e xs t) in
        let z : present n (fars p far (walk next m m first)) ≡ false = rw (q, present-append n (fars p far met) (far e ∷ fars p far xs), s.none-missing, le-ltb _ _ l) in
        rw (and_false (not (ltb (stop next m m first) m)) _ z)

-- before the last row there is room for one weight more
pub room_left : (z : ℤ) {from before : ℤ} {rows m : ℕ} → from ≡ before → mag z ≤ mag from + 2 ^ 31 * rows → rows ≤ m → (rows ≡ m → ⊥)
    → mag before + 2 ^ 31 * m < 2 ^ 63 → mag z + 2 ^ 31 < 2 ^ 63
room_left z back small most r room = let l = rw back at small in omega arith

-- so the loop of the part that sums one list: how it ends is what it is to answer
module _ {weights : List ℤ} {links ends : List ℕ} {n m k : ℕ} {pick : Pick} {link : ℕ} {before from z : ℤ} {met : List ℕ} {e rows : ℕ}
    (back : from ≡ before) (a : Along (cell links k) m link met e rows)
    (s : Summing weights n (λ x. picked pick (cell ends (1 - k) x)) (cell ends (1 - k)) from met z rows) where
  pub tallies_total : m ≤ e → Tallies weights links ends n m k pick link before (Some z)
  tallies_total h =
      rw (← back) (record { answer_is = sum-ends weights n _ _ from a s h; small = omega (arith, s.small, a.most) })

  pub tallies_endless : e < m → rows ≡ m → Tallies weights links ends n m k pick link before None
  tallies_endless h r = record { answer_is = sum-endless weights n _ _ before a h r; small = omega arith }

  pub tallies_missing : e < m → (rows ≡ m → ⊥) → picked pick (cell ends (1 - k) e) ≡ true → n ≤ cell ends (1 - k) e → Tallies weights links ends n m k pick link before None
  tallies_missing h r t l = rw (← back) (record { answer_is = sum_misses weights n _ _ from a s h r t l; small = omega arith })
