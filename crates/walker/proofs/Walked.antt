-- Stepping the walker gives the walk around its node, one neighbour after the other, and then stops.
use Prim.Native.Nat.{ℕ, zero, suc, ◌+◌, ◌≤◌, ◌<◌}
use mathlib.Core.Path.{◌≡◌, refl, sym, ap, ap₂, ◌∙◌}
use mathlib.Core.Bool.{Bool, true, false, cond}
use mathlib.Core.List.{List, [], ◌∷◌, ◌++◌, map}
use lib.Dec.{eqb}
use lib.ListN.{length, length-map, length-append}
use borrow.Author.Tests.{lt-ltb, le-ltb, ltb-false}
use native.Mathlib.Nat.{zero-add, le_of_suc-le-suc, not-suc-le-zero}
use native.Mathlib.Numerals.{add-one}
use native.Mathlib.Decide.{dec_lt}
use native.Mathlib.Omega.{arith}
use Rattle.index.specs.declared.Refusal.TheVariants.{Nothing}
use Rattle.tables.specs.Net.{Net, fits}
use Rattle.tables.specs.Answers.{Out, out, done, refused}
use Rattle.lists.specs.declared.Spot.TheVariants.{Head}
use Rattle.lists.specs.declared.Pick.TheVariants.{NotTo}
use Rattle.lists.specs.declared.Item.TheVariants.{Far}
use Rattle.lists.specs.Walk.{cell, link_at, walk, stop, filter, picked, gives, broken, around}
use Rattle.lists.proofs.Walks.{walk_end, stop-end}
use Rattle.walker.specs.declared.Walker.{Walker}
use Rattle.walker.specs.Steps.{walker_of, incoming_step, begin, step}
use Rattle.walker.proofs.Hits.{incoming_step_lem}

-- the neighbours that up to so many steps give, one after the other, and the number with which the last of them answers
abbrev go_on : Out ℕ Walker → List ℕ × ℕ → List ℕ × ℕ
go_on o later = cond (eqb o.answer.number 0) (o.answer.values ∷ later.0, later.1) ([], o.answer.number)

unfoldable pub steps : ℕ → Net → Walker → List ℕ × ℕ
steps zero g w = ([], 0)
steps (suc most) g w = go_on (step g w) (steps most g (step g w).after)

-- a list that ends has no more rows for a longer walk
module _ (next : ℕ → ℕ) (m : ℕ) where
  walk_longer : (left more e : ℕ) → left ≤ more → m ≤ stop next m left e → walk next m more e ≡ walk next m left e
  unfolding walk stop
  walk_longer zero more e l h = walk_end next m more e h
  walk_longer (suc left) zero e l h = absurd (not-suc-le-zero l)
  walk_longer (suc left) (suc more) e l h =
      elim (dec_lt e m) [
        | yes q ↦ let i = walk_longer left more (next e) (le_of_suc-le-suc l) (rw (lt-ltb e m q) at h) in rw (lt-ltb e m q) (ap (λ xs. e ∷ xs) i)
        | no q ↦ rw (le-ltb e m (omega arith))
      ]

  stop_longer : (left more e : ℕ) → left ≤ more → m ≤ stop next m left e → stop next m more e ≡ stop next m left e
  unfolding stop
  stop_longer zero more e l h = stop-end next m more e h
  stop_longer (suc left) zero e l h = absurd (not-suc-le-zero l)
  stop_longer (suc left) (suc more) e l h =
      elim (dec_lt e m) [
        | yes q ↦ let i = stop_longer left more (next e) (le_of_suc-le-suc l) (rw (lt-ltb e m q) at h) in rw (lt-ltb e m q) i
        | no q ↦ rw (le-ltb e m (omega arith))
      ]

module _ (g : Net) where
  steps_same : (most : ℕ) (w v : Walker) → step g w ≡ step g v → steps (suc most) g w ≡ steps (suc most) g v
  unfolding steps
  steps_same most w v h = rw h

  steps_give : (most : ℕ) (w : Walker) {v : Walker} {b : ℕ} → step g w ≡ out (done b) v → steps (suc most) g w ≡ (b ∷ (steps most g v).0, (steps most g v).1)
  unfolding steps
  steps_give most w h = rw h

  steps_end : (most : ℕ) (w : Walker) {v : Walker} → step g w ≡ out (refused Nothing 0) v → steps (suc most) g w ≡ ([], 5)
  unfolding steps
  steps_end most w h = rw h

  -- where the list ends, a step does not tell at which of its rows it began
  incoming_same : (a e i j s : ℕ) (xs : List ℕ) → g.m ≤ s → incoming_step g (walker_of a e i) xs s ≡ incoming_step g (walker_of a e j) xs s
  incoming_same a e i j s [] h = rw (le-ltb s g.m h)
  incoming_same a e i j s (x ∷ xs) h = refl

abbrev next : Net → ℕ → ℕ → ℕ
next g k e = cell g.links k e

-- whether a row is no self-loop of node a, by its source
abbrev other : Net → ℕ → ℕ → Bool
other g a e = picked (NotTo (record { 0 = a })) (cell g.ends 0 e)

module _ (g : Net) (a : ℕ) (f : fits g ≡ true) where
  outgoing_step : (e i : ℕ) → e < g.m → step g (walker_of a e i) ≡ out (done (gives g Far 0 e)) (walker_of a (next g 0 e) i)
  unfolding step
  outgoing_step e i h = rw (f, lt-ltb e g.m h)

  -- along the outgoing list: each step gives the next row's target
  outgoing_steps : (left e i most : ℕ)
      → steps (length (walk (next g 0) g.m left e) + most) g (walker_of a e i)
      ≡ (map (gives g Far 0) (walk (next g 0) g.m left e) ++ (steps most g (walker_of a (stop (next g 0) g.m left e) i)).0, (steps most g (walker_of a (stop (next g 0) g.m left e) i)).1)
  unfolding walk stop
  outgoing_steps zero e i most = rw (zero-add most)
  outgoing_steps (suc left) e i most =
      elim (dec_lt e g.m) [
        | yes q ↦
            let xs = walk (next g 0) g.m left (next g 0 e) in
            let z : suc (length xs) + most ≡ suc (length xs + most) = omega arith in
            rw (lt-ltb e g.m q, z, steps_give g (length xs + most) (walker_of a e i) (outgoing_step e i q), outgoing_steps left (next g 0 e) i most)
        | no q ↦ rw (le-ltb e g.m (omega arith), zero-add most)
      ]

  module _ (e : ℕ) (o : g.m ≤ e) where
    -- a step along the incoming list, where that list has at most `left` rows left
    incoming_from : (left i : ℕ) → left ≤ g.m → g.m ≤ stop (next g 1) g.m left i
        → step g (walker_of a e i) ≡ incoming_step g (walker_of a e i) (filter (other g a) (walk (next g 1) g.m left i)) (stop (next g 1) g.m left i)
    incoming_from left i l h =
        incoming_step_lem g (walker_of a e i) f o
        ∙ ap₂ (λ xs s. incoming_step g (walker_of a e i) (filter (other g a) xs) s) (walk_longer (next g 1) g.m left g.m i l h) (stop_longer (next g 1) g.m left g.m i l h)

    incoming_done : (i : ℕ) → g.m ≤ i → step g (walker_of a e i) ≡ out (refused Nothing 0) (walker_of a e i)
    incoming_done i h = incoming_step_lem g (walker_of a e i) f o ∙ rw (walk_end (next g 1) g.m g.m i h, stop-end (next g 1) g.m g.m i h, le-ltb i g.m h)

    -- one row more of the incoming list: it is given, or the step passes it by
    incoming_turn : (b : Bool) (i : ℕ) (ys : List ℕ) (end : ℕ) → g.m ≤ end
        → step g (walker_of a e i) ≡ incoming_step g (walker_of a e i) (cond b (i ∷ ys) ys) end
        → step g (walker_of a e (next g 1 i)) ≡ incoming_step g (walker_of a e (next g 1 i)) ys end
        → steps (length ys + 1) g (walker_of a e (next g 1 i)) ≡ (map (gives g Far 1) ys, 5)
        → steps (length (cond b (i ∷ ys) ys) + 1) g (walker_of a e i) ≡ (map (gives g Far 1) (cond b (i ∷ ys) ys), 5)
    incoming_turn true i ys end h s t r =
        let z : suc (length ys) + 1 ≡ suc (length ys + 1) = omega arith in
        rw (z, steps_give g (length ys + 1) (walker_of a e i) s, r)
    incoming_turn false i ys end h s t r =
        let same = s ∙ incoming_same g a e i (next g 1 i) end ys h ∙ sym t in
        rw (add-one (length ys), steps_same g (length ys) (walker_of a e i) (walker_of a e (next g 1 i)) same, ← add-one (length ys)) r

    incoming_steps : (left i : ℕ) → left ≤ g.m → g.m ≤ stop (next g 1) g.m left i
        → steps (length (filter (other g a) (walk (next g 1) g.m left i)) + 1) g (walker_of a e i) ≡ (map (gives g Far 1) (filter (other g a) (walk (next g 1) g.m left i)), 5)
    unfolding walk stop
    incoming_steps zero i l h = steps_end g 0 (walker_of a e i) (incoming_done i h)
    incoming_steps (suc left) i l h =
        elim (dec_lt i g.m) [
          | yes q ↦
              let t = lt-ltb i g.m q in
              let h' = rw t at h in
              let l' : left ≤ g.m = omega arith in
              rw t (incoming_turn (other g a i) i _ _ h' (rw t at (incoming_from (suc left) i l h)) (incoming_from left (next g 1 i) l' h') (incoming_steps left (next g 1 i) l' h'))
          | no q ↦ rw (le-ltb i g.m (omega arith)) (steps_end g 0 (walker_of a e i) (incoming_done i (omega arith)))
        ]

every : (xs : List ℕ) → filter (λ x. true) xs ≡ xs
every [] = refl
every (x ∷ xs) = ap (λ l. x ∷ l) (every xs)

-- where neither list of a node is broken, the walker gives the walk around it, and then stops
pub walker_walks : (g : Net) (a : ℕ) → fits g ≡ true → a < g.n → broken g 0 a ≡ false → broken g 1 a ≡ false
    → steps (length (around g Far a) + 1) g (begin g a).values ≡ (around g Far a, 5)
unfolding begin
walker_walks g a f l b c =
    let e = link_at g 0 (Head a) in
    let i = link_at g 1 (Head a) in
    let outs = walk (next g 0) g.m g.m e in
    let ins = filter (other g a) (walk (next g 1) g.m g.m i) in
    let z : length (map (gives g Far 0) outs ++ map (gives g Far 1) ins) + 1 ≡ length outs + (length ins + 1)
    = simp (length-append, length-map) (omega arith) in
    rw (
      f,
      lt-ltb a g.n l,
      every outs,
      z,
      outgoing_steps g a f g.m e i (length ins + 1),
      incoming_steps g a f (stop (next g 0) g.m g.m e) (ltb-false _ _ b) g.m i (omega arith) (ltb-false _ _ c),
    )
