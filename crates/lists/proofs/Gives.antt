-- A loop over a known number of rows; and one that writes the items of a list to a table that has room for them, front to back.
use Prim.Native.Nat.{ℕ, zero, suc, ◌+◌, ◌-◌, ◌≤◌, ◌<◌}
use mathlib.Core.Path.{◌≡◌, sym, ap, ◌∙◌}
use mathlib.Core.Bool.{Bool, true, false, cond}
use mathlib.Core.List.{List, [], ◌∷◌, ◌++◌, map, map-append, append-nil}
use native.Mathlib.Nat.{lt_of_not-le}
use native.Mathlib.Omega.{arith}
use lib.Dec.{ltb}
use lib.ListN.{length, get_or, set, length-append, length-map, length-set}
use lib.Seq.{get_or_at, take_all}
use Rattle.tables.specs.Answers.{out, done}
use Rattle.std.proofs.lemmas.List.{nil_from_length}
use Rattle.std.proofs.lemmas.List.Elements.{filter-append}
use Rattle.tables.proofs.Front.{front, front_more}
use Rattle.lists.specs.Walk.{walk, filter}
use Rattle.lists.specs.Parts.{written}
use Rattle.lists.proofs.Walks.{Along, rest, all_met}
use Rattle.lists.proofs.Counts.{count_takes, count_leaves}

pub walk-length : (next : ℕ → ℕ) (m left e : ℕ) → length (walk next m left e) ≤ left
unfolding walk
walk-length next m zero e = omega arith
walk-length next m (suc left) e = go (ltb e m) (walk-length next m left (next e))
  where
    go : (b : Bool) → length (walk next m left (next e)) ≤ left → length (cond b (e ∷ walk next m left (next e)) []) ≤ suc left
    go true h = omega (arith, h)
    go false h = omega arith

-- while rows are left the loop stands at one
module _ {next : ℕ → ℕ} {m first : ℕ} {met : List ℕ} {e rows : ℕ} (a : Along next m first met e rows)
    {total : ℕ} (w : length (walk next m m first) ≡ total) (left : rows < total) where
  pub short : rows ≡ m → ⊥
  short h = omega (arith, walk-length next m m first)

  pub below : e < m
  below = lt_of_not-le (λ h. omega (arith, ap length (all_met a h), a.many))

-- and after so many it has met them all
pub met_all : {next : ℕ → ℕ} {m first : ℕ} {met : List ℕ} {e rows : ℕ} → Along next m first met e rows → length (walk next m m first) ≡ rows → walk next m m first ≡ met
met_all {next} {m} {first} {met} {e} {rows} a h =
    let r = walk next m (m - rows) e in
    a.whole ∙ ap (λ l. met ++ l) (nil_from_length r (omega (arith, ap length a.whole, length-append met r, a.many))) ∙ append-nil met

pub taken_counted : {next : ℕ → ℕ} {m first : ℕ} {met : List ℕ} {e rows taken : ℕ} (p : ℕ → Bool) → Along next m first met e rows → length (filter p met) ≡ taken
    → length (walk next m m first) ≡ rows → taken ≡ length (filter p (walk next m m first))
taken_counted p a n h = sym n ∙ sym (ap (λ l. length (filter p l)) (met_all a h))

-- the items written so far
pub record Giving (whole : List ℕ) (table : List ℕ) (taken : List ℕ) (items : List ℕ) (at : ℕ) : Type 0 where
  pub many : length taken ≡ at
  pub long : length items ≡ length table
  pub so_far : items ≡ front whole table at

module _ {next : ℕ → ℕ} {m first : ℕ} {met : List ℕ} {e rows : ℕ} (p : ℕ → Bool) (f : ℕ → ℕ) (a : Along next m first met e rows)
    {table items : List ℕ} {at : ℕ} (s : length (filter p (walk next m m first)) ≤ length table)
    (g : Giving (map f (filter p (walk next m m first))) table (filter p met) items at) where
  module _ (h : e < m) (n : rows ≡ m → ⊥) (t : p e ≡ true) where
    seam : map f (filter p (walk next m m first)) ≡ map f (filter p met) ++ (f e ∷ map f (filter p (walk next m (m - (rows + 1)) (next e))))
    seam =
        ap (λ l. map f (filter p l)) (rest a h n)
        ∙ ap (map f) (filter-append p met (e ∷ walk next m (m - (rows + 1)) (next e)))
        ∙ map-append f (filter p met) (filter p (e ∷ walk next m (m - (rows + 1)) (next e)))
        ∙ ap (λ b. map f (filter p met) ++ map f (cond b (e ∷ filter p (walk next m (m - (rows + 1)) (next e))) (filter p (walk next m (m - (rows + 1)) (next e))))) t

    inside : at < length (map f (filter p (walk next m m first)))
    inside = rw (seam, length-append, length-map) (omega (arith, g.many))

    pub room : at < length items
    room = omega (arith, inside, length-map (filter p (walk next m m first)) f, g.long)

    pub gives_row : Giving (map f (filter p (walk next m m first))) table (filter p (met ++ (e ∷ []))) (set items at (f e)) (at + 1)
    gives_row =
        let v : get_or (map f (filter p (walk next m m first))) at 0 ≡ f e = rw seam (get_or_at (map f (filter p met)) (f e) _ 0 at (length-map (filter p met) f ∙ g.many)) in
        record {
          many = count_takes p met e g.many t;
          long = length-set items at (f e) ∙ g.long;
          so_far = rw (g.so_far, ← v) (front_more (map f (filter p (walk next m m first))) table at 0 inside (omega (arith, room, g.long)));
        }

  pub passes_row : p e ≡ false → Giving (map f (filter p (walk next m m first))) table (filter p (met ++ (e ∷ []))) items at
  passes_row t = record { many = count_leaves p met e g.many t; long = g.long; so_far = g.so_far }

  pub given : length (walk next m m first) ≡ rows → out (done at) items ≡ written (map f (filter p (walk next m m first))) table
  unfolding written
  given h =
      let w = map f (filter p (walk next m m first)) in
      let n : length w ≡ at = length-map (filter p (walk next m m first)) f ∙ ap (λ x. length (filter p x)) (met_all a h) ∙ g.many in
      rw (g.so_far, n, take_all at w (omega arith))
