-- One more row of a walk, and its end.
use Prim.Native.Nat.{ℕ, zero, suc, ◌+◌, ◌-◌, ◌^◌, ◌≤◌, ◌<◌}
use mathlib.Core.Path.{◌≡◌, refl, sym, ap, ◌∙◌}
use mathlib.Core.Bool.{Bool, true, false, cond}
use mathlib.Core.List.{List, [], ◌∷◌, ◌++◌, append_assoc, append-nil}
use borrow.Author.Tests.{lt-ltb, le-ltb, ltb-true}
use lib.Dec.{ltb}
use lib.ListN.{length, length-append}
use native.Mathlib.Nat.{sub-zero}
use native.Mathlib.Omega.{arith}
use native.Mathlib.Numerals.{add-one}
use Rattle.lists.specs.Walk.{walk, stop, filter}
use Rattle.std.proofs.lemmas.List.Elements.{filter-append}

module _ (next : ℕ → ℕ) (m : ℕ) where
  pub walk_step : (l e : ℕ) {left : ℕ} → left ≡ l + 1 → e < m → walk next m left e ≡ e ∷ walk next m l (next e)
  unfolding walk
  walk_step l e z h = rw (z, add-one l, lt-ltb e m h)

  pub stop_step : (l e : ℕ) {left : ℕ} → left ≡ l + 1 → e < m → stop next m left e ≡ stop next m l (next e)
  unfolding stop
  stop_step l e z h = rw (z, add-one l, lt-ltb e m h)

  pub walk_end : (left e : ℕ) → m ≤ e → walk next m left e ≡ []
  unfolding walk
  walk_end zero e h = refl
  walk_end (suc left) e h = rw (le-ltb e m h)

  pub stop-end : (left e : ℕ) → m ≤ e → stop next m left e ≡ e
  unfolding stop
  stop-end zero e h = refl
  stop-end (suc left) e h = rw (le-ltb e m h)

  pub walk-out : (left e : ℕ) → left ≡ 0 → walk next m left e ≡ []
  unfolding walk
  walk-out left e z = rw z

  pub stop-out : (left e : ℕ) → left ≡ 0 → stop next m left e ≡ e
  unfolding stop
  stop-out left e z = rw z

-- a loop along a list, `rows` rows on: those met so far, and where it stands
pub record Along (next : ℕ → ℕ) (m first : ℕ) (met : List ℕ) (e rows : ℕ) : Type 0 where
  pub most : rows ≤ m
  pub small : e < 2 ^ 32
  pub many : length met ≡ rows
  pub whole : walk next m m first ≡ met ++ walk next m (m - rows) e
  pub stops : stop next m m first ≡ stop next m (m - rows) e

module _ (next : ℕ → ℕ) (m first : ℕ) where
  pub begins : first < 2 ^ 32 → Along next m first [] first 0
  begins h =
      record {
        most = omega arith;
        small = h;
        many = refl;
        whole = rw (sub-zero m);
        stops = rw (sub-zero m);
      }

module _ {next : ℕ → ℕ} {m first : ℕ} {met : List ℕ} {e rows : ℕ} (a : Along next m first met e rows) where
  pub onward : e < m → (rows ≡ m → ⊥) → next e < 2 ^ 32 → Along next m first (met ++ (e ∷ [])) (next e) (rows + 1)
  onward h n s =
      let z : m - rows ≡ m - (rows + 1) + 1 = omega (arith, a.most) in
      record {
        most = omega (arith, a.most);
        small = s;
        many = length-append met (e ∷ []) ∙ ap (λ x. x + 1) a.many;
        whole = a.whole ∙ ap (λ x. met ++ x) (walk_step next m (m - (rows + 1)) e z h) ∙ sym (append_assoc met (e ∷ []) (walk next m (m - (rows + 1)) (next e)));
        stops = a.stops ∙ stop_step next m (m - (rows + 1)) e z h;
      }

  -- the rows that are left begin with e
  pub rest : e < m → (rows ≡ m → ⊥) → walk next m m first ≡ met ++ (e ∷ walk next m (m - (rows + 1)) (next e))
  rest h n =
      let z : m - rows ≡ m - (rows + 1) + 1 = omega (arith, a.most) in
      a.whole ∙ ap (λ x. met ++ x) (walk_step next m (m - (rows + 1)) e z h)

  pub all_met : m ≤ e → walk next m m first ≡ met
  all_met h = a.whole ∙ ap (λ x. met ++ x) (walk_end next m (m - rows) e h) ∙ append-nil met

  pub stops_here : m ≤ e → stop next m m first ≡ e
  stops_here h = a.stops ∙ stop-end next m (m - rows) e h

  pub stops_short : rows ≡ m → stop next m m first ≡ e
  stops_short h = a.stops ∙ stop-out next m (m - rows) e (omega (arith, h))

-- the items that a test takes of a list that has grown
pub filter_takes : (p : ℕ → Bool) (xs : List ℕ) (e : ℕ) → p e ≡ true → filter p (xs ++ (e ∷ [])) ≡ filter p xs ++ (e ∷ [])
filter_takes p xs e h = filter-append p xs (e ∷ []) ∙ ap (λ b. filter p xs ++ cond b (e ∷ []) []) h

pub filter_leaves : (p : ℕ → Bool) (xs : List ℕ) (e : ℕ) → p e ≡ false → filter p (xs ++ (e ∷ [])) ≡ filter p xs
filter_leaves p xs e h = filter-append p xs (e ∷ []) ∙ ap (λ b. filter p xs ++ cond b (e ∷ []) []) h ∙ append-nil (filter p xs)

-- a row that a walk takes is below m
pub taken_below : (next : ℕ → ℕ) (m : ℕ) (p : ℕ → Bool) (left e x : ℕ) (xs : List ℕ) → filter p (walk next m left e) ≡ x ∷ xs → x < m
unfolding walk
taken_below next m p zero e x xs h = absurd (let z : ◌≡◌ {A = ℕ} 0 1 = cc in omega arith)
taken_below next m p (suc left) e x xs h = go (ltb e m) refl (p e) refl (taken_below next m p left (next e)) h
  where
    go : (b : Bool) → ltb e m ≡ b → (d : Bool) → p e ≡ d → ((x : ℕ) (xs : List ℕ) → filter p (walk next m left (next e)) ≡ x ∷ xs → x < m)
        → filter p (cond b (e ∷ walk next m left (next e)) []) ≡ x ∷ xs → x < m
    go false q d r ih h = absurd (let z : ◌≡◌ {A = ℕ} 0 1 = cc in omega arith)
    go true q true r ih h =
        let g : e ∷ filter p (walk next m left (next e)) ≡ x ∷ xs = rw r at h in
        let z : e ≡ x = cc in
        rw z at (ltb-true e m q)
    go true q false r ih h = ih x xs (rw r at h)
