-- What the first match of a list says of the search of both; the row that a search finds is below m.
use Prim.Native.Nat.{ℕ, zero, suc, ◌+◌, ◌-◌, ◌<◌}
use mathlib.Core.Path.{◌≡◌, refl, sym, ap, ◌∙◌}
use mathlib.Core.Bool.{Bool, true, false, cond}
use mathlib.Core.List.{List, [], ◌∷◌}
use mathlib.Core.Logic.{◌⊎◌, inl, inr, ⊎_elim}
use native.Mathlib.Omega.{arith}
use lib.Dec.{ltb}
use lib.ListN.{get_or}
use Rattle.std.proofs.Common.{Some, None, Ok, Err}
use Rattle.tables.specs.Net.{node_cell}
use Rattle.index.specs.Index.{number_of}
use Rattle.index.specs.declared.EdgeDirection.TheVariants.{Outgoing, Incoming}
use Rattle.index.specs.declared.EdgeIndex.{EdgeIndex}
use Rattle.index.specs.declared.Refusal.{Refusal}
use Rattle.index.specs.declared.Refusal.TheVariants.{Broken}
use Rattle.lists.specs.declared.Found.{Found}
use Rattle.lists.specs.declared.Found.TheVariants as Found·
use Rattle.lists.specs.declared.Pick.TheVariants.{To}
use Rattle.lists.specs.Walk.{cell, picked, taken_from, stop_from}
use Rattle.lists.specs.Parts.{first_of}
use Rattle.lists.proofs.Walks.{taken_below}
use Rattle.find.specs.Parts.{Sought, first_in, searched, sought_from}
use Rattle.find.specs.Find.{on}

-- whatever a search comes to
pub sought-by : {A : Type 0} (P : A → Type 0) (s : Sought) (found : ℕ → A) (missing endless : A) → ((e : ℕ) → P (found e)) → P missing → P endless
    → P (on s found missing endless)
sought-by P (Ok (Some row)) found missing endless p q r = p row.0.0
sought-by P (Ok None) found missing endless p q r = q
sought-by P (Err why) found missing endless p q r = r

-- what the first match of a list in direction k tells: a match is the answer, else what comes next
abbrev pub after : ℕ → Found → Sought → Sought
after k (Found·.At e) next = Ok (Some (e, k))
after k (Found·.End e) next = next
after k Found·.Broken next = Err Broken

first_told : (k m s : ℕ) (next : Sought) (xs : List ℕ) → after k (first_of xs m s) next ≡ first_in k xs (ltb s m) next
first_told k m s next (x ∷ xs) = refl
first_told k m s next [] = by (ltb s m)
  where
    by : (b : Bool) → after k (cond b Found·.Broken (Found·.End (record { 0 = s }))) next ≡ cond b (Err Broken) next
    by true = refl
    by false = refl

module _ (heads links ends : List ℕ) (m a b : ℕ) where
  -- so the search of node a's list in direction k, by how it ended
  told-by : (k : ℕ) (next : Sought) (v : Found) → let link = get_or heads (node_cell a k) 0 in
      first_of (taken_from links ends m k (To (record { 0 = b })) link) m (stop_from links m k link) ≡ v → after k v next ≡ searched heads links ends m a b k next
  told-by k next v h =
      let link = get_or heads (node_cell a k) 0 in
      rw (← h) (first_told k m (stop_from links m k link) next (taken_from links ends m k (To (record { 0 = b })) link))

  -- what is left of the search before its list i, where those before it had none
  abbrev pub from_list : ℕ → Sought
  from_list zero = searched heads links ends m a b 0 (searched heads links ends m a b 1 (Ok None))
  from_list (suc zero) = searched heads links ends m a b 1 (Ok None)
  from_list (suc (suc i)) = Ok None

  -- one list more, by how its search ended
  pub turn : (i : ℕ) {k : ℕ} {v : Found} → i < 2 → k ≡ number_of (get_or (Outgoing ∷ Incoming ∷ []) i Outgoing)
      → v ≡ (let link = get_or heads (node_cell a k) 0 in first_of (taken_from links ends m k (To (record { 0 = b })) link) m (stop_from links m k link))
      → from_list i ≡ after k v (from_list (i + 1))
  turn zero {k} {v} l q h = rw q (sym (told-by 0 (from_list 1) v (sym (rw q at h))))
  turn (suc zero) {k} {v} l q h = rw q (sym (told-by 1 (Ok None) v (sym (rw q at h))))
  turn (suc (suc i)) l q h = absurd (omega arith)

  -- the row that a search finds is below m
  list_below : (k : ℕ) (next : Sought) {e : EdgeIndex} {j : ℕ} → searched heads links ends m a b k next ≡ Ok (Some (e, j)) → (e.0 < m) ⊎ (next ≡ Ok (Some (e, j)))
  list_below k next {e} {j} h = go (taken_from links ends m k (To (record { 0 = b })) link) refl (ltb (stop_from links m k link) m) h
    where
      link : ℕ
      link = get_or heads (node_cell a k) 0

      go : (xs : List ℕ) → taken_from links ends m k (To (record { 0 = b })) link ≡ xs → (d : Bool) → first_in k xs d next ≡ Ok (Some (e, j)) → (e.0 < m) ⊎ (next ≡ Ok (Some (e, j)))
      go (x ∷ xs) q d h =
          let f : ◌≡◌ {A = EdgeIndex × ℕ} (record { 0 = x }, k) (e, j) = cc in
          let z : x ≡ e.0 = ap (λ (row : EdgeIndex × ℕ). row.0.0) f in
          inl (rw z at (taken_below (cell links k) m (λ y. picked (To (record { 0 = b })) (cell ends (1 - k) y)) m link x xs q))
      go [] q true h = absurd (let z : ◌≡◌ {A = ℕ} 0 1 = cc in omega arith)
      go [] q false h = inr h

  pub sought-below : {e : EdgeIndex} {j : ℕ} → sought_from heads links ends m a b ≡ Ok (Some (e, j)) → e.0 < m
  unfolding sought_from
  sought-below h =
      ⊎_elim
      (λ l. l)
      (λ n. ⊎_elim (λ l. l) (λ z. absurd (let y : ◌≡◌ {A = ℕ} 0 1 = cc in omega arith)) (list_below 1 (Ok None) n))
      (list_below 0 (searched heads links ends m a b 1 (Ok None)) h)

  -- and a search that is refused is refused 6
  broken_in : (k : ℕ) (xs : List ℕ) (endless : Bool) (next : Sought) {why : Refusal} → ((w : Refusal) → next ≡ Err w → w ≡ Broken) → first_in k xs endless next ≡ Err why → why ≡ Broken
  broken_in k (x ∷ xs) endless next n h = absurd (let z : ◌≡◌ {A = ℕ} 0 1 = cc in omega arith)
  broken_in k [] true next n h = cc
  broken_in k [] false next {why} n h = n why h

  pub sought-broken : {r : Sought} {why : Refusal} → r ≡ sought_from heads links ends m a b → r ≡ Err why → (why ≡ Broken) × (sought_from heads links ends m a b ≡ Err Broken)
  unfolding sought_from
  sought-broken {r} {why} e h =
      let none : (w : Refusal) → ◌≡◌ {A = Sought} (Ok None) (Err w) → w ≡ Broken = λ w z. absurd (let y : ◌≡◌ {A = ℕ} 0 1 = cc in omega arith) in
      let later : (w : Refusal) → searched heads links ends m a b 1 (Ok None) ≡ Err w → w ≡ Broken = λ w z. broken_in 1 _ _ (Ok None) none z in
      let so : why ≡ Broken = broken_in 0 _ _ (searched heads links ends m a b 1 (Ok None)) later (sym e ∙ h) in
      (so, sym e ∙ h ∙ ap Err so)
