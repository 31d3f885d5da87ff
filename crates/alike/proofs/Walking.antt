-- The walks around a node of a sound network give what the Rust's iterators give.
use Prim.Native.Nat.{ℕ, suc, ◌+◌, ◌≤◌, ◌<◌}
use mathlib.Core.Path.{◌≡◌, refl, sym, ap, ap₂, ◌∙◌}
use mathlib.Core.Bool.{Bool, true, false, cond, not}
use mathlib.Core.List.{List, [], ◌∷◌, ◌++◌, map, map-map}
use native.Mathlib.Decide.{dec_lt}
use native.Mathlib.Omega.{arith}
use borrow.Author.Tests.{lt-ltb, le-ltb, le-leb}
use lib.Dec.{eqb}
use lib.ListN.{length}
use Rattle.tables.specs.Net.{Net, fits}
use Rattle.tables.specs.Answers.{Out, out, done, give}
use Rattle.lists.specs.declared.Spot.TheVariants.{Head}
use Rattle.lists.specs.declared.Pick.TheVariants.{To, ToNot}
use Rattle.lists.specs.declared.Item.{Item}
use Rattle.lists.specs.declared.Item.TheVariants.{Number, Near, Far, Weight}
use Rattle.lists.specs.Walk.{link_at, filter, picks, gives, around}
use Rattle.lists.proofs.Chains.{chain_ends}
use Rattle.legs.specs.Legs.{Tables3, give_three}
use Rattle.walks.specs.Walks.{walked, neighbors, edge_weights, edges_between, edges}
use Rattle.sound.specs.Sound.{end_at, Sound}
use Rattle.sound.proofs.Exactly.{small, lists_are}
use Rattle.stripping.proofs.Others.{filter-both}
use Rattle.original.specs.Std.{returns}
use Rattle.original.specs.Iterators.{Items, EdgeReference, neighbor_items, edge_items, weight_items, next_around, next_between, around_of, collected}
use Rattle.original.specs.Iterators as Iterators
use Rattle.alike.specs.Same.{rows_of, referred, Ends}
use Rattle.alike.proofs.Cells.{edge_count}
use Rattle.alike.proofs.Iterating.{collect_all, sift, sift_fewer, leads, find-all}
use Rattle.alike.proofs.Rounds.{all, few, gives_all, gives_none, collected_all}

-- a test that passes everything
pub every : (xs : List ℕ) → filter (λ x. true) xs ≡ xs
every [] = refl
every (x ∷ xs) = ap (λ (l : List ℕ). x ∷ l) (every xs)

-- no items, in any table
pub give_none : (table : List ℕ) → give [] table ≡ out (done 0) table
give_none table = rw (le-leb 0 (length table) (omega arith))

no_room : (items : Item → List ℕ) (t : Tables3) → items Number ≡ [] → items Near ≡ [] → items Far ≡ [] → give_three items t ≡ out (done 0) t
no_room items t p q r = rw (p, q, r, le-leb 0 (length t.numbers) (omega arith), le-leb 0 (length t.sources) (omega arith), le-leb 0 (length t.targets) (omega arith))

three_alike : (items others : Item → List ℕ) (t : Tables3) → items Number ≡ others Number → items Near ≡ others Near → items Far ≡ others Far
    → give_three items t ≡ give_three others t
three_alike items others t p q r = rw (p, q, r)

-- a map over two lists one after the other
map_both : {A : Type 0} (h : A → ℕ) (o i : ℕ → A) (xs ys : List ℕ) → map h (map o xs ++ map i ys) ≡ map (λ x. h (o x)) xs ++ map (λ y. h (i y)) ys
map_both h o i [] ys = map-map h i ys
map_both h o i (x ∷ xs) ys = ap (λ (l : List ℕ). h (o x) ∷ l) (map_both h o i xs ys)

-- the numbers of the edges that satisfy a test
module _ (h : EdgeReference → ℕ) (p : EdgeReference → Bool) where
  sift_one : (i : ℕ → EdgeReference) → ((y : ℕ) → h (i y) ≡ y) → (ys : List ℕ) → map h (sift p (map i ys)) ≡ filter (λ y. p (i y)) ys
  sift_one i q [] = refl
  sift_one i q (y ∷ ys) = go (p (i y)) (sift_one i q ys)
    where
      go : (b : Bool) → map h (sift p (map i ys)) ≡ filter (λ y. p (i y)) ys
          → map h (cond b (i y ∷ sift p (map i ys)) (sift p (map i ys))) ≡ cond b (y ∷ filter (λ y. p (i y)) ys) (filter (λ y. p (i y)) ys)
      go true r = ap₂ (λ (z : ℕ) (l : List ℕ). z ∷ l) (q y) r
      go false r = r

  sift_append : (xs ys : List EdgeReference) → sift p (xs ++ ys) ≡ sift p xs ++ sift p ys
  sift_append [] ys = refl
  sift_append (x ∷ xs) ys = go (p x) (sift_append xs ys)
    where
      go : (b : Bool) → sift p (xs ++ ys) ≡ sift p xs ++ sift p ys → cond b (x ∷ sift p (xs ++ ys)) (sift p (xs ++ ys)) ≡ cond b (x ∷ sift p xs) (sift p xs) ++ sift p ys
      go true r = ap (λ (l : List EdgeReference). x ∷ l) r
      go false r = r

  map-append : (xs ys : List EdgeReference) → map h (xs ++ ys) ≡ map h xs ++ map h ys
  map-append [] ys = refl
  map-append (x ∷ xs) ys = ap (λ (l : List ℕ). h x ∷ l) (map-append xs ys)

  sift_both : (o i : ℕ → EdgeReference) → ((x : ℕ) → h (o x) ≡ x) → ((y : ℕ) → h (i y) ≡ y) → (xs ys : List ℕ)
      → map h (sift p (map o xs ++ map i ys)) ≡ filter (λ x. p (o x)) xs ++ filter (λ y. p (i y)) ys
  sift_both o i q r xs ys =
      ap (map h) (sift_append (map o xs) (map i ys))
      ∙ map-append (sift p (map o xs)) (sift p (map i ys))
      ∙ ap₂ (λ (x y : List ℕ). x ++ y) (sift_one o q xs) (sift_one i r ys)

module _ (g : Net) (ls : ℕ → ℕ → List ℕ) (f : fits g ≡ true) (S : Sound g ls) (a : ℕ) where
  -- neither list is broken
  pub walked_so : {T : Type 0} (table : T) (given : Out ℕ T) → a < g.n → walked g a table given ≡ given
  walked_so table given l =
      rw (
        f,
        lt-ltb a g.n l,
        chain_ends (link_at g 0) g.m (small g f) (Head a) (ls 0 a) (S.all_end 0 a (omega arith) l),
        chain_ends (link_at g 1) g.m (small g f) (Head a) (ls 1 a) (S.all_end 1 a (omega arith) l),
      )

  pub walked_none : {T : Type 0} (table : T) (given : Out ℕ T) → g.n ≤ a → walked g a table given ≡ out (done 0) table
  walked_none table given l = rw (f, le-ltb a g.n l)

  all_items : {A : Type 0} (items : Items A) → a < g.n → collected (rows_of g) (next_around items) (around_of (rows_of g) a) ≡ returns (all items g ls f S a)
  all_items items l = collected_all g (next_around items) (around_of (rows_of g) a) (all items g ls f S a) (few items g ls f S a l) (gives_all items g ls f S a l)

  no_items : {A : Type 0} (items : Items A) → g.n ≤ a → collected (rows_of g) (next_around items) (around_of (rows_of g) a) ≡ returns []
  no_items items l = collected_all g (next_around items) (around_of (rows_of g) a) [] (omega arith) (gives_none items g ls f S a l)

  abbrev others : List ℕ
  others = filter (λ y. not (eqb (end_at g 0 y) a)) (ls 1 a)

  around-is : (item : Item) → a < g.n → around g item a ≡ map (gives g item 0) (ls 0 a) ++ map (gives g item 1) others
  around-is item l =
      let p = lists_are g ls f S 0 a (omega arith) l in
      let q = lists_are g ls f S 1 a (omega arith) l in
      rw (p, q, every (ls 0 a))

  pub neighbors-given : (table : List ℕ) → Ends (Iterators.neighbors (rows_of g) a) (λ items. neighbors g a table ≡ give items table)
  unfolding neighbors Iterators.neighbors
  neighbors-given table =
      elim (dec_lt a g.n) [
        | yes l ↦ (all neighbor_items g ls f S a, all_items neighbor_items l, walked_so table (give (around g Far a) table) l ∙ ap (λ xs. give xs table) (around-is Far l))
        | no l ↦ ([], no_items neighbor_items (omega arith), walked_none table (give (around g Far a) table) (omega arith) ∙ sym (give_none table))
      ]

  pub edge-weights : (table : List ℕ) → Ends (Iterators.edge_weights (rows_of g) a) (λ items. edge_weights g a table ≡ give items table)
  unfolding edge_weights Iterators.edge_weights
  edge-weights table =
      elim (dec_lt a g.n) [
        | yes l ↦ (all weight_items g ls f S a, all_items weight_items l, walked_so table (give (around g Weight a) table) l ∙ ap (λ xs. give xs table) (around-is Weight l))
        | no l ↦ ([], no_items weight_items (omega arith), walked_none table (give (around g Weight a) table) (omega arith) ∙ sym (give_none table))
      ]

  -- by number, near end and far end
  abbrev refs : List EdgeReference
  refs = all edge_items g ls f S a

  refs_are : (item : Item) → a < g.n → around g item a ≡ map (referred item) refs
  refs_are Number l = around-is Number l ∙ sym (map_both (referred Number) _ _ (ls 0 a) others)
  refs_are Near l = around-is Near l ∙ sym (map_both (referred Near) _ _ (ls 0 a) others)
  refs_are Far l = around-is Far l ∙ sym (map_both (referred Far) _ _ (ls 0 a) others)
  refs_are Weight l = around-is Weight l ∙ sym (map_both (referred Weight) _ _ (ls 0 a) others)

  pub edges-given : (t : Tables3) → Ends (Iterators.edges (rows_of g) a) (λ found. edges g a t ≡ give_three (λ item. map (referred item) found) t)
  unfolding edges Iterators.edges
  edges-given t =
      let ours = give_three (λ item. around g item a) t in
      elim (dec_lt a g.n) [
        | yes l ↦ (
          refs,
          all_items edge_items l,
          walked_so t ours l ∙ three_alike (λ item. around g item a) (λ item. map (referred item) refs) t (refs_are Number l) (refs_are Near l) (refs_are Far l),
        )
        | no l ↦ ([], no_items edge_items (omega arith), walked_none t ours (omega arith) ∙ sym (no_room (λ item. map (referred item) []) t refl refl refl))
      ]

  -- those that lead to b
  between_are : (b : ℕ) → a < g.n → picks g 0 (To (record { 0 = b })) a ++ picks g 1 (ToNot (record { 0 = b }) (record { 0 = a })) a
      ≡ map (referred Number) (sift (leads b (g.m + g.m)) refs)
  between_are b l =
      let p = lists_are g ls f S 0 a (omega arith) l in
      let q = lists_are g ls f S 1 a (omega arith) l in
      rw (p, q)
      (ap (λ ys. filter (λ x. eqb (end_at g 1 x) b) (ls 0 a) ++ ys) (sym (filter-both (λ y. eqb (end_at g 0 y) b) (λ y. not (eqb (end_at g 0 y) a)) (ls 1 a)))
      ∙ sym (sift_both (referred Number) (leads b (g.m + g.m)) _ _ (λ x. refl) (λ y. refl) (ls 0 a) others))

  pub edges_between_lem : (b : ℕ) (table : List ℕ) → Ends (Iterators.edges_between (rows_of g) a b) (λ found. edges_between g a b table ≡ give (map (referred Number) found) table)
  unfolding edges_between Iterators.edges_between
  edges_between_lem b table =
      let ours = give (picks g 0 (To (record { 0 = b })) a ++ picks g 1 (ToNot (record { 0 = b }) (record { 0 = a })) a) table in
      let next = next_between (suc (g.m + g.m)) b in
      let test = leads b (g.m + g.m) in
      elim (dec_lt a g.n) [
        | yes l ↦ (
          sift test refs,
          rw (edge_count g) (collect_all next (suc (g.m + g.m)) (around_of (rows_of g) a) (sift test refs) (omega (arith, sift_fewer test refs, few edge_items g ls f S a l))
              (find-all b (g.m + g.m) (around_of (rows_of g) a) refs (few edge_items g ls f S a l) (gives_all edge_items g ls f S a l))),
          walked_so table ours l ∙ ap (λ xs. give xs table) (between_are b l),
        )
        | no l ↦ (
          [],
          rw (edge_count g) (collect_all next (suc (g.m + g.m)) (around_of (rows_of g) a) [] (omega arith)
              (find-all b (g.m + g.m) (around_of (rows_of g) a) [] (omega arith) (gives_none edge_items g ls f S a (omega arith)))),
          walked_none table ours (omega arith) ∙ sym (give_none table),
        )
      ]
