-- `find_edge` on every network that fits: the search of the Rust is ours, and goes on for ever exactly where ours is broken, `find-run`.
-- In a sound network it ends: `find-edge`, `contains_edge_lem`. `update_edge` finds, or adds: `update_edge_lem`.
use Prim.Native.Nat.{ℕ, zero, suc, ◌-◌, ◌<◌}
use mathlib.Core.Path.{◌≡◌, refl}
use mathlib.Core.Bool.{Bool, true, false, cond, not}
use mathlib.Core.List.{List, [], ◌∷◌}
use mathlib.Core.Option.{Option, none, some}
use native.Mathlib.Decide.{dec_lt}
use native.Mathlib.Omega.{arith}
use borrow.Author.Tests.{lt-ltb, le-ltb}
use lib.Dec.{eqb, ltb}
use lib.ListN.{length, get_or, set}
use Rattle.std.proofs.Common as std
use Rattle.std.proofs.Common.{Ok, Err}
use Rattle.index.specs.declared.Refusal.TheVariants.{Broken, NoNode, Nothing}
use Rattle.index.specs.Index.{END}
use Rattle.tables.specs.Net.{Net, fits, with_edges, node_cell}
use Rattle.tables.specs.Answers.{Out, out, done, refused}
use Rattle.rows.specs.Calls.{add_edge}
use Rattle.lists.specs.declared.Spot.TheVariants.{Head}
use Rattle.lists.specs.declared.Pick.TheVariants.{To}
use Rattle.lists.specs.Walk.{cell, link_at, walk, stop, filter, picks, broken}
use Rattle.lists.proofs.Chains.{chain_ends}
use Rattle.lists.proofs.Walks.{taken_below}
use Rattle.find.specs.Parts.{Sought, first_in, sought_from}
use Rattle.find.specs.Find.{sought, on, find_edge, contains_edge, update_edge}
use Rattle.sound.specs.Sound.{Sound}
use Rattle.sound.proofs.Exactly.{small}
use Rattle.original.specs.Std.{assert, panics, as_u32, Run, returns, endless, ◌>>=◌, on_option}
use Rattle.original.specs.Rust.{Node, Pair, Both, One, None, on_pair, index_twice, Graph, find_along}
use Rattle.original.specs.Rust.{find_edge_from_node, edge_weight_mut}
use Rattle.original.specs.Rust as Rust
use Rattle.alike.specs.Same.{node_at, edge_at, rows_below, rows_of, option_told, run_told, seen, Ends}
use Rattle.alike.proofs.Vectors.{length-rows, got, got_past}
use Rattle.alike.proofs.Cells.{next_at, far_at}
use Rattle.alike.proofs.Single.{edge-written}
use Rattle.alike.proofs.Adding.{add_edge_lem}

-- the first of the rows that a search takes, or what it comes to without one
abbrev first_or : List ℕ → Run (Option ℕ) → Run (Option ℕ)
first_or [] otherwise = otherwise
first_or (x ∷ xs) otherwise = returns (some x)

-- what a search that has found nothing comes to
abbrev spent : Bool → Run (Option ℕ)
spent goes_on = cond goes_on endless (returns none)

-- the Rust's run for what ours has sought
abbrev sought_run : Sought → Run (Option ℕ)
sought_run (Ok (std.Some row)) = returns (some row.0.0)
sought_run (Ok std.None) = returns none
sought_run (Err why) = endless

module _ (g : Net) (k b : ℕ) (hk : k < 2) where
  abbrev matches : ℕ → Bool
  matches x = eqb (cell g.ends (1 - k) x) b

  along : (turns e : ℕ)
      → find_along turns k b (rows_below g.m (edge_at g)) e
      ≡ first_or (filter matches (walk (cell g.links k) g.m turns e)) (spent (ltb (stop (cell g.links k) g.m turns e) g.m))
  unfolding find_along walk stop
  along zero e =
      elim (dec_lt e g.m) [
        | yes l ↦ rw (got g.m (edge_at g) e l, lt-ltb e g.m l)
        | no l ↦ rw (got_past g.m (edge_at g) e (omega arith), le-ltb e g.m (omega arith))
      ]
  along (suc turns) e =
      elim (dec_lt e g.m) [
        | yes l ↦ rw (got g.m (edge_at g) e l, lt-ltb e g.m l, far_at g e k hk, next_at g e k hk) (go (matches e) _ _ _ (along turns (cell g.links k e)))
        | no l ↦ rw (got_past g.m (edge_at g) e (omega arith), le-ltb e g.m (omega arith), le-ltb e g.m (omega arith))
      ]
    where
      go : (c : Bool) (rest : Run (Option ℕ)) (xs : List ℕ) (end : Run (Option ℕ)) → rest ≡ first_or xs end → cond c (returns (some e)) rest ≡ first_or (cond c (e ∷ xs) xs) end
      go true rest xs end h = refl
      go false rest xs end h = h

-- both directions
both_ways : (xs ys : List ℕ) (p q : Bool)
    → (first_or xs (spent p) >>= λ found. on_option found (first_or ys (spent q)) (λ edix. returns (some edix))) ≡ sought_run (first_in 0 xs p (first_in 1 ys q (Ok std.None)))
both_ways (x ∷ xs) ys p q = refl
both_ways [] ys true q = refl
both_ways [] (y ∷ ys) false q = refl
both_ways [] [] false true = refl
both_ways [] [] false false = refl

module _ (g : Net) (a b : ℕ) where
  from_node : a < g.n → find_edge_from_node (rows_of g) (node_at g a) b ≡ sought_run (sought g a b)
  unfolding find_edge_from_node rows_of sought_from
  from_node l =
      rw (length-rows g.m (edge_at g), along g 0 b (omega arith) g.m (get_or g.heads (node_cell a 0) 0), along g 1 b (omega arith) g.m (get_or g.heads (node_cell a 1) 0))
      (both_ways (picks g 0 (To (record { 0 = b })) a) (picks g 1 (To (record { 0 = b })) a) (broken g 0 a) (broken g 1 a))

  pub find-run : Rust.find_edge (rows_of g) a b ≡ cond (ltb a g.n) (sought_run (sought g a b)) (returns none)
  unfolding Rust.find_edge rows_of
  find-run =
      elim (dec_lt a g.n) [
        | yes l ↦ rw (lt-ltb a g.n l, got g.n (node_at g) a l) (from_node l)
        | no l ↦ rw (le-ltb a g.n (omega arith), got_past g.n (node_at g) a (omega arith))
      ]

-- in a sound network no search goes on for ever
module _ (g : Net) (ls : ℕ → ℕ → List ℕ) (f : fits g ≡ true) (S : Sound g ls) (a b : ℕ) where
  abbrev hits : ℕ → List ℕ
  hits k = picks g k (To (record { 0 = b })) a

  ended : a < g.n → sought g a b ≡ first_in 0 (hits 0) false (first_in 1 (hits 1) false (Ok std.None))
  unfolding sought_from
  ended l =
      rw (
        chain_ends (link_at g 0) g.m (small g f) (Head a) (ls 0 a) (S.all_end 0 a (omega arith) l),
        chain_ends (link_at g 1) g.m (small g f) (Head a) (ls 1 a) (S.all_end 1 a (omega arith) l),
      )

  found_so : (xs ys : List ℕ) (s : Sought) → s ≡ first_in 0 xs false (first_in 1 ys false (Ok std.None))
      → Ends (sought_run s) (λ o. on s (λ e. done e) (refused Nothing 0) (refused Broken 0) ≡ option_told Nothing 0 o)
  found_so (x ∷ xs) ys s q = rw q (some x, refl, refl)
  found_so [] (y ∷ ys) s q = rw q (some y, refl, refl)
  found_so [] [] s q = rw q (none, refl, refl)

  pub find-edge : Ends (Rust.find_edge (rows_of g) a b) (λ o. find_edge g a b ≡ option_told (cond (ltb a g.n) Nothing NoNode) 0 o)
  unfolding find_edge
  find-edge =
      elim (dec_lt a g.n) [
        | yes l ↦ rw (find-run g a b, f, lt-ltb a g.n l) (found_so (hits 0) (hits 1) (sought g a b) (ended l))
        | no l ↦ rw (find-run g a b, f, le-ltb a g.n (omega arith)) (none, refl, refl)
      ]

  held_so : (xs ys : List ℕ) (s : Sought) → s ≡ first_in 0 xs false (first_in 1 ys false (Ok std.None))
      → Ends (sought_run s >>= λ found. returns (on_option found false (λ edix. true))) (λ holds. on s (λ e. done {A = ℕ} 1) (done 0) (refused Broken 0) ≡ done (cond holds 1 0))
  held_so (x ∷ xs) ys s q = rw q (true, refl, refl)
  held_so [] (y ∷ ys) s q = rw q (true, refl, refl)
  held_so [] [] s q = rw q (false, refl, refl)

  pub contains_edge_lem : Ends (Rust.contains_edge (rows_of g) a b) (λ holds. contains_edge g a b ≡ done (cond holds 1 0))
  unfolding contains_edge Rust.contains_edge
  contains_edge_lem =
      elim (dec_lt a g.n) [
        | yes l ↦ rw (find-run g a b, f, lt-ltb a g.n l) (held_so (hits 0) (hits 1) (sought g a b) (ended l))
        | no l ↦ rw (find-run g a b, f, le-ltb a g.n (omega arith)) (false, refl, refl)
      ]

-- the first row that a search takes is an edge
module _ (g : Net) (a b w : ℕ) (f : fits g ≡ true) where
  has_room : ((add_edge g a b w).answer.number ≡ 2 → ⊥) → g.m < length g.registers
  unfolding add_edge
  has_room n =
      elim (dec_lt g.m (length g.registers)) [
        | yes l ↦ l
        | no l ↦ absurd (n (rw (f, le-ltb g.m (length g.registers) (omega arith))))
      ]

  -- unless it is refused for want of a row
  pub add_edge_so : ((add_edge g a b w).answer.number ≡ 2 → ⊥) → seen (add_edge g a b w) ≡ run_told NoNode 0 (rows_of g) (Rust.add_edge (rows_of g) a b w)
  add_edge_so n = add_edge_lem g a b w f (has_room n)

  abbrev rewritten : ℕ → Out ℕ Net
  rewritten e = out (done e) (with_edges g (set g.registers e w) g.links g.ends)

  -- what an update does with what is found
  abbrev updated_by : Option ℕ → Run (ℕ × Graph)
  updated_by found =
      on_option found (Rust.add_edge (rows_of g) a b w) (λ ix.
      on_option (edge_weight_mut (rows_of g) ix w) (Rust.add_edge (rows_of g) a b w) (λ g'. returns (ix, g')))

  hit : (e : ℕ) → e < g.m → seen (rewritten e) ≡ run_told NoNode 0 (rows_of g) (updated_by (some e))
  hit e l = rw (edge-written g f e w l)

  updated_so : (xs ys : List ℕ) (p q : Bool) (s : Sought) → ((x : ℕ) (rest : List ℕ) → xs ≡ x ∷ rest → x < g.m) → ((y : ℕ) (rest : List ℕ) → ys ≡ y ∷ rest → y < g.m)
      → s ≡ first_in 0 xs p (first_in 1 ys q (Ok std.None))
      → ((on s rewritten (add_edge g a b w) (out (refused Broken 0) g)).answer.number ≡ 2 → ⊥)
      → seen (on s rewritten (add_edge g a b w) (out (refused Broken 0) g)) ≡ run_told NoNode 0 (rows_of g) (sought_run s >>= updated_by)
  updated_so (x ∷ xs) ys p q s i j e = rw e (λ n. hit x (i x xs refl))
  updated_so [] ys true q s i j e = rw e (λ n. refl)
  updated_so [] (y ∷ ys) false q s i j e = rw e (λ n. hit y (j y ys refl))
  updated_so [] [] false true s i j e = rw e (λ n. refl)
  updated_so [] [] false false s i j e = rw e add_edge_so

  sought-is : sought g a b ≡ first_in 0 (picks g 0 (To (record { 0 = b })) a) (broken g 0 a) (first_in 1 (picks g 1 (To (record { 0 = b })) a) (broken g 1 a) (Ok std.None))
  unfolding sought_from
  sought-is = refl

  pub update_edge_lem : ((update_edge g a b w).answer.number ≡ 2 → ⊥) → seen (update_edge g a b w) ≡ run_told NoNode 0 (rows_of g) (Rust.update_edge (rows_of g) a b w)
  unfolding update_edge Rust.update_edge
  update_edge_lem =
      elim (dec_lt a g.n) [
        | yes l ↦ rw (find-run g a b, f, lt-ltb a g.n l)
            (updated_so (picks g 0 (To (record { 0 = b })) a) (picks g 1 (To (record { 0 = b })) a) (broken g 0 a) (broken g 1 a) (sought g a b)
            (λ x rest h. taken_below (cell g.links 0) g.m (λ y. eqb (cell g.ends 1 y) b) g.m (link_at g 0 (Head a)) x rest h)
            (λ x rest h. taken_below (cell g.links 1) g.m (λ y. eqb (cell g.ends 0 y) b) g.m (link_at g 1 (Head a)) x rest h)
            sought-is)
        | no l ↦ rw (find-run g a b, f, le-ltb a g.n (omega arith)) add_edge_so
      ]

  -- an add has no loop, and an update of a sound network ends its search
  add_ends : Rust.add_edge (rows_of g) a b w ≡ endless → ⊥
  unfolding Rust.add_edge
  add_ends h = go (not (eqb (as_u32 (length (rows_of g).edges)) END)) (index_twice (rows_of g).nodes a b) _ _ h
    where
      go : (c : Bool) (p : Pair Node) (one : Node → ℕ × Graph) (both : Node → Node → ℕ × Graph)
          → assert c (on_pair p panics (λ an. returns (one an)) (λ an bn. returns (both an bn))) ≡ endless → ⊥
      go false p one both h = let z : ◌≡◌ {A = ℕ} 0 1 = cc in omega arith
      go true None one both h = let z : ◌≡◌ {A = ℕ} 0 1 = cc in omega arith
      go true (One an) one both h = let z : ◌≡◌ {A = ℕ} 0 1 = cc in omega arith
      go true (Both an bn) one both h = let z : ◌≡◌ {A = ℕ} 0 1 = cc in omega arith

  updated_ends : (o : Option ℕ) → updated_by o ≡ endless → ⊥
  updated_ends none h = add_ends h
  updated_ends (some ix) h = go (edge_weight_mut (rows_of g) ix w) h
    where
      go : (r : Option Graph) → on_option r (Rust.add_edge (rows_of g) a b w) (λ g'. returns (ix, g')) ≡ endless → ⊥
      go none h = add_ends h
      go (some g') h = let z : ◌≡◌ {A = ℕ} 0 1 = cc in omega arith

  pub update_ends : (ls : ℕ → ℕ → List ℕ) → Sound g ls → Rust.update_edge (rows_of g) a b w ≡ endless → ⊥
  unfolding Rust.update_edge
  update_ends ls S h =
      let found = find-edge g ls f S a b in
      updated_ends found.0 (rw found.1 at h)
