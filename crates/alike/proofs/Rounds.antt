-- The iterators around a node of a sound network: they end, and give the rows of its lists.
use Prim.Native.Nat.{ℕ, zero, suc, ◌+◌, ◌≤◌, ◌<◌}
use mathlib.Core.Path.{◌≡◌, refl, ◌∙◌}
use mathlib.Core.Bool.{Bool, true, false, cond, not}
use mathlib.Core.List.{List, [], ◌∷◌, ◌++◌, map}
use mathlib.Core.Option.{none, some}
use native.Mathlib.Nat.{not-suc-le-zero, le_of_suc-le-suc}
use native.Mathlib.Omega.{arith}
use lib.Dec.{eqb}
use lib.ListN.{length, length-append, length-map}
use Rattle.index.specs.Index.{END}
use Rattle.tables.specs.Net.{Net, fits}
use Rattle.lists.specs.declared.Spot.{Spot}
use Rattle.lists.specs.declared.Spot.TheVariants.{Head, After}
use Rattle.lists.specs.Chain.{Chain}
use Rattle.lists.specs.Walk.{link_at, filter}
use Rattle.lists.proofs.Chains.{chain_length}
use Rattle.sound.specs.Sound.{end_at, Sound}
use Rattle.sound.proofs.Exactly.{small}
use Rattle.stripping.proofs.Others.{filter-fewer}
use Rattle.original.specs.Std.{returns}
use Rattle.original.specs.Iterators.{Next, Around, Items, next_incoming, next_around, around_of, collected}
use Rattle.alike.specs.Same.{node_at, edge_at, rows_below, rows_of}
use Rattle.alike.proofs.Vectors.{length-rows, got, got_past}
use Rattle.alike.proofs.Cells.{edge_count}
use Rattle.alike.proofs.Iterating.{Gives, GivesFirst, step-first, same_first, collect_all}

module _ {A : Type 0} (items : Items A) (g : Net) (small : g.m ≤ END) (a : ℕ) where
  -- the iterator around node a with these links next
  abbrev at : ℕ → ℕ → Around
  at outgoing incoming = record { skip_start = a; edges = rows_below g.m (edge_at g); next = (outgoing, incoming) }

  abbrev outgoing : ℕ → A
  outgoing x = items.outgoing x (edge_at g x)

  abbrev incoming : ℕ → A
  incoming y = items.incoming y (edge_at g y)

  abbrev other : ℕ → Bool
  other y = not (eqb (end_at g 0 y) a)

  -- past the outgoing list
  alone : (i : ℕ) → next_around items (at END i) ≡ next_incoming items g.m (at END i)
  unfolding next_around
  alone i = rw (got_past g.m (edge_at g) END small, length-rows g.m (edge_at g))

  no_incoming : (turns : ℕ) → next_incoming items turns (at END END) ≡ returns (none, at END END)
  unfolding next_incoming
  no_incoming zero = rw (got_past g.m (edge_at g) END small)
  no_incoming (suc turns) = rw (got_past g.m (edge_at g) END small)

  incoming_first : (ys : List ℕ) (turns : ℕ) (s : Spot) → Chain (link_at g 1) g.m s ys → length ys ≤ turns
      → GivesFirst (next_incoming items turns) (next_around items) (at END (link_at g 1 s)) (map incoming (filter other ys))
  unfolding next_incoming
  incoming_first [] zero s c h = (at END END, rw (c, got_past g.m (edge_at g) END small))
  incoming_first [] (suc turns) s c h = (at END END, rw (c, got_past g.m (edge_at g) END small))
  incoming_first (y ∷ ys) zero s c h = absurd (not-suc-le-zero h)
  incoming_first (y ∷ ys) (suc turns) s c h =
      go (eqb (end_at g 0 y) a) refl
      (incoming_first ys turns (After y) c.2 (le_of_suc-le-suc h))
      (incoming_first ys g.m (After y) c.2 (chain_length (link_at g 1) g.m small (After y) ys c.2))
    where
      rest : Around
      rest = at END (link_at g 1 (After y))

      go : (b : Bool) → eqb (end_at g 0 y) a ≡ b
          → GivesFirst (next_incoming items turns) (next_around items) rest (map incoming (filter other ys))
          → GivesFirst (next_incoming items g.m) (next_around items) rest (map incoming (filter other ys))
          → GivesFirst (next_incoming items (suc turns)) (next_around items) (at END (link_at g 1 s)) (map incoming (cond (not b) (y ∷ filter other ys) (filter other ys)))
      go true q skip keep =
          step-first (next_incoming items (suc turns)) (next_incoming items turns) (next_around items) (at END (link_at g 1 s)) rest (map incoming (filter other ys))
          (rw (c.0, got g.m (edge_at g) y c.1, q)) skip
      go false q skip keep = (
        rest,
        rw (c.0, got g.m (edge_at g) y c.1, q),
        same_first (next_incoming items g.m) (next_around items) rest (map incoming (filter other ys)) (alone (link_at g 1 (After y))) keep,
      )

  outgoing_all : (xs : List ℕ) (s : Spot) (i : ℕ) (zs : List A) → Chain (link_at g 0) g.m s xs → Gives (next_around items) (at END i) zs
      → Gives (next_around items) (at (link_at g 0 s) i) (map outgoing xs ++ zs)
  unfolding next_around
  outgoing_all [] s i zs c G = rw c G
  outgoing_all (x ∷ xs) s i zs c G = (at (link_at g 0 (After x)) i, first, outgoing_all xs (After x) i zs c.2 G)
    where
      first : next_around items (at (link_at g 0 s) i) ≡ returns (some (outgoing x), at (link_at g 0 (After x)) i)
      first = rw (c.0, got g.m (edge_at g) x c.1)

module _ {A : Type 0} (items : Items A) (g : Net) (ls : ℕ → ℕ → List ℕ) (f : fits g ≡ true) (S : Sound g ls) (a : ℕ) where
  -- all items of the iterator
  abbrev pub all : List A
  all = map (outgoing items g (small g f) a) (ls 0 a) ++ map (incoming items g (small g f) a) (filter (other items g (small g f) a) (ls 1 a))

  pub few : a < g.n → length all ≤ g.m + g.m
  few l =
      let o = outgoing items g (small g f) a in
      let i = incoming items g (small g f) a in
      let p = other items g (small g f) a in
      omega (
        arith,
        length-append (map o (ls 0 a)) (map i (filter p (ls 1 a))),
        length-map (ls 0 a) o,
        length-map (filter p (ls 1 a)) i,
        filter-fewer p (ls 1 a),
        chain_length (link_at g 0) g.m (small g f) (Head a) (ls 0 a) (S.all_end 0 a (omega arith) l),
        chain_length (link_at g 1) g.m (small g f) (Head a) (ls 1 a) (S.all_end 1 a (omega arith) l),
      )

  pub gives_all : a < g.n → Gives (next_around items) (around_of (rows_of g) a) all
  unfolding rows_of
  gives_all l =
      let s = small g f in
      let zs = map (incoming items g s a) (filter (other items g s a) (ls 1 a)) in
      let c = S.all_end 1 a (omega arith) l in
      rw (got g.n (node_at g) a l)
      (outgoing_all items g s a (ls 0 a) (Head a) (link_at g 1 (Head a)) zs (S.all_end 0 a (omega arith) l)
      (same_first (next_incoming items g.m) (next_around items) (at items g s a END (link_at g 1 (Head a))) zs (alone items g s a (link_at g 1 (Head a)))
      (incoming_first items g s a (ls 1 a) g.m (Head a) c (chain_length (link_at g 1) g.m s (Head a) (ls 1 a) c))))

  -- around a missing node there is nothing
  pub gives_none : g.n ≤ a → Gives (next_around items) (around_of (rows_of g) a) []
  unfolding rows_of
  gives_none l =
      let s = small g f in
      rw (got_past g.n (node_at g) a l)
      (at items g s a END END, alone items g s a END ∙ no_incoming items g s a g.m)

-- an iterator of no more than 2 m items is collected whole
pub collected_all : {I A : Type 0} (g : Net) (next : Next I A) (it : I) (xs : List A) → length xs ≤ g.m + g.m → Gives next it xs → collected (rows_of g) next it ≡ returns xs
collected_all g next it xs h G = rw (edge_count g) (collect_all next (suc (g.m + g.m)) it xs (omega arith) G)
