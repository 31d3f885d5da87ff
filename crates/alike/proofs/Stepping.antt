-- The walker beside the iterator of `neighbors`, on every network that fits and wherever the walker stands: it begins where the iterator
-- begins, `begins`, and a step is a `next`, `steps`, which goes on for ever exactly where the step is broken.
use Prim.Native.Nat.{ℕ, zero, suc}
use mathlib.Core.Path.{◌≡◌, refl}
use mathlib.Core.Bool.{Bool, true, false, cond, not}
use mathlib.Core.List.{List, [], ◌∷◌}
use mathlib.Core.Option.{Option, none, some}
use native.Mathlib.Decide.{dec_lt}
use native.Mathlib.Omega.{arith}
use borrow.Author.Tests.{lt-ltb, le-ltb}
use lib.Dec.{eqb, ltb}
use Rattle.index.specs.declared.Refusal.TheVariants.{Nothing, Broken}
use Rattle.tables.specs.Net.{Net, fits}
use Rattle.tables.specs.Answers.{out, done, refused}
use Rattle.lists.specs.declared.Pick.TheVariants.{NotTo}
use Rattle.lists.specs.Walk.{cell, walk, stop, filter, taken_from, stop_from}
use Rattle.walker.specs.declared.Walker.{Walker}
use Rattle.walker.specs.Steps.{begin, with_incoming, incoming_step, step}
use Rattle.original.specs.Std.{Run, returns, endless}
use Rattle.original.specs.Iterators.{Around, neighbor_items, next_incoming, next_around, around_of}
use Rattle.alike.specs.Same.{node_at, edge_at, rows_below, rows_of, walker_at, iterator_at, step_told}
use Rattle.alike.proofs.Vectors.{length-rows, got, got_past}

pub begins : (g : Net) (a : ℕ) → fits g ≡ true → begin g a ≡ done (walker_at (around_of (rows_of g) a))
unfolding begin rows_of
begins g a f =
    elim (dec_lt a g.n) [
      | yes l ↦ rw (f, lt-ltb a g.n l, got g.n (node_at g) a l)
      | no l ↦ rw (f, le-ltb a g.n (omega arith), got_past g.n (node_at g) a (omega arith))
    ]

module _ (g : Net) (a o : ℕ) where
  abbrev at : ℕ → Around
  at i = record { skip_start = a; edges = rows_below g.m (edge_at g); next = (o, i) }

  abbrev other : ℕ → Bool
  other y = not (eqb (cell g.ends 0 y) a)

  -- the first row that is no self-loop, or where the list stops
  abbrev first_at : List ℕ → ℕ → Run (Option ℕ × Around)
  first_at (e ∷ es) s = returns (some (cell g.ends 0 e), at (cell g.links 1 e))
  first_at [] s = cond (ltb s g.m) endless (returns (none, at s))

  along : (turns i : ℕ)
      → next_incoming neighbor_items turns (at i) ≡ first_at (filter other (walk (cell g.links 1) g.m turns i)) (stop (cell g.links 1) g.m turns i)
  unfolding next_incoming walk stop
  along zero i =
      elim (dec_lt i g.m) [
        | yes l ↦ rw (got g.m (edge_at g) i l, lt-ltb i g.m l)
        | no l ↦ rw (got_past g.m (edge_at g) i (omega arith), le-ltb i g.m (omega arith))
      ]
  along (suc turns) i =
      elim (dec_lt i g.m) [
        | yes l ↦ rw (got g.m (edge_at g) i l, lt-ltb i g.m l) (go (eqb (cell g.ends 0 i) a) (along turns (cell g.links 1 i)))
        | no l ↦ rw (got_past g.m (edge_at g) i (omega arith), le-ltb i g.m (omega arith), le-ltb i g.m (omega arith))
      ]
    where
      rest : List ℕ
      rest = filter other (walk (cell g.links 1) g.m turns (cell g.links 1 i))

      end : ℕ
      end = stop (cell g.links 1) g.m turns (cell g.links 1 i)

      go : (b : Bool) → next_incoming neighbor_items turns (at (cell g.links 1 i)) ≡ first_at rest end
          → cond b (next_incoming neighbor_items turns (at (cell g.links 1 i))) (returns (some (cell g.ends 0 i), at (cell g.links 1 i))) ≡ first_at (cond (not b) (i ∷ rest) rest) end
      go true h = h
      go false h = refl

told_so : (g : Net) (w : Walker) (xs : List ℕ) (s : ℕ) → incoming_step g w xs s ≡ step_told w (first_at g w.start.0 w.outgoing.0 xs s)
told_so g w (e ∷ es) s = refl
told_so g w [] s = go (ltb s g.m)
  where
    go : (b : Bool) → cond b (out (refused Broken 0) w) (out (refused Nothing 0) (with_incoming w s)) ≡ step_told w (cond b endless (returns (none, at g w.start.0 w.outgoing.0 s)))
    go true = refl
    go false = refl

pub steps : (g : Net) (w : Walker) → fits g ≡ true → step g w ≡ step_told w (next_around neighbor_items (iterator_at g w))
unfolding step next_around rows_of
steps g w f =
    elim (dec_lt w.outgoing.0 g.m) [
      | yes l ↦ rw (f, lt-ltb w.outgoing.0 g.m l, got g.m (edge_at g) w.outgoing.0 l)
      | no l ↦
          rw (
            f,
            le-ltb w.outgoing.0 g.m (omega arith),
            got_past g.m (edge_at g) w.outgoing.0 (omega arith),
            length-rows g.m (edge_at g),
            along g w.start.0 w.outgoing.0 g.m w.incoming.0,
          )
          (told_so g w (taken_from g.links g.ends g.m 1 (NotTo w.start) w.incoming.0) (stop_from g.links g.m 1 w.incoming.0))
    ]
