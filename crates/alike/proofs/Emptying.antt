-- The loops of `remove_node_with` that take out a node's edges, on a sound network: they end, no `expect` panics, and they leave what our
-- stripping leaves.
use Prim.Native.Nat.{ℕ, zero, suc, ◌-◌, ◌≤◌, ◌<◌}
use mathlib.Core.Path.{◌≡◌, ap}
use mathlib.Core.Bool.{true}
use mathlib.Core.List.{List, []}
use native.Mathlib.Decide.{ℕ_discrete}
use native.Mathlib.Omega.{arith}
use borrow.Author.Tests.{eq-eqb, ne_eqb}
use lib.ListN.{get_or}
use Rattle.index.specs.Index.{END}
use Rattle.tables.specs.Net.{Net, fits}
use Rattle.tables.specs.Answers.{Told}
use Rattle.lists.specs.declared.Spot.TheVariants.{Head}
use Rattle.lists.specs.Walk.{link_at}
use Rattle.sound.specs.Sound.{Sound}
use Rattle.removal.specs.Removal.{taken_out}
use Rattle.removal.specs.Lists.{less_edge}
use Rattle.stripping.specs.Heads.{Strip, strip, head_out, emptied, stripped}
use Rattle.stripping.proofs.Turns.{emptied-done, emptied-on, head-out}
use Rattle.stripping.proofs.Stripping.{outgoing_out, less_outgoing, first}
use Rattle.original.specs.Std.{returns}
use Rattle.original.specs.Rust.{for_all, remove_edges_of}
use Rattle.alike.specs.Same.{rows_of}
use Rattle.alike.proofs.Cells.{node-got, head_at}
use Rattle.alike.proofs.Taking.{edge-taken}

-- one direction
one_list : (turns k a : ℕ) (t : Strip) (ls : ℕ → ℕ → List ℕ) → k < 2 → fits t.rest ≡ true → Sound t.rest ls → a < t.rest.n → t.rest.m ≤ turns
    → remove_edges_of turns a k (t.given, rows_of t.rest) ≡ returns ((emptied turns k a t).given, rows_of (emptied turns k a t).rest)
unfolding remove_edges_of
one_list zero k a t ls hk f S la few =
    let g = t.rest in
    elim (ℕ_discrete (link_at g k (Head a)) END) [
      | yes q ↦ rw (node-got g a la, head_at g a k hk, eq-eqb (link_at g k (Head a)) END q, emptied-done zero k a t q)
      | no q ↦ absurd (omega (arith, (head-out g ls k a f S hk la q).0))
    ]
one_list (suc turns) k a t ls hk f S la few =
    let g = t.rest in
    let e = link_at g k (Head a) in
    elim (ℕ_discrete e END) [
      | yes q ↦ rw (node-got g a la, head_at g a k hk, eq-eqb e END q, emptied-done (suc turns) k a t q)
      | no q ↦
          (let o = head-out g ls k a f S hk la q in
          let w : (taken_out g e).answer.values.0 ≡ get_or g.registers e 0 = ap (λ (told : Told (ℕ × ℕ × ℕ)). told.values.0) o.1.served in
          rw (node-got g a la, head_at g a k hk, ne_eqb e END q, edge-taken g ls e f S o.0, emptied-on turns k a t q, ← w)
          (one_list turns k a (head_out k a t) (less_edge (g.m - 1) e ls) hk o.1.fit o.1.sound (rw o.1.nodes la) (omega (arith, o.0, o.1.edges))))
    ]

-- both
pub both-lists : (g : Net) (ls : ℕ → ℕ → List ℕ) (a : ℕ) → fits g ≡ true → Sound g ls → a < g.n
    → for_all ([], rows_of g) (remove_edges_of g.m a) ≡ returns ((stripped g a).given, rows_of (stripped g a).rest)
unfolding stripped
both-lists g ls a f S la =
    let t = outgoing_out g a in
    let F = first g ls a f S la in
    rw (one_list g.m 0 a (strip g [] 0) ls (omega arith) f S la (omega arith))
    (one_list g.m 1 a t (less_outgoing g ls a).list (omega arith) F.held.fit F.held.sound (rw F.nodes la) (omega (arith, F.edges)))
