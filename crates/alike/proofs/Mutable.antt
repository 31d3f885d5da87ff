-- `edges_mut` and `edge_weights_mut` in a sound network: they end, no `graph[edge]` panics, and they give the rows that ours gives.
use Prim.Native.Nat.{ℕ, ◌≤◌, ◌<◌}
use mathlib.Core.Path.{◌≡◌, refl, sym, ap₂, ◌∙◌}
use mathlib.Core.Bool.{true, cond}
use mathlib.Core.List.{List, [], ◌∷◌, ◌++◌}
use mathlib.Core.Option.{Option, none, some}
use native.Mathlib.Decide.{dec_lt}
use native.Mathlib.Omega.{arith}
use borrow.Author.Tests.{ne_eqb}
use lib.Dec.{eqb}
use lib.ListN.{length-append}
use Rattle.index.specs.declared.EdgeDirection.{EdgeDirection}
use Rattle.index.specs.declared.EdgeDirection.TheVariants.{Outgoing, Incoming}
use Rattle.index.specs.Index.{END, number_of}
use Rattle.tables.specs.Net.{Net, fits}
use Rattle.tables.specs.Answers.{give}
use Rattle.lists.specs.declared.Spot.{Spot}
use Rattle.lists.specs.declared.Spot.TheVariants.{Head, After}
use Rattle.lists.specs.declared.Pick.TheVariants.{Every}
use Rattle.lists.specs.Chain.{Chain}
use Rattle.lists.specs.Walk.{link_at, picks}
use Rattle.lists.proofs.Chains.{chain_length}
use Rattle.walks.specs.Walks.{edges_mut}
use Rattle.sound.specs.Sound.{Sound, lists}
use Rattle.sound.proofs.Exactly.{small, lists_are}
use Rattle.original.specs.Rust.{first_edge, next_edge}
use Rattle.original.specs.Iterators.{muts, next_mut}
use Rattle.original.specs.Iterators as Iterators
use Rattle.alike.specs.Same.{node_at, edge_at, rows_of, Ends}
use Rattle.alike.proofs.Vectors.{got, got_past}
use Rattle.alike.proofs.Cells.{edge-got}
use Rattle.alike.proofs.Iterating.{Gives}
use Rattle.alike.proofs.Rounds.{collected_all}
use Rattle.alike.proofs.Walking.{every, give_none, walked_so, walked_none}

-- a link as the Rust gives it: none for `END`
abbrev link_option : ℕ → Option ℕ
link_option x = cond (eqb x END) none (some x)

module _ (g : Net) (small : g.m ≤ END) where
  first_is : (a : ℕ) (d : EdgeDirection) → a < g.n → first_edge (rows_of g) a d ≡ link_option (link_at g (number_of d) (Head a))
  unfolding first_edge rows_of
  first_is a Outgoing l = rw (got g.n (node_at g) a l)
  first_is a Incoming l = rw (got g.n (node_at g) a l)

  first_none : (a : ℕ) (d : EdgeDirection) → g.n ≤ a → first_edge (rows_of g) a d ≡ none
  unfolding first_edge rows_of
  first_none a d l = rw (got_past g.n (node_at g) a l)

  next_is : (e : ℕ) (d : EdgeDirection) → e < g.m → next_edge (rows_of g) e d ≡ link_option (link_at g (number_of d) (After e))
  unfolding next_edge rows_of
  next_is e Outgoing l = rw (got g.m (edge_at g) e l)
  next_is e Incoming l = rw (got g.m (edge_at g) e l)

  outgoing_given : (xs : List ℕ) (s : Spot) → Chain (link_at g 0) g.m s xs → Gives (next_mut (rows_of g)) (muts none (link_option (link_at g 0 s))) xs
  unfolding next_mut
  outgoing_given [] s c = (muts none none, rw c)
  outgoing_given (x ∷ xs) s c =
      (muts none (link_option (link_at g 0 (After x))), rw (c.0, ne_eqb x END (omega arith), edge-got g x c.1, next_is x Outgoing c.1), outgoing_given xs (After x) c.2)

  incoming_given : (ys : List ℕ) (s : Spot) (o : Option ℕ) (zs : List ℕ) → Chain (link_at g 1) g.m s ys → Gives (next_mut (rows_of g)) (muts none o) zs
      → Gives (next_mut (rows_of g)) (muts (link_option (link_at g 1 s)) o) (ys ++ zs)
  unfolding next_mut
  incoming_given [] s o zs c G = rw c G
  incoming_given (y ∷ ys) s o zs c G =
      (muts (link_option (link_at g 1 (After y))) o, rw (c.0, ne_eqb y END (omega arith), edge-got g y c.1, next_is y Incoming c.1), incoming_given ys (After y) o zs c.2 G)

module _ (g : Net) (ls : ℕ → ℕ → List ℕ) (f : fits g ≡ true) (S : Sound g ls) (a : ℕ) where
  pub edges_mut_lem : (table : List ℕ) → Ends (Iterators.edges_mut (rows_of g) a) (λ rows. edges_mut g a table ≡ give rows table)
  unfolding edges_mut Iterators.edges_mut next_mut
  edges_mut_lem table =
      let s = small g f in
      let ours = give (picks g 1 Every a ++ picks g 0 Every a) table in
      elim (dec_lt a g.n) [
        | yes l ↦
            (let c = S.all_end 0 a (omega arith) l in
            let d = S.all_end 1 a (omega arith) l in (
              ls 1 a ++ ls 0 a,
              rw (first_is g s a Incoming l, first_is g s a Outgoing l)
                  (collected_all g (next_mut (rows_of g)) (muts (link_option (link_at g 1 (Head a))) (link_option (link_at g 0 (Head a)))) (ls 1 a ++ ls 0 a)
                  (omega (arith, length-append (ls 1 a) (ls 0 a), chain_length (link_at g 0) g.m s (Head a) (ls 0 a) c, chain_length (link_at g 1) g.m s (Head a) (ls 1 a) d))
                  (incoming_given g s (ls 1 a) (Head a) (link_option (link_at g 0 (Head a))) (ls 0 a) d (outgoing_given g s (ls 0 a) (Head a) c))),
              walked_so g ls f S a table ours l
                  ∙ ap₂ (λ xs ys. give (xs ++ ys) table) (every (lists g 1 a) ∙ lists_are g ls f S 1 a (omega arith) l) (every (lists g 0 a) ∙ lists_are g ls f S 0 a (omega arith) l),
            ))
        | no l ↦ (
          [],
          rw (first_none g s a Incoming (omega arith), first_none g s a Outgoing (omega arith))
              (collected_all g (next_mut (rows_of g)) (muts none none) [] (omega arith) (muts none none, refl)),
          walked_none g ls f S a table ours (omega arith) ∙ sym (give_none table),
        )
      ]
