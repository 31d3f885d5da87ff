-- `remove_node_with` on a sound network: it ends and does not panic; its weight, the weights that it gives out and its rows afterwards are ours.
use Prim.Native.Nat.{ℕ, suc, ◌-◌, ◌≤◌, ◌<◌}
use mathlib.Core.Path.{◌≡◌, refl, sym, ap, ap₂, ◌∙◌}
use mathlib.Core.Bool.{true}
use mathlib.Core.List.{List, []}
use mathlib.Core.Option.{Option, none, some}
use native.Mathlib.Decide.{ℕ_discrete, dec_lt}
use native.Mathlib.Omega.{arith}
use borrow.Author.Tests.{eq-eqb, ne_eqb, lt-ltb, le-ltb, le-leb, lt-leb}
use lib.IntN.{ℤ, pos}
use lib.ListN.{length, get_or}
use Rattle.index.specs.declared.Refusal.TheVariants.{NoNode, Short}
use Rattle.index.specs.Index.{END}
use Rattle.tables.specs.Net.{Net, fits, node_cell}
use Rattle.tables.specs.Answers.{out, refused, onto}
use Rattle.tables.specs.Rows.{node_row, heads_with, with_node}
use Rattle.lists.specs.declared.Spot.TheVariants.{Head}
use Rattle.lists.specs.declared.Item.TheVariants.{Weight}
use Rattle.lists.specs.Walk.{link_at, around}
use Rattle.lists.proofs.Chains.{chain_length}
use Rattle.sound.specs.Sound.{Sound, lists}
use Rattle.sound.proofs.Same.{members}
use Rattle.sound.proofs.Exactly.{small, lists_are, sound_accepted}
use Rattle.sound.proofs.Kept.{fit_of, other_cell}
use Rattle.removal.specs.Removal.{weight_told}
use Rattle.removal.specs.Lists.{renamed}
use Rattle.stripping.specs.Heads.{stripped}
use Rattle.stripping.proofs.Stripping.{less_both, strip-fits, strip-sound, strip-nodes, strip-totals, bare-lists, given_are}
use Rattle.dropping.specs.Drop.{ended, dropped}
use Rattle.dropping.proofs.Ends.{ended-length}
use Rattle.dropping.proofs.Dropping.{drop-totals}
use Rattle.closing.specs.Closing.{closed_if_room, remove_node}
use Rattle.original.specs.Std.{Run, returns, ◌>>=◌, on_option, get, swap_remove, ◌!◌}
use Rattle.original.specs.Std as Std
use Rattle.original.specs.Rust.{Node, Graph, graph, for_all, renumber, remove_node_with}
use Rattle.alike.specs.Same.{node_at, edge_at, rows_below, rows_of, option_told, Ends}
use Rattle.alike.proofs.Vectors.{length-rows, got, got_past, swapped}
use Rattle.alike.proofs.Cells.{node-count, edge_count, as_u32, node-is, copied}
use Rattle.alike.proofs.Emptying.{both-lists}
use Rattle.alike.proofs.Renumbering.{with_ends, one_list, ended-across}

-- a node without edges dropped
module _ (h : Net) (ls : ℕ → ℕ → List ℕ) (a : ℕ) (f : fits h ≡ true) (S : Sound h ls) (la : a < h.n) (bare : (k : ℕ) → k < 2 → ls k a ≡ []) where
  abbrev b : ℕ
  b = h.n - 1

  abbrev D : Net
  D = dropped h a

  head-moved : (c k : ℕ) → c < b → k < 2 → get_or D.heads (node_cell c k) 0 ≡ get_or h.heads (node_cell (renamed a b c) k) 0
  unfolding dropped with_node
  head-moved c k l hk =
      let t = fit_of h f in
      other_cell (heads_with h.heads a (node_row h b)) (node_cell b 0) (node_cell b 1) END END (λ q. omega arith) (node_cell c k) (λ q. omega arith) (λ q. omega arith)
      ∙ copied h.heads a b c k (omega arith) hk

  node-moved : (c : ℕ) → c < b → node_at D c ≡ node_at h (renamed a b c)
  node-moved c l = node-is (drop-totals h a f la c l) (head-moved c 0 l (omega arith)) (head-moved c 1 l (omega arith))

  last_here : a < b → node_at D a ≡ node_at h b
  last_here q = rw (eq-eqb a a refl) at (node-moved a q)

  nodes_swapped : swap_remove (rows_of h).nodes a ≡ returns (node_at h a, rows_below b (node_at D))
  unfolding rows_of
  nodes_swapped =
      let many : h.n ≡ suc b = omega arith in
      ap (λ n. swap_remove (rows_below n (node_at h)) a) many
      ∙ swapped b (node_at h) (node_at D) a (omega arith) (λ c l d. rw (ne_eqb c a d) at (node-moved c l)) last_here

  -- the last node's edges get its new number
  abbrev first : Net
  first = with_ends h (ended 0 a (ls 0 b) h.ends)

  abbrev second : Net
  second = with_ends first (ended 1 a (ls 1 b) first.ends)

  renumbered : for_all (rows_of h).edges (λ k edges. renumber (length edges) k b a edges ((node_at h b).next ! k)) ≡ returns (rows_below h.m (edge_at second))
  unfolding rows_of
  renumbered =
      let t = fit_of h f in
      let s = small h f in
      let L = members h ls s S in
      let c = S.all_end 0 b (omega arith) (omega arith) in
      let d = S.all_end 1 b (omega arith) (omega arith) in
      rw (
        length-rows h.m (edge_at h),
        one_list 0 a b (omega arith) h.m h (Head b) (ls 0 b) s (omega arith) c ((L 0 (omega arith)).own b (omega arith)) (chain_length (link_at h 0) h.m s (Head b) (ls 0 b) c),
        length-rows h.m (edge_at first),
      )
      (one_list 1 a b (omega arith) h.m first (Head b) (ls 1 b) s (rw (ended-length 0 a (ls 0 b) h.ends) (omega arith)) d
      (λ x i. ended-across a x (ls 0 b) h.ends ∙ (L 1 (omega arith)).own b (omega arith) x i)
      (chain_length (link_at h 1) h.m s (Head b) (ls 1 b) d))

  edges-after : rows_below h.m (edge_at second) ≡ (rows_of D).edges
  unfolding rows_of dropped
  edges-after =
      rw (lists_are h ls f S 0 b (omega arith) (omega arith), lists_are h ls f S 1 b (omega arith) (omega arith))

  -- no node moves
  edges-kept : a ≡ b → (rows_of h).edges ≡ (rows_of D).edges
  unfolding rows_of dropped
  edges-kept q =
      let empty : (k : ℕ) → k < 2 → lists h k b ≡ [] = λ k hk. lists_are h ls f S k b hk (omega arith) ∙ ap (ls k) (sym q) ∙ bare k hk in
      rw (empty 0 (omega arith), empty 1 (omega arith))

  nodes_after : rows_below b (node_at D) ≡ (rows_of D).nodes
  unfolding rows_of dropped
  nodes_after = refl

  -- what is done once the edges are gone
  abbrev rest : List ℕ → Graph → Run (Option ℤ × List ℕ × Graph)
  rest given g =
      swap_remove g.nodes a >>= λ (node, nodes).
      on_option (get nodes a) (returns (some node.weight, given, graph nodes g.edges)) (λ ed.
      for_all g.edges (λ k edges. renumber (length edges) k (Std.as_u32 (length nodes)) a edges (ed.next ! k)) >>= λ edges.
      returns (some node.weight, given, graph nodes edges))

  pub node-dropped : (given : List ℕ) → rest given (rows_of h) ≡ returns (some (get_or h.weights a (pos 0)), given, rows_of D)
  node-dropped given =
      let t = fit_of h f in
      elim (ℕ_discrete a b) [
        | yes q ↦
            rw (nodes_swapped, got_past b (node_at D) a (omega arith))
            (ap₂ (λ nodes edges. returns (some (get_or h.weights a (pos 0)), given, graph nodes edges)) nodes_after (edges-kept q))
        | no q ↦
            rw (nodes_swapped, got b (node_at D) a (omega arith) ∙ ap (λ (row : Node). some row) (last_here (omega arith)), length-rows b (node_at D), as_u32 b (omega arith), renumbered)
            (ap₂ (λ nodes edges. returns (some (get_or h.weights a (pos 0)), given, graph nodes edges)) nodes_after edges-after)
      ]

module _ (g : Net) (ls : ℕ → ℕ → List ℕ) (a : ℕ) (f : fits g ≡ true) (S : Sound g ls) where
  node-taken : a < g.n
      → remove_node_with (rows_of g) a ≡ returns (some (get_or g.weights a (pos 0)), (stripped g a).given, rows_of (dropped (stripped g a).rest a))
  unfolding remove_node_with
  node-taken l =
      let R = (stripped g a).rest in
      rw (node-count g, lt-leb g.n a l, edge_count g, both-lists g ls a f S l)
      (node-dropped R (less_both g ls a).list a (strip-fits g ls a f S l) (strip-sound g ls a f S l) (rw (strip-nodes g ls a f S l) l) (bare-lists g ls a f S l) (stripped g a).given
      ∙ ap (λ (weights : List ℤ). returns (some (get_or weights a (pos 0)), (stripped g a).given, rows_of (dropped R a))) (strip-totals g ls a f S l))

  -- the table has room for the weights, or it is refused 7
  pub remove-node : (items : List ℕ) → Ends (remove_node_with (rows_of g) a) (λ (w, given, rows).
      (length given ≤ length items
      → (weight_told (remove_node g a items).answer ≡ option_told NoNode (pos 0) w) × (rows_of (remove_node g a items).after.0 ≡ rows) × ((remove_node g a items).after.1 ≡ onto given items))
      × (length items < length given → remove_node g a items ≡ out (refused Short (pos 0, 0, 0)) (g, items)))
  unfolding remove_node closed_if_room remove_node_with
  remove-node items =
      elim (dec_lt a g.n) [
        | yes l ↦ (
          _,
          node-taken l,
          (
            (λ room.
                let r = le-leb (length (around g Weight a)) (length items) (omega (arith, room, ap length (given_are g ls a f S l))) in
                rw (f, lt-ltb a g.n l, sound_accepted g ls f S, r) (refl, refl, refl)),
            (λ short. rw (f, lt-ltb a g.n l, sound_accepted g ls f S, lt-leb (length (around g Weight a)) (length items) (omega (arith, short, ap length (given_are g ls a f S l))))),
          ),
        )
        | no l ↦ ((none, [], rows_of g), rw (node-count g, le-leb g.n a (omega arith)), ((λ room. rw (f, le-ltb a g.n (omega arith)) (refl, refl, refl)), (λ short. absurd (omega arith))))
      ]
