-- The calls on one row, the adds and the clears: on every network that fits they tell and leave what the Rust does.
use Prim.{tt}
use Prim.Native.Nat.{ℕ, zero, suc, ◌*◌, ◌≤◌, ◌<◌}
use mathlib.Core.Path.{◌≡◌, refl, sym, ap, ap₂, ◌∙◌}
use mathlib.Core.Bool.{Bool, true, false, cond, not}
use mathlib.Core.List.{List, [], ◌∷◌}
use mathlib.Core.Option.{none, some}
use native.Mathlib.Nat.{not-suc-le-zero, le_of_suc-le-suc}
use native.Mathlib.Numerals.{add-one}
use native.Mathlib.Decide.{dec_lt}
use native.Mathlib.Omega.{arith}
use borrow.Author.Tests.{lt-ltb, le-ltb}
use lib.Dec.{ltb, eqb}
use lib.IntN.{ℤ, pos}
use lib.ListN.{length, get_or, set, take}
use lib.Seq.{get_or-set_same, get_or-set_other}
use Rattle.index.specs.declared.EdgeDirection.{EdgeDirection}
use Rattle.index.specs.declared.EdgeDirection.TheVariants.{Outgoing, Incoming}
use Rattle.index.specs.declared.Refusal.TheVariants.{Full, NoNode, NoEdge, Nothing}
use Rattle.index.specs.Index.{END, number_of}
use Rattle.tables.specs.Net.{Net, fits, with_nodes, with_edges, node_cells, node_cell, edge_cell}
use Rattle.tables.specs.Answers.{give, out, done, refused, unless}
use Rattle.tables.specs.Rows.{with_node, vacant_nodes, vacant_edges}
use Rattle.tables.proofs.Vacant.{filled_at}
use Rattle.lookups.specs.Lookups.{link_told, node_weight, edge_weight, edge_endpoints, first_edge, next_edge, set_node_weight, set_edge_weight}
use Rattle.rows.specs.Calls.{add_node, all_edge_weights, clear, clear_edges}
use Rattle.sound.proofs.Kept.{fit_of, first_cell, second_cell, other_cell}
use Rattle.original.specs.Std.{on_option, ◌!◌, push}
use Rattle.original.specs.Rust.{Node, Edge, graph, node_with_next, edge_weighing}
use Rattle.original.specs.Rust.{index_mut_node, index_mut_edge}
use Rattle.original.specs.Rust as Rust
use Rattle.original.specs.Iterators as Iterators
use Rattle.alike.specs.Same.{node_at, edge_at, rows_below, rows_of, option_told, run_told, valueless, seen}
use Rattle.alike.proofs.Cells.{edge_got_past, as_u32, not_end, node-is, edge-is}
use Rattle.alike.proofs.Vectors.{length-rows, got, got_past, alike, set_is, map_rows}

-- a link told, where the Rust gives none for `END`
link_told_lem : (x : ℕ) → link_told x ≡ option_told Nothing 0 (cond (eqb x END) none (some x))
link_told_lem x = go (eqb x END)
  where
    go : (b : Bool) → unless (not b) (refused Nothing 0) (done x) ≡ option_told Nothing 0 (cond b none (some x))
    go true = refl
    go false = refl

-- a column by its cells
taken : {A : Type 0} (d : A) (xs : List A) (n : ℕ) → n ≤ length xs → take n xs ≡ rows_below n (λ i. get_or xs i d)
taken d xs zero h = refl
taken {A} d xs (suc n) h = more xs n h ∙ ap (λ (ys : List A). push ys (get_or xs n d)) (taken d xs n (omega arith))
  where
    more : (xs : List A) (n : ℕ) → suc n ≤ length xs → take (suc n) xs ≡ push (take n xs) (get_or xs n d)
    more [] n h = absurd (not-suc-le-zero h)
    more (x ∷ xs) zero h = refl
    more (x ∷ xs) (suc n) h = ap (λ (ys : List A). x ∷ ys) (more xs n (le_of_suc-le-suc h))

module _ (g : Net) (f : fits g ≡ true) where
  pub node-weight : (a : ℕ) → node_weight g a ≡ option_told NoNode (pos 0) (Rust.node_weight (rows_of g) a)
  unfolding node_weight Rust.node_weight rows_of
  node-weight a =
      elim (dec_lt a g.n) [
        | yes l ↦ rw (f, lt-ltb a g.n l, got g.n (node_at g) a l)
        | no l ↦ rw (f, le-ltb a g.n (omega arith), got_past g.n (node_at g) a (omega arith))
      ]

  pub edge-weight : (e : ℕ) → edge_weight g e ≡ option_told NoEdge 0 (Rust.edge_weight (rows_of g) e)
  unfolding edge_weight Rust.edge_weight rows_of
  edge-weight e =
      elim (dec_lt e g.m) [
        | yes l ↦ rw (f, lt-ltb e g.m l, got g.m (edge_at g) e l)
        | no l ↦ rw (f, le-ltb e g.m (omega arith), got_past g.m (edge_at g) e (omega arith))
      ]

  pub edge_endpoints_lem : (e : ℕ) → edge_endpoints g e ≡ option_told NoEdge (0, 0) (Rust.edge_endpoints (rows_of g) e)
  unfolding edge_endpoints Rust.edge_endpoints rows_of
  edge_endpoints_lem e =
      elim (dec_lt e g.m) [
        | yes l ↦ rw (f, lt-ltb e g.m l, got g.m (edge_at g) e l)
        | no l ↦ rw (f, le-ltb e g.m (omega arith), got_past g.m (edge_at g) e (omega arith))
      ]

  -- 3 where the node is missing, 5 where the link is `END`
  pub first_edge_lem : (a : ℕ) (d : EdgeDirection) → first_edge g a d ≡ option_told (cond (ltb a g.n) Nothing NoNode) 0 (Rust.first_edge (rows_of g) a d)
  unfolding first_edge Rust.first_edge rows_of
  first_edge_lem a d =
      elim (dec_lt a g.n) [
        | yes l ↦ rw (f, lt-ltb a g.n l, got g.n (node_at g) a l) (head-told d)
        | no l ↦ rw (f, le-ltb a g.n (omega arith), got_past g.n (node_at g) a (omega arith))
      ]
    where
      head-told : (d : EdgeDirection) → link_told (get_or g.heads (node_cell a (number_of d)) 0)
          ≡ option_told Nothing 0 (cond (eqb ((node_at g a).next ! number_of d) END) none (some ((node_at g a).next ! number_of d)))
      head-told Outgoing = link_told_lem (get_or g.heads (node_cell a 0) 0)
      head-told Incoming = link_told_lem (get_or g.heads (node_cell a 1) 0)

  pub next_edge_lem : (e : ℕ) (d : EdgeDirection) → next_edge g e d ≡ option_told (cond (ltb e g.m) Nothing NoEdge) 0 (Rust.next_edge (rows_of g) e d)
  unfolding next_edge Rust.next_edge rows_of
  next_edge_lem e d =
      elim (dec_lt e g.m) [
        | yes l ↦ rw (f, lt-ltb e g.m l, got g.m (edge_at g) e l) (next_told d)
        | no l ↦ rw (f, le-ltb e g.m (omega arith), got_past g.m (edge_at g) e (omega arith))
      ]
    where
      next_told : (d : EdgeDirection) → link_told (get_or g.links (edge_cell e (number_of d)) 0)
          ≡ option_told Nothing 0 (cond (eqb ((edge_at g e).next ! number_of d) END) none (some ((edge_at g e).next ! number_of d)))
      next_told Outgoing = link_told_lem (get_or g.links (edge_cell e 0) 0)
      next_told Incoming = link_told_lem (get_or g.links (edge_cell e 1) 0)

  pub set-node_weight : (a : ℕ) (w : ℤ) → seen (set_node_weight g a w) ≡ run_told NoNode tt (rows_of g) (valueless (index_mut_node (rows_of g) a w))
  unfolding set_node_weight index_mut_node rows_of
  set-node_weight a w =
      let t = fit_of g f in
      elim (dec_lt a g.n) [
        | yes l ↦
            rw (f, lt-ltb a g.n l, got g.n (node_at g) a l)
            (ap (λ (nodes : List Node). out (done tt) (graph nodes (rows_below g.m (edge_at g))))
            (sym (set_is g.n (node_at g) (node_at (with_nodes g (set g.weights a w) g.heads)) a _ l
            (node-is (get_or-set_same g.weights a w (pos 0) (omega arith)) refl refl)
            (λ b h d. node-is (get_or-set_other g.weights a b w (pos 0) d) refl refl))))
        | no l ↦ rw (f, le-ltb a g.n (omega arith), got_past g.n (node_at g) a (omega arith))
      ]

  -- row e with another weight
  reweighed : (e w : ℕ) → e < g.m → set (rows_below g.m (edge_at g)) e (edge_weighing (edge_at g e) w)
      ≡ rows_below g.m (edge_at (with_edges g (set g.registers e w) g.links g.ends))
  reweighed e w l =
      let t = fit_of g f in
      set_is g.m (edge_at g) (edge_at (with_edges g (set g.registers e w) g.links g.ends)) e _ l
      (edge-is (get_or-set_same g.registers e w 0 (omega arith)) refl refl refl refl)
      (λ x h d. edge-is (get_or-set_other g.registers e x w 0 d) refl refl refl refl)

  pub edge-written : (e w : ℕ) → e < g.m → Rust.edge_weight_mut (rows_of g) e w ≡ some (rows_of (with_edges g (set g.registers e w) g.links g.ends))
  unfolding Rust.edge_weight_mut rows_of
  edge-written e w l = rw (got g.m (edge_at g) e l) (ap (λ (edges : List Edge). some (graph (rows_below g.n (node_at g)) edges)) (reweighed e w l))

  pub edge_weight_mut : (e w : ℕ)
      → seen (set_edge_weight g e w) ≡ on_option (Rust.edge_weight_mut (rows_of g) e w) (out (refused NoEdge tt) (rows_of g)) (λ rows. out (done tt) rows)
  unfolding set_edge_weight Rust.edge_weight_mut
  edge_weight_mut e w =
      elim (dec_lt e g.m) [
        | yes l ↦ rw (f, lt-ltb e g.m l, edge-written e w l)
        | no l ↦ rw (f, le-ltb e g.m (omega arith), edge_got_past g e (omega arith))
      ]

  pub set-edge_weight : (e w : ℕ) → seen (set_edge_weight g e w) ≡ run_told NoEdge tt (rows_of g) (valueless (index_mut_edge (rows_of g) e w))
  unfolding set_edge_weight index_mut_edge rows_of
  set-edge_weight e w =
      elim (dec_lt e g.m) [
        | yes l ↦
            rw (f, lt-ltb e g.m l, got g.m (edge_at g) e l)
            (ap (λ (edges : List Edge). out (done tt) (graph (rows_below g.n (node_at g)) edges)) (sym (reweighed e w l)))
        | no l ↦ rw (f, le-ltb e g.m (omega arith), got_past g.m (edge_at g) e (omega arith))
      ]

  node-added : (w : ℤ) → g.n < length g.weights → seen (add_node g w) ≡ run_told Full 0 (rows_of g) (Rust.add_node (rows_of g) w)
  unfolding add_node Rust.add_node rows_of with_node
  node-added w room =
      let t = fit_of g f in
      let i = node_cell g.n 0 in
      let j = node_cell g.n 1 in
      let apart : i ≡ j → ⊥ = λ e. omega arith in
      rw (f, lt-ltb g.n (length g.weights) room, length-rows g.n (node_at g), not_end g.n (omega arith), as_u32 g.n (omega arith), add-one g.n)
      (ap₂ (λ (rows : List Node) (row : Node). out (done g.n) (graph (push rows row) (rows_below g.m (edge_at g))))
      (alike g.n _ (node_at g) (λ b h.
      node-is
      (get_or-set_other g.weights g.n b w (pos 0) (omega arith))
      (other_cell g.heads i j END END apart (node_cell b 0) (λ e. omega arith) (λ e. omega arith))
      (other_cell g.heads i j END END apart (node_cell b 1) (λ e. omega arith) (λ e. omega arith))))
      (node-is
      (get_or-set_same g.weights g.n w (pos 0) room)
      (first_cell g.heads i j END END apart (omega arith))
      (second_cell g.heads i j END END apart (omega arith))))

  -- unless it is refused for want of a row
  pub add_node_lem : (w : ℤ) → ((add_node g w).answer.number ≡ 2 → ⊥) → seen (add_node g w) ≡ run_told Full 0 (rows_of g) (Rust.add_node (rows_of g) w)
  unfolding add_node
  add_node_lem w n =
      elim (dec_lt g.n (length g.weights)) [
        | yes l ↦ node-added w l
        | no l ↦ absurd (n (rw (f, le-ltb g.n (length g.weights) (omega arith))))
      ]

  pub all_edge_weights_lem : (table : List ℕ) → all_edge_weights g table ≡ give (Iterators.all_edge_weights (rows_of g)) table
  unfolding all_edge_weights Iterators.all_edge_weights rows_of
  all_edge_weights_lem table =
      let t = fit_of g f in
      rw (f, map_rows (λ (edge : Edge). edge.weight) g.m (edge_at g), taken 0 g.registers g.m (omega arith))

  pub clear-all : seen (clear g) ≡ out (done tt) (Rust.clear (rows_of g))
  unfolding clear Rust.clear rows_of vacant_nodes vacant_edges
  clear-all = rw f

  pub clear-edges : seen (clear_edges g) ≡ out (done tt) (Rust.clear_edges (rows_of g))
  unfolding clear_edges Rust.clear_edges rows_of vacant_edges
  clear-edges =
      let t = fit_of g f in
      rw (f, map_rows (λ (node : Node). node_with_next node (END, END)) g.n (node_at g))
      (ap (λ (nodes : List Node). out (done tt) (graph nodes []))
      (alike g.n _ (λ i. node_with_next (node_at g i) (END, END)) (λ a h.
      node-is refl
      (filled_at g.heads 0 (node_cells * g.n) END (node_cell a 0) 0 (omega arith) (omega arith) (omega arith))
      (filled_at g.heads 0 (node_cells * g.n) END (node_cell a 1) 0 (omega arith) (omega arith) (omega arith)))))
