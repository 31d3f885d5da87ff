-- `add_edge`, on every network that fits and has a row free: a self-loop becomes both heads of its node.
use Prim.Native.Nat.{ℕ, ◌+◌, ◌≤◌, ◌<◌}
use mathlib.Core.Path.{◌≡◌, refl, sym, ap, ap₂, ◌∙◌}
use mathlib.Core.Logic.{◌⊎◌, inl, inr}
use mathlib.Core.Bool.{true, false}
use mathlib.Core.List.{List}
use native.Mathlib.Numerals.{add-one}
use native.Mathlib.Decide.{ℕ_discrete, dec_lt}
use native.Mathlib.Omega.{arith}
use borrow.Author.Tests.{eq-eqb, ne_eqb, lt-ltb, le-ltb, le-leb, lt-leb}
use lib.Dec.{leb}
use lib.ListN.{length, get_or, set, length-set}
use lib.Seq.{get_or-set_same, get_or-set_other}
use Rattle.index.specs.declared.Refusal.TheVariants.{NoNode}
use Rattle.tables.specs.Net.{Net, fits, with_nodes, node_cell, edge_cell}
use Rattle.tables.specs.Answers.{out, done}
use Rattle.tables.specs.Rows.{with_edge, headed}
use Rattle.rows.specs.Calls.{linked, add_edge}
use Rattle.sound.proofs.Kept.{fit_of, first_cell, second_cell, other_cell}
use Rattle.original.specs.Std.{put, push, max}
use Rattle.original.specs.Rust.{Node, Edge, Both, One, None, graph, node_with_next, index_twice}
use Rattle.original.specs.Rust as Rust
use Rattle.alike.specs.Same.{node_at, edge_at, rows_below, rows_of, run_told, seen}
use Rattle.alike.proofs.Vectors.{length-rows, got, alike, set_is}
use Rattle.alike.proofs.Cells.{as_u32, not_end, node-is, edge-is, head-led}

-- the two rows that are named, where both are there
module _ {A : Type 0} (n : ℕ) (row : ℕ → A) (a b : ℕ) where
  twice_none : n ≤ a ⊎ n ≤ b → index_twice (rows_below n row) a b ≡ None
  twice_none h =
      elim (dec_lt b a) [
        | yes q ↦ rw (lt-leb a b q, length-rows n row, le-leb n a (past_first h q))
        | no q ↦ rw (le-leb a b (omega arith), length-rows n row, le-leb n b (past_second h (omega arith)))
      ]
    where
      past_first : n ≤ a ⊎ n ≤ b → b < a → n ≤ a
      past_first (inl h) q = h
      past_first (inr h) q = omega arith

      past_second : n ≤ a ⊎ n ≤ b → a ≤ b → n ≤ b
      past_second (inl h) q = omega arith
      past_second (inr h) q = h

  inside : a < n → b < n → leb (length (rows_below n row)) (max a b) ≡ false
  inside h l =
      elim (dec_lt b a) [
        | yes q ↦ rw (lt-leb a b q, length-rows n row, lt-leb n a h)
        | no q ↦ rw (le-leb a b (omega arith), length-rows n row, lt-leb n b l)
      ]

  twice_one : a < n → b < n → a ≡ b → index_twice (rows_below n row) a b ≡ One (row a)
  twice_one h l q = rw (inside h l, got n row a h, eq-eqb a b q)

  twice_both : a < n → b < n → (a ≡ b → ⊥) → index_twice (rows_below n row) a b ≡ Both (row a) (row b)
  twice_both h l q = rw (inside h l, got n row a h, ne_eqb a b q, got n row b l)

module _ (g : Net) (a b w : ℕ) (f : fits g ≡ true) (room : g.m < length g.registers) where
  -- the new row, whose next incoming edge is c's first, and the old ones as they were
  abbrev new_row : ℕ → Edge
  new_row c = record { weight = w; next = (get_or g.heads (node_cell a 0) 0, get_or g.heads (node_cell c 1) 0); node = (a, b) }

  new_row_lem : rows_below (g.m + 1) (edge_at (linked g a b w)) ≡ push (rows_below g.m (edge_at g)) (new_row b)
  unfolding linked with_edge
  new_row_lem =
      let t = fit_of g f in
      let i = edge_cell g.m 0 in
      let j = edge_cell g.m 1 in
      let apart : i ≡ j → ⊥ = λ e. omega arith in
      let x = get_or g.heads (node_cell a 0) 0 in
      let y = get_or g.heads (node_cell b 1) 0 in
      rw (add-one g.m)
      (ap₂ (λ (rows : List Edge) (row : Edge). push rows row)
      (alike g.m _ (edge_at g) (λ e h.
      edge-is
      (get_or-set_other g.registers g.m e w 0 (omega arith))
      (other_cell g.links i j x y apart (edge_cell e 0) (λ q. omega arith) (λ q. omega arith))
      (other_cell g.links i j x y apart (edge_cell e 1) (λ q. omega arith) (λ q. omega arith))
      (other_cell g.ends i j a b apart (edge_cell e 0) (λ q. omega arith) (λ q. omega arith))
      (other_cell g.ends i j a b apart (edge_cell e 1) (λ q. omega arith) (λ q. omega arith))))
      (edge-is
      (get_or-set_same g.registers g.m w 0 room)
      (first_cell g.links i j x y apart (omega arith))
      (second_cell g.links i j x y apart (omega arith))
      (first_cell g.ends i j a b apart (omega arith))
      (second_cell g.ends i j a b apart (omega arith))))

  -- a self-loop
  both-heads : a < g.n → a ≡ b
      → set (rows_below g.n (node_at g)) a (node_with_next (node_at g a) (put (put (node_at g a).next 0 g.m) 1 g.m))
      ≡ rows_below g.n (node_at (linked g a b w))
  unfolding linked with_edge
  both-heads la q =
      let t = fit_of g f in
      let i = node_cell a 0 in
      let j = node_cell b 1 in
      let apart : i ≡ j → ⊥ = λ e. omega arith in
      set_is g.n (node_at g) _ a _ la
      (node-is refl
      (first_cell g.heads i j g.m g.m apart (omega arith))
      (ap (λ c. get_or (headed g.heads a b g.m) (node_cell c 1) 0) q ∙ second_cell g.heads i j g.m g.m apart (omega arith)))
      (λ c h d.
      node-is refl
      (other_cell g.heads i j g.m g.m apart (node_cell c 0) (λ e. d (omega arith)) (λ e. omega arith))
      (other_cell g.heads i j g.m g.m apart (node_cell c 1) (λ e. omega arith) (λ e. d (omega arith))))

  -- a head of each end
  two_heads : a < g.n → b < g.n → (a ≡ b → ⊥)
      → set (set (rows_below g.n (node_at g)) a (node_with_next (node_at g a) (put (node_at g a).next 0 g.m))) b (node_with_next (node_at g b) (put (node_at g b).next 1 g.m))
      ≡ rows_below g.n (node_at (linked g a b w))
  unfolding linked with_edge
  two_heads la lb q =
      let t = fit_of g f in
      let h = with_nodes g g.weights (set g.heads (node_cell a 0) g.m) in
      let same : node_at g b ≡ node_at h b =
      node-is refl
      (sym (get_or-set_other g.heads (node_cell a 0) (node_cell b 0) g.m 0 (λ e. q (omega arith))))
      (sym (get_or-set_other g.heads (node_cell a 0) (node_cell b 1) g.m 0 (λ e. omega arith))) in
      ap₂ (λ (rows : List Node) (row : Node). set rows b (node_with_next row (put row.next 1 g.m))) (head-led g 0 g.m (omega arith) a la (omega arith)) same
      ∙ head-led h 1 g.m (omega arith) b lb (rw (length-set g.heads (node_cell a 0) g.m) (omega arith))

  pub add_edge_lem : seen (add_edge g a b w) ≡ run_told NoNode 0 (rows_of g) (Rust.add_edge (rows_of g) a b w)
  unfolding add_edge Rust.add_edge rows_of linked
  add_edge_lem =
      let t = fit_of g f in
      elim (dec_lt a g.n) [
        | no l ↦
            rw (
              f,
              lt-ltb g.m (length g.registers) room,
              le-ltb a g.n (omega arith),
              length-rows g.m (edge_at g),
              not_end g.m (omega arith),
              twice_none g.n (node_at g) a b (inl (omega arith)),
            )
        | yes l ↦
            elim (dec_lt b g.n) [
              | no h ↦
                  rw (
                    f,
                    lt-ltb g.m (length g.registers) room,
                    lt-ltb a g.n l,
                    le-ltb b g.n (omega arith),
                    length-rows g.m (edge_at g),
                    not_end g.m (omega arith),
                    twice_none g.n (node_at g) a b (inr (omega arith)),
                  )
              | yes h ↦
                  elim (ℕ_discrete a b) [
                    | yes q ↦
                        rw (
                          f,
                          lt-ltb g.m (length g.registers) room,
                          lt-ltb a g.n l,
                          lt-ltb b g.n h,
                          length-rows g.m (edge_at g),
                          not_end g.m (omega arith),
                          as_u32 g.m (omega arith),
                          twice_one g.n (node_at g) a b l h q,
                        )
                        (ap₂ (λ nodes edges. out (done g.m) (graph nodes edges)) (sym (both-heads l q)) (new_row_lem ∙ ap (λ c. push (rows_below g.m (edge_at g)) (new_row c)) (sym q)))
                    | no q ↦
                        rw (
                          f,
                          lt-ltb g.m (length g.registers) room,
                          lt-ltb a g.n l,
                          lt-ltb b g.n h,
                          length-rows g.m (edge_at g),
                          not_end g.m (omega arith),
                          as_u32 g.m (omega arith),
                          twice_both g.n (node_at g) a b l h q,
                        )
                        (ap₂ (λ nodes edges. out (done g.m) (graph nodes edges)) (sym (two_heads l h q)) new_row_lem)
                  ]
            ]
      ]
