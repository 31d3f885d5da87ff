-- The ways in which the removal ends, in plain columns: what the code leaves is what the definition says.
use Prim.Native.Nat.{ℕ, ◌+◌, ◌-◌}
use mathlib.Core.Path.{◌≡◌, refl, sym, ap, ◌∙◌}
use mathlib.Core.List.{List, []}
use native.Mathlib.Omega.{arith}
use borrow.Author.Tests.{eq-eqb, ne_eqb}
use lib.IntN.{ℤ}
use lib.ListN.{get_or, set}
use lib.Seq.{set_comm}
use Rattle.std.specs.Prelude.{Option, Some, None}
use Rattle.index.specs.declared.Refusal.TheVariants.{Broken}
use Rattle.index.specs.Index.{END}
use Rattle.tables.specs.declared.row.Edge.{Edge}
use Rattle.tables.specs.Net.{net, node_cell, edge_cell}
use Rattle.tables.specs.Rows.{edge_row, vacant_edge, links_with, ends_with, with_edge}
use Rattle.tables.specs.Answers.{out, done, refused}
use Rattle.lists.specs.declared.Spot.{Spot}
use Rattle.lists.specs.declared.Spot.TheVariants.{Head, After}
use Rattle.lists.specs.Walk.{cell, link_in}
use Rattle.links.specs.declared.Located.{Located}
use Rattle.links.specs.Links.{located, heads_at, links_at, led}
use Rattle.links.specs.Parts.{heads_located, links_located}
use Rattle.links.proofs.Stores.{back}
use Rattle.removal.proofs.Reaches.{reached}
use Rattle.removal.specs.Removal.{Gone, bypassed, last_out, last_into, last_moved, gone, taken_out}

-- the two links of a network led elsewhere, column by column
led-is : (W : List ℤ) (H H₂ R L L₂ E : List ℕ) (n m : ℕ) (s t : Spot) (v w : ℕ) → H₂ ≡ heads_at 1 t w (heads_at 0 s v H) → L₂ ≡ links_at 1 t w (links_at 0 s v L)
    → net W H₂ R L₂ E n m ≡ led (net W H R L E n m) s t v w
unfolding led
led-is W H H₂ R L L₂ E n m s t v w p q = rw (p, q)

-- the last row is sought in H, L, E: r is told, and leaves H₁ and L₁
module _ (W : List ℤ) (H R L E : List ℕ) (n m e : ℕ) (s t : Spot) (rows : ℕ) (r : Option Located) (H₁ L₁ : List ℕ) (told : r ≡ located H L E n m (m - 1))
    (p : H₁ ≡ heads_located r e e H) (q : L₁ ≡ links_located r e e L) where
  pub last_lost : (H₂ L₂ : List ℕ) → r ≡ None → H₂ ≡ heads_at 1 t e (heads_at 0 s e H₁) → L₂ ≡ links_at 1 t e (links_at 0 s e L₁)
      → out (refused Broken (0, 0, 0)) (net W H₂ R L₂ E n m) ≡ last_moved (led (net W H R L E n m) s t e e) (net W H R L E n m) e (m - 1) rows
  unfolding last_moved
  last_lost H₂ L₂ z p₂ q₂ =
      rw (sym told ∙ z) (ap (out (refused Broken (0, 0, 0))) (led-is W H H₂ R L L₂ E n m s t e e (rw (rw z at p) at p₂) (rw (rw z at q) at q₂)))

  pub last_moves : (row : Located) (at : ℕ) (R₃ L₃ E₃ : List ℕ) → r ≡ Some row → at ≡ e
      → R₃ ≡ set (set R e (get_or R (m - 1) 0)) (m - 1) 0
      → L₃ ≡ links_with (links_with L₁ e (edge_row (net [] [] [] L₁ [] 0 0) (m - 1))) (m - 1) vacant_edge
      → E₃ ≡ ends_with (ends_with E e (edge_row (net [] [] [] [] E 0 0) (m - 1))) (m - 1) vacant_edge
      → out (done (get_or R at 0, m - 1, rows + row.rows)) (net W H₁ R₃ L₃ E₃ n (m - 1))
      ≡ last_moved (led (net W H R L E n m) s t e e) (net W H R L E n m) e (m - 1) rows
  unfolding last_moved last_into last_out with_edge led
  last_moves row at R₃ L₃ E₃ z i r₁ r₂ r₃ = rw (i, sym told ∙ z, r₁, r₂, r₃, rw z at p, rw z at q)

both-back : (l : List ℕ) (i j v w e : ℕ) → (i ≡ j → ⊥) → get_or l i 0 ≡ e → get_or l j 0 ≡ e → set (set (set (set l i v) j w) i e) j e ≡ l
both-back l i j v w e d p q =
    ap (λ x. set x j e) (set_comm (set l i v) j i w e (λ h. d (sym h)) ∙ ap (λ x. set x j w) (back l i v e p)) ∙ back l j w e q

-- a bypassed edge is linked again
module _ (H L : List ℕ) (v w e : ℕ) where
  heads_back : (s t : Spot) → link_in H L 0 s ≡ e → link_in H L 1 t ≡ e → heads_at 1 t e (heads_at 0 s e (heads_at 1 t w (heads_at 0 s v H))) ≡ H
  unfolding heads_at
  heads_back (Head a) (Head b) p q = both-back H (node_cell a 0) (node_cell b 1) v w e (λ h. omega arith) p q
  heads_back (Head a) (After y) p q = back H (node_cell a 0) v e p
  heads_back (After x) (Head b) p q = back H (node_cell b 1) w e q
  heads_back (After x) (After y) p q = refl

  links_back : (s t : Spot) → link_in H L 0 s ≡ e → link_in H L 1 t ≡ e → links_at 1 t e (links_at 0 s e (links_at 1 t w (links_at 0 s v L))) ≡ L
  unfolding links_at
  links_back (Head a) (Head b) p q = refl
  links_back (Head a) (After y) p q = back L (edge_cell y 1) w e q
  links_back (After x) (Head b) p q = back L (edge_cell x 0) v e p
  links_back (After x) (After y) p q = both-back L (edge_cell x 0) (edge_cell y 1) v w e (λ h. omega arith) p q

undone : (W : List ℤ) (H R L E : List ℕ) (n m e : ℕ) (s t : Spot) → link_in H L 0 s ≡ e → link_in H L 1 t ≡ e
    → led (bypassed (net W H R L E n m) e s t) s t e e ≡ net W H R L E n m
unfolding bypassed led
undone W H R L E n m e s t p q = rw (heads_back H L (cell L 0 e) (cell L 1 e) e s t p q, links_back H L (cell L 0 e) (cell L 1 e) e s t p q)

-- e, which is row x, is sought: r is told, and leaves H₁ and L₁
module _ (W : List ℤ) (H R L E : List ℕ) (n m e x : ℕ) (is_row : x ≡ e) (r : Option Located) (H₁ L₁ : List ℕ) (told : r ≡ located H L E n m e)
    (p : H₁ ≡ heads_located r (cell L 0 x) (cell L 1 x) H) (q : L₁ ≡ links_located r (cell L 0 x) (cell L 1 x) L) where
  pub not_found : r ≡ None → out (refused Broken (0, 0, 0)) (net W H₁ R L₁ E n m) ≡ taken_out (net W H R L E n m) e
  unfolding taken_out
  not_found z = rw (sym told ∙ z, rw z at p, rw z at q)

  -- it is found, and bypassed
  module _ (place : Located) (z : r ≡ Some place) where
    is_found : (o : Gone) → o ≡ gone (net W H R L E n m) e (m - 1) place.outgoing place.incoming place.rows → o ≡ taken_out (net W H R L E n m) e
    unfolding taken_out
    is_found o is = rw (sym told ∙ z) is

    bypassed-is : net W H₁ R L₁ E n m ≡ bypassed (net W H R L E n m) e place.outgoing place.incoming
    unfolding bypassed
    bypassed-is =
        led-is W H H₁ R L L₁ E n m place.outgoing place.incoming (cell L 0 x) (cell L 1 x) (rw z at p) (rw z at q)
        ∙ ap (λ y. led (net W H R L E n m) place.outgoing place.incoming (cell L 0 y) (cell L 1 y)) is_row

    -- it is the last row
    pub last_goes : (at i : ℕ) (row : Edge) (R₂ L₂ E₂ : List ℕ) → at ≡ e → e ≡ m - 1 → i ≡ e → row ≡ vacant_edge
        → R₂ ≡ set R i row.weight → L₂ ≡ links_with L₁ i row → E₂ ≡ ends_with E i row
        → out (done (get_or R at 0, END, place.rows)) (net W H₁ R₂ L₂ E₂ n (m - 1)) ≡ taken_out (net W H R L E n m) e
    unfolding gone last_out with_edge
    last_goes at i row R₂ L₂ E₂ j l k v r₁ r₂ r₃ = is_found _ (rw (j, eq-eqb e (m - 1) l, ← bypassed-is, r₁, r₂, r₃, k, v, l))

    -- it is not: what filling the gap gives
    pub gap_filled : (o : Gone) → (e ≡ m - 1 → ⊥)
        → o ≡ last_moved (led (net W H₁ R L₁ E n m) place.outgoing place.incoming e e) (net W H₁ R L₁ E n m) e (m - 1) place.rows
        → o ≡ taken_out (net W H R L E n m) e
    unfolding gone
    gap_filled o d is =
        let s = place.outgoing in
        let t = place.incoming in
        let w = reached H L E n m e r place told z in
        is_found o
        (rw (ne_eqb e (m - 1) d)
        (is
        ∙ ap (λ h. last_moved (led h s t e e) h e (m - 1) place.rows) bypassed-is
        ∙ ap (λ g. last_moved g (bypassed (net W H R L E n m) e s t) e (m - 1) place.rows) (undone W H R L E n m e s t w.outgoing_leads w.incoming_leads)))
