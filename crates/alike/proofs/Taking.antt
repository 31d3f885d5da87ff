-- `remove_edge` on a sound network: the Rust's rows afterwards are ours. The row that moves is sought by the Rust after it has moved, by
-- ours before: neither search meets that row, nor the one whose place it takes.
use Prim.Native.Nat.{ℕ, zero, suc, ◌+◌, ◌-◌, ◌≤◌, ◌<◌}
use mathlib.Core.Path.{◌≡◌, refl, sym, ap, ap₂, ◌∙◌, subst}
use mathlib.Core.Logic.{inl, inr}
use mathlib.Core.Bool.{true}
use mathlib.Core.List.{List, [], ◌∷◌}
use mathlib.Core.Option.{none, some}
use Rattle.std.proofs.Common.{Some}
use native.Mathlib.Nat.{add-zero, not-suc-le-zero}
use native.Mathlib.Decide.{ℕ_discrete, dec_lt}
use native.Mathlib.Omega.{arith}
use borrow.Author.Tests.{eq-eqb, ne_eqb, lt-ltb, le-ltb}
use lib.ListN.{length, get_or, length-set}
use lib.Seq.{get_or-set_same, get_or-set_other}
use Rattle.index.specs.declared.Refusal.TheVariants.{NoEdge}
use Rattle.index.specs.Index.{END}
use Rattle.tables.specs.Net.{Net, fits, with_counts}
use Rattle.tables.specs.Rows.{edge_row, with_edge}
use Rattle.lists.specs.declared.Spot.{Spot}
use Rattle.lists.specs.declared.Spot.TheVariants.{Head, After}
use Rattle.lists.specs.Chain.{Chain, In}
use Rattle.lists.specs.Walk.{link_at}
use Rattle.lists.proofs.Chains.{chain_length}
use Rattle.sound.specs.Sound.{end_at, Sound}
use Rattle.sound.proofs.Listings.{in_tail}
use Rattle.sound.proofs.Exactly.{small}
use Rattle.sound.proofs.Kept.{fit_of}
use Rattle.links.specs.Links.{seek, searched, led}
use Rattle.removal.specs.Removal.{Gone, weight_told, bypassed, last_out, last_into, taken_out, remove_edge}
use Rattle.removal.specs.Lists.{pos, renamed, left}
use Rattle.links.specs.Parts.{Place}
use Rattle.removal.proofs.Stores.{row_other, Remains, led-link, led_else, last_into_lem}
use Rattle.links.proofs.Seeks.{seek_found, seek-on}
use Rattle.removal.proofs.Spots.{spot_of, found_at}
use Rattle.removal.proofs.EdgeOuts.{leader, all, cut, cut_else, cut_fits, cut_lacks, place, last_is, last, moved, moved-is, taken_out_lem}
use Rattle.links.proofs.Hits.{place_kept}
use Rattle.removal.proofs.Members.{pos-below}
use Rattle.original.specs.Std.{returns, ◌!◌}
use Rattle.original.specs.Rust.{Edge, graph, change_edge_links, remove_edge_adjust_indices}
use Rattle.original.specs.Rust as Rust
use Rattle.alike.specs.Same.{node_at, edge_at, rows_below, rows_of, option_told, Ends}
use Rattle.alike.proofs.Vectors.{length-rows, got, got_past, alike, swapped}
use Rattle.alike.proofs.Cells.{edge-got, edge_got_past, as_u32, edge-is, copied}
use Rattle.alike.proofs.Leading.{both_ways}

-- the search for the last row l, once it has taken e's place and there are l rows: under links lk' that agree with those before, lk, at the
-- list's first spot and after all its rows but l
module _ (lk lk' : Spot → ℕ) (l : ℕ) where
  found-again : (left : ℕ) (s : Spot) (rows : ℕ) (xs : List ℕ) → Chain lk (suc l) s xs → In l xs → lk' s ≡ lk s
      → ((y : ℕ) → In y xs → (y ≡ l → ⊥) → lk' (After y) ≡ lk (After y)) → pos l xs ≤ left → seek lk' l l left s rows ≡ Some (spot_of l s xs, rows + pos l xs)
  found-again left s rows [] c i q same h = absurd i
  found-again zero s rows (x ∷ xs) c i q same h =
      elim (ℕ_discrete x l) [
        | yes z ↦ rw (eq-eqb x l z, add-zero) (seek_found lk' l l s rows (q ∙ c.0) zero z)
        | no z ↦ absurd (not-suc-le-zero (rw (ne_eqb x l z) at h))
      ]
  found-again (suc left) s rows (x ∷ xs) c i q same h =
      elim (ℕ_discrete x l) [
        | yes z ↦ rw (eq-eqb x l z, add-zero) (seek_found lk' l l s rows (q ∙ c.0) (suc left) z)
        | no z ↦
            (let h' : suc (pos l xs) ≤ suc left = rw (ne_eqb x l z) at h in
            let r = found-again left (After x) (rows + 1) xs c.2 (in_tail l x xs i z) (same x (inl refl) z) (λ y j. same y (inr j)) (omega arith) in
            let t : rows + 1 + pos l xs ≡ rows + suc (pos l xs) = omega arith in
            rw (ne_eqb x l z) (seek-on lk' l l s rows (q ∙ c.0) left z (omega (arith, c.1)) ∙ rw t at r))
      ]

-- the spot that leads to l stands after no row but the list's, and not after l
spot_apart : (l z : ℕ) (s : Spot) (xs : List ℕ) → In l xs → (s ≡ After z → ⊥) → (In z xs → z ≡ l) → spot_of l s xs ≡ After z → ⊥
spot_apart l z s [] i d n q = i
spot_apart l z s (x ∷ xs) i d n q =
    elim (ℕ_discrete x l) [
      | yes t ↦ d (rw (eq-eqb x l t) at q)
      | no t ↦ spot_apart l z (After x) xs (in_tail l x xs i t) (λ h. let w : x ≡ z = cc in t (w ∙ n (inl (sym w)))) (λ j. n (inr j)) (rw (ne_eqb x l t) at q)
    ]

-- the last row l of h copied over row e, and one row less: what `swap_remove` leaves
unfoldable pub swap : Net → (e l : ℕ) → Net
swap h e l = with_counts (with_edge h e (edge_row h l)) h.n l

module _ (h : Net) (e l : ℕ) (f : fits h ≡ true) (many : h.m ≡ suc l) where
  swap-next : (x k : ℕ) → e < l → k < 2 → link_at (swap h e l) k (After x) ≡ link_at h k (After (renamed e l x))
  unfolding swap with_edge
  swap-next x k q hk = let t = fit_of h f in copied h.links e l x k (omega arith) hk

  swap-row : (x : ℕ) → e < l → edge_at (swap h e l) x ≡ edge_at h (renamed e l x)
  unfolding swap with_edge
  swap-row x q =
      let t = fit_of h f in
      edge-is
      (elim (ℕ_discrete x e) [
        | yes z ↦ rw (z, eq-eqb e e refl) (get_or-set_same h.registers e (get_or h.registers l 0) 0 (omega arith))
        | no z ↦ rw (ne_eqb x e z) (get_or-set_other h.registers e x (get_or h.registers l 0) 0 z)
      ])
      (copied h.links e l x 0 (omega arith) (omega arith))
      (copied h.links e l x 1 (omega arith) (omega arith))
      (copied h.ends e l x 0 (omega arith) (omega arith))
      (copied h.ends e l x 1 (omega arith) (omega arith))

  -- the last row goes
  pub last_gone : e ≡ l → remove_edge_adjust_indices (rows_of h) e ≡ returns (some (get_or h.registers e 0), rows_of (last_out h e))
  unfolding remove_edge_adjust_indices rows_of last_out with_edge
  last_gone q =
      rw (many, swapped l (edge_at h) (edge_at h) e (omega arith) (λ i b d. refl) (λ b. absurd (omega arith)), got_past l (edge_at h) e (omega arith))
      (ap (λ (rows : List Edge). returns (some (get_or h.registers e 0), graph (rows_below h.n (node_at h)) rows))
      (ap (λ n. rows_below n (edge_at h)) (sym q)
      ∙ alike e (edge_at h) _ (λ x b.
      edge-is
      (sym (get_or-set_other h.registers e x 0 0 (omega arith)))
      (sym (row_other h.links e END END 0 x (omega arith) (omega arith)))
      (sym (row_other h.links e END END 1 x (omega arith) (omega arith)))
      (sym (row_other h.ends e END END 0 x (omega arith) (omega arith)))
      (sym (row_other h.ends e END END 1 x (omega arith) (omega arith))))))

  -- another goes, and the links to the last row are led to the place that it has now
  pub another_gone : e < l → (u v : Spot) (q r : ℕ) → end_at h 0 l < h.n → end_at h 1 l < h.n
      → seek (link_at (swap h e l) 0) l l l (Head (end_at h 0 l)) 0 ≡ Some (u, q) → seek (link_at (swap h e l) 1) l l l (Head (end_at h 1 l)) 0 ≡ Some (v, r)
      → remove_edge_adjust_indices (rows_of h) e ≡ returns (some (get_or h.registers e 0), rows_of (led (swap h e l) u v e e))
  unfolding remove_edge_adjust_indices rows_of swap with_edge
  another_gone b u v q r la lb p w =
      let t = fit_of h f in
      let i = swap h e l in
      let there : edge_at i e ≡ edge_at h l = rw (eq-eqb e e refl) at (swap-row e b) in
      let changed = both_ways i l (edge_at h l).node (e, e) u v q r (omega arith) (rw long (omega arith)) la lb p w in
      rw (
        many,
        swapped l (edge_at h) (edge_at i) e (omega arith) (λ x c d. rw (ne_eqb x e d) at (swap-row x b)) (λ c. there),
        got l (edge_at i) e b ∙ ap (λ (row : Edge). some row) there,
        length-rows l (edge_at i),
        as_u32 l (omega arith),
        changed,
      )
    where
      long : length (swap h e l).links ≡ length h.links
      long = simp length-set

-- the links to l led to e before l takes e's place, or after: the same rows
module _ (h : Net) (e l : ℕ) (f : fits h ≡ true) (many : h.m ≡ suc l) (b : e < l) (s : ℕ → Spot)
    (place : (k : ℕ) → k < 2 → Place (length h.heads) (length h.links) k (s k))
    (not-e : (k : ℕ) → k < 2 → s k ≡ After e → ⊥) (not-l : (k : ℕ) → k < 2 → s k ≡ After l → ⊥) where
  after : (t : Spot) (x : ℕ) → Dec (After x ≡ t)
  after (Head a) x = no (λ q. let z : ◌≡◌ {A = ℕ} 0 1 = cc in omega arith)
  after (After y) x = elim (ℕ_discrete x y) [ yes q ↦ yes (ap After q) | no q ↦ no (λ z. q (cc)) ]

  still : (k : ℕ) → k < 2 → Place (length (swap h e l).heads) (length (swap h e l).links) k (s k)
  unfolding swap with_edge
  still k hk = place_kept k (s k) refl (simp length-set) (place k hk)

  into : Remains (led h (s 0) (s 1) e e) (last_into (led h (s 0) (s 1) e e) e l) e l
  into =
      let same = led_else h (s 0) (s 1) e e in
      last_into_lem (led h (s 0) (s 1) e e) e l (same.fit ∙ f) (omega (arith, same.edges, many)) b

  elsewhere : (x k : ℕ) → k < 2 → (After x ≡ s k → ⊥) → After (renamed e l x) ≡ s k → ⊥
  elsewhere x k hk q =
      elim (ℕ_discrete x e) [
        | yes z ↦ rw (eq-eqb x e z) (λ t. not-l k hk (sym t))
        | no z ↦ rw (ne_eqb x e z) q
      ]

  next_same : (x k : ℕ) → x < l → k < 2 → link_at (led (swap h e l) (s 0) (s 1) e e) k (After x) ≡ link_at (last_into (led h (s 0) (s 1) e e) e l) k (After x)
  next_same x k c hk =
      let early = led-link h s (λ j. e) place k hk in
      let late = led-link (swap h e l) s (λ j. e) still k hk in
      elim (after (s k) x) [
        | yes q ↦
            (let n : x ≡ e → ⊥ = λ z. not-e k hk (sym q ∙ ap After z) in
            ap (link_at (led (swap h e l) (s 0) (s 1) e e) k) q ∙ late.0
            ∙ sym ((rw (ne_eqb x e n) at (into.rows k x hk c)) ∙ ap (link_at (led h (s 0) (s 1) e e) k) q ∙ early.0))
        | no q ↦
            late.1 (After x) q ∙ swap-next h e l f many x k b hk
            ∙ sym (into.rows k x hk c ∙ early.1 (After (renamed e l x)) (elsewhere x k hk q))
      ]

  abbrev late : Net
  late = led (swap h e l) (s 0) (s 1) e e

  abbrev early : Net
  early = last_into (led h (s 0) (s 1) e e) e l

  nodes_same : rows_below late.n (node_at late) ≡ rows_below early.n (node_at early)
  unfolding led swap last_into last_out with_edge
  nodes_same = refl

  row_same : (x : ℕ) → x < l → edge_at late x ≡ edge_at early x
  unfolding led
  row_same x c =
      let moved = swap-row h e l f many x b in
      edge-is
      (ap (λ (row : Edge). row.weight) moved ∙ sym (into.weights x c))
      (next_same x 0 c (omega arith))
      (next_same x 1 c (omega arith))
      (ap (λ (row : Edge). row.node ! 0) moved ∙ sym (into.ends 0 x (omega arith) c))
      (ap (λ (row : Edge). row.node ! 1) moved ∙ sym (into.ends 1 x (omega arith) c))

  edges_same : rows_below late.m (edge_at late) ≡ rows_below early.m (edge_at early)
  unfolding swap
  edges_same = ap (λ m. rows_below m (edge_at late)) many_late ∙ alike l (edge_at late) (edge_at early) row_same ∙ ap (λ m. rows_below m (edge_at early)) (sym into.edges)
    where
      many_late : late.m ≡ l
      many_late = (led_else (swap h e l) (s 0) (s 1) e e).edges

  pub same_rows : rows_of late ≡ rows_of early
  unfolding rows_of
  same_rows = ap₂ (λ nodes edges. graph nodes edges) nodes_same edges_same

module _ (g : Net) (ls : ℕ → ℕ → List ℕ) (e : ℕ) (f : fits g ≡ true) (S : Sound g ls) (lt : e < g.m) where
  abbrev bypass : Net
  bypass = cut g ls e f S lt

  -- the links to e lead past it
  bypassing : change_edge_links (rows_of g) (edge_at g e).node e (edge_at g e).next ≡ returns (rows_of bypass)
  unfolding cut bypassed searched
  bypassing =
      let t = fit_of g f in
      let B = all g ls e f S lt in
      let seeks : (k : ℕ) → k < 2 → seek (link_at g k) g.m e g.m (Head (end_at g k e)) 0 ≡ Some (leader g ls e k, pos e (ls k (end_at g k e))) =
      λ k h.
      (let b = (B k h).has_end e lt in
      rw (lt-ltb (end_at g k e) g.n b) at (found_at (link_at g k) g.m e (small g f) (end_at g k) g.n (ls k (end_at g k e)) b ((B k h).chain (end_at g k e) b) ((B k h).listed e lt (omega arith)))) in
      both_ways g e (edge_at g e).node (edge_at g e).next (leader g ls e 0) (leader g ls e 1) _ _ (omega arith) (omega arith)
      ((B 0 (omega arith)).has_end e lt) ((B 1 (omega arith)).has_end e lt)
      (seeks 0 (omega arith)) (seeks 1 (omega arith))

  abbrev l : ℕ
  l = g.m - 1

  many : bypass.m ≡ suc l
  many = omega (arith, (cut_else g ls e f S lt).edges)

  weighs : get_or bypass.registers e 0 ≡ get_or g.registers e 0
  weighs = ap (λ column. get_or column e 0) (cut_else g ls e f S lt).registers

  -- e is the last row
  module _ (q : e ≡ l) where
    last_taken : remove_edge_adjust_indices (rows_of bypass) e ≡ returns (some (get_or g.registers e 0), rows_of (taken_out g e).after)
    last_taken =
        last_gone bypass e l (cut_fits g ls e f S lt) many q
        ∙ ap₂ (λ w (o : Gone). returns (some w, rows_of o.after)) weighs (sym (last_is g ls e f S lt q))

  -- it is not: the last row is found again
  module _ (q : e < l) where
    abbrev c : ℕ → ℕ
    c k = end_at bypass k l

    abbrev xs : ℕ → List ℕ
    xs k = left e ls k (c k)

    below : (k : ℕ) → k < 2 → c k < bypass.n
    below k h = (cut_lacks g ls e f S lt k h).has_end l (last g ls e f S lt q)

    has : (k : ℕ) → k < 2 → In l (xs k)
    has k h = (cut_lacks g ls e f S lt k h).listed l (last g ls e f S lt q) (omega arith)

    lacks : (k : ℕ) → k < 2 → In e (xs k) → ⊥
    lacks k h = (cut_lacks g ls e f S lt k h).none (c k) (below k h)

    chain : (k : ℕ) → k < 2 → Chain (link_at bypass k) (suc l) (Head (c k)) (xs k)
    chain k h = subst (λ m. Chain (link_at bypass k) m (Head (c k)) (xs k)) many ((cut_lacks g ls e f S lt k h).chain (c k) (below k h))

    head_same : (k a : ℕ) → link_at (swap bypass e l) k (Head a) ≡ link_at bypass k (Head a)
    unfolding swap with_edge
    head_same k a = refl

    again : (k : ℕ) → k < 2 → seek (link_at (swap bypass e l) k) l l l (Head (c k)) 0 ≡ Some (leader bypass (left e ls) l k, 0 + pos l (xs k))
    again k h =
        found-again (link_at bypass k) (link_at (swap bypass e l) k) l l (Head (c k)) 0 (xs k) (chain k h) (has k h) (head_same k (c k))
        (λ y i d.
        let n : y ≡ e → ⊥ = λ z. lacks k h (rw z at i) in
        rw (ne_eqb y e n) at (swap-next bypass e l (cut_fits g ls e f S lt) many y k q h))
        (omega (arith, pos-below l (xs k) (has k h), chain_length (link_at bypass k) (suc l) (omega (arith, small g f)) (Head (c k)) (xs k) (chain k h)))

    not_after : (k z : ℕ) → Head (c k) ≡ After z → ⊥
    not_after k z h = let t : ◌≡◌ {A = ℕ} 0 1 = cc in omega arith

    moved-taken : remove_edge_adjust_indices (rows_of bypass) e ≡ returns (some (get_or g.registers e 0), rows_of (taken_out g e).after)
    unfolding moved
    moved-taken =
        another_gone bypass e l (cut_fits g ls e f S lt) many q (leader bypass (left e ls) l 0) (leader bypass (left e ls) l 1) _ _
        (below 0 (omega arith)) (below 1 (omega arith)) (again 0 (omega arith)) (again 1 (omega arith))
        ∙ ap₂ (λ w r. returns (some w, r)) weighs
        (same_rows bypass e l (cut_fits g ls e f S lt) many q (leader bypass (left e ls) l)
        (place bypass (left e ls) e (cut_fits g ls e f S lt) (cut_lacks g ls e f S lt) l (last g ls e f S lt q) (omega arith))
        (λ k h. spot_apart l e (Head (c k)) (xs k) (has k h) (not_after k e) (λ i. absurd (lacks k h i)))
        (λ k h. spot_apart l l (Head (c k)) (xs k) (has k h) (not_after k l) (λ i. refl))
        ∙ ap (λ (o : Gone). rows_of o.after) (sym (moved-is g ls e f S lt q)))

  pub edge-taken : Rust.remove_edge (rows_of g) e ≡ returns (some (get_or g.registers e 0), rows_of (taken_out g e).after)
  unfolding Rust.remove_edge
  edge-taken =
      rw (edge-got g e lt, bypassing)
      (elim (ℕ_discrete e l) [
        | yes q ↦ last_taken q
        | no q ↦ moved-taken (omega arith)
      ])

pub remove-edge : (g : Net) (ls : ℕ → ℕ → List ℕ) (e : ℕ) → fits g ≡ true → Sound g ls
    → Ends (Rust.remove_edge (rows_of g) e) (λ (w, rows). (weight_told (remove_edge g e).answer ≡ option_told NoEdge 0 w) × (rows_of (remove_edge g e).after ≡ rows))
unfolding remove_edge Rust.remove_edge
remove-edge g ls e f S =
    elim (dec_lt e g.m) [
      | yes l ↦ (
        (some (get_or g.registers e 0), rows_of (taken_out g e).after),
        edge-taken g ls e f S l,
        rw (f, lt-ltb e g.m l) (ap weight_told (taken_out_lem g ls e f S l).served, refl),
      )
      | no l ↦ ((none, rows_of g), rw (edge_got_past g e (omega arith)), rw (f, le-ltb e g.m (omega arith)) (refl, refl))
    ]
