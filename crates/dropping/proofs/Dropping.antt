-- A node without edges is dropped, and the last node takes its place: its total, `drop-totals`, and the ends of its edges, `drop-ends`. The rows
-- visited are those of its lists, `drop-read`; the network left fits, `drop-fits`, and is sound, `drop-sound`; the row freed is vacant, `drop-freed`.
use Prim.Native.Nat.{ℕ, ◌+◌, ◌*◌, ◌-◌, ◌≤◌, ◌<◌}
use mathlib.Core.Path.{◌≡◌, refl, sym, ap, ap₂, ◌∙◌}
use mathlib.Core.Logic.{inl, inr}
use mathlib.Core.Bool.{true, cond}
use mathlib.Core.List.{List, [], ◌∷◌}
use native.Mathlib.Decide.{ℕ_discrete}
use native.Mathlib.Omega.{arith}
use borrow.Author.Tests.{eq-eqb, ne_eqb, le-leb}
use lib.Dec.{eqb}
use lib.IntN.{ℤ, pos}
use lib.ListN.{length, get_or, set, length-set}
use lib.Seq.{get_or-set_same, get_or-set_other}
use Rattle.index.specs.Index.{END}
use Rattle.tables.specs.Net.{Net, node_rows, edge_rows, node_cells, edge_cells, node_cell, edge_cell, fit, fits}
use Rattle.tables.specs.declared.row.Node.{Node}
use Rattle.tables.specs.Rows.{node_row, vacant_node, heads_with, with_node}
use Rattle.lists.specs.declared.Spot.{Spot}
use Rattle.lists.specs.declared.Spot.TheVariants.{Head, After}
use Rattle.lists.specs.Walk.{cell, link_at}
use Rattle.lists.specs.Chain.{In}
use Rattle.lists.proofs.Chains.{below}
use Rattle.sound.specs.Sound.{end_at, Sound, Lists, lists}
use Rattle.sound.proofs.Same.{counts, members}
use Rattle.sound.proofs.Exactly.{small, two, lists_are}
use Rattle.sound.proofs.Direction.{framed}
use Rattle.sound.proofs.Kept.{fit_of, first_cell, second_cell, other_cell}
use Rattle.removal.specs.Lists.{renamed, Freed}
use Rattle.dropping.specs.Drop.{ended, dropped, rows_moved}
use Rattle.dropping.specs.Drop.{node_moved}
use Rattle.dropping.proofs.Ends.{ended-length}

-- the rows of a list get node a as their end of direction k; other rows, and the other direction, keep theirs
ended_off : (j k a x : ℕ) (xs ends : List ℕ) → j < 2 → k < 2 → (j ≡ k → In x xs → ⊥) → cell (ended j a xs ends) k x ≡ cell ends k x
ended_off j k a x [] ends p q n = refl
ended_off j k a x (y ∷ ys) ends p q n =
    ended_off j k a x ys (set ends (edge_cell y j) a) p q (λ h i. n h (inr i))
    ∙ get_or-set_other ends (edge_cell y j) (edge_cell x k) a 0 (λ h. let z : x ≡ y = omega arith in n (omega arith) (inl z))

ended-stays : (k a x : ℕ) (xs ends : List ℕ) → edge_cell x k < length ends → cell ends k x ≡ a → cell (ended k a xs ends) k x ≡ a
ended-stays k a x [] ends l h = h
ended-stays k a x (y ∷ ys) ends l h =
    ended-stays k a x ys (set ends (edge_cell y k) a) (rw (length-set ends (edge_cell y k) a) l)
    (elim (ℕ_discrete x y) [
      | yes q ↦ rw q (get_or-set_same ends (edge_cell y k) a 0 (rw q at l))
      | no q ↦ get_or-set_other ends (edge_cell y k) (edge_cell x k) a 0 (λ z. q (omega arith)) ∙ h
    ])

ended_at : (k a x : ℕ) (xs ends : List ℕ) → edge_cell x k < length ends → In x xs → cell (ended k a xs ends) k x ≡ a
ended_at k a x [] ends l i = absurd i
ended_at k a x (y ∷ ys) ends l (inl q) =
    ended-stays k a x ys (set ends (edge_cell y k) a) (rw (length-set ends (edge_cell y k) a) l) (rw q (get_or-set_same ends (edge_cell y k) a 0 (rw q at l)))
ended_at k a x (y ∷ ys) ends l (inr i) = ended_at k a x ys (set ends (edge_cell y k) a) (rw (length-set ends (edge_cell y k) a) l) i

ended_is : (k a b x : ℕ) (xs ends : List ℕ) → k < 2 → edge_cell x k < length ends → (In x xs → cell ends k x ≡ b) → (cell ends k x ≡ b → In x xs)
    → cell (ended k a xs ends) k x ≡ renamed b a (cell ends k x)
ended_is k a b x xs ends h l own listed =
    elim (ℕ_discrete (cell ends k x) b) [
      | yes q ↦ rw (eq-eqb (cell ends k x) b q) (ended_at k a x xs ends l (listed q))
      | no q ↦ rw (ne_eqb (cell ends k x) b q) (ended_off k k a x xs ends h h (λ z i. q (own i)))
    ]

-- one direction, where the last node's list goes to node a, which has none
module _ (n m : ℕ) (small : m ≤ END) (lk lk' : Spot → ℕ) (node node' : ℕ → ℕ) (ls : ℕ → List ℕ) (L : Lists n m lk node ls)
    (a : ℕ) (la : a < n) (none : ls a ≡ [])
    (heads : (c : ℕ) → c < n - 1 → lk' (Head c) ≡ lk (Head (renamed a (n - 1) c)))
    (afters : (x : ℕ) → x < m → lk' (After x) ≡ lk (After x))
    (ends : (x : ℕ) → x < m → node' x ≡ renamed (n - 1) a (node x)) where
  -- no edge has its end at a; so, if one has it at the last node, that is not a
  elsewhere : (x : ℕ) → x < m → node x ≡ a → ⊥
  elsewhere x h q = let i : In x [] = rw (q, none) at (L.listed x h) in i

  within : (c x : ℕ) → c < n → In x (ls c) → x < m
  within c x l i = below lk m small (Head c) x (ls c) (L.chain c l) i

  pub node-less : Lists (n - 1) m lk' node' (λ c. cond (eqb c a) (ls (n - 1)) (ls c))
  node-less =
      let b = n - 1 in
      record {
        chain =
            λ c l.
            elim (ℕ_discrete c a) [
              | yes q ↦
                  (let h : lk' (Head c) ≡ lk (Head b) = rw (eq-eqb c a q) at (heads c l) in
                  rw (eq-eqb c a q) (framed lk lk' m m (omega arith) afters (Head b) (Head c) (ls b) h (L.chain b (omega arith))))
              | no q ↦
                  (let h : lk' (Head c) ≡ lk (Head c) = rw (ne_eqb c a q) at (heads c l) in
                  rw (ne_eqb c a q) (framed lk lk' m m (omega arith) afters (Head c) (Head c) (ls c) h (L.chain c (omega arith))))
            ];
        own =
            λ c l x.
            elim (ℕ_discrete c a) [
              | yes q ↦
                  rw (eq-eqb c a q) (λ i.
                  let o = L.own b (omega arith) x i in
                  let e = ends x (within b x (omega arith) i) in
                  e ∙ rw (eq-eqb (node x) b o) (sym q))
              | no q ↦
                  rw (ne_eqb c a q) (λ i.
                  let o = L.own c (omega arith) x i in
                  let e = ends x (within c x (omega arith) i) in
                  e ∙ rw (ne_eqb (node x) b (λ h. omega arith)) o)
            ];
        has_end =
            λ x l.
            (let h = L.has_end x l in
            rw (ends x l)
            (elim (ℕ_discrete (node x) b) [
              | yes q ↦ rw (eq-eqb (node x) b q) (let z : a ≡ b → ⊥ = λ h. elsewhere x l (q ∙ sym h) in omega arith)
              | no q ↦ rw (ne_eqb (node x) b q) (omega arith)
            ]));
        listed =
            λ x l.
            rw (ends x l)
            (elim (ℕ_discrete (node x) b) [
              | yes q ↦ rw (eq-eqb (node x) b q, eq-eqb a a refl) (rw q at (L.listed x l))
              | no q ↦ rw (ne_eqb (node x) b q, ne_eqb (node x) a (elsewhere x l)) (L.listed x l)
            ]);
      }

-- the last row b copied over row a, and then written over
heads_moved : (heads : List ℕ) (a b x y k c : ℕ) → node_cell a 1 < length heads → k < 2 → c < b
    → get_or
    (set (set (set (set heads (node_cell a 0) (get_or heads (node_cell b 0) 0)) (node_cell a 1) (get_or heads (node_cell b 1) 0)) (node_cell b 0) x) (node_cell b 1) y)
    (node_cell c k)
    0
    ≡ get_or heads (node_cell (renamed a b c) k) 0
heads_moved heads a b x y k c room h l =
    let i = node_cell a 0 in
    let j = node_cell a 1 in
    let u = get_or heads (node_cell b 0) 0 in
    let v = get_or heads (node_cell b 1) 0 in
    other_cell (set (set heads i u) j v) (node_cell b 0) (node_cell b 1) x y (λ q. omega arith) (node_cell c k) (λ q. omega arith) (λ q. omega arith)
    ∙ elim (ℕ_discrete c a) [
      | yes q ↦
          rw (eq-eqb c a q, q)
          (two (λ k. get_or (set (set heads i u) j v) (node_cell a k) 0 ≡ get_or heads (node_cell b k) 0)
          (first_cell heads i j u v (λ q. omega arith) (omega arith))
          (second_cell heads i j u v (λ q. omega arith) room)
          k h)
      | no q ↦ rw (ne_eqb c a q) (other_cell heads i j u v (λ z. omega arith) (node_cell c k) (λ z. q (omega arith)) (λ z. q (omega arith)))
    ]

totals_moved : (totals : List ℤ) (a b : ℕ) (x : ℤ) (c : ℕ) → a < length totals → c < b
    → get_or (set (set totals a (get_or totals b (pos 0))) b x) c (pos 0) ≡ get_or totals (renamed a b c) (pos 0)
totals_moved totals a b x c room l =
    let v = get_or totals b (pos 0) in
    get_or-set_other (set totals a v) b c x (pos 0) (λ q. omega arith)
    ∙ elim (ℕ_discrete c a) [
      | yes q ↦ rw (eq-eqb c a q, q) (get_or-set_same totals a v (pos 0) room)
      | no q ↦ rw (ne_eqb c a q) (get_or-set_other totals a c v (pos 0) q)
    ]

-- the columns still fit with a node less in use
fewer_nodes : (g : Net) → fits g ≡ true
    → fit (length g.weights) (length g.heads) (length g.registers) (length g.links) (length g.ends) (g.n - 1) g.m ≡ true
unfolding fit
fewer_nodes g f =
    let t = fit_of g f in
    rw (
      le-leb (length g.weights) node_rows t.nodes_most,
      le-leb (length g.registers) edge_rows t.edges_most,
      eq-eqb (length g.heads) (node_cells * length g.weights) t.heads_agree,
      eq-eqb (length g.links) (edge_cells * length g.registers) t.links_agree,
      eq-eqb (length g.ends) (edge_cells * length g.registers) t.ends_agree,
      le-leb (g.n - 1) (length g.weights) (omega arith),
      le-leb g.m (length g.registers) t.m_within,
    )

module _ (g : Net) (a : ℕ) where
  pub drop-nodes : (dropped g a).n ≡ g.n - 1
  unfolding dropped
  drop-nodes = refl

  pub drop-edges : (dropped g a).m ≡ g.m
  unfolding dropped
  drop-edges = refl

  pub drop-registers : (dropped g a).registers ≡ g.registers
  unfolding dropped
  drop-registers = refl

  drop-nexts : (k x : ℕ) → link_at (dropped g a) k (After x) ≡ link_at g k (After x)
  unfolding dropped
  drop-nexts k x = refl

module _ (g : Net) (a : ℕ) (f : fits g ≡ true) (la : a < g.n) where
  drop-heads : (k c : ℕ) → k < 2 → c < g.n - 1 → link_at (dropped g a) k (Head c) ≡ link_at g k (Head (renamed a (g.n - 1) c))
  unfolding dropped with_node
  drop-heads k c h l =
      let t = fit_of g f in
      heads_moved g.heads a (g.n - 1) END END k c (omega arith) h l

  pub drop-totals : (c : ℕ) → c < g.n - 1 → get_or (dropped g a).weights c (pos 0) ≡ get_or g.weights (renamed a (g.n - 1) c) (pos 0)
  unfolding dropped with_node
  drop-totals c l =
      let t = fit_of g f in
      totals_moved g.weights a (g.n - 1) (pos 0) c (omega arith) l

  pub drop-fits : fits (dropped g a) ≡ true
  unfolding dropped with_node
  drop-fits = simp (length-set, ended-length) (fewer_nodes g f)

module _ (g : Net) (ls : ℕ → ℕ → List ℕ) (a : ℕ) (f : fits g ≡ true) (S : Sound g ls) (la : a < g.n) where
  -- the last node's lists, as a walk meets them
  lasts : (k : ℕ) → k < 2 → (x : ℕ) → x < g.m
      → (In x (lists g k (g.n - 1)) → end_at g k x ≡ g.n - 1) × (end_at g k x ≡ g.n - 1 → In x (lists g k (g.n - 1)))
  lasts k h x l =
      let b = g.n - 1 in
      let L = members g ls (small g f) S k h in
      rw (lists_are g ls f S k b h (omega arith)) (L.own b (omega arith) x, λ q. rw q at (L.listed x l))

  -- their edges have a as their end then
  pub drop-ends : (k x : ℕ) → k < 2 → x < g.m → end_at (dropped g a) k x ≡ renamed (g.n - 1) a (end_at g k x)
  unfolding dropped
  drop-ends k x h l =
      let t = fit_of g f in
      let b = g.n - 1 in
      let xs = lists g 0 b in
      let ys = lists g 1 b in
      let ends = ended 0 a xs g.ends in
      let same : end_at g 1 x ≡ cell ends 1 x = sym (ended_off 0 1 a x xs g.ends (omega arith) (omega arith) (λ q i. omega arith)) in
      two (λ k. cell (ended 1 a ys ends) k x ≡ renamed b a (end_at g k x))
      (ended_off 1 0 a x ys ends (omega arith) (omega arith) (λ q i. omega arith)
      ∙ ended_is 0 a b x xs g.ends (omega arith) (omega arith) (lasts 0 (omega arith) x l).0 (lasts 0 (omega arith) x l).1)
      (rw same
      (ended_is 1 a b x ys ends (omega arith) (rw (ended-length 0 a xs g.ends) (omega arith))
      (rw same at (lasts 1 (omega arith) x l).0)
      (rw same at (lasts 1 (omega arith) x l).1)))
      k h

  module _ (bare : (k : ℕ) → k < 2 → ls k a ≡ []) where
    pub drop-sound : Sound (dropped g a) (node_moved a (g.n - 1) ls)
    drop-sound =
        counts (dropped g a) (node_moved a (g.n - 1) ls) (small (dropped g a) (drop-fits g a f la)) (λ k h.
        rw (drop-nodes g a, drop-edges g a)
        (node-less g.n g.m (small g f) (link_at g k) (link_at (dropped g a) k) (end_at g k) (end_at (dropped g a) k) (ls k) (members g ls (small g f) S k h)
        a la (bare k h)
        (λ c. drop-heads g a f la k c h)
        (λ x l. drop-nexts g a k x)
        (λ x. drop-ends k x h)))

    -- the rows visited for that
    pub drop-read : rows_moved g ≡ cond (eqb a (g.n - 1)) 0 (length (ls 0 (g.n - 1)) + length (ls 1 (g.n - 1)))
    drop-read =
        let b = g.n - 1 in
        let empty : (k : ℕ) → k < 2 → a ≡ b → length (ls k b) ≡ 0 = λ k h q. ap length (ap (ls k) (sym q) ∙ bare k h) in
        ap₂ (λ xs ys. length xs + length ys) (lists_are g ls f S 0 b (omega arith) (omega arith)) (lists_are g ls f S 1 b (omega arith) (omega arith))
        ∙ elim (ℕ_discrete a b) [
          | yes q ↦ rw (eq-eqb a b q) (omega (arith, empty 0 (omega arith) q, empty 1 (omega arith) q))
          | no q ↦ rw (ne_eqb a b q)
        ]

-- a node row written holds what was written, and is in no other row
node_same : (g : Net) (a : ℕ) (row : Node) → fits g ≡ true → a < g.n → node_row (with_node g a row) a ≡ row
unfolding with_node
node_same g a row f l =
    let t = fit_of g f in
    rw (
      get_or-set_same g.weights a row.weight (pos 0) (omega arith),
      first_cell g.heads (node_cell a 0) (node_cell a 1) row.outgoing.0 row.incoming.0 (λ q. omega arith) (omega arith),
      second_cell g.heads (node_cell a 0) (node_cell a 1) row.outgoing.0 row.incoming.0 (λ q. omega arith) (omega arith),
    )

node-other : (g : Net) (a : ℕ) (row : Node) (c : ℕ) → (c ≡ a → ⊥) → node_row (with_node g a row) c ≡ node_row g c
unfolding with_node
node-other g a row c d =
    let other : (k : ℕ) → k < 2 → get_or (heads_with g.heads a row) (node_cell c k) 0 ≡ get_or g.heads (node_cell c k) 0 =
    λ k h.
    other_cell g.heads (node_cell a 0) (node_cell a 1) row.outgoing.0 row.incoming.0 (λ q. omega arith) (node_cell c k) (λ q. d (omega arith))
    (λ q. d (omega arith)) in
    rw (get_or-set_other g.weights a c row.weight (pos 0) d, other 0 (omega arith), other 1 (omega arith))

node-fits : (g : Net) (a : ℕ) (row : Node) → fits (with_node g a row) ≡ fits g
unfolding with_node
node-fits g a row = simp length-set

node-count : (g : Net) (a : ℕ) (row : Node) → (with_node g a row).n ≡ g.n
unfolding with_node
node-count g a row = refl

-- so the last node's row is freed, and no row past the counts is touched
pub drop-freed : (g : Net) (ls : ℕ → ℕ → List ℕ) (a : ℕ) → fits g ≡ true → Sound g ls → a < g.n → Freed g (dropped g a)
unfolding dropped
drop-freed g ls a f S la =
    let b = g.n - 1 in
    let h = with_node g a (node_row g b) in
    let past : (j k x : ℕ) → j < 2 → k < 2 → g.m ≤ x → j ≡ k → In x (lists g j b) → ⊥ =
    λ j k x hj hk l q i.
    omega (arith, below (link_at g j) g.m (small g f) (Head b) x (ls j b) (S.all_end j b hj (omega arith)) (rw (lists_are g ls f S j b hj (omega arith)) at i)) in
    let ends : (k x : ℕ) → k < 2 → g.m ≤ x → cell (ended 1 a (lists g 1 b) (ended 0 a (lists g 0 b) g.ends)) k x ≡ cell g.ends k x =
    λ k x hk l.
    ended_off 1 k a x (lists g 1 b) (ended 0 a (lists g 0 b) g.ends) (omega arith) hk (past 1 k x (omega arith) hk l)
    ∙ ended_off 0 k a x (lists g 0 b) g.ends (omega arith) hk (past 0 k x (omega arith) hk l) in
    record {
      nodes =
          λ c p q.
          (let z : c ≡ b = omega arith in rw z (node_same h b vacant_node (node-fits g a (node_row g b) ∙ f) (rw (node-count g a (node_row g b)) (omega arith))));
      edges = λ x p q. absurd (omega arith);
      nodes_past = λ c p. node-other h b vacant_node c (λ q. omega arith) ∙ node-other g a (node_row g b) c (λ q. omega arith);
      edges-past = λ x p. rw (ends 0 x (omega arith) p, ends 1 x (omega arith) p);
    }
