-- The rows that a load leaves: those of the image, vacant ones past them (`loaded-node`, `loaded-edge`, `node-past`, `edge-past`),
-- in columns of the same lengths (`loaded-fits`).
use Prim.Native.Nat.{ℕ, zero, suc, ◌-◌, ◌*◌, ◌≤◌, ◌<◌}
use mathlib.Core.Path.{◌≡◌, refl, sym, ap, ◌∙◌}
use mathlib.Core.Bool.{true}
use mathlib.Core.List.{List, ◌++◌}
use native.Mathlib.Decide.{ℕ_discrete}
use native.Mathlib.Omega.{arith}
use borrow.Author.Tests.{le-leb, eq-eqb}
use lib.IntN.{ℤ, pos}
use lib.ListN.{length, get_or, set, take, drop, replicate, length-set, get_or-append}
use lib.Seq.{length-take-le, get_or-take, get_or-set_same, get_or-set_other}
use Rattle.index.specs.Index.{END}
use Rattle.tables.specs.Net.{Net, net, fit, fits, node_cells, edge_cells, node_cell, edge_cell}
use Rattle.tables.specs.Rows.{node_row, edge_row, vacant_node, vacant_edge, filled}
use Rattle.tables.proofs.Laws.{Fit, fit-says}
use Rattle.tables.proofs.Vacant.{filled_at, filled-length}
use Rattle.imagerows.specs.Image.{node_in, edge_in, each, loaded}
use Rattle.imagerows.proofs.Served.{loaded-is}

-- a column past whose front all cells hold x
module _ {A : Type 0} (l : List A) (first last : ℕ) (x : A) where
  filled-before : (i : ℕ) (d : A) → i < first → first ≤ length l → get_or (filled l first last x) i d ≡ get_or l i d
  filled-before i d h k =
      get_or-append (take first l) (replicate (last - first) x ++ drop last l) d i (rw (length-take-le first l k) h)
      ∙ get_or-take first l i d h

-- a column changed row by row keeps its length
each-length : {A : Type 0} (change : List A → ℕ → List A) → ((l : List A) (a : ℕ) → length (change l a) ≡ length l)
    → (n : ℕ) (l : List A) → length (each change n l) ≡ length l
unfolding each
each-length change same zero l = refl
each-length change same (suc n) l = same (each change n l) n ∙ each-length change same n l

-- one cell a row: it holds what was stored there
module _ {A : Type 0} (f : ℕ → A) where
  abbrev ones : ℕ → List A → List A
  ones n l = each (λ r i. set r i (f i)) n l

  ones_length : (n : ℕ) (l : List A) → length (ones n l) ≡ length l
  ones_length n l = each-length (λ r i. set r i (f i)) (λ r i. length-set r i (f i)) n l

  ones_at : (n : ℕ) (l : List A) (a : ℕ) (d : A) → a < n → n ≤ length l → get_or (ones n l) a d ≡ f a
  unfolding each
  ones_at zero l a d h k = absurd (omega arith)
  ones_at (suc n) l a d h k =
      elim (ℕ_discrete a n) [
        | yes q ↦ ap (λ i. get_or (ones (suc n) l) i d) q ∙ get_or-set_same (ones n l) n (f n) d (rw (ones_length n l) (omega arith)) ∙ ap f (sym q)
        | no q ↦ get_or-set_other (ones n l) n a (f n) d q ∙ ones_at n l a d (omega arith) (omega arith)
      ]

-- the first two cells of a row, wherever a row's cells stand: no two are the same
abbrev Apart : (ℕ → ℕ → ℕ) → Type 0
Apart cell = (a b j k : ℕ) → j < 2 → k < 2 → cell a j ≡ cell b k → (a ≡ b) × (j ≡ k)

nodes_apart : Apart node_cell
nodes_apart a b j k hj hk e = omega arith

edges-apart : Apart edge_cell
edges-apart a b j k hj hk e = omega arith

module _ (cell : ℕ → ℕ → ℕ) (f g : ℕ → ℕ) where
  abbrev twos : ℕ → List ℕ → List ℕ
  twos n l = each (λ r i. set (set r (cell i 0) (f i)) (cell i 1) (g i)) n l

  twos_length : (n : ℕ) (l : List ℕ) → length (twos n l) ≡ length l
  twos_length n l =
      each-length (λ r i. set (set r (cell i 0) (f i)) (cell i 1) (g i))
      (λ r i. length-set (set r (cell i 0) (f i)) (cell i 1) (g i) ∙ length-set r (cell i 0) (f i)) n l

  twos_at : Apart cell → (n : ℕ) (l : List ℕ) → ((i k : ℕ) → i < n → k < 2 → cell i k < length l)
      → (a : ℕ) → a < n → (get_or (twos n l) (cell a 0) 0 ≡ f a) × (get_or (twos n l) (cell a 1) 0 ≡ g a)
  unfolding each
  twos_at apart zero l holds a h = absurd (omega arith)
  twos_at apart (suc n) l holds a h =
      let r = twos n l in
      let w = set r (cell n 0) (f n) in
      let lr : length r ≡ length l = twos_length n l in
      let one : (i j k : ℕ) → j < 2 → k < 2 → (j ≡ k → ⊥) → cell i j ≡ cell n k → ⊥ = λ i j k hj hk d e. d (apart i n j k hj hk e).1 in
      elim (ℕ_discrete a n) [
        | yes q ↦ (
          ap (λ i. get_or (twos (suc n) l) (cell i 0) 0) q
              ∙ get_or-set_other w (cell n 1) (cell n 0) (g n) 0 (one n 0 1 (omega arith) (omega arith) (λ e. omega arith))
              ∙ get_or-set_same r (cell n 0) (f n) 0 (rw lr (holds n 0 (omega arith) (omega arith)))
              ∙ ap f (sym q),
          ap (λ i. get_or (twos (suc n) l) (cell i 1) 0) q
              ∙ get_or-set_same w (cell n 1) (g n) 0 (rw (length-set r (cell n 0) (f n), lr) (holds n 1 (omega arith) (omega arith)))
              ∙ ap g (sym q),
        )
        | no q ↦
            (let i = twos_at apart n l (λ i k hi hk. holds i k (omega arith) hk) a (omega arith) in
            let other : (j k : ℕ) → j < 2 → k < 2 → cell a j ≡ cell n k → ⊥ = λ j k hj hk e. q (apart a n j k hj hk e).0 in (
              get_or-set_other w (cell n 1) (cell a 0) (g n) 0 (other 0 1 (omega arith) (omega arith))
                  ∙ get_or-set_other r (cell n 0) (cell a 0) (f n) 0 (other 0 0 (omega arith) (omega arith))
                  ∙ i.0,
              get_or-set_other w (cell n 1) (cell a 1) (g n) 0 (other 1 1 (omega arith) (omega arith))
                  ∙ get_or-set_other r (cell n 0) (cell a 1) (f n) 0 (other 1 0 (omega arith) (omega arith))
                  ∙ i.1,
            ))
      ]

-- the columns of a loaded network
module _ (t : Net) (bytes : List ℕ) (n m : ℕ) where
  abbrev weights_in : List ℤ
  weights_in = ones (λ i. (node_in bytes i).weight) n t.weights

  abbrev heads_in : List ℕ
  heads_in = twos node_cell (λ i. (node_in bytes i).outgoing.0) (λ i. (node_in bytes i).incoming.0) n t.heads

  abbrev registers_in : List ℕ
  registers_in = ones (λ i. (edge_in bytes n i).weight) m t.registers

  abbrev links_in : List ℕ
  links_in = twos edge_cell (λ i. (edge_in bytes n i).outgoing.0) (λ i. (edge_in bytes n i).incoming.0) m t.links

  abbrev ends_in : List ℕ
  ends_in = twos edge_cell (λ i. (edge_in bytes n i).source.0) (λ i. (edge_in bytes n i).target.0) m t.ends

  abbrev columns : Net
  columns =
      net
      (filled weights_in n (length t.weights) (pos 0))
      (filled heads_in (node_cells * n) (node_cells * length t.weights) END)
      (filled registers_in m (length t.registers) 0)
      (filled links_in (edge_cells * m) (edge_cells * length t.registers) END)
      (filled ends_in (edge_cells * m) (edge_cells * length t.registers) END)
      n
      m

  pub loaded-columns : loaded t bytes n m ≡ columns
  loaded-columns = sym (loaded-is bytes n t m refl refl refl refl refl refl refl refl refl refl)

  weights_length : length weights_in ≡ length t.weights
  weights_length = ones_length (λ i. (node_in bytes i).weight) n t.weights

  heads_length : length heads_in ≡ length t.heads
  heads_length = twos_length node_cell (λ i. (node_in bytes i).outgoing.0) (λ i. (node_in bytes i).incoming.0) n t.heads

  registers_length : length registers_in ≡ length t.registers
  registers_length = ones_length (λ i. (edge_in bytes n i).weight) m t.registers

  links_length : length links_in ≡ length t.links
  links_length = twos_length edge_cell (λ i. (edge_in bytes n i).outgoing.0) (λ i. (edge_in bytes n i).incoming.0) m t.links

  ends_length : length ends_in ≡ length t.ends
  ends_length = twos_length edge_cell (λ i. (edge_in bytes n i).source.0) (λ i. (edge_in bytes n i).target.0) m t.ends

  -- counts within the rows lent
  module _ (fit-t : fits t ≡ true) (hn : n ≤ length t.weights) (hm : m ≤ length t.registers) where
    lent : Fit (length t.weights) (length t.heads) (length t.registers) (length t.links) (length t.ends) t.n t.m
    lent = fit-says (length t.weights) (length t.heads) (length t.registers) (length t.links) (length t.ends) t.n t.m fit-t

    pub loaded-fits : fits (loaded t bytes n m) ≡ true
    unfolding fit
    loaded-fits =
        let f = lent in
        ap fits loaded-columns
        ∙ rw (
          filled-length weights_in n (length t.weights) (pos 0) hn (omega (arith, weights_length)),
          filled-length heads_in (node_cells * n) (node_cells * length t.weights) END (omega arith) (omega (arith, heads_length)),
          filled-length registers_in m (length t.registers) 0 hm (omega (arith, registers_length)),
          filled-length links_in (edge_cells * m) (edge_cells * length t.registers) END (omega arith) (omega (arith, links_length)),
          filled-length ends_in (edge_cells * m) (edge_cells * length t.registers) END (omega arith) (omega (arith, ends_length)),
          weights_length,
          heads_length,
          registers_length,
          links_length,
          ends_length,
          le-leb _ _ f.nodes_most,
          le-leb _ _ f.edges_most,
          eq-eqb _ _ f.heads_agree,
          eq-eqb _ _ f.links_agree,
          eq-eqb _ _ f.ends_agree,
          le-leb _ _ hn,
          le-leb _ _ hm,
        )

    -- the rows of the image
    pub loaded-node : (a : ℕ) → a < n → node_row (loaded t bytes n m) a ≡ node_in bytes a
    loaded-node a h =
        let f = lent in
        let w = twos_at node_cell (λ i. (node_in bytes i).outgoing.0) (λ i. (node_in bytes i).incoming.0) nodes_apart n t.heads (λ i k hi hk. omega arith) a h in
        let last = node_cells * length t.weights in
        ap (λ g. node_row g a) loaded-columns
        ∙ rw (
          filled-before weights_in n (length t.weights) (pos 0) a (pos 0) h (omega (arith, weights_length)),
          ones_at (λ i. (node_in bytes i).weight) n t.weights a (pos 0) h hn,
          filled-before heads_in (node_cells * n) last END (node_cell a 0) 0 (omega arith) (omega (arith, heads_length)),
          filled-before heads_in (node_cells * n) last END (node_cell a 1) 0 (omega arith) (omega (arith, heads_length)),
          w.0,
          w.1,
        )

    pub loaded-edge : (e : ℕ) → e < m → edge_row (loaded t bytes n m) e ≡ edge_in bytes n e
    loaded-edge e h =
        let f = lent in
        let l = twos_at edge_cell (λ i. (edge_in bytes n i).outgoing.0) (λ i. (edge_in bytes n i).incoming.0) edges-apart m t.links (λ i k hi hk. omega arith) e h in
        let k = twos_at edge_cell (λ i. (edge_in bytes n i).source.0) (λ i. (edge_in bytes n i).target.0) edges-apart m t.ends (λ i k hi hk. omega arith) e h in
        let last = edge_cells * length t.registers in
        ap (λ g. edge_row g e) loaded-columns
        ∙ rw (
          filled-before registers_in m (length t.registers) 0 e 0 h (omega (arith, registers_length)),
          ones_at (λ i. (edge_in bytes n i).weight) m t.registers e 0 h hm,
          filled-before links_in (edge_cells * m) last END (edge_cell e 0) 0 (omega arith) (omega (arith, links_length)),
          filled-before links_in (edge_cells * m) last END (edge_cell e 1) 0 (omega arith) (omega (arith, links_length)),
          filled-before ends_in (edge_cells * m) last END (edge_cell e 0) 0 (omega arith) (omega (arith, ends_length)),
          filled-before ends_in (edge_cells * m) last END (edge_cell e 1) 0 (omega arith) (omega (arith, ends_length)),
          l.0,
          l.1,
          k.0,
          k.1,
        )

    -- the rows past them
    pub node-past : (a : ℕ) → n ≤ a → a < length t.weights → node_row (loaded t bytes n m) a ≡ vacant_node
    node-past a h k =
        let f = lent in
        let last = node_cells * length t.weights in
        ap (λ g. node_row g a) loaded-columns
        ∙ rw (
          filled_at weights_in n (length t.weights) (pos 0) a (pos 0) h k (omega (arith, weights_length)),
          filled_at heads_in (node_cells * n) last END (node_cell a 0) 0 (omega arith) (omega arith) (omega (arith, heads_length)),
          filled_at heads_in (node_cells * n) last END (node_cell a 1) 0 (omega arith) (omega arith) (omega (arith, heads_length)),
        )

    pub edge-past : (e : ℕ) → m ≤ e → e < length t.registers → edge_row (loaded t bytes n m) e ≡ vacant_edge
    edge-past e h k =
        let f = lent in
        let last = edge_cells * length t.registers in
        ap (λ g. edge_row g e) loaded-columns
        ∙ rw (
          filled_at registers_in m (length t.registers) 0 e 0 h k (omega (arith, registers_length)),
          filled_at links_in (edge_cells * m) last END (edge_cell e 0) 0 (omega arith) (omega arith) (omega (arith, links_length)),
          filled_at links_in (edge_cells * m) last END (edge_cell e 1) 0 (omega arith) (omega arith) (omega (arith, links_length)),
          filled_at ends_in (edge_cells * m) last END (edge_cell e 0) 0 (omega arith) (omega arith) (omega (arith, ends_length)),
          filled_at ends_in (edge_cells * m) last END (edge_cell e 1) 0 (omega arith) (omega arith) (omega (arith, ends_length)),
        )

    -- in as many rows
    pub loaded-nodes : length (loaded t bytes n m).weights ≡ length t.weights
    loaded-nodes =
        ap (λ g. length g.weights) loaded-columns
        ∙ filled-length weights_in n (length t.weights) (pos 0) hn (omega (arith, weights_length))
        ∙ weights_length

    pub loaded-edges : length (loaded t bytes n m).registers ≡ length t.registers
    loaded-edges =
        ap (λ g. length g.registers) loaded-columns
        ∙ filled-length registers_in m (length t.registers) 0 hm (omega (arith, registers_length))
        ∙ registers_length
