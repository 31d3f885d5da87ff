-- What a removal leaves of the rows past the counts: a row that is freed is vacant, the others are as they were. One step after the other,
-- `freed_on`; links led elsewhere, `led-freed`; the last edge row taken out, `last_out-freed`, or moved into another's place, `last_into-freed`.
use Prim.Native.Nat.{ℕ, ◌+◌, ◌≤◌, ◌<◌}
use mathlib.Core.Path.{◌≡◌, refl, sym, ◌∙◌}
use mathlib.Core.Bool.{true}
use mathlib.Core.List.{List}
use native.Mathlib.Decide.{dec_lt}
use native.Mathlib.Omega.{arith}
use lib.ListN.{get_or, set}
use lib.Seq.{get_or-set_same, get_or-set_other}
use Rattle.tables.specs.declared.row.Edge.{Edge}
use Rattle.tables.specs.Net.{Net, fits, node_cell, edge_cell}
use Rattle.tables.specs.Rows.{edge_row, vacant_edge, with_edge}
use Rattle.lists.specs.declared.Spot.{Spot}
use Rattle.lists.specs.declared.Spot.TheVariants.{Head, After}
use Rattle.sound.proofs.Kept.{fit_of, first_cell, second_cell, other_cell}
use Rattle.links.specs.Links.{heads_at, links_at, led}
use Rattle.removal.specs.Removal.{last_out, last_into}
use Rattle.removal.specs.Lists.{Freed}
use Rattle.removal.proofs.Stores.{row_fits}

-- nothing is freed where nothing changes
pub freed_none : (g : Net) → Freed g g
freed_none g =
    record {
      nodes = λ c h l. absurd (omega arith);
      edges = λ x h l. absurd (omega arith);
      nodes_past = λ c h. refl;
      edges-past = λ x h. refl;
    }

-- one step after the other, of which the first adds no row
pub freed_on : (g h i : Net) → h.n ≤ g.n → h.m ≤ g.m → Freed g h → Freed h i → Freed g i
freed_on g h i n m p q =
    record {
      nodes =
          λ c b l.
          elim (dec_lt c h.n) [
            | yes z ↦ q.nodes c b z
            | no z ↦ q.nodes_past c (omega arith) ∙ p.nodes c (omega arith) l
          ];
      edges =
          λ x b l.
          elim (dec_lt x h.m) [
            | yes z ↦ q.edges x b z
            | no z ↦ q.edges-past x (omega arith) ∙ p.edges x (omega arith) l
          ];
      nodes_past = λ c b. q.nodes_past c (omega arith) ∙ p.nodes_past c b;
      edges-past = λ x b. q.edges-past x (omega arith) ∙ p.edges-past x b;
    }

-- a spot of a row in use
abbrev pub InUse : (n m : ℕ) → Spot → Type 0
InUse n m (Head a) = a < n
InUse n m (After p) = p < m

-- a link stored at such a spot is in no row past the counts
head-past : (n m k : ℕ) (s : Spot) (v : ℕ) (heads : List ℕ) → InUse n m s → k < 2 → (j c : ℕ) → j < 2 → n ≤ c
    → get_or (heads_at k s v heads) (node_cell c j) 0 ≡ get_or heads (node_cell c j) 0
unfolding heads_at
head-past n m k (Head a) v heads u h j c b l = get_or-set_other heads (node_cell a k) (node_cell c j) v 0 (λ z. omega arith)
head-past n m k (After p) v heads u h j c b l = refl

link_past : (n m k : ℕ) (s : Spot) (v : ℕ) (links : List ℕ) → InUse n m s → k < 2 → (j x : ℕ) → j < 2 → m ≤ x
    → get_or (links_at k s v links) (edge_cell x j) 0 ≡ get_or links (edge_cell x j) 0
unfolding links_at
link_past n m k (Head a) v links u h j x b l = refl
link_past n m k (After p) v links u h j x b l = get_or-set_other links (edge_cell p k) (edge_cell x j) v 0 (λ z. omega arith)

pub led-freed : (g : Net) (s t : Spot) (v w : ℕ) → InUse g.n g.m s → InUse g.n g.m t → Freed g (led g s t v w)
unfolding led
led-freed g s t v w p q =
    let heads : (j c : ℕ) → j < 2 → g.n ≤ c
    → get_or (heads_at 1 t w (heads_at 0 s v g.heads)) (node_cell c j) 0 ≡ get_or g.heads (node_cell c j) 0 =
    λ j c b l.
    head-past g.n g.m 1 t w (heads_at 0 s v g.heads) q (omega arith) j c b l ∙ head-past g.n g.m 0 s v g.heads p (omega arith) j c b l in
    let links : (j x : ℕ) → j < 2 → g.m ≤ x
    → get_or (links_at 1 t w (links_at 0 s v g.links)) (edge_cell x j) 0 ≡ get_or g.links (edge_cell x j) 0 =
    λ j x b l.
    link_past g.n g.m 1 t w (links_at 0 s v g.links) q (omega arith) j x b l ∙ link_past g.n g.m 0 s v g.links p (omega arith) j x b l in
    record {
      nodes = λ c h l. absurd (omega arith);
      edges = λ x h l. absurd (omega arith);
      nodes_past = λ c l. rw (heads 0 c (omega arith) l, heads 1 c (omega arith) l);
      edges-past = λ x l. rw (links 0 x (omega arith) l, links 1 x (omega arith) l);
    }

-- an edge row written is in no other row
edge_other : (g : Net) (e : ℕ) (row : Edge) (x : ℕ) → (x ≡ e → ⊥) → edge_row (with_edge g e row) x ≡ edge_row g x
unfolding with_edge
edge_other g e row x d =
    let other : (column : List ℕ) (v w j : ℕ) → j < 2
    → get_or (set (set column (edge_cell e 0) v) (edge_cell e 1) w) (edge_cell x j) 0 ≡ get_or column (edge_cell x j) 0 =
    λ column v w j b. other_cell column (edge_cell e 0) (edge_cell e 1) v w (λ q. omega arith) (edge_cell x j) (λ q. d (omega arith)) (λ q. d (omega arith)) in
    rw (
      get_or-set_other g.registers e x row.weight 0 d,
      other g.links row.outgoing.0 row.incoming.0 0 (omega arith),
      other g.links row.outgoing.0 row.incoming.0 1 (omega arith),
      other g.ends row.source.0 row.target.0 0 (omega arith),
      other g.ends row.source.0 row.target.0 1 (omega arith),
    )

-- and holds what was written
edge_same : (g : Net) (e : ℕ) (row : Edge) → fits g ≡ true → e < g.m → edge_row (with_edge g e row) e ≡ row
unfolding with_edge
edge_same g e row f l =
    let t = fit_of g f in
    rw (
      get_or-set_same g.registers e row.weight 0 (omega arith),
      first_cell g.links (edge_cell e 0) (edge_cell e 1) row.outgoing.0 row.incoming.0 (λ q. omega arith) (omega arith),
      second_cell g.links (edge_cell e 0) (edge_cell e 1) row.outgoing.0 row.incoming.0 (λ q. omega arith) (omega arith),
      first_cell g.ends (edge_cell e 0) (edge_cell e 1) row.source.0 row.target.0 (λ q. omega arith) (omega arith),
      second_cell g.ends (edge_cell e 0) (edge_cell e 1) row.source.0 row.target.0 (λ q. omega arith) (omega arith),
    )

row_nodes : (g : Net) (e : ℕ) (row : Edge) → (with_edge g e row).n ≡ g.n
unfolding with_edge
row_nodes g e row = refl

row_edges : (g : Net) (e : ℕ) (row : Edge) → (with_edge g e row).m ≡ g.m
unfolding with_edge
row_edges g e row = refl

-- so a row in use that is written frees none
row_freed : (g : Net) (e : ℕ) (row : Edge) → e < g.m → Freed g (with_edge g e row)
unfolding with_edge
row_freed g e row l =
    record {
      nodes = λ c h b. absurd (omega arith);
      edges = λ x h b. absurd (omega arith);
      nodes_past = λ c h. refl;
      edges-past = λ x h. edge_other g e row x (λ q. omega arith);
    }

pub last_out-freed : (g : Net) (l : ℕ) → fits g ≡ true → l + 1 ≡ g.m → Freed g (last_out g l)
unfolding last_out with_edge
last_out-freed g l f last =
    record {
      nodes = λ c h b. absurd (omega arith);
      edges = λ x h b. let q : x ≡ l = omega arith in rw q (edge_same g l vacant_edge f (omega arith));
      nodes_past = λ c h. refl;
      edges-past = λ x h. edge_other g l vacant_edge x (λ q. omega arith);
    }

pub last_into-freed : (g : Net) (e l : ℕ) → fits g ≡ true → l + 1 ≡ g.m → e < g.m → Freed g (last_into g e l)
unfolding last_into
last_into-freed g e l f last b =
    let row = edge_row g l in
    let h = with_edge g e row in
    freed_on g h (last_out h l) (omega (arith, row_nodes g e row)) (omega (arith, row_edges g e row)) (row_freed g e row b)
    (last_out-freed h l (row_fits g e row ∙ f) (last ∙ sym (row_edges g e row)))
