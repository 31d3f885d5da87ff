-- What is stored by a removal, cell by cell and in either direction: links led elsewhere, `led-link`; the last row vacant, `last_out_lem`, or moved
-- into another's place, `last_into_lem`.
use Prim.Native.Nat.{ℕ, ◌*◌, ◌≤◌, ◌<◌}
use mathlib.Core.Path.{◌≡◌, refl, ◌∙◌}
use mathlib.Core.Bool.{true}
use mathlib.Core.List.{List}
use native.Mathlib.Decide.{ℕ_discrete}
use native.Mathlib.Omega.{arith}
use borrow.Author.Tests.{eq-eqb, ne_eqb, le-leb}
use lib.ListN.{length, get_or, set, length-set}
use lib.Seq.{get_or-set_same, get_or-set_other}
use Rattle.index.specs.Index.{END}
use Rattle.tables.specs.declared.row.Edge.{Edge}
use Rattle.tables.specs.Net.{Net, fits, fit, with_counts, node_rows, edge_rows, node_cells, edge_cells, edge_cell}
use Rattle.tables.specs.Rows.{with_edge, vacant_edge, edge_row}
use Rattle.lists.specs.declared.Spot.{Spot}
use Rattle.lists.specs.declared.Spot.TheVariants.{Head, After}
use Rattle.lists.specs.Walk.{cell, link_in, link_at}
use Rattle.sound.specs.Sound.{end_at}
use Rattle.sound.proofs.Exactly.{two}
use Rattle.sound.proofs.Kept.{fit_of, first_cell, second_cell, other_cell}
use Rattle.links.specs.Links.{heads_at, links_at, led}
use Rattle.removal.specs.Removal.{last_out, last_into}
use Rattle.removal.specs.Lists.{renamed}
use Rattle.links.specs.Parts.{Place}
use Rattle.links.proofs.Stores.{lead_at, lead_off, heads_length, links_length}

-- the links at s 0 and s 1 lead to v 0 and v 1, the others as before
pub led-link : (g : Net) (s : ℕ → Spot) (v : ℕ → ℕ) → ((k : ℕ) → k < 2 → Place (length g.heads) (length g.links) k (s k)) → (k : ℕ) → k < 2
    → (link_at (led g (s 0) (s 1) (v 0) (v 1)) k (s k) ≡ v k)
    × ((t : Spot) → (t ≡ s k → ⊥) → link_at (led g (s 0) (s 1) (v 0) (v 1)) k t ≡ link_at g k t)
unfolding led
led-link g s v place =
    let hs = heads_at 0 (s 0) (v 0) g.heads in
    let ls = links_at 0 (s 0) (v 0) g.links in
    let across : (t : Spot) → link_at (led g (s 0) (s 1) (v 0) (v 1)) 0 t ≡ link_in hs ls 0 t =
    λ t. lead_off hs ls 1 0 (s 1) t (v 1) (omega arith) (omega arith) (λ q h. omega arith) in
    two
    (λ k. (link_at (led g (s 0) (s 1) (v 0) (v 1)) k (s k) ≡ v k) × ((t : Spot) → (t ≡ s k → ⊥) → link_at (led g (s 0) (s 1) (v 0) (v 1)) k t ≡ link_at g k t)) (
      across (s 0) ∙ lead_at g.heads g.links 0 (s 0) (v 0) (place 0 (omega arith)),
      λ t d. across t ∙ lead_off g.heads g.links 0 0 (s 0) t (v 0) (omega arith) (omega arith) (λ q. d),
    ) (
      lead_at hs ls 1 (s 1) (v 1) (rw (heads_length g.heads 0 (s 0) (v 0), links_length g.links 0 (s 0) (v 0)) (place 1 (omega arith))),
      λ t d.
          lead_off hs ls 1 1 (s 1) t (v 1) (omega arith) (omega arith) (λ q. d)
          ∙ lead_off g.heads g.links 0 1 (s 0) t (v 0) (omega arith) (omega arith) (λ q h. omega arith),
    )

-- all else stays, and the columns still fit
pub record Else (g h : Net) : Type 0 where
  pub nodes : h.n ≡ g.n
  pub edges : h.m ≡ g.m
  pub totals : h.weights ≡ g.weights
  pub registers : h.registers ≡ g.registers
  pub ends : h.ends ≡ g.ends
  pub fit : fits h ≡ fits g

pub nothing_else : (g : Net) → Else g g
nothing_else g = record { nodes = refl; edges = refl; totals = refl; registers = refl; ends = refl; fit = refl }

pub led_else : (g : Net) (s t : Spot) (v w : ℕ) → Else g (led g s t v w)
unfolding led
led_else g s t v w =
    record {
      nodes = refl;
      edges = refl;
      totals = refl;
      registers = refl;
      ends = refl;
      fit =
          rw (
            heads_length (heads_at 0 s v g.heads) 1 t w,
            heads_length g.heads 0 s v,
            links_length (links_at 0 s v g.links) 1 t w,
            links_length g.links 0 s v,
          );
    }

-- the two cells of row e, in a column of links or of ends
pub row_other : (column : List ℕ) (e x y k z : ℕ) → k < 2 → (z ≡ e → ⊥) → cell (set (set column (edge_cell e 0) x) (edge_cell e 1) y) k z ≡ cell column k z
row_other column e x y k z h d =
    other_cell column (edge_cell e 0) (edge_cell e 1) x y (λ q. omega arith) (edge_cell z k) (λ q. d (omega arith)) (λ q. d (omega arith))

pub row_copied : (column : List ℕ) (e l : ℕ) → edge_cell e 1 < length column → (k : ℕ) → k < 2
    → cell (set (set column (edge_cell e 0) (cell column 0 l)) (edge_cell e 1) (cell column 1 l)) k e ≡ cell column k l
row_copied column e l room =
    let i = edge_cell e 0 in
    let j = edge_cell e 1 in
    let x = cell column 0 l in
    let y = cell column 1 l in
    two (λ k. cell (set (set column i x) j y) k e ≡ cell column k l)
    (first_cell column i j x y (λ q. omega arith) (omega arith))
    (second_cell column i j x y (λ q. omega arith) room)

-- row l copied over row e, and then written over with x and y
row_moved : (column : List ℕ) (e l x y k z : ℕ) → edge_cell e 1 < length column → k < 2 → (z ≡ l → ⊥) → (e ≡ l → ⊥)
    → cell (set (set (set (set column (edge_cell e 0) (cell column 0 l)) (edge_cell e 1) (cell column 1 l)) (edge_cell l 0) x) (edge_cell l 1) y) k z
    ≡ cell column k (renamed e l z)
row_moved column e l x y k z room h d n =
    row_other (set (set column (edge_cell e 0) (cell column 0 l)) (edge_cell e 1) (cell column 1 l)) l x y k z h d
    ∙ elim (ℕ_discrete z e) [
      | yes q ↦ rw (eq-eqb z e q, q) (row_copied column e l room k h)
      | no q ↦ rw (ne_eqb z e q) (row_other column e (cell column 0 l) (cell column 1 l) k z h q)
    ]

weight-moved : (column : List ℕ) (e l x z : ℕ) → e < length column → (z ≡ l → ⊥) → get_or (set (set column e (get_or column l 0)) l x) z 0 ≡ get_or column (renamed e l z) 0
weight-moved column e l x z room d =
    get_or-set_other (set column e (get_or column l 0)) l z x 0 d
    ∙ elim (ℕ_discrete z e) [
      | yes q ↦ rw (eq-eqb z e q, q) (get_or-set_same column e (get_or column l 0) 0 room)
      | no q ↦ rw (ne_eqb z e q) (get_or-set_other column e z (get_or column l 0) 0 q)
    ]

-- the columns still fit with a row written, and with fewer rows in use
pub row_fits : (g : Net) (e : ℕ) (row : Edge) → fits (with_edge g e row) ≡ fits g
unfolding with_edge
row_fits g e row = simp length-set

fewer_fit : (g : Net) (l : ℕ) → l ≤ g.m → fits g ≡ true → fits (with_counts g g.n l) ≡ true
unfolding fit
fewer_fit g l h f =
    let t = fit_of g f in
    rw (
      le-leb (length g.weights) node_rows t.nodes_most,
      le-leb (length g.registers) edge_rows t.edges_most,
      eq-eqb (length g.heads) (node_cells * length g.weights) t.heads_agree,
      eq-eqb (length g.links) (edge_cells * length g.registers) t.links_agree,
      eq-eqb (length g.ends) (edge_cells * length g.registers) t.ends_agree,
      le-leb g.n (length g.weights) t.n_within,
      le-leb l (length g.registers) (omega arith),
    )

-- the rows below l are left, row e with what row l held
pub record Remains (g h : Net) (e l : ℕ) : Type 0 where
  pub nodes : h.n ≡ g.n
  pub edges : h.m ≡ l
  pub totals : h.weights ≡ g.weights
  pub fit : fits h ≡ true
  pub heads : (k a : ℕ) → link_at h k (Head a) ≡ link_at g k (Head a)
  pub rows : (k x : ℕ) → k < 2 → x < l → link_at h k (After x) ≡ link_at g k (After (renamed e l x))
  pub ends : (k x : ℕ) → k < 2 → x < l → end_at h k x ≡ end_at g k (renamed e l x)
  pub weights : (x : ℕ) → x < l → get_or h.registers x 0 ≡ get_or g.registers (renamed e l x) 0

module _ (g : Net) (e l : ℕ) (f : fits g ≡ true) (last : l < g.m) where
  pub last_out_lem : e ≡ l → Remains g (last_out g e) e l
  unfolding last_out with_edge
  last_out_lem q =
      record {
        nodes = refl;
        totals = refl;
        edges = q;
        fit = fewer_fit (with_edge g e vacant_edge) e (omega arith) (row_fits g e vacant_edge ∙ f);
        heads = λ k a. refl;
        rows = λ k x h b. rw (ne_eqb x e (omega arith)) (row_other g.links e END END k x h (omega arith));
        ends = λ k x h b. rw (ne_eqb x e (omega arith)) (row_other g.ends e END END k x h (omega arith));
        weights = λ x b. rw (ne_eqb x e (omega arith)) (get_or-set_other g.registers e x 0 0 (omega arith));
      }

  pub last_into_lem : e < l → Remains g (last_into g e l) e l
  unfolding last_into last_out with_edge
  last_into_lem q =
      let t = fit_of g f in
      let h = with_edge g e (edge_row g l) in
      record {
        nodes = refl;
        totals = refl;
        edges = refl;
        fit = fewer_fit (with_edge h l vacant_edge) l (omega arith) (row_fits h l vacant_edge ∙ row_fits g e (edge_row g l) ∙ f);
        heads = λ k a. refl;
        rows = λ k x h b. row_moved g.links e l END END k x (omega arith) h (omega arith) (omega arith);
        ends = λ k x h b. row_moved g.ends e l END END k x (omega arith) h (omega arith) (omega arith);
        weights = λ x b. weight-moved g.registers e l 0 x (omega arith) (omega arith);
      }
