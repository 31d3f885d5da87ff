-- Taking an edge out, on any tables: four searches at the most, and a failure changes nothing.
use Rattle.std.specs.Prelude.{ℕ, ◌+◌, ◌-◌, cond, eqb, ltb, get_or, Option, Some, None, Result}
use Rattle.index.specs.declared.EdgeIndex.{EdgeIndex}
use Rattle.index.specs.declared.Refusal.{Refusal}
use Rattle.index.specs.declared.Refusal.TheVariants.{Tables, NoEdge, Broken}
use Rattle.index.specs.Index.{END}
use Rattle.tables.specs.Net.{Net, fits, with_counts}
use Rattle.tables.specs.Rows.{vacant_edge, edge_row, with_edge}
use Rattle.tables.specs.Answers.{Told, Out, out, done, refused, unless, told_as}
use Rattle.lists.specs.declared.Spot.{Spot}
use Rattle.lists.specs.declared.Spot.TheVariants.{After}
use Rattle.lists.specs.Walk.{link_at}
use Rattle.links.specs.declared.Located.{Located}
use Rattle.removal.specs.declared.removed.RemovedEdge.{RemovedEdge}
use Rattle.links.specs.Links.{located, led}

-- e's weight, the old number of the row that moved (`END` for none), the rows read
abbrev pub Gone : Type 0
Gone = Out (ℕ × ℕ × ℕ) Net

-- the number of the row that moved
abbrev pub moved_no : Option EdgeIndex → ℕ
moved_no (Some e) = e.0
moved_no None = END

abbrev pub told_edge_removed : Result RemovedEdge Refusal → Told (ℕ × ℕ × ℕ)
told_edge_removed = told_as (λ (x : RemovedEdge). (x.weight, moved_no x.moved, x.rows)) (0, 0, 0)

-- what is told of a removal's weight alone, an edge's or a node's
abbrev pub weight_told : {A B C : Type 0} → Told (A × B × C) → Told A
weight_told t = record { number = t.number; values = t.values.0 }

-- what the searches for an edge of a network come to
abbrev pub on_place : {A : Type 0} → Option Located → (Spot → Spot → ℕ → A) → A → A
on_place (Some place) found lost = found place.outgoing place.incoming place.rows
on_place None found lost = lost

abbrev pub place_of : Net → ℕ → Option Located
place_of g e = located g.heads g.links g.ends g.n g.m e

-- e is bypassed: the links that led to it lead to its next
unfoldable pub bypassed : Net → ℕ → (s t : Spot) → Net
bypassed g e s t = led g s t (link_at g 0 (After e)) (link_at g 1 (After e))

-- the last row l becomes vacant; before, it may be copied over row e
unfoldable pub last_out : Net → ℕ → Net
last_out g l = with_counts (with_edge g l vacant_edge) g.n l

unfoldable pub last_into : Net → (e l : ℕ) → Net
last_into g e l = last_out (with_edge g e (edge_row g l)) l

-- in h, where e is bypassed, the last row l is sought, its links lead to e, and it takes e's place; where it is lost all stays as in g
unfoldable pub last_moved : (g h : Net) → (e l rows : ℕ) → Gone
last_moved g h e l rows =
    on_place (place_of h l)
    (λ u v more. out (done (get_or h.registers e 0, l, rows + more)) (last_into (led h u v e e) e l))
    (out (refused Broken (0, 0, 0)) g)

-- e, found after `rows` rows, is bypassed: it goes, if it is the last row l, else l takes its place
unfoldable pub gone : Net → (e l : ℕ) → (s t : Spot) → (rows : ℕ) → Gone
gone g e l s t rows =
    cond (eqb e l)
    (out (done (get_or g.registers e 0, END, rows)) (last_out (bypassed g e s t) e))
    (last_moved g (bypassed g e s t) e l rows)

-- e is sought in its two lists
unfoldable pub taken_out : Net → ℕ → Gone
taken_out g e = on_place (place_of g e) (λ s t rows. gone g e (g.m - 1) s t rows) (out (refused Broken (0, 0, 0)) g)

-- taking edge e out: 1, 4, 6
unfoldable pub remove_edge : Net → ℕ → Gone
remove_edge g e =
    unless (fits g) (out (refused Tables (0, 0, 0)) g)
    (unless (ltb e g.m) (out (refused NoEdge (0, 0, 0)) g)
    (taken_out g e))
