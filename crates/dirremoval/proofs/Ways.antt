-- The removal with its tests in the order in which the code makes them, the entries before the links: `as_tested`. Past them, what the part leaves
-- is what the definition says: `part_so`.
use Prim.Native.Nat.{ℕ, ◌-◌}
use mathlib.Core.Path.{◌≡◌, refl, ◌∙◌}
use mathlib.Core.Logic.{◌⊎◌, inl, inr, ⊎_elim}
use mathlib.Core.Bool.{Bool, true, false, ◌&&◌}
use mathlib.Core.List.{List}
use borrow.Author.Tests.{eq-eqb, ne_eqb}
use lib.Dec.{eqb, ltb}
use Rattle.std.specs.Prelude.{Result, Ok, Err}
use Rattle.index.specs.declared.Refusal.{Refusal}
use Rattle.index.specs.declared.Refusal.TheVariants.{Tables, NoEdge, Broken}
use Rattle.index.specs.Refusals.{refusal_no}
use Rattle.index.proofs.Laws.{not_zero}
use Rattle.tables.specs.Net.{Net, fits}
use Rattle.tables.specs.Answers.{Out, out, refused, unless}
use Rattle.tables.proofs.Laws.{tested}
use Rattle.removal.specs.declared.removed.RemovedEdge.{RemovedEdge}
use Rattle.removal.specs.Removal.{Gone, told_edge_removed, place_of, bypassed, last_moved, gone, taken_out, remove_edge}
use Rattle.removal.proofs.EdgeOuts.{by_place}
use Rattle.directory.specs.Directory.{Filed, filed, beside, named}
use Rattle.dirremoval.specs.Removal.{out_and_followed, remove_edge_filed}
use Rattle.dirremoval.specs.Parts.{directory_after}

-- an edge that is in use is taken out, or its links are broken
taken_or_broken : (g : Net) (e : ℕ) → ((taken_out g e).answer.number ≡ 0) ⊎ (taken_out g e ≡ out (refused Broken (0, 0, 0)) g)
unfolding taken_out gone last_moved
taken_or_broken g e =
    let P : Gone → Type 0 = λ o. (o.answer.number ≡ 0) ⊎ (o ≡ out (refused Broken (0, 0, 0)) g) in
    by_place P (place_of g e) _ _
    (λ s t rows.
    tested P (eqb e (g.m - 1)) _ _
    (by_place P (place_of (bypassed g e s t) (g.m - 1)) _ _ (λ u v more. inl refl) (inr refl))
    (λ q. inl refl))
    (inr refl)

-- e is taken out, and the directory follows
unfoldable pub taken_out_filed : Filed → ℕ → Out (ℕ × ℕ × ℕ) Filed
taken_out_filed f e = let o = taken_out f.net e in beside f o (out_and_followed f e o)

-- the code's order of the tests: the edge is in use, its entry names it, the last row's entry names that row
abbrev pub if_last_named : Filed → ℕ → Out (ℕ × ℕ × ℕ) Filed
if_last_named f e = unless (named f (f.net.m - 1)) (out (refused Broken (0, 0, 0)) f) (taken_out_filed f e)

abbrev pub in_turn : Filed → ℕ → Out (ℕ × ℕ × ℕ) Filed
in_turn f e =
    unless (fits f.net) (out (refused Tables (0, 0, 0)) f)
    (unless (ltb e f.net.m) (out (refused NoEdge (0, 0, 0)) f)
    (unless (named f e) (out (refused Broken (0, 0, 0)) f)
    (if_last_named f e)))

-- broken links and an entry that names another row have one number, so it is the definition's
pub as_tested : (f : Filed) (e : ℕ) → in_turn f e ≡ remove_edge_filed f e
unfolding remove_edge_filed remove_edge taken_out_filed
as_tested f e = go (fits f.net) (ltb e f.net.m) (named f e) (named f (f.net.m - 1))
  where
    broken : out (refused Broken (0, 0, 0)) f
        ≡ beside f (taken_out f.net e) (out (refused Broken (0, 0, 0)) f)
    broken = ⊎_elim (λ z. rw (eq-eqb (taken_out f.net e).answer.number 0 z)) (λ z. rw z) (taken_or_broken f.net e)

    go : (fit below first last : Bool)
        → (unless fit (out (refused Tables (0, 0, 0)) f)
        (unless below (out (refused NoEdge (0, 0, 0)) f)
        (unless first (out (refused Broken (0, 0, 0)) f)
        (unless last (out (refused Broken (0, 0, 0)) f)
        (taken_out_filed f e)))))
        ≡ (let o : Gone = unless fit (out (refused Tables (0, 0, 0)) f.net) (unless below (out (refused NoEdge (0, 0, 0)) f.net) (taken_out f.net e)) in
        beside f o (unless (first && last) (out (refused Broken (0, 0, 0)) f) (out_and_followed f e o)))
    go false below first last = refl
    go true false first last = refl
    go true true true true = refl
    go true true true false = broken
    go true true false last = broken

-- so what it comes to by these tests it comes to
pub by_turn : {x : Out (ℕ × ℕ × ℕ) Filed} (f : Filed) (e : ℕ) → x ≡ in_turn f e → x ≡ remove_edge_filed f e
by_turn f e p = p ∙ as_tested f e

pub part_so : (f : Filed) (e : ℕ) (r : Result RemovedEdge Refusal) (h : Net) (d : List ℕ) → out (told_edge_removed r) h ≡ taken_out f.net e
    → d ≡ directory_after r h.registers h.m e f.directory
    → out (told_edge_removed r) (filed h d) ≡ taken_out_filed f e
unfolding taken_out_filed
part_so f e (Ok removed) h d p q = rw (← p, q)
part_so f e (Err why) h d p q = rw (← p, ne_eqb (refusal_no why) 0 (not_zero why), q)
