-- No two answers of `remove_edge` are told alike.
use Prim.Native.Nat.{ℕ}
use mathlib.Core.Path.{◌≡◌, refl, sym, ap, ◌∙◌, subst}
use Rattle.std.specs.Prelude.{Option, Some, None, Result, Ok, Err, ◌≢◌}
use Rattle.std.specs.Option.{ForSome}
use Rattle.std.proofs.Props.{props}
use Rattle.index.specs.declared.EdgeIndex.{EdgeIndex}
use Rattle.index.specs.declared.Refusal.{Refusal}
use Rattle.index.specs.declared.Refusal.TheVariants.{Tables}
use Rattle.index.specs.Index.{END}
use Rattle.index.specs.Refusals.{refusal_no}
use Rattle.index.proofs.Laws.{untold, untold_refusal, not_zero}
use Rattle.tables.specs.Answers.{Told}
use Rattle.removal.specs.declared.removed.RemovedEdge.{RemovedEdge}
use Rattle.removal.specs.Removal.{moved_no, told_edge_removed}

-- a row that moved has a number, which is not `END`
abbrev IsRow : Option EdgeIndex → Type 0
IsRow o = ForSome o (λ e. e.0 ≢ END)

-- so what is told of it gives it back
moved_same : (o p : Option EdgeIndex) → IsRow o → IsRow p → moved_no o ≡ moved_no p → o ≡ p
moved_same (Some x) (Some y) h k e = ap (λ a. Some (record { 0 = a })) e
moved_same (Some x) None h k e = absurd (h x refl e)
moved_same None (Some y) h k e = absurd (k y refl (sym e))
moved_same None None h k e = refl

-- and there is one proof of it at most
removed_same : (w rows : ℕ) (o p : Option EdgeIndex) (h : IsRow o) (k : IsRow p) → o ≡ p
    → ◌≡◌ {A = RemovedEdge} (record { weight = w; moved = o; rows = rows; moved_is_row = h }) (record { weight = w; moved = p; rows = rows; moved_is_row = k })
removed_same w rows o p h k e =
    let one : (a b : IsRow o) → a ≡ b = hlevel props in
    subst
    (λ q. (k : IsRow q)
    → ◌≡◌ {A = RemovedEdge} (record { weight = w; moved = o; rows = rows; moved_is_row = h }) (record { weight = w; moved = q; rows = rows; moved_is_row = k }))
    e
    (λ k. ap (λ z. record { weight = w; moved = o; rows = rows; moved_is_row = z }) (one h k))
    k

pub edge_removed_told_once : (r s : Result RemovedEdge Refusal) → told_edge_removed r ≡ told_edge_removed s → r ≡ s
edge_removed_told_once (Ok x) (Ok y) e =
    let v = ap (λ (t : Told (ℕ × ℕ × ℕ)). t.values) e in
    let w : x.weight ≡ y.weight = ap (λ (z : ℕ × ℕ × ℕ). z.0) v in
    let o = moved_same x.moved y.moved x.moved_is_row y.moved_is_row (ap (λ (z : ℕ × ℕ × ℕ). z.1) v) in
    let q : x.rows ≡ y.rows = ap (λ (z : ℕ × ℕ × ℕ). z.2) v in
    ap Ok (ap (λ (a : ℕ). record { weight = a; moved = x.moved; rows = x.rows; moved_is_row = x.moved_is_row }) w
    ∙ ap (λ (a : ℕ). record { weight = y.weight; moved = x.moved; rows = a; moved_is_row = x.moved_is_row }) q
    ∙ removed_same y.weight y.rows x.moved y.moved x.moved_is_row y.moved_is_row o)
edge_removed_told_once (Ok x) (Err why) e = absurd (not_zero why (sym (ap (λ (t : Told (ℕ × ℕ × ℕ)). t.number) e)))
edge_removed_told_once (Err why) (Ok y) e = absurd (not_zero why (ap (λ (t : Told (ℕ × ℕ × ℕ)). t.number) e))
edge_removed_told_once (Err why) (Err other) e =
    let n : refusal_no why ≡ refusal_no other = ap (λ (t : Told (ℕ × ℕ × ℕ)). t.number) e in
    ap Err (sym (untold_refusal Tables (λ w. w) why) ∙ ap (untold Tables (λ w. w)) n ∙ untold_refusal Tables (λ w. w) other)
