-- What a search that succeeds tells, on any tables: the link at its spot is e, the tables have that spot, the rows are few.
use Prim.Native.Nat.{ℕ, zero, suc, ◌+◌, ◌*◌, ◌≤◌, ◌<◌}
use mathlib.Core.Path.{◌≡◌, refl, sym, ◌∙◌}
use mathlib.Core.List.{List}
use native.Mathlib.Nat.{zero-add}
use native.Mathlib.Decide.{ℕ_discrete, dec_lt}
use native.Mathlib.Omega.{arith}
use borrow.Author.Tests.{ne_eqb, lt-ltb, le-ltb}
use Rattle.std.specs.Prelude.{Some, None}
use Rattle.std.proofs.lemmas.Option.{none-some, some_pair_parts}
use Rattle.tables.specs.Net.{node_cells, edge_cells}
use Rattle.lists.specs.declared.Spot.{Spot}
use Rattle.lists.specs.declared.Spot.TheVariants.{Head, After}
use Rattle.lists.specs.Walk.{cell, link_in}
use Rattle.links.specs.Links.{Search, seek, searched, located}
use Rattle.links.specs.Parts.{Place}
use Rattle.links.proofs.Seeks.{seek_found, seek-on, seek-past}

-- a spot of n nodes and m edges
abbrev pub Spot· : ℕ → ℕ → Spot → Type 0
Spot· n m (Head a) = a < n
Spot· n m (After p) = p < m

pub record Hit (lk : Spot → ℕ) (n m e most : ℕ) (t : Spot) (r : ℕ) : Type 0 where
  pub link : lk t ≡ e
  pub spot : Spot· n m t
  pub few : r ≤ most

here : (lk : Spot → ℕ) (n m e most : ℕ) (s t : Spot) (rows r : ℕ) → Spot· n m s → lk s ≡ e → rows ≤ most
    → ◌≡◌ {A = Search} (Some (s, rows)) (Some (t, r)) → Hit lk n m e most t r
here lk n m e most s t rows r v q l h =
    let p = some_pair_parts s t rows r h in
    record { link = rw (← p.0) q; spot = rw (← p.0) v; few = rw (← p.1) l }

pub seek_hit : (lk : Spot → ℕ) (n m e left : ℕ) (s : Spot) (rows : ℕ) → Spot· n m s → (t : Spot) (r : ℕ) → seek lk m e left s rows ≡ Some (t, r)
    → Hit lk n m e (rows + left) t r
unfolding seek
seek_hit lk n m e zero s rows v t r h =
    elim (ℕ_discrete (lk s) e) [
      | yes q ↦ here lk n m e (rows + 0) s t rows r v q (omega arith) (sym (seek_found lk m e s rows refl 0 q) ∙ h)
      | no q ↦ absurd (none-some (t, r) (rw (ne_eqb (lk s) e q) at h))
    ]
seek_hit lk n m e (suc left) s rows v t r h =
    elim (ℕ_discrete (lk s) e) [
      | yes q ↦ here lk n m e (rows + suc left) s t rows r v q (omega arith) (sym (seek_found lk m e s rows refl (suc left) q) ∙ h)
      | no q ↦
          elim (dec_lt (lk s) m) [
            | yes l ↦
                (let i = seek_hit lk n m e left (After (lk s)) (rows + 1) l t r (sym (seek-on lk m e s rows refl left q l) ∙ h) in
                record { link = i.link; spot = i.spot; few = omega arith })
            | no l ↦ absurd (none-some (t, r) (sym (seek-past lk m e s rows refl (suc left) q (omega arith)) ∙ h))
          ]
    ]

pub searched-hit : (lk : Spot → ℕ) (node : ℕ → ℕ) (n m e : ℕ) (s : Spot) (q : ℕ) → searched lk node n m e ≡ Some (s, q) → Hit lk n m e m s q
unfolding searched
searched-hit lk node n m e s q h =
    elim (dec_lt (node e) n) [
      | yes l ↦ rw zero-add at (seek_hit lk n m e m (Head (node e)) 0 l s q (rw (lt-ltb (node e) n l) at h))
      | no l ↦ absurd (none-some (s, q) (rw (le-ltb (node e) n (omega arith)) at h))
    ]

-- the two searches of an edge
module _ (heads links ends : List ℕ) (n m e : ℕ) where
  abbrev pub found : ℕ → Search
  found k = searched (link_in heads links k) (cell ends k) n m e

  pub located-at : (s t : Spot) (q r : ℕ) → found 0 ≡ Some (s, q) → found 1 ≡ Some (t, r)
      → located heads links ends n m e ≡ Some (record { outgoing = s; incoming = t; rows = q + r })
  unfolding located
  located-at s t q r p w = rw (p, w)

  pub located-lost : found 0 ≡ None → located heads links ends n m e ≡ None
  unfolding located
  located-lost p = rw p

  pub located_lost_2 : (s : Spot) (q : ℕ) → found 0 ≡ Some (s, q) → found 1 ≡ None → located heads links ends n m e ≡ None
  unfolding located
  located_lost_2 s q p w = rw (p, w)

pub place_of : (heads links n m k : ℕ) → k < 2 → node_cells * n ≤ heads → edge_cells * m ≤ links → (s : Spot) → Spot· n m s → Place heads links k s
unfolding Place
place_of heads links n m k h p q (Head a) v = omega arith
place_of heads links n m k h p q (After x) v = omega arith

-- a spot is there as long as the columns keep their lengths
pub place_kept : {heads heads' links links' : ℕ} (k : ℕ) (s : Spot) → heads' ≡ heads → links' ≡ links → Place heads links k s → Place heads' links' k s
place_kept k s p q v = rw (p, q) v
