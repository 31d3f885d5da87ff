-- An edge that is found in both lists: links lead to it, and the columns have their spots, `reached`, `places_kept`.
use Prim.Native.Nat.{ℕ, ◌+◌, ◌≤◌}
use mathlib.Core.Path.{◌≡◌, refl, sym, ◌∙◌}
use mathlib.Core.List.{List}
use native.Mathlib.Omega.{arith}
use lib.ListN.{length}
use Rattle.std.specs.Prelude.{Option, Some, None}
use Rattle.std.proofs.lemmas.Option.{none-some, same_Some}
use Rattle.lists.specs.declared.Spot.{Spot}
use Rattle.lists.specs.Walk.{cell, link_in}
use Rattle.links.specs.declared.Located.{Located}
use Rattle.links.specs.Links.{Search, located}
use Rattle.links.specs.Parts.{Within, Places}
use Rattle.links.proofs.Hits.{found, searched-hit, located-at, located-lost, located_lost_2, place_of, Spot·}
use Rattle.removal.specs.Parts.{Removable}

-- links at s and t, spots of n nodes and m edges, lead to e, and few rows were read to find them
pub record Reached (heads links : List ℕ) (n m e : ℕ) (s t : Spot) (rows : ℕ) : Type 0 where
  pub outgoing_leads : link_in heads links 0 s ≡ e
  pub incoming_leads : link_in heads links 1 t ≡ e
  pub outgoing_spot : Spot· n m s
  pub incoming_spot : Spot· n m t
  pub few : rows ≤ m + m

-- an edge that is found in both lists
pub reached : (heads links ends : List ℕ) (n m e : ℕ) (r : Option Located) (place : Located) → r ≡ located heads links ends n m e → r ≡ Some place
    → Reached heads links n m e place.outgoing place.incoming place.rows
reached heads links ends n m e r place told at = go (found heads links ends n m e 0) (found heads links ends n m e 1) refl refl
  where
    is : located heads links ends n m e ≡ Some place
    is = sym told ∙ at

    go : (f g : Search) → found heads links ends n m e 0 ≡ f → found heads links ends n m e 1 ≡ g
        → Reached heads links n m e place.outgoing place.incoming place.rows
    go (Some (s, q)) (Some (t, r)) p w =
        let z = same_Some _ _ (sym (located-at heads links ends n m e s t q r p w) ∙ is) in
        let f = searched-hit (link_in heads links 0) (cell ends 0) n m e s q p in
        let g = searched-hit (link_in heads links 1) (cell ends 1) n m e t r w in
        rw (← z) (record {
          outgoing_leads = f.link;
          incoming_leads = g.link;
          outgoing_spot = f.spot;
          incoming_spot = g.spot;
          few = omega (arith, f.few, g.few);
        })
    go (Some (s, q)) None p w = absurd (none-some _ (sym (located_lost_2 heads links ends n m e s q p w) ∙ is))
    go None g p w = absurd (none-some _ (sym (located-lost heads links ends n m e p) ∙ is))

-- the columns have its spots, and still do with other links of as many cells
pub places_kept : {heads links : List ℕ} {heads' links' ends n m e rows : ℕ} {s t : Spot} → Within (length heads) (length links) ends n m e
    → Reached heads links n m e s t rows → heads' ≡ length heads → links' ≡ length links → Places heads' links' s t
places_kept {s = s} {t = t} W r p q =
    let h = W.heads_hold in
    let l = W.links_hold in
    rw (p, q)
    (record {
      outgoing = place_of _ _ _ _ 0 (omega arith) h l s r.outgoing_spot;
      incoming = place_of _ _ _ _ 1 (omega arith) h l t r.incoming_spot;
    })

-- an edge can be taken out as long as the columns keep their lengths
pub removable_kept : {heads heads' registers links links' ends n m e : ℕ} → heads' ≡ heads → links' ≡ links → Removable heads registers links ends n m e
    → Removable heads' registers links' ends n m e
removable_kept p q R = rw (p, q) R
