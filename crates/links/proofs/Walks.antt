-- Both links of an edge changed, in plain columns: what the walks tell of the columns that they find is what `located` says of those at entry.
-- The second walk finds the outgoing link changed already.
use Prim.Native.Nat.{ℕ, ◌+◌, ◌≤◌, ◌<◌}
use mathlib.Core.Path.{◌≡◌, refl, sym, ap, ◌∙◌}
use mathlib.Core.List.{List}
use native.Mathlib.Omega.{arith}
use Rattle.std.specs.Prelude.{Some, None}
use Rattle.lists.specs.declared.Spot.{Spot}
use Rattle.lists.specs.declared.Spot.TheVariants.{Head}
use Rattle.lists.specs.Walk.{cell, link_in}
use Rattle.links.specs.Links.{Search, seek, located, heads_at, links_at}
use Rattle.links.specs.Parts.{heads_found, links_found}
use Rattle.links.proofs.Seeks.{seek_starts, seek-nowhere}
use Rattle.links.proofs.Hits.{Hit, found, searched-hit, located-at, located-lost, located_lost_2}
use Rattle.links.proofs.Stores.{across, heads_back, links_back}

-- e is row x
module _ (H L E : List ℕ) (n m e x : ℕ) (is_row : x ≡ e) where
  -- one of its ends is no node
  pub no_source : n ≤ cell E 0 x → None ≡ located H L E n m e
  no_source l = sym (located-lost H L E n m e (seek-nowhere (link_in H L 0) (cell E 0) n m e (rw is_row at l)))

  pub no_target : n ≤ cell E 1 x → None ≡ located H L E n m e
  no_target l = go (found H L E n m e 0) refl
    where
      lost : found H L E n m e 1 ≡ None
      lost = seek-nowhere (link_in H L 1) (cell E 1) n m e (rw is_row at l)

      go : (f : Search) → found H L E n m e 0 ≡ f → None ≡ located H L E n m e
      go (Some (s, q)) p = sym (located_lost_2 H L E n m e s q p lost)
      go None p = sym (located-lost H L E n m e p)

  -- a walk along its list of direction k tells f
  sought : (k : ℕ) (f : Search) → cell E k x < n → f ≡ seek (link_in H L k) m e m (Head (cell E k x)) 0 → found H L E n m e k ≡ f
  sought k f l p = seek_starts (link_in H L k) (cell E k) n m e (rw is_row at l) ∙ sym (rw is_row at p)

  -- the walk along the outgoing list tells f, and leaves H₁ and L₁
  module _ (v : ℕ) (a : cell E 0 x < n) (f : Search) (H₁ L₁ : List ℕ) (p : f ≡ seek (link_in H L 0) m e m (Head (cell E 0 x)) 0)
      (hs : H₁ ≡ heads_found 0 f v H) (ls : L₁ ≡ links_found 0 f v L) where
    pub not_met : f ≡ None → (None ≡ located H L E n m e) × (H₁ ≡ H) × (L₁ ≡ L)
    not_met z = (sym (located-lost H L E n m e (sought 0 f a p ∙ z)), rw z at hs, rw z at ls)

    -- it meets e at s, and the link there leads to v
    module _ (s : Spot) (q : ℕ) (z : f ≡ Some (s, q)) where
      pub outgoing_hit : Hit (link_in H L 0) n m e m s q
      outgoing_hit = searched-hit (link_in H L 0) (cell E 0) n m e s q (sought 0 f a p ∙ z)

      -- the incoming links stand as before
      pub as_before : link_in H₁ L₁ 1 ≡ link_in H L 1
      as_before = rw (rw z at hs, rw z at ls) (across H L 0 1 s v (omega arith) (omega arith) (λ h. omega arith))

      -- the walk along the incoming list tells g, and leaves H₂ and L₂
      module _ (w : ℕ) (b : cell E 1 x < n) (g : Search) (H₂ L₂ : List ℕ) (o : g ≡ seek (link_in H₁ L₁ 1) m e m (Head (cell E 1 x)) 0)
          (hs₂ : H₂ ≡ heads_found 1 g w H₁) (ls₂ : L₂ ≡ links_found 1 g w L₁) where
        second : found H L E n m e 1 ≡ g
        second = sought 1 g b (o ∙ ap (λ lk. seek lk m e m (Head (cell E 1 x)) 0) as_before)

        pub incoming_hit : (t : Spot) (r : ℕ) → g ≡ Some (t, r) → Hit (link_in H L 1) n m e m t r
        incoming_hit t r y = searched-hit (link_in H L 1) (cell E 1) n m e t r (second ∙ y)

        pub both-met : (t : Spot) (r : ℕ) → g ≡ Some (t, r)
            → (Some (record { outgoing = s; incoming = t; rows = q + r }) ≡ located H L E n m e) × (H₂ ≡ heads_at 1 t w (heads_at 0 s v H)) × (L₂ ≡ links_at 1 t w (links_at 0 s v L))
        both-met t r y = (
          sym (located-at H L E n m e s t q r (sought 0 f a p ∙ z) (second ∙ y)),
          rw (rw z at hs) at (rw y at hs₂),
          rw (rw z at ls) at (rw y at ls₂),
        )

        -- it does not meet e: the outgoing link leads to e again
        pub second_not_met : (H₃ L₃ : List ℕ) → g ≡ None → H₃ ≡ heads_at 0 s e H₂ → L₃ ≡ links_at 0 s e L₂
            → (None ≡ located H L E n m e) × (H₃ ≡ H) × (L₃ ≡ L)
        second_not_met H₃ L₃ y h l = (
          sym (located_lost_2 H L E n m e s q (sought 0 f a p ∙ z) (second ∙ y)),
          h ∙ ap (heads_at 0 s e) (rw y at hs₂) ∙ ap (heads_at 0 s e) (rw z at hs) ∙ heads_back H L 0 v e s outgoing_hit.link,
          l ∙ ap (links_at 0 s e) (rw y at ls₂) ∙ ap (links_at 0 s e) (rw z at ls) ∙ links_back H L 0 v e s outgoing_hit.link,
        )
