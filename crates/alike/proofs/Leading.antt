-- `change_edge_links` on any network that fits: where our searches find the two links to an edge, the Rust's walks lead the same two
-- elsewhere, and no others.
use Prim.Native.Nat.{ℕ, zero, suc, ◌+◌, ◌*◌, ◌-◌, ◌≤◌, ◌<◌}
use mathlib.Core.Path.{◌≡◌, refl, sym, ap, ◌∙◌, fun_ext}
use mathlib.Core.List.{List}
use native.Mathlib.Decide.{ℕ_discrete, dec_lt}
use native.Mathlib.Omega.{arith}
use borrow.Author.Tests.{eq-eqb, ne_eqb, lt-ltb, le-ltb}
use lib.ListN.{length}
use Rattle.tables.specs.Net.{Net, net, node_cells, edge_cells}
use Rattle.lists.specs.declared.Spot.{Spot}
use Rattle.lists.specs.declared.Spot.TheVariants.{Head, After}
use Rattle.lists.specs.Walk.{link_at}
use Rattle.std.proofs.Common.{None, Some}
use Rattle.links.specs.Links.{Search, seek, heads_at, links_at, led}
use Rattle.links.proofs.Stores.{lead_off, heads_length, links_length}
use Rattle.links.proofs.Seeks.{seek_found, seek-on, seek-past}
use Rattle.original.specs.Std.{returns, Two, ◌!◌}
use Rattle.original.specs.Rust.{Node, Edge, graph, lead_past, change_links_of, change_edge_links}
use Rattle.alike.specs.Same.{node_at, edge_at, rows_below, rows_of}
use Rattle.alike.proofs.Vectors.{length-rows, got}
use Rattle.alike.proofs.Cells.{head_at, next_at, head-led, link_led}

-- the network whose link at spot s of direction k leads to v
abbrev pub led_at : Net → (k : ℕ) → Spot → ℕ → Net
led_at g k s v = net g.weights (heads_at k s v g.heads) g.registers (links_at k s v g.links) g.ends g.n g.m

not_lost : {s : Spot} {r : ℕ} → ◌≡◌ {A = Search} None (Some (s, r)) → ⊥
not_lost h = let z : ◌≡◌ {A = ℕ} 0 1 = cc in omega arith

-- where a search found the link
abbrev place_found : Search → Spot
place_found (Some found) = found.0
place_found None = Head 0

spot_is : {s t : Spot} {q r : ℕ} → ◌≡◌ {A = Search} (Some (s, q)) (Some (t, r)) → s ≡ t
spot_is h = ap place_found h

module _ (g : Net) (k e v : ℕ) (hk : k < 2) (heads_hold : node_cells * g.n ≤ length g.heads) (links_hold : edge_cells * g.m ≤ length g.links) where
  -- the walk from row x on leads the link at spot s elsewhere, and s is no head
  abbrev Leads : (turns x : ℕ) → Spot → Type 0
  Leads turns x s =
      (lead_past turns k e v (rows_below g.m (edge_at g)) x ≡ returns (rows_below g.m (edge_at (led_at g k s v)))) × (heads_at k s v g.heads ≡ g.heads)

  -- the link after row x is e
  after_led : (turns x : ℕ) (s : Spot) → x < g.m → link_at g k (After x) ≡ e → After x ≡ s → Leads (suc turns) x s
  unfolding lead_past links_at heads_at
  after_led turns x s l q z =
      rw (← z) (
        rw (got g.m (edge_at g) x l, next_at g x k hk, eq-eqb (link_at g k (After x)) e q)
            (ap (λ (rows : List Edge). returns rows) (link_led g k v hk x l links_hold)),
        refl,
      )

  -- along the list, from row x on
  along : (left x rows : ℕ) (s : Spot) (r : ℕ) → x < g.m → seek (link_at g k) g.m e left (After x) rows ≡ Some (s, r) → Leads (suc left) x s
  unfolding seek lead_past
  along zero x rows s r l h =
      elim (ℕ_discrete (link_at g k (After x)) e) [
        | yes q ↦ (let z : ◌≡◌ {A = Search} (Some (After x, rows)) (Some (s, r)) = rw (eq-eqb (link_at g k (After x)) e q) at h in after_led zero x s l q (spot_is z))
        | no q ↦ absurd (not_lost (rw (ne_eqb (link_at g k (After x)) e q) at h))
      ]
  along (suc left) x rows s r l h =
      elim (ℕ_discrete (link_at g k (After x)) e) [
        | yes q ↦ (let z : ◌≡◌ {A = Search} (Some (After x, rows)) (Some (s, r)) = rw (eq-eqb (link_at g k (After x)) e q) at h in after_led (suc left) x s l q (spot_is z))
        | no q ↦
            elim (dec_lt (link_at g k (After x)) g.m) [
              | yes b ↦
                  rw (got g.m (edge_at g) x l, next_at g x k hk, ne_eqb (link_at g k (After x)) e q)
                  (along left (link_at g k (After x)) (rows + 1) s r b (rw (ne_eqb (link_at g k (After x)) e q, lt-ltb (link_at g k (After x)) g.m b) at h))
              | no b ↦ absurd (not_lost (rw (ne_eqb (link_at g k (After x)) e q, le-ltb (link_at g k (After x)) g.m (omega arith)) at h))
            ]
      ]

  -- from the head of node a's list on
  pub one_way_lem : (node next : Two) (a : ℕ) (s : Spot) (r : ℕ) → node ! k ≡ a → next ! k ≡ v → a < g.n → seek (link_at g k) g.m e g.m (Head a) 0 ≡ Some (s, r)
      → change_links_of node e next k (rows_of g) ≡ returns (rows_of (led_at g k s v))
  unfolding change_links_of rows_of heads_at links_at
  one_way_lem node next a s r p q l h =
      elim (ℕ_discrete (link_at g k (Head a)) e) [
        | yes z ↦
            (let w : ◌≡◌ {A = Search} (Some (Head a, 0)) (Some (s, r)) = sym (seek_found (link_at g k) g.m e (Head a) 0 refl g.m z) ∙ h in
            let t : Head a ≡ s = spot_is w in
            rw (← t, p, q, got g.n (node_at g) a l, head_at g a k hk, eq-eqb (link_at g k (Head a)) e z)
            (ap (λ (rows : List Node). returns (graph rows (rows_below g.m (edge_at g)))) (head-led g k v hk a l heads_hold)))
        | no z ↦
            elim (dec_lt (link_at g k (Head a)) g.m) [
              | yes b ↦
                  (let t : g.m ≡ suc (g.m - 1) = omega arith in
                  let w : seek (link_at g k) g.m e (g.m - 1) (After (link_at g k (Head a))) 1 ≡ Some (s, r) =
                  sym (ap (λ left. seek (link_at g k) g.m e left (Head a) 0) t ∙ seek-on (link_at g k) g.m e (Head a) 0 refl (g.m - 1) z b) ∙ h in
                  let found = along (g.m - 1) (link_at g k (Head a)) 1 s r b w in
                  let led-so = ap (λ turns. lead_past turns k e v (rows_below g.m (edge_at g)) (link_at g k (Head a))) t ∙ found.0 in
                  rw (p, q, got g.n (node_at g) a l, head_at g a k hk, ne_eqb (link_at g k (Head a)) e z, length-rows g.m (edge_at g), led-so, found.1))
              | no b ↦ absurd (not_lost (sym (seek-past (link_at g k) g.m e (Head a) 0 refl g.m z (omega arith)) ∙ h))
            ]
      ]

-- both directions, one after the other
pub both_ways : (g : Net) (e : ℕ) (node next : Two) (s t : Spot) (q r : ℕ) → node_cells * g.n ≤ length g.heads → edge_cells * g.m ≤ length g.links
    → node ! 0 < g.n → node ! 1 < g.n
    → seek (link_at g 0) g.m e g.m (Head (node ! 0)) 0 ≡ Some (s, q) → seek (link_at g 1) g.m e g.m (Head (node ! 1)) 0 ≡ Some (t, r)
    → change_edge_links (rows_of g) node e next ≡ returns (rows_of (led g s t (next ! 0) (next ! 1)))
unfolding change_edge_links led
both_ways g e node next s t q r hh hl la lb p w =
    let h = led_at g 0 s (next ! 0) in
    let same : link_at h 1 ≡ link_at g 1 = fun_ext (λ t. lead_off g.heads g.links 0 1 s t (next ! 0) (omega arith) (omega arith) (λ z. absurd (omega arith))) in
    rw (one_way_lem g 0 e (next ! 0) (omega arith) hh hl node next (node ! 0) s q refl refl la p)
    (one_way_lem h 1 e (next ! 1) (omega arith) (rw (heads_length g.heads 0 s (next ! 0)) hh) (rw (links_length g.links 0 s (next ! 0)) hl) node next (node ! 1) t r refl refl lb
    (ap (λ lk. seek lk g.m e g.m (Head (node ! 1)) 0) same ∙ w))
