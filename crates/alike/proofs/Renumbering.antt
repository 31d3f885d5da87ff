-- The loops of `remove_node_with` that give the moved node's edges its new number: they end, no assertion fails, and the ends are ours.
use Prim.Native.Nat.{ℕ, zero, suc, ◌*◌, ◌≤◌, ◌<◌}
use mathlib.Core.Path.{◌≡◌, refl, ◌∙◌}
use mathlib.Core.Logic.{inl, inr}
use mathlib.Core.List.{List, [], ◌∷◌}
use native.Mathlib.Nat.{not-suc-le-zero, le_of_suc-le-suc}
use native.Mathlib.Omega.{arith}
use borrow.Author.Tests.{eq-eqb}
use lib.ListN.{length, set, length-set}
use lib.Seq.{get_or-set_other}
use Rattle.index.specs.Index.{END}
use Rattle.tables.specs.Net.{Net, with_edges, edge_cells, edge_cell}
use Rattle.lists.specs.declared.Spot.{Spot}
use Rattle.lists.specs.declared.Spot.TheVariants.{After}
use Rattle.lists.specs.Chain.{Chain, In}
use Rattle.lists.specs.Walk.{cell, link_at}
use Rattle.lists.proofs.Chains.{fresh}
use Rattle.sound.specs.Sound.{end_at}
use Rattle.dropping.specs.Drop.{ended}
use Rattle.original.specs.Std.{returns}
use Rattle.original.specs.Rust.{renumber}
use Rattle.alike.specs.Same.{edge_at, rows_below}
use Rattle.alike.proofs.Vectors.{got, got_past}
use Rattle.alike.proofs.Cells.{next_at, end_at_lem, end_led}

-- the network with other ends
abbrev pub with_ends : Net → List ℕ → Net
with_ends h ends = with_edges h h.registers h.links ends

module _ (k a b : ℕ) (hk : k < 2) where
  pub one_list : (turns : ℕ) (h : Net) (s : Spot) (xs : List ℕ) → h.m ≤ END → edge_cells * h.m ≤ length h.ends → Chain (link_at h k) h.m s xs
      → ((x : ℕ) → In x xs → end_at h k x ≡ b) → length xs ≤ turns
      → renumber turns k b a (rows_below h.m (edge_at h)) (link_at h k s) ≡ returns (rows_below h.m (edge_at (with_ends h (ended k a xs h.ends))))
  unfolding renumber
  one_list zero h s [] small room c own l = rw (c, got_past h.m (edge_at h) END small)
  one_list (suc turns) h s [] small room c own l = rw (c, got_past h.m (edge_at h) END small)
  one_list zero h s (x ∷ xs) small room c own l = absurd (not-suc-le-zero l)
  one_list (suc turns) h s (x ∷ xs) small room c own l =
      let i = with_ends h (set h.ends (edge_cell x k) a) in
      rw (c.0, got h.m (edge_at h) x c.1, end_at_lem h x k hk, next_at h x k hk, eq-eqb (end_at h k x) b (own x (inl refl)), end_led h k a hk x c.1 room)
      (one_list turns i (After x) xs small (rw (length-set h.ends (edge_cell x k) a) room) c.2
      (λ y j.
      get_or-set_other h.ends (edge_cell x k) (edge_cell y k) a 0 (λ q. fresh (link_at h k) h.m small x xs c.2 (let z : y ≡ x = omega arith in rw z at j))
      ∙ own y (inr j))
      (le_of_suc-le-suc l))

-- the ends of one direction leave those of the other
pub ended-across : (a x : ℕ) (xs ends : List ℕ) → cell (ended 0 a xs ends) 1 x ≡ cell ends 1 x
ended-across a x [] ends = refl
ended-across a x (y ∷ ys) ends = ended-across a x ys (set ends (edge_cell y 0) a) ∙ get_or-set_other ends (edge_cell y 0) (edge_cell x 1) a 0 (λ q. omega arith)
