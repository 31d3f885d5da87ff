-- Tables that are left empty are vacant throughout: `vacated_is_vacant`; and a load that is broken leaves the tables lent so: `loaded-vacated`.
use Prim.Native.Nat.{ℕ, ◌*◌, ◌≤◌}
use mathlib.Core.Path.{◌≡◌, refl, sym, ap₂, ◌∙◌}
use mathlib.Core.Bool.{true}
use mathlib.Core.List.{List, ◌++◌, append-nil}
use native.Mathlib.Nat.{sub-zero}
use native.Mathlib.Omega.{arith}
use lib.IntN.{pos}
use lib.ListN.{length, replicate, drop_of_length-le}
use Rattle.index.specs.Index.{END}
use Rattle.tables.specs.Net.{Net, net, fits, node_cells, edge_cells}
use Rattle.tables.specs.Rows.{filled, vacant_nodes, vacant_edges}
use Rattle.tables.proofs.Laws.{fit-says}
use Rattle.imagerows.specs.Image.{loaded}
use Rattle.imagerows.proofs.Loads.{loaded-fits, loaded-nodes, loaded-edges}
use Rattle.loading.specs.Loading.{vacated}

-- tables that are vacant throughout, by the rows that they have
abbrev vacant : ℕ → ℕ → Net
vacant nodes edges =
    net (replicate nodes (pos 0)) (replicate (node_cells * nodes) END) (replicate edges 0) (replicate (edge_cells * edges) END) (replicate (edge_cells * edges) END) 0 0

all_filled : {A : Type 0} (l : List A) (k : ℕ) (x : A) → length l ≡ k → filled l 0 k x ≡ replicate k x
all_filled l k x e =
    ap₂ (λ (i : ℕ) (r : List _). replicate i x ++ r) (sub-zero k) (drop_of_length-le l {i = k} (omega arith)) ∙ append-nil (replicate k x)

pub vacated_is_vacant : (t : Net) → fits t ≡ true → vacated t ≡ vacant (length t.weights) (length t.registers)
unfolding vacated vacant_nodes vacant_edges
vacated_is_vacant t h =
    let f = fit-says (length t.weights) (length t.heads) (length t.registers) (length t.links) (length t.ends) t.n t.m h in
    rw (
      all_filled t.weights (length t.weights) (pos 0) refl,
      all_filled t.heads (node_cells * length t.weights) END f.heads_agree,
      all_filled t.registers (length t.registers) 0 refl,
      all_filled t.links (edge_cells * length t.registers) END f.links_agree,
      all_filled t.ends (edge_cells * length t.registers) END f.ends_agree,
    )

pub loaded-vacated : (t : Net) (bytes : List ℕ) (n m : ℕ) → fits t ≡ true → n ≤ length t.weights → m ≤ length t.registers
    → vacated (loaded t bytes n m) ≡ vacated t
loaded-vacated t bytes n m f hn hm =
    vacated_is_vacant (loaded t bytes n m) (loaded-fits t bytes n m f hn hm)
    ∙ ap₂ vacant (loaded-nodes t bytes n m f hn hm) (loaded-edges t bytes n m f hn hm)
    ∙ sym (vacated_is_vacant t f)
