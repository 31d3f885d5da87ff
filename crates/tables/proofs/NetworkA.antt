-- An empty network, network A of the order, and the column of heads as rows are laid out in it.
use Prim.Native.Nat.{ℕ, ◌*◌}
use mathlib.Core.List.{List, [], ◌∷◌}
use lib.IntN.{pos, negsuc}
use lib.ListN.{replicate}
use Rattle.index.specs.Index.{END}
use Rattle.tables.specs.Net.{Net, net, node_cells, edge_cells}

-- the column of heads, from each node's first outgoing and first incoming edge
abbrev pub heads_of : List (ℕ × ℕ) → List ℕ
heads_of [] = []
heads_of (row ∷ rows) = row.0 ∷ row.1 ∷ heads_of rows

-- every row vacant
abbrev pub empty : ℕ → ℕ → Net
empty nodes edges =
    net (replicate nodes (pos 0)) (replicate (node_cells * nodes) END) (replicate edges 0) (replicate (edge_cells * edges) END) (replicate (edge_cells * edges) END) 0 0

-- N 5, N -3, N 8, then E 0 1 10, E 1 2 11, E 0 2 12, E 1 1 13
unfoldable pub network_a : Net
network_a =
    net
    (pos 5 ∷ negsuc 2 ∷ pos 8 ∷ [])
    (heads_of ((2, END) ∷ (3, 3) ∷ (END, 2) ∷ []))
    (10 ∷ 11 ∷ 12 ∷ 13 ∷ [])
    (END ∷ END ∷ END ∷ END ∷ 0 ∷ 1 ∷ 1 ∷ 0 ∷ [])
    (0 ∷ 1 ∷ 1 ∷ 2 ∷ 0 ∷ 2 ∷ 1 ∷ 1 ∷ [])
    3
    4
