-- What each call answers, and the network that it leaves.
use Prim.{Unit, tt}
use Rattle.std.specs.Prelude.{ℕ, ◌+◌, ◌*◌, ◌&&◌, List, ltb, ℤ, length, take}
use Rattle.index.specs.declared.Refusal.TheVariants.{Tables, Full, NoNode}
use Rattle.index.specs.Index.{END}
use Rattle.tables.specs.Net.{Net, with_nodes, with_counts, fits, node_cells}
use Rattle.tables.specs.Answers.{Out, out, done, refused, unless, give}
use Rattle.tables.specs.Rows.{bare, with_node, with_edge, new_edge, headed, filled, vacant_nodes, vacant_edges}

-- row n becomes a node with no edges
unfoldable pub add_node : Net → ℤ → Out ℕ Net
add_node g w =
    unless (fits g) (out (refused Tables 0) g)
    (unless (ltb g.n (length g.weights)) (out (refused Full 0) g)
    (out (done g.n) (with_counts (with_node g g.n (bare w)) (g.n + 1) g.m)))

-- row m becomes the edge from a to b
unfoldable pub linked : Net → ℕ → ℕ → ℕ → Net
linked g a b w =
    with_counts (with_nodes (with_edge g g.m (new_edge g.heads a b w)) g.weights (headed g.heads a b g.m)) g.n (g.m + 1)

unfoldable pub add_edge : Net → ℕ → ℕ → ℕ → Out ℕ Net
add_edge g a b w =
    unless (fits g) (out (refused Tables 0) g)
    (unless (ltb g.m (length g.registers)) (out (refused Full 0) g)
    (unless (ltb a g.n && ltb b g.n) (out (refused NoNode 0) g)
    (out (done g.m) (linked g a b w))))

-- the register numbers in row order, into an output table
unfoldable pub all_edge_weights : Net → List ℕ → Out ℕ (List ℕ)
all_edge_weights g items =
    unless (fits g) (out (refused Tables 0) items)
    (give (take g.m g.registers) items)

-- no edges: the edge rows below m are vacant, and every node has none
unfoldable pub clear_edges : Net → Out Unit Net
clear_edges g =
    unless (fits g) (out (refused Tables tt) g)
    (out (done tt) (with_counts (with_nodes (vacant_edges g 0 g.m) g.weights (filled g.heads 0 (node_cells * g.n) END)) g.n 0))

-- no nodes either: the node rows below n are vacant too
unfoldable pub clear : Net → Out Unit Net
clear g =
    unless (fits g) (out (refused Tables tt) g)
    (out (done tt) (with_counts (vacant_nodes (vacant_edges g 0 g.m) 0 g.n) 0 0))
