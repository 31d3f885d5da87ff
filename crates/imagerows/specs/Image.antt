-- The image of a network as bytes, and the network that an image gives.
use Rattle.std.specs.Prelude.{ℕ, zero, suc, ◌+◌, ◌*◌, List, [], ◌++◌, length}
use Rattle.tables.specs.declared.row.Node.{Node}
use Rattle.tables.specs.declared.row.Edge.{Edge}
use Rattle.tables.specs.Net.{Net, with_counts}
use Rattle.tables.specs.Rows.{node_row, edge_row, with_node, with_edge, vacant_nodes, vacant_edges}
use Rattle.layout.specs.Layout.{head, head_bytes, node_bytes, edge_bytes, node_at, edge_at}

-- the bytes of the first rows, in row order
unfoldable pub rows_of : (ℕ → List ℕ) → ℕ → List ℕ
rows_of bytes_of zero = []
rows_of bytes_of (suc a) = rows_of bytes_of a ++ bytes_of a

-- the head, then the nodes, then the edges
unfoldable pub image_of : Net → List ℕ
image_of g = head g.n g.m ++ (rows_of (λ a. node_bytes (node_row g a)) g.n ++ rows_of (λ e. edge_bytes (edge_row g e)) g.m)

-- where the rows of an image with n nodes stand
abbrev pub node_place : ℕ → ℕ
node_place a = head_bytes + 12 * a

abbrev pub edge_place : ℕ → ℕ → ℕ
edge_place n e = head_bytes + 12 * n + 20 * e

abbrev pub node_in : List ℕ → ℕ → Node
node_in bytes a = node_at bytes (node_place a)

abbrev pub edge_in : List ℕ → ℕ → ℕ → Edge
edge_in bytes n e = edge_at bytes (edge_place n e)

-- something changed by each of the first rows in turn
unfoldable pub each : {A : Type 0} → (A → ℕ → A) → ℕ → A → A
each change zero x = x
each change (suc a) x = change (each change a x) a

-- the network with the rows of an image of n nodes and m edges; all rows past these are vacant
unfoldable pub loaded : Net → List ℕ → ℕ → ℕ → Net
loaded g bytes n m =
    let nodes = each (λ h a. with_node h a (node_in bytes a)) n g in
    let rows = each (λ h e. with_edge h e (edge_in bytes n e)) m nodes in
    with_counts (vacant_edges (vacant_nodes rows n (length g.weights)) m (length g.registers)) n m
