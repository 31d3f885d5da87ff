-- A row of the network, what a vacant row holds, and the network with rows written.
use Rattle.std.specs.Prelude.{ℕ, ◌-◌, ◌*◌, List, ◌++◌, ℤ, pos, get_or, set, take, drop, replicate}
use Rattle.index.specs.Index.{END}
use Rattle.tables.specs.declared.row.Node.{Node}
use Rattle.tables.specs.declared.row.Edge.{Edge}
use Rattle.tables.specs.Net.{Net, with_nodes, with_edges, node_cells, edge_cells, node_cell, edge_cell}

-- a node with no edges; a vacant row is one of weight 0
abbrev pub bare : ℤ → Node
bare w = record { weight = w; outgoing = record { 0 = END }; incoming = record { 0 = END } }

abbrev pub vacant_node : Node
vacant_node = bare (pos 0)

abbrev pub vacant_edge : Edge
vacant_edge = record { weight = 0; outgoing = record { 0 = END }; incoming = record { 0 = END }; source = record { 0 = END }; target = record { 0 = END } }

-- the rows of a network
abbrev pub node_row : Net → ℕ → Node
node_row g a =
    record {
      weight = get_or g.weights a (pos 0);
      outgoing = record { 0 = get_or g.heads (node_cell a 0) 0 };
      incoming = record { 0 = get_or g.heads (node_cell a 1) 0 };
    }

abbrev pub edge_row : Net → ℕ → Edge
edge_row g e =
    record {
      weight = get_or g.registers e 0;
      outgoing = record { 0 = get_or g.links (edge_cell e 0) 0 };
      incoming = record { 0 = get_or g.links (edge_cell e 1) 0 };
      source = record { 0 = get_or g.ends (edge_cell e 0) 0 };
      target = record { 0 = get_or g.ends (edge_cell e 1) 0 };
    }

-- the columns with one row written
abbrev pub heads_with : List ℕ → ℕ → Node → List ℕ
heads_with heads a row = set (set heads (node_cell a 0) row.outgoing.0) (node_cell a 1) row.incoming.0

abbrev pub links_with : List ℕ → ℕ → Edge → List ℕ
links_with links e row = set (set links (edge_cell e 0) row.outgoing.0) (edge_cell e 1) row.incoming.0

abbrev pub ends_with : List ℕ → ℕ → Edge → List ℕ
ends_with ends e row = set (set ends (edge_cell e 0) row.source.0) (edge_cell e 1) row.target.0

-- the network with one row written
unfoldable pub with_node : Net → ℕ → Node → Net
with_node g a row = with_nodes g (set g.weights a row.weight) (heads_with g.heads a row)

unfoldable pub with_edge : Net → ℕ → Edge → Net
with_edge g e row = with_edges g (set g.registers e row.weight) (links_with g.links e row) (ends_with g.ends e row)

-- a new edge from a to b takes the old heads of its two lists as its next, and becomes the head of both
abbrev pub new_edge : List ℕ → ℕ → ℕ → ℕ → Edge
new_edge heads a b w =
    record {
      weight = w;
      outgoing = record { 0 = get_or heads (node_cell a 0) 0 };
      incoming = record { 0 = get_or heads (node_cell b 1) 0 };
      source = record { 0 = a };
      target = record { 0 = b };
    }

abbrev pub headed : List ℕ → ℕ → ℕ → ℕ → List ℕ
headed heads a b e = set (set heads (node_cell a 0) e) (node_cell b 1) e

-- a column whose cells from `first` up to `last` hold x
abbrev pub filled : {A : Type 0} → List A → ℕ → ℕ → A → List A
filled l first last x = take first l ++ (replicate (last - first) x ++ drop last l)

-- the network with its rows from `first` up to `last` vacant
unfoldable pub vacant_nodes : Net → ℕ → ℕ → Net
vacant_nodes g first last = with_nodes g (filled g.weights first last (pos 0)) (filled g.heads (node_cells * first) (node_cells * last) END)

unfoldable pub vacant_edges : Net → ℕ → ℕ → Net
vacant_edges g first last =
    with_edges g
    (filled g.registers first last 0)
    (filled g.links (edge_cells * first) (edge_cells * last) END)
    (filled g.ends (edge_cells * first) (edge_cells * last) END)
