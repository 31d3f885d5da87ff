-- How many bytes a row has.
use Rattle.std.specs.Prelude.{◌≡◌, length, refl}
use Rattle.tables.specs.declared.row.Node.{Node}
use Rattle.tables.specs.declared.row.Edge.{Edge}
use Rattle.layout.specs.Numbers.{le}
use Rattle.layout.specs.Layout.{node_bytes, edge_bytes}

pub node-length : (row : Node) → length (node_bytes row) ≡ 12
unfolding le node_bytes
node-length row = refl

pub edge-length : (row : Edge) → length (edge_bytes row) ≡ 20
unfolding le edge_bytes
edge-length row = refl
