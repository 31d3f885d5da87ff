-- What stands where in an image: its head, then a node's 12 bytes, an edge's 20.
use Rattle.std.specs.Prelude.{ℕ, ◌+◌, ◌*◌, Bool, ◌&&◌, List, [], ◌∷◌, ◌++◌, eqb, get_or}
use Rattle.tables.specs.declared.row.Node.{Node}
use Rattle.tables.specs.declared.row.Edge.{Edge}
use Rattle.layout.specs.Numbers.{le, number_at, word_at, bits, signed}

-- WNT
abbrev pub mark : List ℕ
mark = 87 ∷ 78 ∷ 84 ∷ []

-- the version that is written, and the only one that is known
abbrev pub version : ℕ
version = 1

-- mark, version in 16 bits, n and m in 32 bits
unfoldable pub head : ℕ → ℕ → List ℕ
head n m = mark ++ (le 2 version ++ (le 4 n ++ le 4 m))

abbrev pub head_bytes : ℕ
head_bytes = 13

-- the length of an image
abbrev pub image_length : ℕ → ℕ → ℕ
image_length n m = head_bytes + 12 * n + 20 * m

-- a node: weight, two links
unfoldable pub node_bytes : Node → List ℕ
node_bytes row = le 4 (bits row.weight) ++ (le 4 row.outgoing.0 ++ le 4 row.incoming.0)

-- an edge: weight, two links, two ends
unfoldable pub edge_bytes : Edge → List ℕ
edge_bytes row = le 4 row.weight ++ (le 4 row.outgoing.0 ++ (le 4 row.incoming.0 ++ (le 4 row.source.0 ++ le 4 row.target.0)))

-- the first three bytes are the mark
unfoldable pub marked : List ℕ → Bool
marked bytes = eqb (get_or bytes 0 0) (get_or mark 0 0) && eqb (get_or bytes 1 0) (get_or mark 1 0) && eqb (get_or bytes 2 0) (get_or mark 2 0)

abbrev pub version_in : List ℕ → ℕ
version_in bytes = number_at 2 bytes 3

-- the counts of an image, and its rows
abbrev pub nodes_in : List ℕ → ℕ
nodes_in bytes = word_at bytes 5

abbrev pub edges_in : List ℕ → ℕ
edges_in bytes = word_at bytes 9

unfoldable pub node_at : List ℕ → ℕ → Node
node_at bytes at =
    record {
      weight = signed (word_at bytes at);
      outgoing = record { 0 = word_at bytes (at + 4) };
      incoming = record { 0 = word_at bytes (at + 8) };
    }

unfoldable pub edge_at : List ℕ → ℕ → Edge
edge_at bytes at =
    record {
      weight = word_at bytes at;
      outgoing = record { 0 = word_at bytes (at + 4) };
      incoming = record { 0 = word_at bytes (at + 8) };
      source = record { 0 = word_at bytes (at + 12) };
      target = record { 0 = word_at bytes (at + 16) };
    }
