-- A node without edges dropped: the last node takes its place.
use Rattle.std.specs.Prelude.{ℕ, ◌+◌, ◌-◌, cond, List, [], ◌∷◌, eqb, length, set}
use Rattle.tables.specs.Net.{Net, net, edge_cell}
use Rattle.tables.specs.Rows.{node_row, vacant_node, with_node}
use Rattle.sound.specs.Sound.{lists}

-- the edges xs get node a as their end of direction k
abbrev pub ended : (k a : ℕ) → List ℕ → List ℕ → List ℕ
ended k a [] ends = ends
ended k a (x ∷ xs) ends = ended k a xs (set ends (edge_cell x k) a)

-- node a, which has no edges, goes: the row of the last node b is copied over row a and becomes vacant, and b's edges get the new number
unfoldable pub dropped : Net → ℕ → Net
dropped g a =
    let b = g.n - 1 in
    let h = with_node (with_node g a (node_row g b)) b vacant_node in
    net h.weights h.heads g.registers g.links (ended 1 a (lists g 1 b) (ended 0 a (lists g 0 b) g.ends)) b g.m

-- each row that is visited for that counts one
abbrev pub rows_moved : Net → ℕ
rows_moved g = length (lists g 0 (g.n - 1)) + length (lists g 1 (g.n - 1))

-- the last node b gets the number a
abbrev pub node_moved : (a b : ℕ) → (ℕ → ℕ → List ℕ) → ℕ → ℕ → List ℕ
node_moved a b ls k c = cond (eqb c a) (ls k b) (ls k c)
