-- What the bench's loops come to: every call of a table, one after the other, and what they tell added up.
use Prim.{Unit, tt}
use Rattle.std.specs.Prelude.{ℕ, zero, suc, ◌+◌, ◌*◌, ◌/◌, ◌%◌, ◌^◌, List, length, sum, take, ℤ, pos, slice_index, slice_index_or}
use Rattle.tables.specs.Net.{Net}
use Rattle.tables.specs.Answers.{Told, Out, out}
use Rattle.rows.specs.Calls.{add_node, add_edge}
use Rattle.find.specs.Find.{find_edge}
use Rattle.walks.specs.Walks.{neighbors}
use Rattle.removal.specs.Removal.{Gone, weight_told, remove_edge}

-- what the calls told, added up, and what the last one left
pub record Sums (S : Type 0) : Type 0 where
  pub sum : ℕ
  pub after : S

abbrev pub sums : {S : Type 0} → ℕ → S → Sums S
sums sum after = record { sum = sum; after = after }

-- what an answer adds: its number, 0 where it is served, and its value
abbrev pub adds : Told ℕ → ℕ
adds t = t.number + t.values

-- the sum is kept in 64 bits
abbrev pub in64 : ℕ → ℕ
in64 x = x % 2 ^ 64

-- calls 0, .., k - 1, each on what the one before left, refused or not
unfoldable pub calls : {S : Type 0} → (ℕ → S → Out ℕ S) → S → ℕ → Sums S
calls call s zero = sums 0 s
calls call s (suc k) =
    let before = calls call s k in
    let o = call k before.after in
    sums (in64 (before.sum + adds o.answer)) o.after

-- a node for each total
abbrev pub adds_node : List ℤ → ℕ → Net → Out ℕ Net
adds_node totals i g = add_node g (slice_index_or totals i (pos 0))

abbrev pub add_nodes : Net → List ℤ → Sums Net
add_nodes g totals = calls (adds_node totals) g (length totals)

-- an edge for each row of three cells: source, target, register number; a rest that is no whole row is not read
abbrev pub adds_edge : List ℕ → ℕ → Net → Out ℕ Net
adds_edge edges i g = add_edge g (slice_index edges (3 * i)) (slice_index edges (3 * i + 1)) (slice_index edges (3 * i + 2))

abbrev pub add_edges : Net → List ℕ → Sums Net
add_edges g edges = calls (adds_edge edges) g (length edges / 3)

-- the edge between the two nodes of each row of two cells; nothing changes
abbrev pub finds_edge : Net → List ℕ → ℕ → Unit {0} → Out ℕ (Unit {0})
finds_edge g pairs i s = out (find_edge g (slice_index pairs (2 * i)) (slice_index pairs (2 * i + 1))) s

abbrev pub find_edges : Net → List ℕ → ℕ
find_edges g pairs = (calls (finds_edge g pairs) tt (length pairs / 2)).sum

-- of a walk's answer the items given count, added up
abbrev pub total : List ℕ → ℕ
total = sum

abbrev pub totalled : Told ℕ → List ℕ → Told ℕ
totalled t items = record { number = t.number; values = total (take t.values items) }

abbrev pub items_of : Out ℕ (List ℕ) → Out ℕ (List ℕ)
items_of o = out (totalled o.answer o.after) o.after

-- the neighbours of nodes 0, .., n - 1, one after the other into the same table
abbrev pub gives_neighbors : Net → ℕ → List ℕ → Out ℕ (List ℕ)
gives_neighbors g a items = items_of (neighbors g a items)

abbrev pub neighbors_of_all : Net → List ℕ → Sums (List ℕ)
neighbors_of_all g items = calls (gives_neighbors g) items g.n

-- an edge out for each number; of an answer the edge's weight counts
abbrev pub weight_of : Gone → Out ℕ Net
weight_of o = out (weight_told o.answer) o.after

abbrev pub takes_edge : List ℕ → ℕ → Net → Out ℕ Net
takes_edge numbers i g = weight_of (remove_edge g (slice_index numbers i))

abbrev pub remove_edges : Net → List ℕ → Sums Net
remove_edges g numbers = calls (takes_edge numbers) g (length numbers)
