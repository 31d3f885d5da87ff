-- What the bench's loops with a directory come to: `calls` of the crate `loops`, on a network and its directory.
use Prim.{Unit, tt}
use Rattle.std.specs.Prelude.{ℕ, ◌+◌, ◌*◌, ◌/◌, List, length, slice_index}
use Rattle.tables.specs.Answers.{Out, out}
use Rattle.removal.specs.Removal.{weight_told}
use Rattle.directory.specs.Directory.{Filed}
use Rattle.dirrows.specs.Calls.{add_edge_filed}
use Rattle.bynumber.specs.Numbers.{find_number, remove_number}
use Rattle.loops.specs.Loops.{Sums, calls}

-- an edge for each row of three cells: source, target, register number; a rest that is no whole row is not read
abbrev pub adds_edge_filed : List ℕ → ℕ → Filed → Out ℕ Filed
adds_edge_filed edges i f = add_edge_filed f (slice_index edges (3 * i)) (slice_index edges (3 * i + 1)) (slice_index edges (3 * i + 2))

abbrev pub add_edges_filed : Filed → List ℕ → Sums Filed
add_edges_filed f edges = calls (adds_edge_filed edges) f (length edges / 3)

-- the edge that bears each number; nothing changes
abbrev pub finds_number : Filed → List ℕ → ℕ → Unit {0} → Out ℕ (Unit {0})
finds_number f numbers i s = out (find_number f (slice_index numbers i)) s

abbrev pub find_numbers : Filed → List ℕ → ℕ
find_numbers f numbers = (calls (finds_number f numbers) tt (length numbers)).sum

-- the edge that bears each number, taken out; of an answer the edge's weight counts
abbrev pub weight_filed : Out (ℕ × ℕ × ℕ) Filed → Out ℕ Filed
weight_filed o = out (weight_told o.answer) o.after

abbrev pub takes_number : List ℕ → ℕ → Filed → Out ℕ Filed
takes_number numbers i f = weight_filed (remove_number f (slice_index numbers i))

abbrev pub remove_numbers : Filed → List ℕ → Sums Filed
remove_numbers f numbers = calls (takes_number numbers) f (length numbers)
