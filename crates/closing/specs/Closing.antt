-- Taking a node out: it is stripped of its edges, one head after the other, and dropped; the last node takes its place.
use Rattle.std.specs.Prelude.{ℕ, ◌+◌, List, ltb, leb, ℤ, pos, length, get_or, Result}
use Rattle.index.specs.declared.Refusal.{Refusal}
use Rattle.index.specs.declared.Refusal.TheVariants.{Tables, NoNode, Broken, Short}
use Rattle.tables.specs.Net.{Net, fits}
use Rattle.tables.specs.Answers.{Told, Out, out, done, refused, unless, onto, told_as}
use Rattle.lists.specs.declared.Item.TheVariants.{Weight}
use Rattle.lists.specs.Walk.{around}
use Rattle.sound.specs.Check.{is_sound}
use Rattle.stripping.specs.Heads.{Strip, stripped}
use Rattle.dropping.specs.Drop.{dropped, rows_moved}
use Rattle.closing.specs.declared.RemovedNode.{RemovedNode}

-- the node's weight, the rows read, how many edges went with it; the network, and the table with their weights
abbrev pub Closed : Type 0
Closed = Out (ℤ × ℕ × ℕ) (Net × List ℕ)

abbrev pub told_node_removed : Result RemovedNode Refusal → Told (ℤ × ℕ × ℕ)
told_node_removed = told_as (λ (x : RemovedNode). (x.weight, x.rows, x.count)) (pos 0, 0, 0)

-- node a stripped, then dropped; the weights of its edges stand at the front of the table
abbrev pub closed : Net → ℕ → List ℕ → Strip → Closed
closed g a items t =
    out (done (get_or g.weights a (pos 0), t.rows + rows_moved t.rest, length t.given)) (dropped t.rest a, onto t.given items)

-- 7 where the table is too short for the weights of a's edges
unfoldable pub closed_if_room : Net → ℕ → List ℕ → Closed
closed_if_room g a items =
    unless (leb (length (around g Weight a)) (length items)) (out (refused Short (pos 0, 0, 0)) (g, items))
    (closed g a items (stripped g a))

-- taking node a out: 1, 3, 6 exactly where the network is not sound, 7
unfoldable pub remove_node : Net → ℕ → List ℕ → Closed
remove_node g a items =
    unless (fits g) (out (refused Tables (pos 0, 0, 0)) (g, items))
    (unless (ltb a g.n) (out (refused NoNode (pos 0, 0, 0)) (g, items))
    (unless (is_sound g) (out (refused Broken (pos 0, 0, 0)) (g, items))
    (closed_if_room g a items)))
