-- What each command does, by the call that it stands for, and what it replies. A letter is given by its byte.
use Rattle.std.specs.Prelude.{ℕ, Some, None, cond, List, eqb, ℤ, pos}
use Rattle.index.specs.Index.{is_end}
use Rattle.tables.specs.Net.{Net}
use Rattle.tables.specs.Answers.{Told, Out}
use Rattle.rows.specs.Calls.{add_node, add_edge, clear_edges, clear}
use Rattle.legs.specs.Legs.{Tables3}
use Rattle.walks.specs.Walks.{neighbors, edges, edges_mut, edges_between}
use Rattle.find.specs.Find.{find_edge, update_edge}
use Rattle.walker.specs.Sums.{sum_around}
use Rattle.sound.specs.Check.{checked, told_checked}
use Rattle.removal.specs.Removal.{remove_edge}
use Rattle.closing.specs.Closing.{remove_node}
use Rattle.reply.specs.declared.Reply.{Reply}
use Rattle.reply.specs.declared.Value.TheVariants.{Number, NoRow}
use Rattle.reply.specs.Replies.{bare_reply}

-- the reply of a served command, behind letter and 0: nothing more
abbrev pub nothing : {A : Type 0} → ℕ → A → Reply
nothing letter values = bare_reply letter 0

-- one value
abbrev pub one_value : ℕ → ℤ → Reply
one_value letter z = record { letter = letter; number = 0; first = Some (Number z); second = None; third = None; items = 0 }

-- the number of a node or an edge
abbrev pub one_number : ℕ → ℕ → Reply
one_number letter x = one_value letter (pos x)

-- a count, and as many items of the output table
abbrev pub counted : ℕ → ℕ → Reply
counted letter count = record { letter = letter; number = 0; first = Some (Number (pos count)); second = None; third = None; items = count }

-- an edge taken out: its weight, the old number of the row that moved or `-`, the rows read
abbrev pub edge_gone : ℕ → ℕ × ℕ × ℕ → Reply
edge_gone letter (w, moved, rows) =
    record {
      letter = letter;
      number = 0;
      first = Some (Number (pos w));
      second = Some (cond (is_end moved) NoRow (Number (pos moved)));
      third = Some (Number (pos rows));
      items = 0;
    }

-- a node taken out: its weight, the rows read, how many edges went with it, and their weights
abbrev pub node_gone : ℕ → ℤ × ℕ × ℕ → Reply
node_gone letter (w, rows, count) =
    record {
      letter = letter;
      number = 0;
      first = Some (Number w);
      second = Some (Number (pos rows));
      third = Some (Number (pos count));
      items = count;
    }

-- the check: the rows read
abbrev pub rows_read : ℕ → ℕ × ℕ × ℕ → Reply
rows_read letter (rows, direction, node) = one_number letter rows

-- an answer as a reply: its values where it is served, letter and number alone where it is refused
abbrev pub reply_to : {A : Type 0} → ℕ → (ℕ → A → Reply) → Told A → Reply
reply_to letter served told = cond (eqb told.number 0) (served letter told.values) (bare_reply letter told.number)

-- a reply, and what the command may have changed
pub record Replied (S : Type 0) : Type 0 where
  pub reply : Reply
  pub after : S

abbrev pub replied : {S : Type 0} → Reply → S → Replied S
replied reply after = record { reply = reply; after = after }

abbrev pub replies : {A S : Type 0} → ℕ → (ℕ → A → Reply) → Out A S → Replied S
replies letter served o = replied (reply_to letter served o.answer) o.after

-- N w: one more node
unfoldable pub add_node_line : Net → ℤ → Replied Net
add_node_line g w = replies 78 one_number (add_node g w)

-- E a b w: one more edge
unfoldable pub add_edge_line : Net → (a b w : ℕ) → Replied Net
add_edge_line g a b w = replies 69 one_number (add_edge g a b w)

-- U a b w: the edge between two nodes gets a weight, or one is added
unfoldable pub update_edge_line : Net → (a b w : ℕ) → Replied Net
update_edge_line g a b w = replies 85 one_number (update_edge g a b w)

-- F a b: the edge between two nodes
unfoldable pub find_edge_line : Net → (a b : ℕ) → Reply
find_edge_line g a b = reply_to 70 one_number (find_edge g a b)

-- X e: an edge taken out
unfoldable pub remove_edge_line : Net → ℕ → Replied Net
remove_edge_line g e = replies 88 edge_gone (remove_edge g e)

-- D a: a node taken out, with its edges
unfoldable pub remove_node_line : Net → ℕ → List ℕ → Replied (Net × List ℕ)
remove_node_line g a items = replies 68 node_gone (remove_node g a items)

-- W a: the neighbours of a node
unfoldable pub neighbors_line : Net → ℕ → List ℕ → Replied (List ℕ)
neighbors_line g a items = replies 87 counted (neighbors g a items)

-- G a: the numbers of its edges; their ends go to two more tables
unfoldable pub edges_line : Net → ℕ → Tables3 → Replied Tables3
edges_line g a tables = replies 71 counted (edges g a tables)

-- M a: the same in the order of `edges_mut`
unfoldable pub edges_mut_line : Net → ℕ → List ℕ → Replied (List ℕ)
edges_mut_line g a items = replies 77 counted (edges_mut g a items)

-- B a b: the edges between two nodes
unfoldable pub edges_between_line : Net → (a b : ℕ) → List ℕ → Replied (List ℕ)
edges_between_line g a b items = replies 66 counted (edges_between g a b items)

-- A a: the sum around a node
unfoldable pub sum_around_line : Net → ℕ → Reply
sum_around_line g a = reply_to 65 one_value (sum_around g a)

-- S: the check
unfoldable pub check_line : Net → Reply
check_line g = reply_to 83 rows_read (told_checked (checked g))

-- C: all edges taken out
unfoldable pub clear_edges_line : Net → Replied Net
clear_edges_line g = replies 67 nothing (clear_edges g)

-- Z: all nodes and edges
unfoldable pub clear_line : Net → Replied Net
clear_line g = replies 90 nothing (clear g)
