-- The run of a whole script: its bytes in, the bytes of its answer lines out.
use Prim.{Unit}
use Rattle.std.specs.Prelude.{ℕ, ◌+◌, ◌*◌, ◌^◌, min, List, [], ◌∷◌, ◌++◌, map, leb, pos, length, replicate}
use Rattle.index.specs.declared.Refusal.TheVariants.{Tables, Short}
use Rattle.index.specs.Index.{END}
use Rattle.index.specs.Refusals.{refusal_no}
use Rattle.tables.specs.Net.{Net, net, node_cells, edge_cells}
use Rattle.tables.specs.Answers.{unless, onto}
use Rattle.legs.specs.Legs.{tables3}
use Rattle.text.specs.Lines.{lines}
use Rattle.reply.specs.Replies.{line_of}
use Rattle.commands.specs.Commands.{Replied}
use Rattle.dispatch.specs.Step.{State, state}
use Rattle.obeying.specs.Line.{line_answer}

-- a script has at most so many bytes, and so have its answers
abbrev pub most_bytes : ℕ
most_bytes = 16384

-- the rows of the network, and the items that each output table of a command holds
abbrev pub node_room : ℕ
node_room = 256

abbrev pub edge_room : ℕ
edge_room = 1024

abbrev pub item_room : ℕ
item_room = 2048

-- the answers of all lines, each line from the state that the one before it left; refused and bad ones don't stop them
unfoldable pub answers : List (List ℕ) → State → List (Replied State)
answers [] s = []
answers (line ∷ others) s = line_answer line s ∷ answers others (line_answer line s).after

-- what holds of each of them
abbrev pub Each : (Replied State → Type 0) → List (Replied State) → Type 0
Each P [] = Unit
Each P (o ∷ others) = P o × Each P others

-- the line that an answer is printed as
abbrev pub text_of : Replied State → List ℕ
text_of o = line_of o.reply o.after.tables.numbers

-- what a run comes to: its answer number and the bytes written
pub record Ran : Type 0 where
  pub number : ℕ
  pub bytes : List ℕ

abbrev pub ran : ℕ → List ℕ → Ran
ran number bytes = record { number = number; bytes = bytes }

-- answer lines written behind what is written already: only whole ones, and the first that ends past the limit stops the run with 7
unfoldable pub printed : ℕ → List ℕ → List (List ℕ) → Ran
printed limit written [] = ran 0 written
printed limit written (text ∷ others) =
    unless (leb (length written + length text) limit) (ran (refusal_no Short) written)
    (printed limit (written ++ text) others)

-- an empty network of so many rows, all vacant
abbrev pub empty_net : (nodes edges : ℕ) → Net
empty_net nodes edges =
    net (replicate nodes (pos 0)) (replicate (node_cells * nodes) END) (replicate edges 0) (replicate (edge_cells * edges) END) (replicate (edge_cells * edges) END) 0 0

-- where a run begins: an empty network of 256 node and 1,024 edge rows, and output tables of 2,048 items
unfoldable pub begun : State
begun = state (empty_net node_room edge_room) (tables3 (replicate item_room 0) (replicate item_room 0) (replicate item_room 0))

-- the lines of a script obeyed from a state on, and their answers printed up to the limit
abbrev pub run_from : State → ℕ → List ℕ → Ran
run_from s limit script = printed limit [] (map text_of (answers (lines script) s))

-- a script run into an output of `room` bytes: 1 where the script is too long; a longer output counts as 16,384
unfoldable pub run : List ℕ → ℕ → Ran
run script room = unless (leb (length script) most_bytes) (ran (refusal_no Tables) []) (run_from begun (min room most_bytes) script)

-- what is returned, the answer number times 2^32 plus the bytes written; and the output: these bytes, then what it held
abbrev pub packed : Ran → List ℕ → ℕ × List ℕ
packed r output = (r.number * 2 ^ 32 + length r.bytes, onto r.bytes output)
