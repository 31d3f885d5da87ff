-- The five columns of a network beside the Rust's two vectors of rows.
use Prim.{Unit, tt}
use Rattle.std.specs.Prelude.{ℕ, zero, suc, ◌≡◌, List, [], pos, get_or}
use Rattle.std.proofs.Math.Option.{Option, none, some}
use Rattle.index.specs.declared.Refusal.{Refusal}
use Rattle.index.specs.declared.Refusal.TheVariants.{Nothing, Broken}
use Rattle.tables.specs.Net.{Net, node_cell, edge_cell}
use Rattle.tables.specs.Answers.{Told, Out, out, done, refused}
use Rattle.lists.specs.declared.Item.{Item}
use Rattle.lists.specs.declared.Item.TheVariants.{Number, Near, Far, Weight}
use Rattle.walker.specs.declared.Walker.{Walker}
use Rattle.walker.specs.Steps.{walker_of}
use Rattle.original.specs.Std.{Run, returns, panics, endless, ◌>>=◌, push, ◌!◌}
use Rattle.original.specs.Rust.{Node, Edge, Graph, graph}
use Rattle.original.specs.Iterators.{Around, EdgeReference}

-- row a of the nodes, row e of the edges
abbrev pub node_at : Net → ℕ → Node
node_at g a = record { weight = get_or g.weights a (pos 0); next = (get_or g.heads (node_cell a 0) 0, get_or g.heads (node_cell a 1) 0) }

abbrev pub edge_at : Net → ℕ → Edge
edge_at g e =
    record {
      weight = get_or g.registers e 0;
      next = (get_or g.links (edge_cell e 0) 0, get_or g.links (edge_cell e 1) 0);
      node = (get_or g.ends (edge_cell e 0) 0, get_or g.ends (edge_cell e 1) 0);
    }

-- the rows 0 to n - 1
abbrev pub rows_below : {A : Type 0} → ℕ → (ℕ → A) → List A
rows_below zero row = []
rows_below (suc n) row = push (rows_below n row) (row n)

-- the Rust's graph that has the rows of a network below its counts
unfoldable pub rows_of : Net → Graph
rows_of g = graph (rows_below g.n (node_at g)) (rows_below g.m (edge_at g))

-- what is told for the Rust's option: its value; for `None` a refusal
abbrev pub option_told : {A : Type 0} → Refusal → A → Option A → Told A
option_told why zeros none = refused why zeros
option_told why zeros (some x) = done x

-- what is told and left for a call that may panic: its value and its rows; for a panic a refusal, and the rows as they were
abbrev pub run_told : {A : Type 0} → Refusal → A → Graph → Run (A × Graph) → Out A Graph
run_told why zeros before (returns (x, rows)) = out (done x) rows
run_told why zeros before panics = out (refused why zeros) before
run_told why zeros before endless = out (refused Broken zeros) before

-- a call that leaves a graph and gives no value
abbrev pub valueless : Run Graph → Run (Unit × Graph)
valueless run = run >>= λ rows. returns (tt, rows)

-- what a call of ours tells and leaves, by the rows of the network
abbrev pub seen : {A : Type 0} → Out A Net → Out A Graph
seen o = out o.answer (rows_of o.after)

-- the Rust's call returns, neither panics nor goes on for ever, and P holds of what it returns
abbrev pub Ends : {A : Type 0} → Run A → (A → Type 0) → Type 0
Ends {A} run P = (x : A) × (run ≡ returns x) × P x

-- what `edges` tells of an edge that the Rust refers to: its number, its source and its target as they stand in the reference
abbrev pub referred : Item → EdgeReference → ℕ
referred Number edge = edge.index
referred Near edge = edge.node ! 0
referred Far edge = edge.node ! 1
referred Weight edge = edge.weight

-- our walker, where the iterator of `neighbors` stands, and that iterator, where our walker stands
abbrev pub walker_at : Around → Walker
walker_at it = walker_of it.skip_start (it.next ! 0) (it.next ! 1)

abbrev pub iterator_at : Net → Walker → Around
iterator_at g w = record { skip_start = w.start.0; edges = (rows_of g).edges; next = (w.outgoing.0, w.incoming.0) }

-- what a step of our walker tells, and where it leaves it, for a `next` of that iterator; one that goes on for ever is broken, and a panic cannot be
abbrev pub step_told : Walker → Run (Option ℕ × Around) → Out ℕ Walker
step_told w (returns (some b, it)) = out (done b) (walker_at it)
step_told w (returns (none, it)) = out (refused Nothing 0) (walker_at it)
step_told w panics = out (refused Broken 0) w
step_told w endless = out (refused Broken 0) w
