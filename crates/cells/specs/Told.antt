-- An answer as other languages get it: a number returned, and the values left in lent cells.
use Rattle.std.specs.Prelude.{ℕ, List, [], ◌∷◌, get_or}
use Rattle.tables.specs.Answers.{Told, Out, out}
use Rattle.walker.specs.declared.Walker.{Walker}
use Rattle.walker.specs.Steps.{walker_of}

abbrev pub told : {A : Type 0} → ℕ → A → Told A
told number values = record { number = number; values = values }

-- a walker lent as three numbers: the node where it started, its next outgoing and its next incoming edge
abbrev pub walker_in : List ℕ → Walker
walker_in cells = walker_of (get_or cells 0 0) (get_or cells 1 0) (get_or cells 2 0)

abbrev pub cells_of : Walker → List ℕ
cells_of w = w.start.0 ∷ w.outgoing.0 ∷ w.incoming.0 ∷ []

-- an answer that tells, or leaves, a walker, with its three numbers for it
abbrev pub told_in_cells : Told Walker → Told (List ℕ)
told_in_cells t = told t.number (cells_of t.values)

abbrev pub left_in_cells : {A : Type 0} → Out A Walker → Out A (List ℕ)
left_in_cells o = out o.answer (cells_of o.after)
