-- Numbers of rows, and the two directions.
use Rattle.std.specs.Prelude.{ℕ, Bool, cond, eqb}
use Rattle.index.specs.declared.EdgeDirection.{EdgeDirection}
use Rattle.index.specs.declared.EdgeDirection.TheVariants.{Outgoing, Incoming}

-- the number of no row: where a list ends, and what a vacant row holds in its links and ends
abbrev pub END : ℕ
END = 4294967295

abbrev pub is_end : ℕ → Bool
is_end x = eqb x END

-- the cell of a row that belongs to a direction: outgoing 0, incoming 1
abbrev pub number_of : EdgeDirection → ℕ
number_of Outgoing = 0
number_of Incoming = 1

-- the direction of a row's cell: outgoing first, then incoming
abbrev pub direction_of : ℕ → EdgeDirection
direction_of k = cond (eqb k 0) Outgoing Incoming
