-- The answer numbers of the order; 0 is `done`.
use Rattle.std.specs.Prelude.{ℕ}
use Rattle.index.specs.declared.Refusal.{Refusal}
use Rattle.index.specs.declared.Refusal.TheVariants.{Tables, Full, NoNode, NoEdge, Nothing, Broken, Short, NotImage, Version, NotCommand}
use Rattle.index.specs.declared.Refusal.TheVariants.{Taken, Beyond, NotBare, NoRanking, Outside, TooDeep, Fell, Overflow}

abbrev pub refusal_no : Refusal → ℕ
-- rows above the limit, n or m above the rows lent, or tables that disagree in rows; a script too long
refusal_no Tables = 1
-- no row for one more; image counts above the rows lent
refusal_no Full = 2
-- the named node is not below n
refusal_no NoNode = 3
-- the named edge is not below m
refusal_no NoEdge = 4
-- nothing found; `END` at a first or next edge; a walker at its end
refusal_no Nothing = 5
-- broken links
refusal_no Broken = 6
-- an output that holds fewer items than the answer needs
refusal_no Short = 7
-- an image shorter than its head, with a wrong mark, or of a wrong length
refusal_no NotImage = 8
-- an image of an unknown version
refusal_no Version = 9
-- a script line that is no command
refusal_no NotCommand = 10
-- the directory's entry of that register number names a row already
refusal_no Taken = 11
-- a register number that is not below the directory's length
refusal_no Beyond = 12
-- a node to be dropped that still has edges; no call gives this or those below yet
refusal_no NotBare = 13
-- lists that no ranking of the edges gives
refusal_no NoRanking = 14
-- a self-loop, a second waterway between two nodes or a ninth edge of one, where the profile allows none
refusal_no Outside = 15
-- a walk that would stand 65 nodes deep
refusal_no TooDeep = 16
-- a counter lower than the last
refusal_no Fell = 17
-- a weight that would leave 32 bits
refusal_no Overflow = 18
