-- The lists of a network: where a link stands, and the rows that are met from a link on.
use Rattle.std.specs.Prelude.{ℕ, zero, suc, ◌-◌, Bool, true, cond, not, ◌&&◌, List, [], ◌∷◌, ◌++◌, map, ltb, eqb, get_or}
pub use Rattle.std.specs.Prelude.{filter}
use Rattle.tables.specs.Net.{Net, node_cell, edge_cell}
use Rattle.lists.specs.declared.Spot.{Spot}
use Rattle.lists.specs.declared.Spot.TheVariants.{Head, After}
use Rattle.lists.specs.declared.Pick.{Pick}
use Rattle.lists.specs.declared.Pick.TheVariants.{Every, To, NotTo, ToNot}
use Rattle.lists.specs.declared.Item.{Item}
use Rattle.lists.specs.declared.Item.TheVariants.{Number, Near, Far, Weight}

-- the cell of row e in direction k: in `links` its next edge, in `ends` the node whose list that is
abbrev pub cell : List ℕ → ℕ → ℕ → ℕ
cell column k e = get_or column (edge_cell e k) 0

-- one direction of two columns, or of a network: the link that stands at a spot
abbrev pub link_in : List ℕ → List ℕ → ℕ → Spot → ℕ
link_in heads links k (Head a) = get_or heads (node_cell a k) 0
link_in heads links k (After e) = cell links k e

abbrev pub link_at : Net → ℕ → Spot → ℕ
link_at g k = link_in g.heads g.links k

-- the rows met from link e on, at most `left` of them: a list ends at any link not below m
unfoldable pub walk : (ℕ → ℕ) → (m left e : ℕ) → List ℕ
walk next m zero e = []
walk next m (suc left) e = cond (ltb e m) (e ∷ walk next m left (next e)) []

-- the link at which that walk stops; it is broken where this is still below m
unfoldable pub stop : (ℕ → ℕ) → (m left e : ℕ) → ℕ
stop next m zero e = e
stop next m (suc left) e = cond (ltb e m) (stop next m left (next e)) e

-- whether a walk takes a row, by its far end
abbrev pub picked : Pick → ℕ → Bool
picked Every far = true
picked (To b) far = eqb far b.0
picked (NotTo a) far = not (eqb far a.0)
picked (ToNot b a) far = not (eqb far a.0) && eqb far b.0

-- what a walk in direction k gives for row e: its number, the end in whose list it stands, the other end, its weight
abbrev pub item_of : List ℕ → List ℕ → Item → ℕ → ℕ → ℕ
item_of registers ends Number k e = e
item_of registers ends Near k e = cell ends k e
item_of registers ends Far k e = cell ends (1 - k) e
item_of registers ends Weight k e = get_or registers e 0

-- the list in direction k from link e on: its rows, those that a walk takes, and the link where it stops after at most m rows
abbrev pub rows_from : List ℕ → (m k e : ℕ) → List ℕ
rows_from links m k e = walk (cell links k) m m e

abbrev pub taken_from : List ℕ → List ℕ → (m k : ℕ) → Pick → ℕ → List ℕ
taken_from links ends m k pick e = filter (λ x. picked pick (cell ends (1 - k) x)) (rows_from links m k e)

abbrev pub stop_from : List ℕ → (m k e : ℕ) → ℕ
stop_from links m k e = stop (cell links k) m m e

-- node a's list in direction k: the rows that a walk takes of it, and whether it is broken
abbrev pub picks : Net → ℕ → Pick → ℕ → List ℕ
picks g k pick a = taken_from g.links g.ends g.m k pick (link_at g k (Head a))

abbrev pub broken : Net → ℕ → ℕ → Bool
broken g k a = ltb (stop_from g.links g.m k (link_at g k (Head a))) g.m

-- what a walk in direction k gives for row e
abbrev pub gives : Net → Item → ℕ → ℕ → ℕ
gives g item k e = item_of g.registers g.ends item k e

-- the walk around node a: its outgoing list, then its incoming list without self-loops
abbrev pub around : Net → Item → ℕ → List ℕ
around g item a = map (gives g item 0) (picks g 0 Every a) ++ map (gives g item 1) (picks g 1 (NotTo (record { 0 = a })) a)
