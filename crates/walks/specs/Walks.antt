-- The walks along both lists of a node, into output tables.
use Rattle.std.specs.Prelude.{ℕ, ◌-◌, not, ◌&&◌, List, ◌++◌, ltb}
use Rattle.index.specs.declared.Refusal.TheVariants.{Tables, Broken}
use Rattle.tables.specs.Net.{Net, fits}
use Rattle.tables.specs.Answers.{Out, out, done, refused, unless, give}
use Rattle.lists.specs.declared.Pick.{Pick}
use Rattle.lists.specs.declared.Pick.TheVariants.{Every, To, ToNot}
use Rattle.lists.specs.declared.Item.{Item}
use Rattle.lists.specs.declared.Item.TheVariants.{Far, Weight}
use Rattle.lists.specs.Walk.{picks, broken, around}
use Rattle.legs.specs.Legs.{leg_at, legs_told, Tables3, give_three}

-- both lists are settled before the room for the items is tested; a missing node has no items
abbrev pub walked : {S : Type 0} → Net → ℕ → S → Out ℕ S → Out ℕ S
walked g a table given =
    unless (fits g) (out (refused Tables 0) table)
    (unless (ltb a g.n) (out (done 0) table)
    (unless (not (broken g 0 a) && not (broken g 1 a)) (out (refused Broken 0) table)
    given))

-- parallel edges repeat, and a self-loop gives the node itself, once
unfoldable pub neighbors : Net → ℕ → List ℕ → Out ℕ (List ℕ)
neighbors g a table = walked g a table (give (around g Far a) table)

unfoldable pub edge_weights : Net → ℕ → List ℕ → Out ℕ (List ℕ)
edge_weights g a table = walked g a table (give (around g Weight a) table)

-- the numbers of the rows whose far end is b
unfoldable pub edges_between : Net → ℕ → ℕ → List ℕ → Out ℕ (List ℕ)
edges_between g a b table = walked g a table (give (picks g 0 (To (record { 0 = b })) a ++ picks g 1 (ToNot (record { 0 = b }) (record { 0 = a })) a) table)

-- the numbers of all rows, incoming first; a self-loop comes twice
unfoldable pub edges_mut : Net → ℕ → List ℕ → Out ℕ (List ℕ)
edges_mut g a table = walked g a table (give (picks g 1 Every a ++ picks g 0 Every a) table)

-- number, source and target, the ends of incoming edges turned round
unfoldable pub edges : Net → ℕ → Tables3 → Out ℕ Tables3
edges g a t = walked g a t (give_three (λ item. around g item a) t)

-- the items of two legs from node a's heads, the first in direction k and the second in the other: what each walk into one table is
unfoldable pub walked_legs : Net → ℕ → Item → ℕ → Pick → Pick → List ℕ → Out ℕ (List ℕ)
walked_legs g a item k first second table =
    unless (fits g) (out (refused Tables 0) table)
    (unless (ltb a g.n) (out (done 0) table)
    (legs_told g.registers g.links g.ends g.m item (leg_at g.heads k first a) (leg_at g.heads (1 - k) second a) table))
