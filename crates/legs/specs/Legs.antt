-- A leg of a walk: one direction from a link on, and which rows it takes.
use Rattle.std.specs.Prelude.{ℕ, ◌+◌, ◌*◌, ◌<◌, ◌≤◌, ◌≡◌, Bool, not, ◌&&◌, List, ◌++◌, map, ltb, leb, length, get_or, Option, Some, None, Result, Ok, Err}
use Rattle.index.specs.declared.Refusal.{Refusal}
use Rattle.index.specs.declared.Refusal.TheVariants.{Broken, Short}
use Rattle.tables.specs.Net.{edge_rows, node_cell, edge_cells}
use Rattle.tables.specs.Answers.{Out, out, done, refused, unless, onto, give}
use Rattle.lists.specs.declared.Item.{Item}
use Rattle.lists.specs.declared.Item.TheVariants.{Number, Near, Far}
use Rattle.lists.specs.declared.Pick.{Pick}
use Rattle.lists.specs.Walk.{rows_from, taken_from, stop_from, item_of}
use Rattle.legs.specs.declared.parts.Leg.{Leg}
use Rattle.legs.specs.declared.parts.Settled.{Settled}
use Rattle.legs.specs.declared.parts.Prepared.{Prepared}

-- the leg from the head of node a's list in direction k
abbrev pub leg_at : List ℕ → ℕ → Pick → ℕ → Leg
leg_at heads k pick a = record { k = k; pick = pick; link = get_or heads (node_cell a k) 0 }

-- the rows that a leg takes, what it gives for them, and whether its list ends
abbrev pub leg_takes : List ℕ → List ℕ → ℕ → Leg → List ℕ
leg_takes links ends m leg = taken_from links ends m leg.k leg.pick leg.link

abbrev pub leg_gives : List ℕ → List ℕ → List ℕ → ℕ → Item → Leg → List ℕ
leg_gives registers links ends m item leg = map (item_of registers ends item leg.k) (leg_takes links ends m leg)

abbrev pub leg_ends : List ℕ → ℕ → Leg → Bool
leg_ends links m leg = not (ltb (stop_from links m leg.k leg.link) m)

-- two legs counted, unless a list does not end: the rows of the first, its items, the rows of the second, the items of both
abbrev pub settled : List ℕ → List ℕ → ℕ → Leg → Leg → Option Settled
settled links ends m first second =
    unless (leg_ends links m first && leg_ends links m second) None
    (Some (record {
      rows = length (rows_from links m first.k first.link);
      taken = length (leg_takes links ends m first);
      others = length (rows_from links m second.k second.link);
      count = length (leg_takes links ends m first) + length (leg_takes links ends m second);
    }))

-- two legs before anything is written: whether both lists end and the items fit a table of `room` cells; then the rows of the first and of the second
unfoldable pub prepared : List ℕ → List ℕ → ℕ → Leg → Leg → ℕ → Result Prepared Refusal
prepared links ends m first second room =
    unless (leg_ends links m first && leg_ends links m second) (Err Broken)
    (unless (leb (length (leg_takes links ends m first) + length (leg_takes links ends m second)) room) (Err Short)
    (Ok (record { rows = length (rows_from links m first.k first.link); others = length (rows_from links m second.k second.link) })))

-- what both give, one after the other, into an output table: 6 where either list is broken, before 7
abbrev pub legs_give : List ℕ → List ℕ → List ℕ → ℕ → Item → Leg → Leg → List ℕ
legs_give registers links ends m item first second = leg_gives registers links ends m item first ++ leg_gives registers links ends m item second

abbrev pub legs_told : List ℕ → List ℕ → List ℕ → ℕ → Item → Leg → Leg → List ℕ → Out ℕ (List ℕ)
legs_told registers links ends m item first second table =
    unless (leg_ends links m first && leg_ends links m second) (out (refused Broken 0) table)
    (give (legs_give registers links ends m item first second) table)

-- three output tables, an item a row
pub record Tables3 : Type 0 where
  pub numbers : List ℕ
  pub sources : List ℕ
  pub targets : List ℕ

abbrev pub tables3 : List ℕ → List ℕ → List ℕ → Tables3
tables3 numbers sources targets = record { numbers = numbers; sources = sources; targets = targets }

abbrev pub room_for : ℕ → Tables3 → Bool
room_for count t = leb count (length t.numbers) && leb count (length t.sources) && leb count (length t.targets)

-- number, near end and far end of each row, or 7: turned round so, an incoming edge too runs from the node of the walk
abbrev pub give_three : (Item → List ℕ) → Tables3 → Out ℕ Tables3
give_three items t =
    unless (room_for (length (items Number)) t) (out (refused Short 0) t)
    (out (done (length (items Number))) (tables3 (onto (items Number) t.numbers) (onto (items Near) t.sources) (onto (items Far) t.targets)))

-- the same of two legs, with 6 before 7
abbrev pub edges_told : List ℕ → List ℕ → List ℕ → ℕ → Leg → Leg → Tables3 → Out ℕ Tables3
edges_told registers links ends m first second t =
    unless (leg_ends links m first && leg_ends links m second) (out (refused Broken 0) t)
    (give_three (λ item. legs_give registers links ends m item first second) t)

-- the columns hold m edges, few enough for one table, and both legs have a direction
pub record Legs (registers links ends m : ℕ) (first second : Leg) : Type 0 where
  pub few : m ≤ edge_rows
  pub registers_hold : m ≤ registers
  pub links_hold : edge_cells * m ≤ links
  pub ends_hold : edge_cells * m ≤ ends
  pub first_way : first.k < 2
  pub second_way : second.k < 2

-- the lists have so many rows, and the table holds what the legs give
pub record Ready (registers links ends : List ℕ) (m : ℕ) (first : Leg) (rows : ℕ) (second : Leg) (others items : ℕ) : Type 0 where
  pub legs : Legs (length registers) (length links) (length ends) m first second
  pub first_rows : length (rows_from links m first.k first.link) ≡ rows
  pub second_rows : length (rows_from links m second.k second.link) ≡ others
  pub room : length (leg_takes links ends m first) + length (leg_takes links ends m second) ≤ items
