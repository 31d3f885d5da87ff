-- What the parts answer, and what they ask of their callers.
use Rattle.std.specs.Prelude.{ℕ, ◌*◌, ◌<◌, ◌≤◌, ◌≡◌, cond, not, ◌&&◌, List, [], ◌∷◌, ltb, length, Option, Some, None}
use Rattle.tables.specs.Net.{edge_cells, edge_cell}
use Rattle.tables.specs.Answers.{Out, out, done, onto}
use Rattle.lists.specs.declared.Pick.{Pick}
use Rattle.lists.specs.declared.Found.{Found}
use Rattle.lists.specs.declared.Found.TheVariants as Found·
use Rattle.lists.specs.Walk.{rows_from, taken_from}

-- the first row that a walk takes; else where the list ends, unless it is broken
abbrev pub first_of : List ℕ → (m s : ℕ) → Found
first_of (e ∷ es) m s = Found·.At (record { 0 = e })
first_of [] m s = cond (ltb s m) Found·.Broken (Found·.End (record { 0 = s }))

-- how many rows each of two lists has, unless one is broken
unfoldable pub extents_of : List ℕ → (s : ℕ) → List ℕ → (t m : ℕ) → Option (ℕ × ℕ)
extents_of rows s others t m = cond (not (ltb s m) && not (ltb t m)) (Some (length rows, length others)) None

-- items at the front of a table that has room for them, and their number
unfoldable pub written : List ℕ → List ℕ → Out ℕ (List ℕ)
written items table = out (done (length items)) (onto items table)

-- the links of m edges are there, and k is a direction
pub record Links (links m k : ℕ) : Type 0 where
  pub links_hold : edge_cells * m ≤ links
  pub direction : k < 2

-- the columns hold the cells of m edges, and k is a direction
pub record Edges (links ends m k : ℕ) : Type 0 where
  pub links_hold : edge_cells * m ≤ links
  pub ends_hold : edge_cells * m ≤ ends
  pub direction : k < 2

-- row e has its cells, and k is a direction
pub record HasRow (registers ends k e : ℕ) : Type 0 where
  pub registers_hold : e < registers
  pub ends_hold : edge_cell e 1 < ends
  pub direction : k < 2

-- the columns hold m edges, and the list from `link` on has `rows` rows
pub record Known (links ends : List ℕ) (m k link rows : ℕ) : Type 0 where
  pub edges : Edges (length links) (length ends) m k
  pub all_rows : length (rows_from links m k link) ≡ rows

-- and the table has room for what the walk takes of it
pub record Gives (registers links ends : List ℕ) (m k : ℕ) (pick : Pick) (link rows items : ℕ) : Type 0 where
  pub known : Known links ends m k link rows
  pub registers_hold : m ≤ length registers
  pub room : length (taken_from links ends m k pick link) ≤ items
