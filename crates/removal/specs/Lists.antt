-- What a removal leaves of a sound network, said of its lists: their edges, and the rows read.
use Rattle.std.specs.Prelude.{ℕ, suc, ◌+◌, ◌*◌, ◌-◌, ◌≤◌, ◌<◌, ◌≡◌, true, cond, List, [], ◌∷◌, map, eqb, length, get_or}
use Rattle.index.specs.Index.{END}
use Rattle.tables.specs.Net.{Net, fits}
use Rattle.tables.specs.Rows.{vacant_node, vacant_edge, node_row, edge_row}
use Rattle.tables.specs.Answers.{done}
use Rattle.lists.specs.Chain.{without}
use Rattle.sound.specs.Sound.{end_at, Sound}
use Rattle.removal.specs.Removal.{Gone}

-- the position of e in a list, from 0
abbrev pub pos : ℕ → List ℕ → ℕ
pos e [] = 0
pos e (x ∷ xs) = cond (eqb x e) 0 (suc (pos e xs))

-- row l under its new number e
abbrev pub renamed : (l e x : ℕ) → ℕ
renamed l e x = cond (eqb x l) e x

-- every list without e
abbrev pub left : ℕ → (ℕ → ℕ → List ℕ) → ℕ → ℕ → List ℕ
left e ls k a = without e (ls k a)

-- and the last row l under its new number: the other edges keep their order
abbrev pub less_edge : (l e : ℕ) → (ℕ → ℕ → List ℕ) → ℕ → ℕ → List ℕ
less_edge l e ls k a = map (renamed l e) (left e ls k a)

-- the rows before x in its two lists; `end k x` is its end of direction k
abbrev pub rows_before : (ℕ → ℕ → ℕ) → (ℕ → ℕ → List ℕ) → ℕ → ℕ
rows_before end ls x = pos x (ls 0 (end 0 x)) + pos x (ls 1 (end 1 x))

-- the rows that taking out e reads: those before it in its two lists, then, with it gone, those before the row l that moves, if one does
abbrev pub rows_read : (ℕ → ℕ → ℕ) → (ℕ → ℕ → List ℕ) → (l e : ℕ) → ℕ
rows_read end ls l e = rows_before end ls e + cond (eqb e l) 0 (rows_before end (left e ls) l)

-- no list has more than D edges
abbrev pub Longest : Net → (ℕ → ℕ → List ℕ) → ℕ → Type 0
Longest g ls D = (k a : ℕ) → k < 2 → a < g.n → length (ls k a) ≤ D

-- 'A row freed by a removal .. becomes vacant; other rows at or past the count are not touched': h is what was left of g
pub record Freed (g h : Net) : Type 0 where
  pub nodes : (c : ℕ) → h.n ≤ c → c < g.n → node_row h c ≡ vacant_node
  pub edges : (x : ℕ) → h.m ≤ x → x < g.m → edge_row h x ≡ vacant_edge
  pub nodes_past : (c : ℕ) → g.n ≤ c → node_row h c ≡ node_row g c
  pub edges-past : (x : ℕ) → g.m ≤ x → edge_row h x ≡ edge_row g x

-- edge e is out of the sound network g, whose lists were ls
pub record EdgeOut (g : Net) (ls : ℕ → ℕ → List ℕ) (e : ℕ) (o : Gone) : Type 0 where
  -- it is served: e's weight, the last row's number if that row moved, the rows read
  pub served : o.answer ≡ done (get_or g.registers e 0, cond (eqb e (g.m - 1)) END (g.m - 1), rows_read (end_at g) ls (g.m - 1) e)
  -- the rows read are at most 4 (D - 1)
  pub most : (D : ℕ) → Longest g ls D → rows_read (end_at g) ls (g.m - 1) e ≤ 4 * (D - 1)
  -- one edge less, and the tables still fit
  pub nodes : o.after.n ≡ g.n
  pub edges : o.after.m ≡ g.m - 1
  pub fit : fits o.after ≡ true
  -- the network is sound afterwards, and these are its lists
  pub sound : Sound o.after (less_edge (g.m - 1) e ls)
  -- the node weights stay; every edge left keeps its weight and its ends, and row e has those of the row that moved
  pub totals : o.after.weights ≡ g.weights
  pub weights : (x : ℕ) → x < g.m - 1 → get_or o.after.registers x 0 ≡ get_or g.registers (renamed e (g.m - 1) x) 0
  pub ends : (k x : ℕ) → k < 2 → x < g.m - 1 → end_at o.after k x ≡ end_at g k (renamed e (g.m - 1) x)
  -- the row freed, and those past the counts
  pub freed : Freed g o.after
