-- Demand 3: what taking out an edge or a node of a sound network reads, and what it leaves.
use Rattle.std.specs.Prelude.{ℕ, ◌+◌, ◌*◌, ◌-◌, ◌≤◌, ◌<◌, ◌≡◌, List, map, length}
use Rattle.tables.specs.Net.{Net}
use Rattle.lists.specs.Chain.{without}
use Rattle.lists.specs.declared.Item.TheVariants.{Weight}
use Rattle.lists.specs.Walk.{around}
use Rattle.sound.specs.Sound.{end_at, lists}
use Rattle.removal.specs.Removal.{remove_edge}
use Rattle.removal.specs.Lists.{renamed, rows_read, Longest, EdgeOut}
use Rattle.closing.specs.Closing.{remove_node}
use Rattle.closing.specs.Lists.{Renumbered, NodeOut}
use Rattle.demands.specs.Demand2.{SoundNet}

-- an edge of a sound network, taken out
pub record EdgeTaken (g : Net) (e : ℕ) : Type 0 where
  -- 'reads exactly the rows before it in its two lists, then, with it gone, those before the row that moves, if one does'
  pub reads : (remove_edge g e).answer.values.2 ≡ rows_read (end_at g) (lists g) (g.m - 1) e
  -- 'at most 4·(D-1)'
  pub most : (D : ℕ) → Longest g (lists g) D → (remove_edge g e).answer.values.2 ≤ 4 * (D - 1)
  -- 'The network is sound afterwards'
  pub sound : SoundNet (remove_edge g e).after
  -- 'and every list left keeps its other edges in their order, moved rows under their new numbers'
  pub order : (k a : ℕ) → k < 2 → a < g.n → lists (remove_edge g e).after k a ≡ map (renamed (g.m - 1) e) (without e (lists g k a))
  -- the whole answer, and every row, weight and end
  pub whole : EdgeOut g (lists g) e (remove_edge g e)

-- a node of a sound network, taken out, with room for the weights of its d edges
pub record NodeTaken (g : Net) (a : ℕ) (items : List ℕ) : Type 0 where
  -- 'reads at most 3·d·(D-1)+2·D rows, its check aside'
  pub most : (D : ℕ) → Longest g (lists g) D
      → (remove_node g a items).answer.values.1 ≤ 3 * length (around g Weight a) * (D - 1) + 2 * D
  -- 'The network is sound afterwards'
  pub sound : SoundNet (remove_node g a items).after.0
  -- 'and every list left keeps its other edges in their order, moved rows under their new numbers'
  pub order : (new : ℕ → ℕ) × Renumbered g (lists g) a (g.n - 1) (remove_node g a items).after.0 (lists (remove_node g a items).after.0) new
  -- the whole answer, and every row, weight and end
  pub whole : NodeOut g (lists g) a items (remove_node g a items)

pub record Demand3 : Type 0 where
  pub edge-taken : (g : Net) (e : ℕ) → SoundNet g → e < g.m → EdgeTaken g e
  pub node-taken : (g : Net) (a : ℕ) (items : List ℕ) → SoundNet g → a < g.n → length (around g Weight a) ≤ length items → NodeTaken g a items
