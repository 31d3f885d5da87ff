-- What a node's removal leaves of a sound network, said of its lists: their edges, and the rows read.
use Rattle.std.specs.Prelude.{ℕ, ◌+◌, ◌*◌, ◌-◌, ◌≤◌, ◌<◌, ◌≡◌, true, cond, not, ◌&&◌, List, map, eqb, pos, length, get_or}
use Rattle.tables.specs.Net.{Net, fits}
use Rattle.tables.specs.Answers.{done, onto}
use Rattle.lists.specs.declared.Item.TheVariants.{Weight}
use Rattle.lists.specs.Walk.{around, filter}
use Rattle.sound.specs.Sound.{end_at, Sound}
use Rattle.removal.specs.Lists.{renamed, Longest, Freed}
use Rattle.stripping.specs.Lists.{Listing, listing, list_out, list_read}
use Rattle.dropping.specs.Drop.{node_moved}
use Rattle.closing.specs.Closing.{Closed}

-- what is left of the lists, and the rows read: the outgoing list is emptied, then the incoming one, then the last node's rows are visited
abbrev pub less_node : (a b : ℕ) → Listing → ℕ → ℕ → List ℕ
less_node a b N = node_moved a b (list_out 1 a (list_out 0 a N)).list

abbrev pub node_read : (a b : ℕ) → Listing → ℕ
node_read a b N =
    let M = list_out 0 a N in
    let L = list_out 1 a M in
    list_read 0 a N + list_read 1 a M + cond (eqb a b) 0 (length (L.list 0 b) + length (L.list 1 b))

-- the edges of a list that have no end at node a
abbrev pub others : Net → ℕ → List ℕ → List ℕ
others g a xs = filter (λ x. not (eqb (end_at g 0 x) a) && not (eqb (end_at g 1 x) a)) xs

-- what became of an edge x that is left: where it stands now, it has its weight and its ends
pub record Stays (g h : Net) (a b x y : ℕ) : Type 0 where
  pub in_use : y < h.m
  pub weight : get_or h.registers y 0 ≡ get_or g.registers x 0
  pub ends : (k : ℕ) → k < 2 → end_at h k y ≡ renamed b a (end_at g k x)

-- `new x` is the number of the edge that was x: every list left keeps its other edges in their order, the last node b has the number a
pub record Renumbered (g : Net) (ls : ℕ → ℕ → List ℕ) (a b : ℕ) (h : Net) (hs : ℕ → ℕ → List ℕ) (new : ℕ → ℕ) : Type 0 where
  pub order : (k c : ℕ) → k < 2 → c < g.n → (c ≡ a → ⊥) → hs k (renamed b a c) ≡ map new (others g a (ls k c))
  pub stays : (x : ℕ) → x < g.m → (end_at g 0 x ≡ a → ⊥) → (end_at g 1 x ≡ a → ⊥) → Stays g h a b x (new x)

-- node a is out of the sound network g, whose lists were ls; `items` is the table lent for the weights
pub record NodeOut (g : Net) (ls : ℕ → ℕ → List ℕ) (a : ℕ) (items : List ℕ) (o : Closed) : Type 0 where
  -- it is served: a's weight, the rows read, and how many edges it had, a self-loop once
  pub served : o.answer ≡ done (get_or g.weights a (pos 0), node_read a (g.n - 1) (listing g ls), length (around g Weight a))
  -- the weights are those that `edge_weights` gives before
  pub given : o.after.1 ≡ onto (around g Weight a) items
  -- with d edges, the rows read are at most 3 d (D - 1) + 2 D
  pub most : (D : ℕ) → Longest g ls D → node_read a (g.n - 1) (listing g ls) ≤ 3 * length (around g Weight a) * (D - 1) + 2 * D
  -- one node and its edges less, and the tables still fit
  pub nodes : o.after.0.n ≡ g.n - 1
  pub edges : o.after.0.m + length (around g Weight a) ≡ g.m
  pub fit : fits o.after.0 ≡ true
  -- the network is sound afterwards, and these are its lists
  pub sound : Sound o.after.0 (less_node a (g.n - 1) (listing g ls))
  -- the other edges in their order, each with its weight and its ends
  pub renumbered : (new : ℕ → ℕ) × Renumbered g ls a (g.n - 1) o.after.0 (less_node a (g.n - 1) (listing g ls)) new
  -- the other nodes with their weights
  pub totals : (c : ℕ) → c < g.n - 1 → get_or o.after.0.weights c (pos 0) ≡ get_or g.weights (renamed a (g.n - 1) c) (pos 0)
  -- the rows freed, and those past the counts
  pub freed : Freed g o.after.0
