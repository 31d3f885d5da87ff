-- When a network is sound: in the order's words, and by its lists' members.
use Rattle.std.specs.Prelude.{ℕ, suc, ◌<◌, ◌≡◌, cond, List, [], ◌∷◌, eqb}
use Rattle.tables.specs.Net.{Net}
use Rattle.lists.specs.declared.Spot.{Spot}
use Rattle.lists.specs.declared.Spot.TheVariants.{Head}
use Rattle.lists.specs.Chain.{Chain, In}
use Rattle.lists.specs.Walk.{cell, link_at, rows_from}

-- how often x stands in a list
abbrev pub times : ℕ → List ℕ → ℕ
times x [] = 0
times x (y ∷ ys) = cond (eqb y x) (suc (times x ys)) (times x ys)

-- the node that edge x has at its end of direction k: its source for outgoing, its target for incoming
abbrev pub end_at : Net → ℕ → ℕ → ℕ
end_at g k x = cell g.ends k x

-- sound, where ls k a is node a's list in direction k; rows at or past the counts, and weights, have no part in it
pub record Sound (g : Net) (ls : ℕ → ℕ → List ℕ) : Type 0 where
  -- all lists end at `END`
  pub all_end : (k a : ℕ) → k < 2 → a < g.n → Chain (link_at g k) g.m (Head a) (ls k a)
  -- each edge has a source and a target
  pub has_ends : (k x : ℕ) → k < 2 → x < g.m → end_at g k x < g.n
  -- it stands once in its source's outgoing list, once in its target's incoming list
  pub once : (k x : ℕ) → k < 2 → x < g.m → times x (ls k (end_at g k x)) ≡ 1
  -- and in no other
  pub no_other : (k x a : ℕ) → k < 2 → x < g.m → a < g.n → (end_at g k x ≡ a → ⊥) → times x (ls k a) ≡ 0

-- the same of one direction by members: lk has its links, node the ends of its edges, ls a is node a's list
pub record Lists (n m : ℕ) (lk : Spot → ℕ) (node : ℕ → ℕ) (ls : ℕ → List ℕ) : Type 0 where
  -- from each head the links lead through the list to `END`
  pub chain : (a : ℕ) → a < n → Chain lk m (Head a) (ls a)
  -- a member has that node at that end
  pub own : (a : ℕ) → a < n → (x : ℕ) → In x (ls a) → node x ≡ a
  -- every edge is listed
  pub has_end : (x : ℕ) → x < m → node x < n
  pub listed : (x : ℕ) → x < m → In x (ls (node x))

-- both directions of a network by members
abbrev pub Listed : Net → (ℕ → ℕ → List ℕ) → Type 0
Listed g ls = (k : ℕ) → k < 2 → Lists g.n g.m (link_at g k) (end_at g k) (ls k)

-- the lists as a walk meets them
abbrev pub lists : Net → ℕ → ℕ → List ℕ
lists g k a = rows_from g.links g.m k (link_at g k (Head a))
