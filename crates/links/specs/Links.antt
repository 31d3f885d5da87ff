-- The search for an edge along the links of its lists, and links led elsewhere.
use Rattle.std.specs.Prelude.{ℕ, zero, suc, ◌+◌, Option, Some, None, cond, List, eqb, ltb, set}
use Rattle.tables.specs.Net.{Net, net, node_cell, edge_cell}
use Rattle.lists.specs.declared.Spot.{Spot}
use Rattle.lists.specs.declared.Spot.TheVariants.{Head, After}
use Rattle.lists.specs.Walk.{cell, link_in}
use Rattle.links.specs.declared.Located.{Located}

-- where a link leads to the edge that is sought, and the rows read before it; or it is in no list that can be followed to it
abbrev pub Search : Type 0
Search = Option (Spot × ℕ)

-- e is sought from spot s on, with `rows` rows read before and at most `left` to read: a link equal to e is found, another leads on
-- where it is below m, and all else is a failure
unfoldable pub seek : (Spot → ℕ) → (m e left : ℕ) → Spot → (rows : ℕ) → Search
seek lk m e zero s rows = cond (eqb (lk s) e) (Some (s, rows)) None
seek lk m e (suc left) s rows =
    cond (eqb (lk s) e) (Some (s, rows))
    (cond (ltb (lk s) m) (seek lk m e left (After (lk s)) (rows + 1)) None)

-- e in its node's list of one direction: from the head on, m rows at the most; a failure if that node is not below n
unfoldable pub searched : (Spot → ℕ) → (ℕ → ℕ) → (n m e : ℕ) → Search
searched lk node n m e = cond (ltb (node e) n) (seek lk m e m (Head (node e)) 0) None

-- both searches succeed, and their rows add up; or the edge is lost
abbrev pub join : Search → Search → Option Located
join (Some (s, q)) (Some (t, r)) = Some (record { outgoing = s; incoming = t; rows = q + r })
join (Some (s, q)) None = None
join None f = None

-- e in its source's outgoing and in its target's incoming list
unfoldable pub located : (heads links ends : List ℕ) → (n m e : ℕ) → Option Located
located heads links ends n m e =
    join (searched (link_in heads links 0) (cell ends 0) n m e) (searched (link_in heads links 1) (cell ends 1) n m e)

-- a column of heads, or of links, with link v at a spot of direction k
unfoldable pub heads_at : ℕ → Spot → ℕ → List ℕ → List ℕ
heads_at k (Head a) v heads = set heads (node_cell a k) v
heads_at k (After p) v heads = heads

unfoldable pub links_at : ℕ → Spot → ℕ → List ℕ → List ℕ
links_at k (Head a) v links = links
links_at k (After p) v links = set links (edge_cell p k) v

-- the network whose outgoing link at s leads to v, and whose incoming one at t leads to w
unfoldable pub led : Net → (s t : Spot) → (v w : ℕ) → Net
led g s t v w =
    net g.weights (heads_at 1 t w (heads_at 0 s v g.heads)) g.registers (links_at 1 t w (links_at 0 s v g.links)) g.ends g.n g.m
