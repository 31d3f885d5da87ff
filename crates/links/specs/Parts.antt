-- What the parts ask of their callers, and what they leave.
use Rattle.std.specs.Prelude.{ℕ, Option, Some, None, ◌*◌, ◌≤◌, ◌<◌, ◌≡◌, List, [], length, get_or, set}
use Rattle.tables.specs.Net.{Lent, net, node_cells, edge_cells, edge_rows, node_cell, edge_cell}
use Rattle.tables.specs.Parts.{EdgeRow}
use Rattle.tables.specs.Rows.{edge_row, vacant_edge, links_with, ends_with}
use Rattle.lists.specs.declared.Spot.{Spot}
use Rattle.lists.specs.declared.Spot.TheVariants.{Head, After}
use Rattle.lists.specs.Walk.{link_in}
use Rattle.links.specs.declared.Located.{Located}
use Rattle.links.specs.Links.{Search, seek, located, heads_at, links_at}

-- the columns hold n nodes and m edges, of which e is one
pub record Within (heads links ends n m e : ℕ) : Type 0 where
  pub heads_hold : node_cells * n ≤ heads
  pub links_hold : edge_cells * m ≤ links
  pub ends_hold : edge_cells * m ≤ ends
  pub edges_most : m ≤ edge_rows
  pub edge : e < m

-- a's list of direction k begins with `first`, and its rows, m at the most, are in a column of `links` cells
pub record Start (heads : List ℕ) (links m k a first : ℕ) : Type 0 where
  pub direction : k < 2
  pub head : node_cell a k < length heads
  pub first_is : get_or heads (node_cell a k) 0 ≡ first
  pub links_hold : edge_cells * m ≤ links

-- a column of heads, or of links, after a search in direction k: the link at the spot found leads to v; where e is lost it is as it was
abbrev pub heads_found : ℕ → Search → ℕ → List ℕ → List ℕ
heads_found k (Some (s, rows)) v heads = heads_at k s v heads
heads_found k None v heads = heads

abbrev pub links_found : ℕ → Search → ℕ → List ℕ → List ℕ
links_found k (Some (s, rows)) v links = links_at k s v links
links_found k None v links = links

-- e is sought in a's list of direction k, and the link to it leads to v
pub record ChangesLink (heads links : Lent ℕ) (m k a e v : ℕ) (r : Search) : Type 0 where
  pub answer_is : r ≡ seek (link_in heads.old links.old k) m e m (Head a) 0
  pub heads_are : heads.new ≡ heads_found k r v heads.old
  pub links_are : links.new ≡ links_found k r v links.old

-- a column of heads, or of links, after the searches in both lists of an edge: its outgoing link leads to v, its incoming one to w
abbrev pub heads_located : Option Located → (v w : ℕ) → List ℕ → List ℕ
heads_located (Some x) v w heads = heads_at 1 x.incoming w (heads_at 0 x.outgoing v heads)
heads_located None v w heads = heads

abbrev pub links_located : Option Located → (v w : ℕ) → List ℕ → List ℕ
links_located (Some x) v w links = links_at 1 x.incoming w (links_at 0 x.outgoing v links)
links_located None v w links = links

-- e is sought in both its lists, and the links to it lead to v and to w
pub record ChangesLinks (heads links : Lent ℕ) (ends : List ℕ) (n m e v w : ℕ) (r : Option Located) : Type 0 where
  pub answer_is : r ≡ located heads.old links.old ends n m e
  pub heads_are : heads.new ≡ heads_located r v w heads.old
  pub links_are : links.new ≡ links_located r v w links.old

-- the columns have a spot of direction k
unfoldable pub Place : (heads links k : ℕ) → Spot → Type 0
Place heads links k (Head a) = node_cell a k < heads
Place heads links k (After p) = edge_cell p k < links

-- an outgoing and an incoming spot
pub record Places (heads links : ℕ) (s t : Spot) : Type 0 where
  pub outgoing : Place heads links 0 s
  pub incoming : Place heads links 1 t

-- the links at both lead elsewhere
pub record Leads (heads links : Lent ℕ) (s t : Spot) (v w : ℕ) : Type 0 where
  pub heads_are : heads.new ≡ heads_at 1 t w (heads_at 0 s v heads.old)
  pub links_are : links.new ≡ links_at 1 t w (links_at 0 s v links.old)

-- the columns have the rows e and l
pub record Rows (registers links ends e l : ℕ) : Type 0 where
  pub edge : EdgeRow registers links ends e
  pub last : EdgeRow registers links ends l

-- row l is copied over row e and vacant
pub record MovesLast (registers links ends : Lent ℕ) (e l : ℕ) : Type 0 where
  pub registers_are : registers.new ≡ set (set registers.old e (get_or registers.old l 0)) l 0
  pub links_are : links.new ≡ links_with (links_with links.old e (edge_row (net [] [] [] links.old [] 0 0) l)) l vacant_edge
  pub ends_are : ends.new ≡ ends_with (ends_with ends.old e (edge_row (net [] [] [] [] ends.old 0 0) l)) l vacant_edge
