-- The network as the caller lends it: five columns and two counts.
use Rattle.tables.specs.declared.network.Network.{Network}
use Rattle.std.specs.Prelude.{ℕ, ◌+◌, ◌*◌, Bool, ◌&&◌, List, leb, eqb, ℤ, length}

pub record Net : Type 0 where
  -- per node: its total; its first outgoing and its first incoming edge
  pub weights : List ℤ
  pub heads : List ℕ
  -- per edge: its register number; the next edge of its source's outgoing and of its target's incoming list; its source and its target
  pub registers : List ℕ
  pub links : List ℕ
  pub ends : List ℕ
  -- how many rows of each kind are in use
  pub n : ℕ
  pub m : ℕ

abbrev pub net : List ℤ → List ℕ → List ℕ → List ℕ → List ℕ → ℕ → ℕ → Net
net weights heads registers links ends n m = record { weights = weights; heads = heads; registers = registers; links = links; ends = ends; n = n; m = m }

-- a network with other node columns, edge columns or counts
abbrev pub with_nodes : Net → List ℤ → List ℕ → Net
with_nodes g weights heads = net weights heads g.registers g.links g.ends g.n g.m

abbrev pub with_edges : Net → List ℕ → List ℕ → List ℕ → Net
with_edges g registers links ends = net g.weights g.heads registers links ends g.n g.m

abbrev pub with_counts : Net → ℕ → ℕ → Net
with_counts g n m = net g.weights g.heads g.registers g.links g.ends n m

-- the most rows of each kind
abbrev pub node_rows : ℕ
node_rows = 16384

abbrev pub edge_rows : ℕ
edge_rows = 65536

-- the cells that a node has in `heads`, and an edge in `links` and in `ends`
abbrev pub node_cells : ℕ
node_cells = 2

abbrev pub edge_cells : ℕ
edge_cells = 2

-- the place of a row's cell k: 0 for outgoing and the source, 1 for incoming and the target
abbrev pub node_cell : ℕ → ℕ → ℕ
node_cell a k = node_cells * a + k

abbrev pub edge_cell : ℕ → ℕ → ℕ
edge_cell e k = edge_cells * e + k

-- answer 1 is given exactly where this fails: rows within the limits, columns that agree in rows, counts within the rows lent
unfoldable pub fit : (weights heads registers links ends n m : ℕ) → Bool
fit weights heads registers links ends n m =
    leb weights node_rows && leb registers edge_rows
    && eqb heads (node_cells * weights) && eqb links (edge_cells * registers) && eqb ends (edge_cells * registers)
    && leb n weights && leb m registers

abbrev pub fits : Net → Bool
fits g = fit (length g.weights) (length g.heads) (length g.registers) (length g.links) (length g.ends) g.n g.m

-- what is lent to a call that changes nothing
abbrev pub net_of : Network → Net
net_of g = net g.weights.now g.heads.now g.registers.now g.links.now g.ends.now g.n g.m

-- what is lent to a call, as the call finds it and as it leaves it
pub record Loan (A : Type 0) : Type 0 where
  pub old : A
  pub new : A

abbrev pub loan : {A : Type 0} → A → A → Loan A
loan old new = record { old = old; new = new }

-- a column lent to a call
abbrev pub Lent : Type 0 → Type 0
Lent A = Loan (List A)

-- the network as a call finds it, and as the call leaves it
abbrev pub entering : List ℤ → List ℕ → List ℕ → List ℕ → List ℕ → ℕ → ℕ → Net
entering weights heads registers links ends n m = net weights heads registers links ends n m

abbrev pub leaving : List ℤ → List ℕ → List ℕ → List ℕ → List ℕ → ℕ → ℕ → Net
leaving weights heads registers links ends n m = net weights heads registers links ends n m
