-- A call that is served, over plain columns: what its parts leave is what the definition says.
use Prim.{Unit, tt}
use Prim.Native.Nat.{ℕ, ◌+◌, ◌*◌}
use mathlib.Core.Path.{◌≡◌}
use mathlib.Core.List.{List}
use lib.IntN.{ℤ}
use Rattle.index.specs.Index.{END}
use Rattle.tables.specs.declared.row.Node.{Node}
use Rattle.tables.specs.Net.{Net, Lent, net, entering, leaving, with_nodes, with_counts, node_cells}
use Rattle.tables.specs.Parts.{WritesNode, LinksEdge, VacatesNodes, VacatesEdges}
use Rattle.tables.specs.Answers.{Out, out, done}
use Rattle.tables.specs.Rows.{bare, with_node, with_edge, filled, vacant_nodes, vacant_edges}
use Rattle.rows.specs.Calls.{linked}

pub node-written : (weights : Lent ℤ) (heads : Lent ℕ) (registers links ends : List ℕ) (n m : ℕ) (w : ℤ) (row : Node) → row ≡ bare w → WritesNode weights heads n row
    → out (done n) (net weights.new heads.new registers links ends (n + 1) m)
    ≡ out (done n) (with_counts (with_node (net weights.old heads.old registers links ends n m) n (bare w)) (n + 1) m)
unfolding with_node
node-written weights heads registers links ends n m w row r q = rw (q.weights_are, q.heads_are, r)

pub edge-linked : (weights : List ℤ) (heads registers links ends : Lent ℕ) (n m a b w : ℕ) → LinksEdge heads registers links ends m a b w
    → out (done m) (net weights heads.new registers.new links.new ends.new n (m + 1))
    ≡ out (done m) (linked (net weights heads.old registers.old links.old ends.old n m) a b w)
unfolding linked with_edge
edge-linked weights heads registers links ends n m a b w q = let r = q.row_is in rw (q.heads_are, r.registers_are, r.links_are, r.ends_are)

abbrev changed : Net → Out Unit Net
changed g = out (done tt) g

pub edges-vacated : (weights : List ℤ) (heads after : List ℕ) (registers links ends : Lent ℕ) (n m : ℕ) → after ≡ filled heads 0 (node_cells * n) END
    → VacatesEdges registers links ends 0 m
    → changed (net weights after registers.new links.new ends.new n 0)
    ≡ changed (with_counts (with_nodes (vacant_edges (net weights heads registers.old links.old ends.old n m) 0 m) weights
    (filled heads 0 (node_cells * n) END)) n 0)
unfolding vacant_edges
edges-vacated weights heads after registers links ends n m p q = rw (p, q.registers_are, q.links_are, q.ends_are)

pub all_vacated : (weights : Lent ℤ) (heads registers links ends : Lent ℕ) (n m : ℕ) → VacatesEdges registers links ends 0 m → VacatesNodes weights heads 0 n
    → changed (leaving weights.new heads.new registers.new links.new ends.new 0 0)
    ≡ changed (with_counts (vacant_nodes (vacant_edges (entering weights.old heads.old registers.old links.old ends.old n m) 0 m) 0 n) 0 0)
unfolding vacant_nodes vacant_edges
all_vacated weights heads registers links ends n m q p = rw (p.weights_are, p.heads_are, q.registers_are, q.links_are, q.ends_are)
