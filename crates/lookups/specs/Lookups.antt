-- What each lookup and each set of one row answers, and the network that it leaves.
use Prim.{Unit, tt}
use Rattle.std.specs.Prelude.{ℕ, not, ltb, ℤ, pos, get_or, set}
use Rattle.index.specs.declared.EdgeDirection.{EdgeDirection}
use Rattle.index.specs.declared.Refusal.TheVariants.{Tables, NoNode, NoEdge, Nothing}
use Rattle.index.specs.Index.{is_end, number_of}
use Rattle.tables.specs.Net.{Net, with_nodes, with_edges, fits, node_cell, edge_cell}
use Rattle.tables.specs.Answers.{Told, Out, out, done, refused, unless}

unfoldable pub node_weight : Net → ℕ → Told ℤ
node_weight g a =
    unless (fits g) (refused Tables (pos 0))
    (unless (ltb a g.n) (refused NoNode (pos 0))
    (done (get_or g.weights a (pos 0))))

unfoldable pub edge_weight : Net → ℕ → Told ℕ
edge_weight g e =
    unless (fits g) (refused Tables 0)
    (unless (ltb e g.m) (refused NoEdge 0)
    (done (get_or g.registers e 0)))

unfoldable pub edge_endpoints : Net → ℕ → Told (ℕ × ℕ)
edge_endpoints g e =
    unless (fits g) (refused Tables (0, 0))
    (unless (ltb e g.m) (refused NoEdge (0, 0))
    (done (get_or g.ends (edge_cell e 0) 0, get_or g.ends (edge_cell e 1) 0)))

-- a link as it stands; `END` alone is nothing
abbrev pub link_told : ℕ → Told ℕ
link_told e = unless (not (is_end e)) (refused Nothing 0) (done e)

unfoldable pub first_edge : Net → ℕ → EdgeDirection → Told ℕ
first_edge g a d =
    unless (fits g) (refused Tables 0)
    (unless (ltb a g.n) (refused NoNode 0)
    (link_told (get_or g.heads (node_cell a (number_of d)) 0)))

unfoldable pub next_edge : Net → ℕ → EdgeDirection → Told ℕ
next_edge g e d =
    unless (fits g) (refused Tables 0)
    (unless (ltb e g.m) (refused NoEdge 0)
    (link_told (get_or g.links (edge_cell e (number_of d)) 0)))

unfoldable pub set_node_weight : Net → ℕ → ℤ → Out Unit Net
set_node_weight g a w =
    unless (fits g) (out (refused Tables tt) g)
    (unless (ltb a g.n) (out (refused NoNode tt) g)
    (out (done tt) (with_nodes g (set g.weights a w) g.heads)))

unfoldable pub set_edge_weight : Net → ℕ → ℕ → Out Unit Net
set_edge_weight g e w =
    unless (fits g) (out (refused Tables tt) g)
    (unless (ltb e g.m) (out (refused NoEdge tt) g)
    (out (done tt) (with_edges g (set g.registers e w) g.links g.ends)))
