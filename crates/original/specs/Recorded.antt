-- A sample of calls, with what graph.rs was recorded to answer and the rows that it left. The definitions compute to the same: proofs/Sampled.antt.
use Rattle.std.specs.Prelude.{ℕ, cond, List, [], ◌∷◌, map, ℤ, pos, negsuc}
use Rattle.std.proofs.Math.Option.{Option}
use Rattle.index.specs.declared.EdgeDirection.{EdgeDirection}
use Rattle.index.specs.declared.EdgeDirection.TheVariants.{Outgoing, Incoming}
use Rattle.index.specs.Index.{END}
use Rattle.original.specs.Std.{Run, returns, panics, ◌>>=◌, on_option, ◌!◌}
use Rattle.original.specs.Rust.{Node, Edge, Graph, graph}
use Rattle.original.specs.Rust as Rust
use Rattle.original.specs.Iterators.{EdgeReference}
use Rattle.original.specs.Iterators as Iterators

-- a call of graph.rs; `SetNodeWeight` and `SetEdgeWeight` are `graph[a] = w` and `graph[e] = w`, and `Rows` puts any rows in place of all
pub data Call : Type 0 where
  Rows : Graph → Call
  AddNode : ℤ → Call
  AddEdge : (a b w : ℕ) → Call
  UpdateEdge : (a b w : ℕ) → Call
  SetNodeWeight : ℕ → ℤ → Call
  SetEdgeWeight : (e w : ℕ) → Call
  NodeWeight : ℕ → Call
  EdgeWeight : ℕ → Call
  EdgeEndpoints : ℕ → Call
  FirstEdge : ℕ → EdgeDirection → Call
  NextEdge : ℕ → EdgeDirection → Call
  FindEdge : (a b : ℕ) → Call
  ContainsEdge : (a b : ℕ) → Call
  Neighbors : ℕ → Call
  EdgesOf : ℕ → Call
  EdgeWeights : ℕ → Call
  EdgesBetween : (a b : ℕ) → Call
  EdgesMut : ℕ → Call
  EdgeWeightsMut : ℕ → Call
  AllEdgeWeights : Call
  RemoveEdge : ℕ → Call
  RemoveNode : ℕ → Call
  ClearEdges : Call
  Clear : Call

-- what it gives: `None`, numbers, or a node's weight and numbers
pub data Answer : Type 0 where
  Nothing : Answer
  Numbers : List ℕ → Answer
  Weight : ℤ → List ℕ → Answer

-- an option of one number, and of two
abbrev pub one : Option ℕ → Answer
one found = on_option found Nothing (λ x. Numbers (x ∷ []))

abbrev pub two : Option (ℕ × ℕ) → Answer
two found = on_option found Nothing (λ (x, y). Numbers (x ∷ y ∷ []))

-- number, source, target and weight of each edge
abbrev pub spread : List EdgeReference → List ℕ
spread [] = []
spread (edge ∷ found) = edge.index ∷ (edge.node ! 0) ∷ (edge.node ! 1) ∷ edge.weight ∷ spread found

-- the call on the definitions: its answer, and the rows afterwards
unfoldable pub perform : Call → Graph → Run (Answer × Graph)
perform (Rows rows) g = returns (Numbers [], rows)
perform (AddNode w) g = Rust.add_node g w >>= λ (a, g'). returns (Numbers (a ∷ []), g')
perform (AddEdge a b w) g = Rust.add_edge g a b w >>= λ (e, g'). returns (Numbers (e ∷ []), g')
perform (UpdateEdge a b w) g = Rust.update_edge g a b w >>= λ (e, g'). returns (Numbers (e ∷ []), g')
perform (SetNodeWeight a w) g = Rust.index_mut_node g a w >>= λ g'. returns (Numbers [], g')
perform (SetEdgeWeight e w) g = Rust.index_mut_edge g e w >>= λ g'. returns (Numbers [], g')
perform (NodeWeight a) g = returns (on_option (Rust.node_weight g a) Nothing (λ w. Weight w []), g)
perform (EdgeWeight e) g = returns (one (Rust.edge_weight g e), g)
perform (EdgeEndpoints e) g = returns (two (Rust.edge_endpoints g e), g)
perform (FirstEdge a d) g = returns (one (Rust.first_edge g a d), g)
perform (NextEdge e d) g = returns (one (Rust.next_edge g e d), g)
perform (FindEdge a b) g = Rust.find_edge g a b >>= λ found. returns (one found, g)
perform (ContainsEdge a b) g = Rust.contains_edge g a b >>= λ holds. returns (Numbers (cond holds 1 0 ∷ []), g)
perform (Neighbors a) g = Iterators.neighbors g a >>= λ items. returns (Numbers items, g)
perform (EdgesOf a) g = Iterators.edges g a >>= λ found. returns (Numbers (spread found), g)
perform (EdgeWeights a) g = Iterators.edge_weights g a >>= λ items. returns (Numbers items, g)
perform (EdgesBetween a b) g = Iterators.edges_between g a b >>= λ found. returns (Numbers (map (λ (edge : EdgeReference). edge.index) found), g)
perform (EdgesMut a) g = Iterators.edges_mut g a >>= λ rows. returns (Numbers rows, g)
perform (EdgeWeightsMut a) g = Iterators.edge_weights_mut g a >>= λ rows. returns (Numbers rows, g)
perform AllEdgeWeights g = returns (Numbers (Iterators.all_edge_weights g), g)
perform (RemoveEdge e) g = Rust.remove_edge g e >>= λ (w, g'). returns (one w, g')
perform (RemoveNode a) g = Rust.remove_node_with g a >>= λ (w, given, g'). returns (on_option w Nothing (λ x. Weight x given), g')
perform ClearEdges g = returns (Numbers [], Rust.clear_edges g)
perform Clear g = returns (Numbers [], Rust.clear g)

-- calls one after the other
unfoldable pub made : List Call → Graph → Run Graph
made [] g = returns g
made (call ∷ calls) g = perform call g >>= λ (answer, g'). made calls g'

-- a node row: weight; links. An edge row: weight; links; ends
abbrev pub node : ℤ → (outgoing incoming : ℕ) → Node
node weight outgoing incoming = record { weight = weight; next = (outgoing, incoming) }

abbrev pub edge : (weight outgoing incoming source target : ℕ) → Edge
edge weight outgoing incoming source target = record { weight = weight; next = (outgoing, incoming); node = (source, target) }

-- a case: the calls that make the network, the call that is tried, what graph.rs answers and the rows that it leaves
pub record Case : Type 0 where
  pub before : List Call
  pub tried : Call
  pub outcome : Run (Answer × Graph)

abbrev pub case : List Call → Call → Run (Answer × Graph) → Case
case before tried outcome = record { before = before; tried = tried; outcome = outcome }

-- what the definitions make of a case
abbrev pub computed : Case → Run (Answer × Graph)
computed c = made c.before (graph [] []) >>= perform c.tried

-- recorded from graph.rs
abbrev pub nothing : List Call
nothing = []

abbrev pub nothing_rows : Graph
nothing_rows = graph [] []

abbrev pub network_a : List Call
network_a = AddNode (pos 5) ∷ AddNode (negsuc 2) ∷ AddNode (pos 8) ∷ AddEdge 0 1 10 ∷ AddEdge 1 2 11 ∷ AddEdge 0 2 12 ∷ AddEdge 1 1 13 ∷ []

abbrev pub network_a_rows : Graph
network_a_rows = graph (node (pos 5) 2 END ∷ node (negsuc 2) 3 3 ∷ node (pos 8) END 2 ∷ []) (edge 10 END END 0 1 ∷ edge 11 END END 1 2 ∷ edge 12 0 1 0 2 ∷ edge 13 1 0 1 1 ∷ [])

abbrev pub loops : List Call
loops = AddNode (pos 1) ∷ AddNode (negsuc 2147483647) ∷ AddEdge 0 0 20 ∷ AddEdge 0 0 21 ∷ AddEdge 0 1 22 ∷ AddEdge 1 1 23 ∷ []

abbrev pub loops_rows : Graph
loops_rows = graph (node (pos 1) 2 1 ∷ node (negsuc 2147483647) 3 3 ∷ []) (edge 20 END END 0 0 ∷ edge 21 0 0 0 0 ∷ edge 22 1 END 0 1 ∷ edge 23 END 2 1 1 ∷ [])

abbrev pub parallel : List Call
parallel = AddNode (pos 1) ∷ AddNode (pos 2) ∷ AddEdge 0 1 30 ∷ AddEdge 0 1 31 ∷ AddEdge 1 0 32 ∷ AddEdge 0 1 33 ∷ []

abbrev pub parallel_rows : Graph
parallel_rows = graph (node (pos 1) 3 2 ∷ node (pos 2) 2 3 ∷ []) (edge 30 END END 0 1 ∷ edge 31 0 0 0 1 ∷ edge 32 END END 1 0 ∷ edge 33 1 1 0 1 ∷ [])

abbrev pub hub : List Call
hub = AddNode (pos 0) ∷ AddNode (pos 1) ∷ AddNode (pos 2) ∷ AddNode (pos 3) ∷ AddEdge 0 1 40 ∷ AddEdge 2 0 41 ∷ AddEdge 0 3 42 ∷ AddEdge 0 0 43 ∷ AddEdge 3 0 44 ∷ AddEdge 1 2 45 ∷ AddEdge 0 2 46 ∷ []

abbrev pub hub_rows : Graph
hub_rows = graph (node (pos 0) 6 4 ∷ node (pos 1) 5 0 ∷ node (pos 2) 1 6 ∷ node (pos 3) 4 2 ∷ []) (edge 40 END END 0 1 ∷ edge 41 END END 2 0 ∷ edge 42 0 END 0 3 ∷ edge 43 2 1 0 0 ∷ edge 44 END 3 3 0 ∷ edge 45 END END 1 2 ∷ edge 46 3 5 0 2 ∷ [])

abbrev pub lost_head : List Call
lost_head = Rows (graph (node (pos 5) 0 END ∷ []) []) ∷ []

abbrev pub lost_head_rows : Graph
lost_head_rows = graph (node (pos 5) 0 END ∷ []) []

abbrev pub linked_twice : List Call
linked_twice = Rows (graph (node (pos 0) 2 0 ∷ node (pos 0) END 0 ∷ []) (edge 60 END 1 0 0 ∷ edge 61 0 2 0 1 ∷ edge 62 1 END 0 1 ∷ [])) ∷ []

abbrev pub linked_twice_rows : Graph
linked_twice_rows = graph (node (pos 0) 2 0 ∷ node (pos 0) END 0 ∷ []) (edge 60 END 1 0 0 ∷ edge 61 0 2 0 1 ∷ edge 62 1 END 0 1 ∷ [])

abbrev pub mixed0 : List Call
mixed0 = AddNode (negsuc 0) ∷ AddNode (pos 0) ∷ AddNode (pos 1) ∷ AddEdge 0 0 50 ∷ []

abbrev pub mixed0_rows : Graph
mixed0_rows = graph (node (negsuc 0) 0 0 ∷ node (pos 0) END END ∷ node (pos 1) END END ∷ []) (edge 50 END END 0 0 ∷ [])

abbrev pub mixed1 : List Call
mixed1 = AddNode (negsuc 0) ∷ AddNode (pos 0) ∷ AddNode (pos 1) ∷ AddNode (pos 2) ∷ AddEdge 2 1 50 ∷ AddEdge 3 2 51 ∷ AddEdge 0 2 52 ∷ []

abbrev pub mixed1_rows : Graph
mixed1_rows = graph (node (negsuc 0) 2 END ∷ node (pos 0) END 0 ∷ node (pos 1) 0 2 ∷ node (pos 2) 1 END ∷ []) (edge 50 END END 2 1 ∷ edge 51 END END 3 2 ∷ edge 52 END 1 0 2 ∷ [])

abbrev pub mixed2 : List Call
mixed2 = AddNode (negsuc 0) ∷ AddNode (pos 0) ∷ AddNode (pos 1) ∷ AddEdge 1 0 50 ∷ AddEdge 1 2 51 ∷ RemoveEdge 1 ∷ AddEdge 2 0 52 ∷ []

abbrev pub mixed2_rows : Graph
mixed2_rows = graph (node (negsuc 0) END 1 ∷ node (pos 0) 0 END ∷ node (pos 1) 1 END ∷ []) (edge 50 END END 1 0 ∷ edge 52 END 0 2 0 ∷ [])

abbrev pub mixed3 : List Call
mixed3 = AddNode (negsuc 0) ∷ AddNode (pos 0) ∷ AddEdge 1 0 50 ∷ AddEdge 1 0 51 ∷ AddEdge 0 0 52 ∷ AddEdge 1 1 53 ∷ AddEdge 0 0 54 ∷ AddEdge 0 0 55 ∷ []

abbrev pub mixed3_rows : Graph
mixed3_rows = graph (node (negsuc 0) 5 5 ∷ node (pos 0) 3 3 ∷ []) (edge 50 END END 1 0 ∷ edge 51 0 0 1 0 ∷ edge 52 END 1 0 0 ∷ edge 53 1 END 1 1 ∷ edge 54 2 2 0 0 ∷ edge 55 4 4 0 0 ∷ [])

abbrev pub mixed4 : List Call
mixed4 = AddNode (negsuc 0) ∷ AddNode (pos 0) ∷ AddNode (pos 1) ∷ AddNode (pos 2) ∷ AddEdge 2 0 50 ∷ []

abbrev pub mixed4_rows : Graph
mixed4_rows = graph (node (negsuc 0) END 0 ∷ node (pos 0) END END ∷ node (pos 1) 0 END ∷ node (pos 2) END END ∷ []) (edge 50 END END 2 0 ∷ [])

abbrev pub recorded : List Case
recorded =
    case nothing (Neighbors 0) (returns (Numbers [], nothing_rows))
    ∷ case nothing (EdgesOf 0) (returns (Numbers [], nothing_rows))
    ∷ case nothing (EdgeWeights 0) (returns (Numbers [], nothing_rows))
    ∷ case nothing (EdgesBetween 0 1) (returns (Numbers [], nothing_rows))
    ∷ case nothing (EdgesMut 0) (returns (Numbers [], nothing_rows))
    ∷ case nothing (EdgeWeightsMut 0) (returns (Numbers [], nothing_rows))
    ∷ case nothing (RemoveEdge 0) (returns (Nothing, nothing_rows))
    ∷ case nothing (RemoveNode 0) (returns (Nothing, nothing_rows))
    ∷ case network_a (AddNode (pos 7)) (returns (Numbers (3 ∷ []), graph (node (pos 5) 2 END ∷ node (negsuc 2) 3 3 ∷ node (pos 8) END 2 ∷ node (pos 7) END END ∷ []) (edge 10 END END 0 1 ∷ edge 11 END END 1 2 ∷ edge 12 0 1 0 2 ∷ edge 13 1 0 1 1 ∷ [])))
    ∷ case network_a (AddEdge 2 2 14) (returns (Numbers (4 ∷ []), graph (node (pos 5) 2 END ∷ node (negsuc 2) 3 3 ∷ node (pos 8) 4 4 ∷ []) (edge 10 END END 0 1 ∷ edge 11 END END 1 2 ∷ edge 12 0 1 0 2 ∷ edge 13 1 0 1 1 ∷ edge 14 END 2 2 2 ∷ [])))
    ∷ case network_a (AddEdge 2 0 14) (returns (Numbers (4 ∷ []), graph (node (pos 5) 2 4 ∷ node (negsuc 2) 3 3 ∷ node (pos 8) 4 2 ∷ []) (edge 10 END END 0 1 ∷ edge 11 END END 1 2 ∷ edge 12 0 1 0 2 ∷ edge 13 1 0 1 1 ∷ edge 14 END END 2 0 ∷ [])))
    ∷ case network_a (AddEdge 0 9 14) panics
    ∷ case network_a (UpdateEdge 2 1 99) (returns (Numbers (1 ∷ []), graph (node (pos 5) 2 END ∷ node (negsuc 2) 3 3 ∷ node (pos 8) END 2 ∷ []) (edge 10 END END 0 1 ∷ edge 99 END END 1 2 ∷ edge 12 0 1 0 2 ∷ edge 13 1 0 1 1 ∷ [])))
    ∷ case network_a (UpdateEdge 0 0 99) (returns (Numbers (4 ∷ []), graph (node (pos 5) 4 4 ∷ node (negsuc 2) 3 3 ∷ node (pos 8) END 2 ∷ []) (edge 10 END END 0 1 ∷ edge 11 END END 1 2 ∷ edge 12 0 1 0 2 ∷ edge 13 1 0 1 1 ∷ edge 99 2 END 0 0 ∷ [])))
    ∷ case network_a (UpdateEdge 0 9 99) panics
    ∷ case network_a (SetNodeWeight 1 (negsuc 8)) (returns (Numbers [], graph (node (pos 5) 2 END ∷ node (negsuc 8) 3 3 ∷ node (pos 8) END 2 ∷ []) (edge 10 END END 0 1 ∷ edge 11 END END 1 2 ∷ edge 12 0 1 0 2 ∷ edge 13 1 0 1 1 ∷ [])))
    ∷ case network_a (SetNodeWeight 3 (pos 9)) panics
    ∷ case network_a (SetEdgeWeight 3 9) (returns (Numbers [], graph (node (pos 5) 2 END ∷ node (negsuc 2) 3 3 ∷ node (pos 8) END 2 ∷ []) (edge 10 END END 0 1 ∷ edge 11 END END 1 2 ∷ edge 12 0 1 0 2 ∷ edge 9 1 0 1 1 ∷ [])))
    ∷ case network_a (SetEdgeWeight 4 9) panics
    ∷ case network_a (NodeWeight 1) (returns (Weight (negsuc 2) [], network_a_rows))
    ∷ case network_a (NodeWeight 3) (returns (Nothing, network_a_rows))
    ∷ case network_a (EdgeWeight 3) (returns (Numbers (13 ∷ []), network_a_rows))
    ∷ case network_a (EdgeWeight 4) (returns (Nothing, network_a_rows))
    ∷ case network_a (EdgeEndpoints 2) (returns (Numbers (0 ∷ 2 ∷ []), network_a_rows))
    ∷ case network_a (EdgeEndpoints 4) (returns (Nothing, network_a_rows))
    ∷ case network_a (FirstEdge 1 Incoming) (returns (Numbers (3 ∷ []), network_a_rows))
    ∷ case network_a (FirstEdge 2 Outgoing) (returns (Nothing, network_a_rows))
    ∷ case network_a (FirstEdge 3 Outgoing) (returns (Nothing, network_a_rows))
    ∷ case network_a (NextEdge 3 Incoming) (returns (Numbers (0 ∷ []), network_a_rows))
    ∷ case network_a (NextEdge 1 Outgoing) (returns (Nothing, network_a_rows))
    ∷ case network_a (NextEdge 4 Outgoing) (returns (Nothing, network_a_rows))
    ∷ case network_a (FindEdge 2 1) (returns (Numbers (1 ∷ []), network_a_rows))
    ∷ case network_a (FindEdge 1 1) (returns (Numbers (3 ∷ []), network_a_rows))
    ∷ case network_a (FindEdge 0 0) (returns (Nothing, network_a_rows))
    ∷ case network_a (FindEdge 3 0) (returns (Nothing, network_a_rows))
    ∷ case network_a (ContainsEdge 2 0) (returns (Numbers (1 ∷ []), network_a_rows))
    ∷ case network_a (ContainsEdge 0 0) (returns (Numbers (0 ∷ []), network_a_rows))
    ∷ case network_a AllEdgeWeights (returns (Numbers (10 ∷ 11 ∷ 12 ∷ 13 ∷ []), network_a_rows))
    ∷ case network_a ClearEdges (returns (Numbers [], graph (node (pos 5) END END ∷ node (negsuc 2) END END ∷ node (pos 8) END END ∷ []) []))
    ∷ case network_a Clear (returns (Numbers [], graph [] []))
    ∷ case network_a (Neighbors 0) (returns (Numbers (2 ∷ 1 ∷ []), network_a_rows))
    ∷ case network_a (EdgesOf 0) (returns (Numbers (2 ∷ 0 ∷ 2 ∷ 12 ∷ 0 ∷ 0 ∷ 1 ∷ 10 ∷ []), network_a_rows))
    ∷ case network_a (EdgeWeights 0) (returns (Numbers (12 ∷ 10 ∷ []), network_a_rows))
    ∷ case network_a (EdgesBetween 0 1) (returns (Numbers (0 ∷ []), network_a_rows))
    ∷ case network_a (EdgesMut 0) (returns (Numbers (2 ∷ 0 ∷ []), network_a_rows))
    ∷ case network_a (EdgeWeightsMut 0) (returns (Numbers (2 ∷ 0 ∷ []), network_a_rows))
    ∷ case network_a (Neighbors 1) (returns (Numbers (1 ∷ 2 ∷ 0 ∷ []), network_a_rows))
    ∷ case network_a (EdgesOf 1) (returns (Numbers (3 ∷ 1 ∷ 1 ∷ 13 ∷ 1 ∷ 1 ∷ 2 ∷ 11 ∷ 0 ∷ 1 ∷ 0 ∷ 10 ∷ []), network_a_rows))
    ∷ case network_a (EdgeWeights 1) (returns (Numbers (13 ∷ 11 ∷ 10 ∷ []), network_a_rows))
    ∷ case network_a (EdgesBetween 1 1) (returns (Numbers (3 ∷ []), network_a_rows))
    ∷ case network_a (EdgesMut 1) (returns (Numbers (3 ∷ 0 ∷ 3 ∷ 1 ∷ []), network_a_rows))
    ∷ case network_a (EdgeWeightsMut 1) (returns (Numbers (3 ∷ 0 ∷ 3 ∷ 1 ∷ []), network_a_rows))
    ∷ case network_a (Neighbors 2) (returns (Numbers (0 ∷ 1 ∷ []), network_a_rows))
    ∷ case network_a (EdgesOf 2) (returns (Numbers (2 ∷ 2 ∷ 0 ∷ 12 ∷ 1 ∷ 2 ∷ 1 ∷ 11 ∷ []), network_a_rows))
    ∷ case network_a (EdgeWeights 2) (returns (Numbers (12 ∷ 11 ∷ []), network_a_rows))
    ∷ case network_a (EdgesBetween 2 1) (returns (Numbers (1 ∷ []), network_a_rows))
    ∷ case network_a (EdgesMut 2) (returns (Numbers (2 ∷ 1 ∷ []), network_a_rows))
    ∷ case network_a (EdgeWeightsMut 2) (returns (Numbers (2 ∷ 1 ∷ []), network_a_rows))
    ∷ case network_a (Neighbors 3) (returns (Numbers [], network_a_rows))
    ∷ case network_a (EdgesOf 3) (returns (Numbers [], network_a_rows))
    ∷ case network_a (EdgeWeights 3) (returns (Numbers [], network_a_rows))
    ∷ case network_a (EdgesBetween 3 1) (returns (Numbers [], network_a_rows))
    ∷ case network_a (EdgesMut 3) (returns (Numbers [], network_a_rows))
    ∷ case network_a (EdgeWeightsMut 3) (returns (Numbers [], network_a_rows))
    ∷ case network_a (RemoveEdge 0) (returns (Numbers (10 ∷ []), graph (node (pos 5) 2 END ∷ node (negsuc 2) 0 0 ∷ node (pos 8) END 2 ∷ []) (edge 13 1 END 1 1 ∷ edge 11 END END 1 2 ∷ edge 12 END 1 0 2 ∷ [])))
    ∷ case network_a (RemoveEdge 1) (returns (Numbers (11 ∷ []), graph (node (pos 5) 2 END ∷ node (negsuc 2) 1 1 ∷ node (pos 8) END 2 ∷ []) (edge 10 END END 0 1 ∷ edge 13 END 0 1 1 ∷ edge 12 0 END 0 2 ∷ [])))
    ∷ case network_a (RemoveEdge 2) (returns (Numbers (12 ∷ []), graph (node (pos 5) 0 END ∷ node (negsuc 2) 2 2 ∷ node (pos 8) END 1 ∷ []) (edge 10 END END 0 1 ∷ edge 11 END END 1 2 ∷ edge 13 1 0 1 1 ∷ [])))
    ∷ case network_a (RemoveEdge 3) (returns (Numbers (13 ∷ []), graph (node (pos 5) 2 END ∷ node (negsuc 2) 1 0 ∷ node (pos 8) END 2 ∷ []) (edge 10 END END 0 1 ∷ edge 11 END END 1 2 ∷ edge 12 0 1 0 2 ∷ [])))
    ∷ case network_a (RemoveEdge 4) (returns (Nothing, network_a_rows))
    ∷ case network_a (RemoveNode 0) (returns (Weight (pos 5) (12 ∷ 10 ∷ []), graph (node (pos 8) END 1 ∷ node (negsuc 2) 0 0 ∷ []) (edge 13 1 END 1 1 ∷ edge 11 END END 1 0 ∷ [])))
    ∷ case network_a (RemoveNode 1) (returns (Weight (negsuc 2) (13 ∷ 11 ∷ 10 ∷ []), graph (node (pos 5) 0 END ∷ node (pos 8) END 0 ∷ []) (edge 12 END END 0 1 ∷ [])))
    ∷ case network_a (RemoveNode 2) (returns (Weight (pos 8) (12 ∷ 11 ∷ []), graph (node (pos 5) 0 END ∷ node (negsuc 2) 1 1 ∷ []) (edge 10 END END 0 1 ∷ edge 13 END 0 1 1 ∷ [])))
    ∷ case network_a (RemoveNode 3) (returns (Nothing, network_a_rows))
    ∷ case loops (Neighbors 0) (returns (Numbers (1 ∷ 0 ∷ 0 ∷ []), loops_rows))
    ∷ case loops (EdgesOf 0) (returns (Numbers (2 ∷ 0 ∷ 1 ∷ 22 ∷ 1 ∷ 0 ∷ 0 ∷ 21 ∷ 0 ∷ 0 ∷ 0 ∷ 20 ∷ []), loops_rows))
    ∷ case loops (EdgeWeights 0) (returns (Numbers (22 ∷ 21 ∷ 20 ∷ []), loops_rows))
    ∷ case loops (EdgesBetween 0 1) (returns (Numbers (2 ∷ []), loops_rows))
    ∷ case loops (EdgesMut 0) (returns (Numbers (1 ∷ 0 ∷ 2 ∷ 1 ∷ 0 ∷ []), loops_rows))
    ∷ case loops (EdgeWeightsMut 0) (returns (Numbers (1 ∷ 0 ∷ 2 ∷ 1 ∷ 0 ∷ []), loops_rows))
    ∷ case loops (RemoveEdge 0) (returns (Numbers (20 ∷ []), graph (node (pos 1) 2 1 ∷ node (negsuc 2147483647) 0 0 ∷ []) (edge 23 END 2 1 1 ∷ edge 21 END END 0 0 ∷ edge 22 1 END 0 1 ∷ [])))
    ∷ case loops (RemoveEdge 1) (returns (Numbers (21 ∷ []), graph (node (pos 1) 2 0 ∷ node (negsuc 2147483647) 1 1 ∷ []) (edge 20 END END 0 0 ∷ edge 23 END 2 1 1 ∷ edge 22 0 END 0 1 ∷ [])))
    ∷ case loops (RemoveEdge 2) (returns (Numbers (22 ∷ []), graph (node (pos 1) 1 1 ∷ node (negsuc 2147483647) 2 2 ∷ []) (edge 20 END END 0 0 ∷ edge 21 0 0 0 0 ∷ edge 23 END END 1 1 ∷ [])))
    ∷ case loops (RemoveEdge 3) (returns (Numbers (23 ∷ []), graph (node (pos 1) 2 1 ∷ node (negsuc 2147483647) END 2 ∷ []) (edge 20 END END 0 0 ∷ edge 21 0 0 0 0 ∷ edge 22 1 END 0 1 ∷ [])))
    ∷ case loops (RemoveEdge 4) (returns (Nothing, loops_rows))
    ∷ case loops (RemoveNode 0) (returns (Weight (pos 1) (22 ∷ 21 ∷ 20 ∷ []), graph (node (negsuc 2147483647) 0 0 ∷ []) (edge 23 END END 0 0 ∷ [])))
    ∷ case loops (RemoveNode 1) (returns (Weight (negsuc 2147483647) (23 ∷ 22 ∷ []), graph (node (pos 1) 1 1 ∷ []) (edge 20 END END 0 0 ∷ edge 21 0 0 0 0 ∷ [])))
    ∷ case loops (RemoveNode 2) (returns (Nothing, loops_rows))
    ∷ case parallel (Neighbors 0) (returns (Numbers (1 ∷ 1 ∷ 1 ∷ 1 ∷ []), parallel_rows))
    ∷ case parallel (EdgesOf 0) (returns (Numbers (3 ∷ 0 ∷ 1 ∷ 33 ∷ 1 ∷ 0 ∷ 1 ∷ 31 ∷ 0 ∷ 0 ∷ 1 ∷ 30 ∷ 2 ∷ 0 ∷ 1 ∷ 32 ∷ []), parallel_rows))
    ∷ case parallel (EdgeWeights 0) (returns (Numbers (33 ∷ 31 ∷ 30 ∷ 32 ∷ []), parallel_rows))
    ∷ case parallel (EdgesBetween 0 1) (returns (Numbers (3 ∷ 1 ∷ 0 ∷ 2 ∷ []), parallel_rows))
    ∷ case parallel (EdgesMut 0) (returns (Numbers (2 ∷ 3 ∷ 1 ∷ 0 ∷ []), parallel_rows))
    ∷ case parallel (EdgeWeightsMut 0) (returns (Numbers (2 ∷ 3 ∷ 1 ∷ 0 ∷ []), parallel_rows))
    ∷ case parallel (RemoveEdge 0) (returns (Numbers (30 ∷ []), graph (node (pos 1) 0 2 ∷ node (pos 2) 2 0 ∷ []) (edge 33 1 1 0 1 ∷ edge 31 END END 0 1 ∷ edge 32 END END 1 0 ∷ [])))
    ∷ case parallel (RemoveEdge 1) (returns (Numbers (31 ∷ []), graph (node (pos 1) 1 2 ∷ node (pos 2) 2 1 ∷ []) (edge 30 END END 0 1 ∷ edge 33 0 0 0 1 ∷ edge 32 END END 1 0 ∷ [])))
    ∷ case parallel (RemoveEdge 2) (returns (Numbers (32 ∷ []), graph (node (pos 1) 2 END ∷ node (pos 2) END 2 ∷ []) (edge 30 END END 0 1 ∷ edge 31 0 0 0 1 ∷ edge 33 1 1 0 1 ∷ [])))
    ∷ case parallel (RemoveEdge 3) (returns (Numbers (33 ∷ []), graph (node (pos 1) 1 2 ∷ node (pos 2) 2 1 ∷ []) (edge 30 END END 0 1 ∷ edge 31 0 0 0 1 ∷ edge 32 END END 1 0 ∷ [])))
    ∷ case parallel (RemoveEdge 4) (returns (Nothing, parallel_rows))
    ∷ case parallel (RemoveNode 0) (returns (Weight (pos 1) (33 ∷ 31 ∷ 30 ∷ 32 ∷ []), graph (node (pos 2) END END ∷ []) []))
    ∷ case parallel (RemoveNode 1) (returns (Weight (pos 2) (32 ∷ 33 ∷ 31 ∷ 30 ∷ []), graph (node (pos 1) END END ∷ []) []))
    ∷ case parallel (RemoveNode 2) (returns (Nothing, parallel_rows))
    ∷ case hub (Neighbors 0) (returns (Numbers (2 ∷ 0 ∷ 3 ∷ 1 ∷ 3 ∷ 2 ∷ []), hub_rows))
    ∷ case hub (EdgesOf 0) (returns (Numbers (6 ∷ 0 ∷ 2 ∷ 46 ∷ 3 ∷ 0 ∷ 0 ∷ 43 ∷ 2 ∷ 0 ∷ 3 ∷ 42 ∷ 0 ∷ 0 ∷ 1 ∷ 40 ∷ 4 ∷ 0 ∷ 3 ∷ 44 ∷ 1 ∷ 0 ∷ 2 ∷ 41 ∷ []), hub_rows))
    ∷ case hub (EdgeWeights 0) (returns (Numbers (46 ∷ 43 ∷ 42 ∷ 40 ∷ 44 ∷ 41 ∷ []), hub_rows))
    ∷ case hub (EdgesBetween 0 1) (returns (Numbers (0 ∷ []), hub_rows))
    ∷ case hub (EdgesMut 0) (returns (Numbers (4 ∷ 3 ∷ 1 ∷ 6 ∷ 3 ∷ 2 ∷ 0 ∷ []), hub_rows))
    ∷ case hub (EdgeWeightsMut 0) (returns (Numbers (4 ∷ 3 ∷ 1 ∷ 6 ∷ 3 ∷ 2 ∷ 0 ∷ []), hub_rows))
    ∷ case hub (RemoveEdge 0) (returns (Numbers (40 ∷ []), graph (node (pos 0) 0 4 ∷ node (pos 1) 5 END ∷ node (pos 2) 1 0 ∷ node (pos 3) 4 2 ∷ []) (edge 46 3 5 0 2 ∷ edge 41 END END 2 0 ∷ edge 42 END END 0 3 ∷ edge 43 2 1 0 0 ∷ edge 44 END 3 3 0 ∷ edge 45 END END 1 2 ∷ [])))
    ∷ case hub (RemoveEdge 1) (returns (Numbers (41 ∷ []), graph (node (pos 0) 1 4 ∷ node (pos 1) 5 0 ∷ node (pos 2) END 1 ∷ node (pos 3) 4 2 ∷ []) (edge 40 END END 0 1 ∷ edge 46 3 5 0 2 ∷ edge 42 0 END 0 3 ∷ edge 43 2 END 0 0 ∷ edge 44 END 3 3 0 ∷ edge 45 END END 1 2 ∷ [])))
    ∷ case hub (RemoveEdge 2) (returns (Numbers (42 ∷ []), graph (node (pos 0) 2 4 ∷ node (pos 1) 5 0 ∷ node (pos 2) 1 2 ∷ node (pos 3) 4 END ∷ []) (edge 40 END END 0 1 ∷ edge 41 END END 2 0 ∷ edge 46 3 5 0 2 ∷ edge 43 0 1 0 0 ∷ edge 44 END 3 3 0 ∷ edge 45 END END 1 2 ∷ [])))
    ∷ case hub (RemoveEdge 3) (returns (Numbers (43 ∷ []), graph (node (pos 0) 3 4 ∷ node (pos 1) 5 0 ∷ node (pos 2) 1 3 ∷ node (pos 3) 4 2 ∷ []) (edge 40 END END 0 1 ∷ edge 41 END END 2 0 ∷ edge 42 0 END 0 3 ∷ edge 46 2 5 0 2 ∷ edge 44 END 1 3 0 ∷ edge 45 END END 1 2 ∷ [])))
    ∷ case hub (RemoveEdge 4) (returns (Numbers (44 ∷ []), graph (node (pos 0) 4 3 ∷ node (pos 1) 5 0 ∷ node (pos 2) 1 4 ∷ node (pos 3) END 2 ∷ []) (edge 40 END END 0 1 ∷ edge 41 END END 2 0 ∷ edge 42 0 END 0 3 ∷ edge 43 2 1 0 0 ∷ edge 46 3 5 0 2 ∷ edge 45 END END 1 2 ∷ [])))
    ∷ case hub (RemoveEdge 5) (returns (Numbers (45 ∷ []), graph (node (pos 0) 5 4 ∷ node (pos 1) END 0 ∷ node (pos 2) 1 5 ∷ node (pos 3) 4 2 ∷ []) (edge 40 END END 0 1 ∷ edge 41 END END 2 0 ∷ edge 42 0 END 0 3 ∷ edge 43 2 1 0 0 ∷ edge 44 END 3 3 0 ∷ edge 46 3 END 0 2 ∷ [])))
    ∷ case hub (RemoveEdge 6) (returns (Numbers (46 ∷ []), graph (node (pos 0) 3 4 ∷ node (pos 1) 5 0 ∷ node (pos 2) 1 5 ∷ node (pos 3) 4 2 ∷ []) (edge 40 END END 0 1 ∷ edge 41 END END 2 0 ∷ edge 42 0 END 0 3 ∷ edge 43 2 1 0 0 ∷ edge 44 END 3 3 0 ∷ edge 45 END END 1 2 ∷ [])))
    ∷ case hub (RemoveEdge 7) (returns (Nothing, hub_rows))
    ∷ case hub (RemoveNode 0) (returns (Weight (pos 0) (46 ∷ 43 ∷ 42 ∷ 40 ∷ 44 ∷ 41 ∷ []), graph (node (pos 3) END END ∷ node (pos 1) 0 END ∷ node (pos 2) END 0 ∷ []) (edge 45 END END 1 2 ∷ [])))
    ∷ case hub (RemoveNode 1) (returns (Weight (pos 1) (45 ∷ 40 ∷ []), graph (node (pos 0) 0 4 ∷ node (pos 3) 4 2 ∷ node (pos 2) 1 0 ∷ []) (edge 46 3 END 0 2 ∷ edge 41 END END 2 0 ∷ edge 42 END END 0 1 ∷ edge 43 2 1 0 0 ∷ edge 44 END 3 1 0 ∷ [])))
    ∷ case hub (RemoveNode 2) (returns (Weight (pos 2) (41 ∷ 46 ∷ 45 ∷ []), graph (node (pos 0) 3 1 ∷ node (pos 1) END 0 ∷ node (pos 3) 1 2 ∷ []) (edge 40 END END 0 1 ∷ edge 44 END 3 2 0 ∷ edge 42 0 END 0 2 ∷ edge 43 2 END 0 0 ∷ [])))
    ∷ case hub (RemoveNode 3) (returns (Weight (pos 3) (44 ∷ 42 ∷ []), graph (node (pos 0) 4 3 ∷ node (pos 1) 2 0 ∷ node (pos 2) 1 4 ∷ []) (edge 40 END END 0 1 ∷ edge 41 END END 2 0 ∷ edge 45 END END 1 2 ∷ edge 43 0 1 0 0 ∷ edge 46 3 2 0 2 ∷ [])))
    ∷ case hub (RemoveNode 4) (returns (Nothing, hub_rows))
    ∷ case lost_head (RemoveEdge 0) (returns (Nothing, lost_head_rows))
    ∷ case lost_head (RemoveNode 0) panics
    ∷ case linked_twice (RemoveEdge 0) (returns (Numbers (60 ∷ []), graph (node (pos 0) 0 1 ∷ node (pos 0) END 0 ∷ []) (edge 62 1 END 0 1 ∷ edge 61 END 2 0 1 ∷ [])))
    ∷ case mixed0 (RemoveEdge 0) (returns (Numbers (50 ∷ []), graph (node (negsuc 0) END END ∷ node (pos 0) END END ∷ node (pos 1) END END ∷ []) []))
    ∷ case mixed0 (RemoveEdge 1) (returns (Nothing, mixed0_rows))
    ∷ case mixed0 (RemoveNode 0) (returns (Weight (negsuc 0) (50 ∷ []), graph (node (pos 1) END END ∷ node (pos 0) END END ∷ []) []))
    ∷ case mixed0 (RemoveNode 1) (returns (Weight (pos 0) [], graph (node (negsuc 0) 0 0 ∷ node (pos 1) END END ∷ []) (edge 50 END END 0 0 ∷ [])))
    ∷ case mixed0 (RemoveNode 2) (returns (Weight (pos 1) [], graph (node (negsuc 0) 0 0 ∷ node (pos 0) END END ∷ []) (edge 50 END END 0 0 ∷ [])))
    ∷ case mixed0 (RemoveNode 3) (returns (Nothing, mixed0_rows))
    ∷ case mixed1 (RemoveEdge 0) (returns (Numbers (50 ∷ []), graph (node (negsuc 0) 0 END ∷ node (pos 0) END END ∷ node (pos 1) END 0 ∷ node (pos 2) 1 END ∷ []) (edge 52 END 1 0 2 ∷ edge 51 END END 3 2 ∷ [])))
    ∷ case mixed1 (RemoveEdge 1) (returns (Numbers (51 ∷ []), graph (node (negsuc 0) 1 END ∷ node (pos 0) END 0 ∷ node (pos 1) 0 1 ∷ node (pos 2) END END ∷ []) (edge 50 END END 2 1 ∷ edge 52 END END 0 2 ∷ [])))
    ∷ case mixed1 (RemoveEdge 2) (returns (Numbers (52 ∷ []), graph (node (negsuc 0) END END ∷ node (pos 0) END 0 ∷ node (pos 1) 0 1 ∷ node (pos 2) 1 END ∷ []) (edge 50 END END 2 1 ∷ edge 51 END END 3 2 ∷ [])))
    ∷ case mixed1 (RemoveEdge 3) (returns (Nothing, mixed1_rows))
    ∷ case mixed1 (RemoveNode 0) (returns (Weight (negsuc 0) (52 ∷ []), graph (node (pos 2) 1 END ∷ node (pos 0) END 0 ∷ node (pos 1) 0 1 ∷ []) (edge 50 END END 2 1 ∷ edge 51 END END 0 2 ∷ [])))
    ∷ case mixed1 (RemoveNode 1) (returns (Weight (pos 0) (50 ∷ []), graph (node (negsuc 0) 0 END ∷ node (pos 2) 1 END ∷ node (pos 1) END 0 ∷ []) (edge 52 END 1 0 2 ∷ edge 51 END END 1 2 ∷ [])))
    ∷ case mixed1 (RemoveNode 2) (returns (Weight (pos 1) (50 ∷ 52 ∷ 51 ∷ []), graph (node (negsuc 0) END END ∷ node (pos 0) END END ∷ node (pos 2) END END ∷ []) []))
    ∷ case mixed1 (RemoveNode 3) (returns (Weight (pos 2) (51 ∷ []), graph (node (negsuc 0) 1 END ∷ node (pos 0) END 0 ∷ node (pos 1) 0 1 ∷ []) (edge 50 END END 2 1 ∷ edge 52 END END 0 2 ∷ [])))
    ∷ case mixed1 (RemoveNode 4) (returns (Nothing, mixed1_rows))
    ∷ case mixed2 (RemoveEdge 0) (returns (Numbers (50 ∷ []), graph (node (negsuc 0) END 0 ∷ node (pos 0) END END ∷ node (pos 1) 0 END ∷ []) (edge 52 END END 2 0 ∷ [])))
    ∷ case mixed2 (RemoveEdge 1) (returns (Numbers (52 ∷ []), graph (node (negsuc 0) END 0 ∷ node (pos 0) 0 END ∷ node (pos 1) END END ∷ []) (edge 50 END END 1 0 ∷ [])))
    ∷ case mixed2 (RemoveEdge 2) (returns (Nothing, mixed2_rows))
    ∷ case mixed2 (RemoveNode 0) (returns (Weight (negsuc 0) (52 ∷ 50 ∷ []), graph (node (pos 1) END END ∷ node (pos 0) END END ∷ []) []))
    ∷ case mixed2 (RemoveNode 1) (returns (Weight (pos 0) (50 ∷ []), graph (node (negsuc 0) END 0 ∷ node (pos 1) 0 END ∷ []) (edge 52 END END 1 0 ∷ [])))
    ∷ case mixed2 (RemoveNode 2) (returns (Weight (pos 1) (52 ∷ []), graph (node (negsuc 0) END 0 ∷ node (pos 0) 0 END ∷ []) (edge 50 END END 1 0 ∷ [])))
    ∷ case mixed2 (RemoveNode 3) (returns (Nothing, mixed2_rows))
    ∷ case mixed3 (RemoveEdge 0) (returns (Numbers (50 ∷ []), graph (node (negsuc 0) 0 0 ∷ node (pos 0) 3 3 ∷ []) (edge 55 4 4 0 0 ∷ edge 51 END END 1 0 ∷ edge 52 END 1 0 0 ∷ edge 53 1 END 1 1 ∷ edge 54 2 2 0 0 ∷ [])))
    ∷ case mixed3 (RemoveEdge 1) (returns (Numbers (51 ∷ []), graph (node (negsuc 0) 1 1 ∷ node (pos 0) 3 3 ∷ []) (edge 50 END END 1 0 ∷ edge 55 4 4 0 0 ∷ edge 52 END 0 0 0 ∷ edge 53 0 END 1 1 ∷ edge 54 2 2 0 0 ∷ [])))
    ∷ case mixed3 (RemoveEdge 2) (returns (Numbers (52 ∷ []), graph (node (negsuc 0) 2 2 ∷ node (pos 0) 3 3 ∷ []) (edge 50 END END 1 0 ∷ edge 51 0 0 1 0 ∷ edge 55 4 4 0 0 ∷ edge 53 1 END 1 1 ∷ edge 54 END 1 0 0 ∷ [])))
    ∷ case mixed3 (RemoveEdge 3) (returns (Numbers (53 ∷ []), graph (node (negsuc 0) 3 3 ∷ node (pos 0) 1 END ∷ []) (edge 50 END END 1 0 ∷ edge 51 0 0 1 0 ∷ edge 52 END 1 0 0 ∷ edge 55 4 4 0 0 ∷ edge 54 2 2 0 0 ∷ [])))
    ∷ case mixed3 (RemoveEdge 4) (returns (Numbers (54 ∷ []), graph (node (negsuc 0) 4 4 ∷ node (pos 0) 3 3 ∷ []) (edge 50 END END 1 0 ∷ edge 51 0 0 1 0 ∷ edge 52 END 1 0 0 ∷ edge 53 1 END 1 1 ∷ edge 55 2 2 0 0 ∷ [])))
    ∷ case mixed3 (RemoveEdge 5) (returns (Numbers (55 ∷ []), graph (node (negsuc 0) 4 4 ∷ node (pos 0) 3 3 ∷ []) (edge 50 END END 1 0 ∷ edge 51 0 0 1 0 ∷ edge 52 END 1 0 0 ∷ edge 53 1 END 1 1 ∷ edge 54 2 2 0 0 ∷ [])))
    ∷ case mixed3 (RemoveEdge 6) (returns (Nothing, mixed3_rows))
    ∷ case mixed3 (RemoveNode 0) (returns (Weight (negsuc 0) (55 ∷ 54 ∷ 52 ∷ 51 ∷ 50 ∷ []), graph (node (pos 0) 0 0 ∷ []) (edge 53 END END 0 0 ∷ [])))
    ∷ case mixed3 (RemoveNode 1) (returns (Weight (pos 0) (53 ∷ 51 ∷ 50 ∷ []), graph (node (negsuc 0) 0 0 ∷ []) (edge 55 1 1 0 0 ∷ edge 54 2 2 0 0 ∷ edge 52 END END 0 0 ∷ [])))
    ∷ case mixed3 (RemoveNode 2) (returns (Nothing, mixed3_rows))
    ∷ case mixed4 (RemoveEdge 0) (returns (Numbers (50 ∷ []), graph (node (negsuc 0) END END ∷ node (pos 0) END END ∷ node (pos 1) END END ∷ node (pos 2) END END ∷ []) []))
    ∷ case mixed4 (RemoveEdge 1) (returns (Nothing, mixed4_rows))
    ∷ case mixed4 (RemoveNode 0) (returns (Weight (negsuc 0) (50 ∷ []), graph (node (pos 2) END END ∷ node (pos 0) END END ∷ node (pos 1) END END ∷ []) []))
    ∷ case mixed4 (RemoveNode 1) (returns (Weight (pos 0) [], graph (node (negsuc 0) END 0 ∷ node (pos 2) END END ∷ node (pos 1) 0 END ∷ []) (edge 50 END END 2 0 ∷ [])))
    ∷ case mixed4 (RemoveNode 2) (returns (Weight (pos 1) (50 ∷ []), graph (node (negsuc 0) END END ∷ node (pos 0) END END ∷ node (pos 2) END END ∷ []) []))
    ∷ case mixed4 (RemoveNode 3) (returns (Weight (pos 2) [], graph (node (negsuc 0) END 0 ∷ node (pos 0) END END ∷ node (pos 1) 0 END ∷ []) (edge 50 END END 2 0 ∷ [])))
    ∷ case mixed4 (RemoveNode 4) (returns (Nothing, mixed4_rows))
    ∷ []
