-- graph.rs as definitions, in its own names; the numbers are its lines. A callee stands before its callers, else the order is the file's.
-- A `&mut self` is the graph that a call takes and the graph that it leaves; `NodeIndex` and `EdgeIndex` are their numbers. Left out, as the
-- order leaves them out: capacities, `raw_nodes` and its like, `all_edge_weights_mut`. Left out too: `graph[a]` and `graph[e]` read (988-993,
-- 1011-1016), which are `node_weight` and `edge_weight` with a panic in place of `None`.
use Rattle.std.specs.Prelude.{ℕ, zero, suc, ◌-◌, Bool, true, false, cond, not, List, [], map, eqb, leb, ℤ, length, set}
use Rattle.std.proofs.Math.Option.{Option, none, some}
use Rattle.index.specs.declared.EdgeDirection.{EdgeDirection}
use Rattle.index.specs.Index.{END, number_of}
use Rattle.original.specs.Std.{Run, returns, panics, endless, ◌>>=◌, assert, on_option, expect, get, index, push, swap_remove, Two, ◌!◌, put, max, as_u32}

-- 77-82
pub record Node : Type 0 where
  pub weight : ℤ
  pub next : Two

-- 87-94
pub record Edge : Type 0 where
  pub weight : ℕ
  pub next : Two
  pub node : Two

-- 98-105
abbrev pub source : Edge → ℕ
source edge = edge.node ! 0

abbrev pub target : Edge → ℕ
target edge = edge.node ! 1

-- 114-117
pub record Graph : Type 0 where
  pub nodes : List Node
  pub edges : List Edge

abbrev pub graph : List Node → List Edge → Graph
graph nodes edges = record { nodes = nodes; edges = edges }

-- a row with one of its fields set: `weight = ..`, `next[k] = ..`, `node[k] = ..`
abbrev pub node_weighing : Node → ℤ → Node
node_weighing node weight = record { weight = weight; next = node.next }

abbrev pub node_with_next : Node → Two → Node
node_with_next node next = record { weight = node.weight; next = next }

abbrev pub edge_weighing : Edge → ℕ → Edge
edge_weighing edge weight = record { weight = weight; next = edge.next; node = edge.node }

abbrev pub edge_with_next : Edge → Two → Edge
edge_with_next edge next = record { weight = edge.weight; next = next; node = edge.node }

abbrev pub edge_with_node : Edge → Two → Edge
edge_with_node edge node = record { weight = edge.weight; next = edge.next; node = node }

-- 128-132
pub data Pair (A : Type 0) : Type 0 where
  Both : A → A → Pair A
  One : A → Pair A
  None : Pair A

abbrev pub on_pair : {A B : Type 0} → Pair A → B → (A → B) → (A → A → B) → B
on_pair (Both x y) neither one both = both x y
on_pair (One x) neither one both = one x
on_pair None neither one both = neither

-- 135-148; the rows stand for the references to them, and what is written through these is written to the vector
abbrev pub index_twice : {A : Type 0} → List A → ℕ → ℕ → Pair A
index_twice arr a b =
    cond (leb (length arr) (max a b)) None
    (on_option (get arr a) None (λ an.
    cond (eqb a b) (One an)
    (on_option (get arr b) None (λ bn. Both an bn))))

-- 162-171
abbrev pub node_count : Graph → ℕ
node_count g = length g.nodes

abbrev pub edge_count : Graph → ℕ
edge_count g = length g.edges

-- 182-191
unfoldable pub add_node : Graph → ℤ → Run (ℕ × Graph)
add_node g weight =
    assert (not (eqb (as_u32 (length g.nodes)) END))
    (returns (as_u32 (length g.nodes), graph (push g.nodes (record { weight = weight; next = (END, END) })) g.edges))

-- 196-198
unfoldable pub node_weight : Graph → ℕ → Option ℤ
node_weight g a = on_option (get g.nodes a) none (λ n. some n.weight)

-- 213-237
unfoldable pub add_edge : Graph → ℕ → ℕ → ℕ → Run (ℕ × Graph)
add_edge g a b weight =
    let idx = as_u32 (length g.edges) in
    let pushed : List Node → Two → Run (ℕ × Graph) =
    λ nodes next. returns (idx, graph nodes (push g.edges (record { weight = weight; next = next; node = (a, b) }))) in
    assert (not (eqb (as_u32 (length g.edges)) END))
    (on_pair (index_twice g.nodes a b)
    panics
    (λ an. pushed (set g.nodes a (node_with_next an (put (put an.next 0 idx) 1 idx))) an.next)
    (λ an bn.
    pushed (set (set g.nodes a (node_with_next an (put an.next 0 idx))) b (node_with_next bn (put bn.next 1 idx))) (an.next ! 0, bn.next ! 1)))

-- 263-265
unfoldable pub edge_weight : Graph → ℕ → Option ℕ
edge_weight g e = on_option (get g.edges e) none (λ edge. some edge.weight)

-- 270-272, with what is written through the reference that it gives
unfoldable pub edge_weight_mut : Graph → ℕ → ℕ → Option Graph
edge_weight_mut g e weight = on_option (get g.edges e) none (λ edge. some (graph g.nodes (set g.edges e (edge_weighing edge weight))))

-- 275-279
unfoldable pub edge_endpoints : Graph → ℕ → Option (ℕ × ℕ)
edge_endpoints g e = on_option (get g.edges e) none (λ ed. some (source ed, target ed))

-- `for d in EdgeDirection::ALL { let k = d as usize; .. }`: the body for 0, then for 1, on what it changes
abbrev pub for_all : {S : Type 0} → S → (ℕ → S → Run S) → Run S
for_all s body = body 0 s >>= body 1

-- 377-383, with the walker of 959-981, which stands at the edge `next`. A turn reads a row: m turns and a row more is a list that comes round
unfoldable pub lead_past : (turns k e v : ℕ) → List Edge → (next : ℕ) → Run (List Edge)
lead_past zero k e v edges next = on_option (get edges next) (returns edges) (λ curedge. endless)
lead_past (suc turns) k e v edges next =
    on_option (get edges next) (returns edges) (λ curedge.
    cond (eqb (curedge.next ! k) e) (returns (set edges next (edge_with_next curedge (put curedge.next k v))))
    (lead_past turns k e v edges (curedge.next ! k)))

-- 357-384, the body for k. Where the node is missing a `debug_assert!` fails; a release build returns without a word
unfoldable pub change_links_of : Two → ℕ → Two → ℕ → Graph → Run Graph
change_links_of edge_node e edge_next k g =
    on_option (get g.nodes (edge_node ! k)) panics (λ node.
    cond (eqb (node.next ! k) e)
    (returns (graph (set g.nodes (edge_node ! k) (node_with_next node (put node.next k (edge_next ! k)))) g.edges))
    (lead_past (length g.edges) k e (edge_next ! k) g.edges (node.next ! k) >>= λ edges. returns (graph g.nodes edges)))

-- 349-386
unfoldable pub change_edge_links : Graph → Two → ℕ → Two → Run Graph
change_edge_links g edge_node e edge_next = for_all g (change_links_of edge_node e edge_next)

-- 409-426
unfoldable pub remove_edge_adjust_indices : Graph → ℕ → Run (Option ℕ × Graph)
remove_edge_adjust_indices g e =
    swap_remove g.edges e >>= λ (edge, edges).
    on_option (get edges e) (returns (some edge.weight, graph g.nodes edges)) (λ ed.
    change_edge_links (graph g.nodes edges) ed.node (as_u32 (length edges)) (e, e) >>= λ g'.
    returns (some edge.weight, g'))

-- 395-407
unfoldable pub remove_edge : Graph → ℕ → Run (Option ℕ × Graph)
remove_edge g e =
    on_option (get g.edges e) (returns (none, g)) (λ x.
    change_edge_links g x.node e x.next >>= λ g'.
    remove_edge_adjust_indices g' e)

-- a graph, and the weights given to `edge_callback` so far: a list of them stands for the closure
abbrev pub Given : Type 0
Given = List ℕ × Graph

-- 305-312. A turn takes out an edge, so m turns leave none: a head that is not `END` then names no edge, and `expect` panics
unfoldable pub remove_edges_of : (turns a k : ℕ) → Given → Run Given
remove_edges_of zero a k (given, g) =
    index g.nodes a >>= λ node.
    cond (eqb (node.next ! k) END) (returns (given, g)) panics
remove_edges_of (suc turns) a k (given, g) =
    index g.nodes a >>= λ node.
    cond (eqb (node.next ! k) END) (returns (given, g))
    (remove_edge g (node.next ! k) >>= λ (removed, g').
    expect removed >>= λ edge.
    remove_edges_of turns a k (push given edge, g'))

-- 339-342, with the walker of 959-981. A turn reads a row: m turns and a row more is a list that comes round
unfoldable pub renumber : (turns k old new : ℕ) → List Edge → (next : ℕ) → Run (List Edge)
renumber zero k old new edges next = on_option (get edges next) (returns edges) (λ curedge. endless)
renumber (suc turns) k old new edges next =
    on_option (get edges next) (returns edges) (λ curedge.
    assert (eqb (curedge.node ! k) old)
    (renumber turns k old new (set edges next (edge_with_node curedge (put curedge.node k new))) (curedge.next ! k)))

-- 293-345: the node's weight, and with it what was given to `edge_callback`
unfoldable pub remove_node_with : Graph → ℕ → Run (Option ℤ × List ℕ × Graph)
remove_node_with g a =
    cond (leb (length g.nodes) a) (returns (none, [], g))
    (for_all ([], g) (remove_edges_of (length g.edges) a) >>= λ (given, g').
    swap_remove g'.nodes a >>= λ (node, nodes).
    on_option (get nodes a) (returns (some node.weight, given, graph nodes g'.edges)) (λ ed.
    for_all g'.edges (λ k edges. renumber (length edges) k (as_u32 (length nodes)) a edges (ed.next ! k)) >>= λ edges.
    returns (some node.weight, given, graph nodes edges)))

-- 507-512, one direction: the edge found, or none. m turns and a row more is a list that comes round
unfoldable pub find_along : (turns k b : ℕ) → List Edge → (edix : ℕ) → Run (Option ℕ)
find_along zero k b edges edix = on_option (get edges edix) (returns none) (λ edge. endless)
find_along (suc turns) k b edges edix =
    on_option (get edges edix) (returns none) (λ edge.
    cond (eqb (edge.node ! (1 - k)) b) (returns (some edix))
    (find_along turns k b edges (edge.next ! k)))

-- 503-515: a match returns from inside the loop over the directions
unfoldable pub find_edge_from_node : Graph → Node → ℕ → Run (Option ℕ)
find_edge_from_node g node b =
    find_along (length g.edges) 0 b g.edges (node.next ! 0) >>= λ found.
    on_option found (find_along (length g.edges) 1 b g.edges (node.next ! 1)) (λ edix. returns (some edix))

-- 499-501
unfoldable pub find_edge : Graph → ℕ → ℕ → Run (Option ℕ)
find_edge g a b = on_option (get g.nodes a) (returns none) (λ node. find_edge_from_node g node b)

-- 491-493
unfoldable pub contains_edge : Graph → ℕ → ℕ → Run Bool
contains_edge g a b = find_edge g a b >>= λ found. returns (on_option found false (λ edix. true))

-- 250-258
unfoldable pub update_edge : Graph → ℕ → ℕ → ℕ → Run (ℕ × Graph)
update_edge g a b weight =
    find_edge g a b >>= λ found.
    on_option found (add_edge g a b weight) (λ ix.
    on_option (edge_weight_mut g ix weight) (add_edge g a b weight) (λ g'.
    returns (ix, g')))

-- 583-595
unfoldable pub first_edge : Graph → ℕ → EdgeDirection → Option ℕ
first_edge g a dir =
    on_option (get g.nodes a) none (λ node.
    cond (eqb (node.next ! number_of dir) END) none (some (node.next ! number_of dir)))

-- 598-610
unfoldable pub next_edge : Graph → ℕ → EdgeDirection → Option ℕ
next_edge g e dir =
    on_option (get g.edges e) none (λ node.
    cond (eqb (node.next ! number_of dir) END) none (some (node.next ! number_of dir)))

-- 613-616
unfoldable pub «clear» : Graph → Graph
«clear» g = graph [] []

-- 619-624
unfoldable pub clear_edges : Graph → Graph
clear_edges g = graph (map (λ node. node_with_next node (END, END)) g.nodes) []

-- 1000-1004, `graph[a] = weight`: with what is written through the reference that it gives
unfoldable pub index_mut_node : Graph → ℕ → ℤ → Run Graph
index_mut_node g a weight = index g.nodes a >>= λ node. returns (graph (set g.nodes a (node_weighing node weight)) g.edges)

-- 1023-1027, `graph[e] = weight`
unfoldable pub index_mut_edge : Graph → ℕ → ℕ → Run Graph
index_mut_edge g e weight = index g.edges e >>= λ edge. returns (graph g.nodes (set g.edges e (edge_weighing edge weight)))
