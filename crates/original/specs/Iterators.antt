-- The iterators of graph.rs, and the lists of all their items; the numbers are its lines.
use Rattle.std.specs.Prelude.{ℕ, zero, suc, ◌+◌, cond, List, [], ◌∷◌, map, eqb, length}
use Rattle.std.proofs.Math.Option.{Option, none, some}
use Rattle.index.specs.declared.EdgeDirection.TheVariants.{Outgoing, Incoming}
use Rattle.index.specs.Index.{END}
use Rattle.original.specs.Std.{Run, returns, endless, ◌>>=◌, on_option, get, index, Two, ◌!◌, put}
use Rattle.original.specs.Rust.{Edge, Graph, first_edge, next_edge}

-- an iterator's `next`: an item or none, and the iterator moved on
abbrev pub Next : Type 0 → Type 0 → Type 0
Next I A = I → Run (Option A × I)

-- all items of an iterator: `next` until it gives none. A turn is an item: see `collected` for the turns
unfoldable pub collect : {I A : Type 0} → Next I A → (turns : ℕ) → I → Run (List A)
collect next zero it = endless
collect next (suc turns) it =
    next it >>= λ (item, it').
    on_option item (returns []) (λ x.
    collect next turns it' >>= λ xs.
    returns (x ∷ xs))

-- 661-670, 709-721, 843-855: `Neighbors`, `Edges` and `EdgeWeights` have the same fields but for a direction, which is always outgoing
pub record Around : Type 0 where
  pub skip_start : ℕ
  pub edges : List Edge
  pub next : Two

abbrev pub around_with : Around → Two → Around
around_with it next = record { skip_start = it.skip_start; edges = it.edges; next = next }

-- what an iterator gives for an edge of the outgoing list and for one of the incoming list, by its number and row
pub record Items (A : Type 0) : Type 0 where
  pub outgoing : ℕ → Edge → A
  pub incoming : ℕ → Edge → A

-- 688-693, 746-765, 867-877: a turn reads a row. m turns and a row more is a list that comes round
unfoldable pub next_incoming : {A : Type 0} → Items A → (turns : ℕ) → Next Around A
next_incoming items zero it = on_option (get it.edges (it.next ! 1)) (returns (none, it)) (λ edge. endless)
next_incoming items (suc turns) it =
    on_option (get it.edges (it.next ! 1)) (returns (none, it)) (λ edge.
    cond (eqb (edge.node ! 0) it.skip_start) (next_incoming items turns (around_with it (put it.next 1 (edge.next ! 1))))
    (returns (some (items.incoming (it.next ! 1) edge), around_with it (put it.next 1 (edge.next ! 1)))))

-- 675-695, 726-768, 860-880
unfoldable pub next_around : {A : Type 0} → Items A → Next Around A
next_around items it =
    on_option (get it.edges (it.next ! 0)) (next_incoming items (length it.edges) it) (λ edge.
    returns (some (items.outgoing (it.next ! 0) edge), around_with it (put it.next 0 (edge.next ! 0))))

-- 433-442, 449-459, 518-528
abbrev pub around_of : Graph → ℕ → Around
around_of g a = record { skip_start = a; edges = g.edges; next = on_option (get g.nodes a) (END, END) (λ n. n.next) }

-- all items: two lists of m edges at the most, unless one comes round; then the iterator has no end
abbrev pub collected : {I A : Type 0} → Graph → Next I A → I → Run (List A)
collected g next it = collect next (suc (length g.edges + length g.edges)) it

-- 681, 691
abbrev pub neighbor_items : Items ℕ
neighbor_items = record { outgoing = λ i edge. edge.node ! 1; incoming = λ i edge. edge.node ! 0 }

-- 433-442
unfoldable pub «neighbors» : Graph → ℕ → Run (List ℕ)
«neighbors» g a = collected g (next_around neighbor_items) (around_of g a)

-- 836-839
abbrev pub swap_pair : Two → Two
swap_pair x = (x ! 1, x ! 0)

-- 1031-1061; a weight stands for the reference to it
pub record EdgeReference : Type 0 where
  pub index : ℕ
  pub node : Two
  pub weight : ℕ

-- 734-742, 756-764, where the direction is outgoing: `edges` makes no other
abbrev pub edge_items : Items EdgeReference
edge_items =
    record {
      outgoing = λ i edge. record { index = i; node = edge.node; weight = edge.weight };
      incoming = λ i edge. record { index = i; node = swap_pair edge.node; weight = edge.weight };
    }

-- 449-459
unfoldable pub «edges» : Graph → ℕ → Run (List EdgeReference)
«edges» g a = collected g (next_around edge_items) (around_of g a)

-- 864, 876
abbrev pub weight_items : Items ℕ
weight_items = record { outgoing = λ i edge. edge.weight; incoming = λ i edge. edge.weight }

-- 518-528
unfoldable pub edge_weights : Graph → ℕ → Run (List ℕ)
edge_weights g a = collected g (next_around weight_items) (around_of g a)

-- 823-828, `find` on the iterator of `edges`: a turn is an item of it
unfoldable pub next_between : (turns target : ℕ) → Next Around EdgeReference
next_between zero target it = endless
next_between (suc turns) target it =
    next_around edge_items it >>= λ (item, it').
    on_option item (returns (none, it')) (λ edge.
    cond (eqb (edge.node ! 1) target) (returns (some edge, it')) (next_between turns target it'))

-- 480-485
unfoldable pub edges_between : Graph → ℕ → ℕ → Run (List EdgeReference)
edges_between g a b = collected g (next_between (suc (length g.edges + length g.edges)) b) (around_of g a)

-- 783-787, 895-904: `EdgesMut` and `EdgeWeightsMut` have the same fields, beside the graph
pub record Muts : Type 0 where
  pub incoming_edge : Option ℕ
  pub outgoing_edge : Option ℕ

abbrev pub muts : Option ℕ → Option ℕ → Muts
muts incoming outgoing = record { incoming_edge = incoming; outgoing_edge = outgoing }

-- 793-810, 910-921: `graph[edge]` panics where there is no such edge. The number of the row stands for the reference to its weight
unfoldable pub next_mut : Graph → Next Muts ℕ
next_mut g it =
    on_option it.incoming_edge
    (on_option it.outgoing_edge (returns (none, it)) (λ edge.
    index g.edges edge >>= λ row.
    returns (some edge, muts none (next_edge g edge Outgoing))))
    (λ edge.
    index g.edges edge >>= λ row.
    returns (some edge, muts (next_edge g edge Incoming) it.outgoing_edge))

-- 466-475
unfoldable pub edges_mut : Graph → ℕ → Run (List ℕ)
edges_mut g a = collected g (next_mut g) (muts (first_edge g a Incoming) (first_edge g a Outgoing))

-- 531-540
abbrev pub edge_weights_mut : Graph → ℕ → Run (List ℕ)
edge_weights_mut g a = edges_mut g a

-- 546-550, 932-934
unfoldable pub all_edge_weights : Graph → List ℕ
all_edge_weights g = map (λ edge. edge.weight) g.edges
