-- A sound network stays sound, and these are its lists: `node-set`, `edge-set`, `node-added`, `edge-added`, `updated`, `edges_cleared`,
-- `all_cleared`; whatever the call answers: `node_kept`, `edge_kept`, `update_kept`, `clear_edges-kept`, `clear_kept`. Rows at or past the counts,
-- and weights, have no part in it: `in_use`.
use Prim.{Unit}
use Prim.Native.Nat.{ℕ, ◌+◌, ◌*◌, ◌≤◌, ◌<◌}
use mathlib.Core.Path.{◌≡◌, refl, sym, ◌∙◌, subst}
use mathlib.Core.Logic.{◌⊎◌, inl, inr, ⊎_elim}
use mathlib.Core.Bool.{Bool, true, false, ◌&&◌}
use mathlib.Core.List.{List}
use native.Mathlib.Omega.{arith}
use borrow.Author.Tests.{lt-ltb, ltb-true}
use lib.Dec.{ltb}
use lib.IntN.{ℤ}
use lib.ListN.{length, get_or, set, length-set}
use lib.Seq.{get_or-set_same, get_or-set_other}
use Rattle.index.specs.Index.{END}
use Rattle.tables.specs.Net.{Net, net, fits, with_nodes, with_edges, with_counts, node_cells, node_cell, edge_cell}
use Rattle.tables.specs.Answers.{Out}
use Rattle.tables.specs.Rows.{bare, heads_with, links_with, ends_with, with_node, with_edge, new_edge, headed, vacant_nodes, vacant_edges}
use Rattle.tables.proofs.Laws.{both, Fit, fit-says, tested}
use Rattle.tables.proofs.Vacant.{filled_at}
use Rattle.lookups.specs.Lookups.{set_node_weight, set_edge_weight}
use Rattle.rows.specs.Calls.{add_node, linked, add_edge, clear, clear_edges}
use Rattle.lists.specs.declared.Spot.{Spot}
use Rattle.lists.specs.declared.Spot.TheVariants.{Head, After}
use Rattle.lists.specs.Walk.{link_at}
use Rattle.find.specs.Find.{sought, update_edge}
use Rattle.find.proofs.Laws.{sought-by}
use Rattle.sound.specs.Sound.{end_at, Sound, Lists}
use Rattle.sound.specs.Kept.{node_more, edge_more, bare_lists}
use Rattle.sound.proofs.Same.{counts, members}
use Rattle.sound.proofs.Exactly.{small, two}
use Rattle.sound.proofs.Direction.{agreed, node-more, edge_more_lem}

pub fit_of : (g : Net) → fits g ≡ true
    → Fit (length g.weights) (length g.heads) (length g.registers) (length g.links) (length g.ends) g.n g.m
fit_of g f = fit-says (length g.weights) (length g.heads) (length g.registers) (length g.links) (length g.ends) g.n g.m f

-- two cells of a column set
module _ (l : List ℕ) (i j x y : ℕ) (apart : i ≡ j → ⊥) where
  pub first_cell : i < length l → get_or (set (set l i x) j y) i 0 ≡ x
  first_cell h = get_or-set_other (set l i x) j i y 0 apart ∙ get_or-set_same l i x 0 h

  pub second_cell : j < length l → get_or (set (set l i x) j y) j 0 ≡ y
  second_cell h = get_or-set_same (set l i x) j y 0 (rw (length-set l i x) h)

  pub other_cell : (c : ℕ) → (c ≡ i → ⊥) → (c ≡ j → ⊥) → get_or (set (set l i x) j y) c 0 ≡ get_or l c 0
  other_cell c p q = get_or-set_other (set l i x) j c y 0 q ∙ get_or-set_other l i c x 0 p

-- the rows in use of two networks with the same counts hold the same links and ends
pub record Agree (g h : Net) : Type 0 where
  pub nodes : h.n ≡ g.n
  pub edges : h.m ≡ g.m
  pub heads : (k c : ℕ) → k < 2 → c < g.n → link_at h k (Head c) ≡ link_at g k (Head c)
  pub nexts : (k x : ℕ) → k < 2 → x < g.m → link_at h k (After x) ≡ link_at g k (After x)
  pub ends : (k x : ℕ) → k < 2 → x < g.m → end_at h k x ≡ end_at g k x

recount : {n n' m m' : ℕ} {lk : Spot → ℕ} {node : ℕ → ℕ} {ls : ℕ → List ℕ} → n' ≡ n → m' ≡ m → Lists n m lk node ls → Lists n' m' lk node ls
recount p q L = rw (p, q) L

-- rows at or past the counts, and weights, have no part in soundness
pub in_use : (g h : Net) (ls : ℕ → ℕ → List ℕ) → fits g ≡ true → Agree g h → Sound g ls → Sound h ls
in_use g h ls f A S =
    let s = small g f in
    let s' : h.m ≤ END = rw A.edges s in
    let L = members g ls s S in
    counts h ls s' (λ k l.
    recount A.nodes A.edges
    (agreed g.n g.m s (link_at g k) (link_at h k) (end_at g k) (end_at h k) (ls k) (L k l)
    (λ y. A.nexts k y l)
    (λ y. A.ends k y l)
    (λ c. A.heads k c l)))

other_weights : (g : Net) (weights : List ℤ) (registers : List ℕ) → Agree g (net weights g.heads registers g.links g.ends g.n g.m)
other_weights g weights registers =
    record { nodes = refl; edges = refl; heads = λ k c l h. refl; nexts = λ k x l h. refl; ends = λ k x l h. refl }

-- the sets keep every list
pub node-set : (g : Net) (ls : ℕ → ℕ → List ℕ) (a : ℕ) (w : ℤ) → Sound g ls → Sound (set_node_weight g a w).after ls
unfolding set_node_weight
node-set g ls a w S =
    let P : Out (Unit {0}) Net → Type 0 = λ o. Sound o.after ls in
    tested P (fits g) _ _ S (λ f.
    tested P (ltb a g.n) _ _ S (λ l.
    in_use g (with_nodes g (set g.weights a w) g.heads) ls f (other_weights g (set g.weights a w) g.registers) S))

pub edge-set : (g : Net) (ls : ℕ → ℕ → List ℕ) (e w : ℕ) → Sound g ls → Sound (set_edge_weight g e w).after ls
unfolding set_edge_weight
edge-set g ls e w S =
    let P : Out (Unit {0}) Net → Type 0 = λ o. Sound o.after ls in
    tested P (fits g) _ _ S (λ f.
    tested P (ltb e g.m) _ _ S (λ l.
    in_use g (with_edges g (set g.registers e w) g.links g.ends) ls f (other_weights g g.weights (set g.registers e w)) S))

-- the network with row n a bare node
abbrev noded : Net → ℤ → Net
noded g w = with_counts (with_nodes g (set g.weights g.n w) (heads_with g.heads g.n (bare w))) (g.n + 1) g.m

-- a new node has empty lists, and the others keep theirs
module _ (g : Net) (ls : ℕ → ℕ → List ℕ) (w : ℤ) (f : fits g ≡ true) (room : g.n < length g.weights) (S : Sound g ls) where
  noded_is : (add_node g w).after ≡ noded g w
  unfolding add_node with_node
  noded_is = rw (f, lt-ltb g.n (length g.weights) room)

  noded_sound : Sound (noded g w) (node_more g.n ls)
  noded_sound =
      let t = fit_of g f in
      let i = node_cell g.n 0 in
      let j = node_cell g.n 1 in
      let apart : i ≡ j → ⊥ = λ e. omega arith in
      let L = members g ls (small g f) S in
      counts (noded g w) (node_more g.n ls) (small g f) (λ k l.
      node-more g.n g.m (small g f) (link_at g k) (link_at (noded g w) k) (end_at g k) (end_at (noded g w) k) (ls k) (L k l)
      (λ y h. refl)
      (λ y h. refl)
      (λ c h. other_cell g.heads i j END END apart (node_cell c k) (λ e. omega arith) (λ e. omega arith))
      (two (λ k. link_at (noded g w) k (Head g.n) ≡ END)
      (first_cell g.heads i j END END apart (omega arith))
      (second_cell g.heads i j END END apart (omega arith))
      k l))

  pub node-added : Sound (add_node g w).after (node_more g.n ls)
  node-added = subst (λ h. Sound h (node_more g.n ls)) (sym noded_is) noded_sound

-- the network with row m the edge from a to b
abbrev edged : Net → ℕ → ℕ → ℕ → Net
edged g a b w =
    net
    g.weights
    (headed g.heads a b g.m)
    (set g.registers g.m w)
    (links_with g.links g.m (new_edge g.heads a b w))
    (ends_with g.ends g.m (new_edge g.heads a b w))
    g.n
    (g.m + 1)

-- a new edge stands at the front of its two lists, and the others are as they were
module _ (g : Net) (ls : ℕ → ℕ → List ℕ) (a b w : ℕ) (f : fits g ≡ true) (room : g.m < length g.registers)
    (source : a < g.n) (target : b < g.n) (S : Sound g ls) where
  edged_is : (add_edge g a b w).after ≡ edged g a b w
  unfolding add_edge linked with_edge
  edged_is = rw (f, lt-ltb g.m (length g.registers) room, lt-ltb a g.n source, lt-ltb b g.n target)

  edged_sound : Sound (edged g a b w) (edge_more g.m a b ls)
  edged_sound =
      let t = fit_of g f in
      let s = small g f in
      let s' : g.m + 1 ≤ END = omega arith in
      let L = members g ls s S in
      let i = node_cell a 0 in
      let j = node_cell b 1 in
      let d : i ≡ j → ⊥ = λ e. omega arith in
      let p = edge_cell g.m 0 in
      let q = edge_cell g.m 1 in
      let d' : p ≡ q → ⊥ = λ e. omega arith in
      let x = get_or g.heads i 0 in
      let y = get_or g.heads j 0 in
      let afters : (k z : ℕ) → k < 2 → z < g.m → link_at (edged g a b w) k (After z) ≡ link_at g k (After z) =
      λ k z l h. other_cell g.links p q x y d' (edge_cell z k) (λ e. omega arith) (λ e. omega arith) in
      let ends : (k z : ℕ) → k < 2 → z < g.m → end_at (edged g a b w) k z ≡ end_at g k z =
      λ k z l h. other_cell g.ends p q a b d' (edge_cell z k) (λ e. omega arith) (λ e. omega arith) in
      counts (edged g a b w) (edge_more g.m a b ls) s'
      (two (λ k. Lists g.n (g.m + 1) (link_at (edged g a b w) k) (end_at (edged g a b w) k) (edge_more g.m a b ls k))
      (edge_more_lem g.n g.m s (link_at g 0) (link_at (edged g a b w) 0) (end_at g 0) (end_at (edged g a b w) 0) (ls 0) (L 0 (omega arith))
      (λ z. afters 0 z (omega arith))
      (λ z. ends 0 z (omega arith))
      a source
      (λ c h n. other_cell g.heads i j g.m g.m d (node_cell c 0) (λ e. omega arith) (λ e. omega arith))
      (first_cell g.heads i j g.m g.m d (omega arith))
      (first_cell g.links p q x y d' (omega arith))
      (first_cell g.ends p q a b d' (omega arith)))
      (edge_more_lem g.n g.m s (link_at g 1) (link_at (edged g a b w) 1) (end_at g 1) (end_at (edged g a b w) 1) (ls 1) (L 1 (omega arith))
      (λ z. afters 1 z (omega arith))
      (λ z. ends 1 z (omega arith))
      b target
      (λ c h n. other_cell g.heads i j g.m g.m d (node_cell c 1) (λ e. omega arith) (λ e. omega arith))
      (second_cell g.heads i j g.m g.m d (omega arith))
      (second_cell g.links p q x y d' (omega arith))
      (second_cell g.ends p q a b d' (omega arith))))

  pub edge-added : Sound (add_edge g a b w).after (edge_more g.m a b ls)
  edge-added = subst (λ h. Sound h (edge_more g.m a b ls)) (sym edged_is) edged_sound

-- with no edges every list is empty
pub edges_cleared : (g : Net) → fits g ≡ true → Sound (clear_edges g).after bare_lists
unfolding clear_edges vacant_edges
edges_cleared g f =
    let t = fit_of g f in
    rw f (
    record {
      all_end = λ k a l h. filled_at g.heads 0 (node_cells * g.n) END (node_cell a k) 0 (omega arith) (omega arith) (omega arith);
      has_ends = λ k x l h. absurd (omega arith);
      once = λ k x l h. absurd (omega arith);
      no_other = λ k x a l h. absurd (omega arith);
    }
    )

pub all_cleared : (g : Net) → fits g ≡ true → Sound (clear g).after bare_lists
unfolding clear vacant_edges vacant_nodes
all_cleared g f =
    rw f (
    record {
      all_end = λ k a l h. absurd (omega arith);
      has_ends = λ k x l h. absurd (omega arith);
      once = λ k x l h. absurd (omega arith);
      no_other = λ k x a l h. absurd (omega arith);
    }
    )

-- whatever the call answers, a sound network is left sound
abbrev pub HasLists : Net → Type 0
HasLists g = (ls : ℕ → ℕ → List ℕ) × Sound g ls

pub node_kept : (g : Net) (ls : ℕ → ℕ → List ℕ) (w : ℤ) → Sound g ls → HasLists (add_node g w).after
unfolding add_node with_node
node_kept g ls w S =
    let P : Out ℕ Net → Type 0 = λ o. HasLists o.after in
    tested P (fits g) _ _ (ls, S) (λ f.
    tested P (ltb g.n (length g.weights)) _ _ (ls, S) (λ l.
    (node_more g.n ls, noded_sound g ls w f (ltb-true g.n (length g.weights) l) S)))

pub edge_kept : (g : Net) (ls : ℕ → ℕ → List ℕ) (a b w : ℕ) → Sound g ls → HasLists (add_edge g a b w).after
unfolding add_edge linked with_edge
edge_kept g ls a b w S =
    let P : Out ℕ Net → Type 0 = λ o. HasLists o.after in
    tested P (fits g) _ _ (ls, S) (λ f.
    tested P (ltb g.m (length g.registers)) _ _ (ls, S) (λ l.
    tested P (ltb a g.n && ltb b g.n) _ _ (ls, S) (λ e.
    let i = both (ltb a g.n) (ltb b g.n) e in (
      edge_more g.m a b ls,
      edged_sound g ls a b w f (ltb-true g.m (length g.registers) l) (ltb-true a g.n i.0) (ltb-true b g.n i.1) S,
    ))))

kept_by : (g h : Net) (ls : ℕ → ℕ → List ℕ) (b : Bool) → (b ≡ true → HasLists h) → (b ≡ false → h ≡ g) → Sound g ls → HasLists h
kept_by g h ls true p q S = p refl
kept_by g h ls false p q S = subst HasLists (sym (q refl)) (ls, S)

pub clear_edges-kept : (g : Net) (ls : ℕ → ℕ → List ℕ) → Sound g ls → HasLists (clear_edges g).after
unfolding clear_edges
clear_edges-kept g ls S = kept_by g (clear_edges g).after ls (fits g) (λ f. (bare_lists, edges_cleared g f)) (λ f. rw f) S

pub clear_kept : (g : Net) (ls : ℕ → ℕ → List ℕ) → Sound g ls → HasLists (clear g).after
unfolding clear
clear_kept g ls S = kept_by g (clear g).after ls (fits g) (λ f. (bare_lists, all_cleared g f)) (λ f. rw f) S

-- an update leaves every list as it was, or is an add
pub updated : (g : Net) (ls : ℕ → ℕ → List ℕ) (a b w : ℕ) → Sound g ls → Sound (update_edge g a b w).after ls ⊎ (update_edge g a b w ≡ add_edge g a b w)
unfolding update_edge
updated g ls a b w S =
    let P : Out ℕ Net → Type 0 = λ o. Sound o.after ls ⊎ (o ≡ add_edge g a b w) in
    tested P (fits g) _ _ (inl S) (λ f.
    tested P (ltb a g.n) _ _ (inr refl) (λ l.
    sought-by P (sought g a b) _ _ _
    (λ e. inl (in_use g (with_edges g (set g.registers e w) g.links g.ends) ls f (other_weights g g.weights (set g.registers e w)) S))
    (inr refl)
    (inl S)))

pub update_kept : (g : Net) (ls : ℕ → ℕ → List ℕ) (a b w : ℕ) → Sound g ls → HasLists (update_edge g a b w).after
update_kept g ls a b w S = ⊎_elim (λ T. (ls, T)) (λ e. subst (λ (o : Out ℕ Net). HasLists o.after) (sym e) (edge_kept g ls a b w S)) (updated g ls a b w S)
