-- Whatever the line, there are as many edge rows as before, and every output table is as long as it was: `line_sizes`.
use Prim.Native.Nat.{ℕ, zero, suc, ◌-◌, ◌≤◌}
use mathlib.Core.Path.{◌≡◌, refl, ap, ◌∙◌}
use mathlib.Core.Bool.{◌&&◌}
use mathlib.Core.List.{List, [], ◌++◌, map}
use native.Mathlib.Omega.{arith}
use borrow.Author.Tests.{leb-true}
use lib.Dec.{eqb, ltb, leb}
use lib.IntN.{ℤ}
use lib.ListN.{length, get_or, drop, set, length-set, length-append, length-drop, length-map}
use Rattle.index.specs.Index.{is_end}
use Rattle.tables.specs.Net.{Net, fits}
use Rattle.tables.specs.Answers.{Out, onto, give}
use Rattle.tables.specs.Rows.{with_node, with_edge, vacant_nodes, vacant_edges}
use Rattle.tables.proofs.Laws.{both}
use Rattle.tables.proofs.Laws.{tested}
use Rattle.tables.proofs.Vacant.{filled-length}
use Rattle.rows.specs.Calls.{add_node, linked, add_edge, clear_edges, clear}
use Rattle.lists.specs.declared.Item.{Item}
use Rattle.lists.specs.declared.Item.TheVariants.{Number, Near, Far, Weight}
use Rattle.lists.specs.declared.Pick.TheVariants.{Every, To, NotTo, ToNot}
use Rattle.lists.specs.declared.Spot.TheVariants.{Head}
use Rattle.lists.specs.Walk.{link_at, gives, picks, around}
use Rattle.legs.specs.Legs.{Tables3, room_for, give_three}
use Rattle.walks.specs.Walks.{walked, neighbors, edges, edges_mut, edges_between}
use Rattle.find.specs.Find.{sought, update_edge}
use Rattle.find.proofs.Laws.{sought-by}
use Rattle.sound.specs.Sound.{lists}
use Rattle.sound.specs.Check.{checked, accepted}
use Rattle.sound.proofs.Kept.{fit_of}
use Rattle.links.specs.Links.{led}
use Rattle.removal.specs.Removal.{place_of, bypassed, last_out, last_into, last_moved, gone, taken_out, remove_edge}
use Rattle.removal.proofs.EdgeOuts.{by_place}
use Rattle.closing.specs.Closing.{Closed, closed_if_room, remove_node}
use Rattle.stripping.specs.Heads.{Strip, strip, head_out, emptied, stripped}
use Rattle.dropping.specs.Drop.{dropped}
use Rattle.closing.proofs.NodeOuts.{node-out}
use Rattle.commands.specs.Commands.{add_node_line, add_edge_line, update_edge_line, remove_edge_line, remove_node_line}
use Rattle.commands.specs.Commands.{neighbors_line, edges_line, edges_mut_line, edges_between_line, clear_edges_line, clear_line}
use Rattle.commands.proofs.Ways.{node_ways}
use Rattle.dispatch.specs.declared.Numbers.{Numbers}
use Rattle.dispatch.specs.Step.{State, step}
use Rattle.dispatch.proofs.Keeps.{step_ways}
use Rattle.obeying.specs.Line.{line_answer}
use Rattle.obeying.proofs.Reading.{line_so}
use Rattle.obeying.proofs.Listing.{walked_so}

-- how many edge rows a call leaves
abbrev Leaves : {A : Type 0} → ℕ → Out A Net → Type 0
Leaves rows o = length o.after.registers ≡ rows

module _ (g : Net) where
  abbrev rows : ℕ
  rows = length g.registers

  node-rows : (w : ℤ) → Leaves rows (add_node g w)
  unfolding add_node with_node
  node-rows w = tested (Leaves rows) (fits g) _ _ refl (λ f. tested (Leaves rows) (ltb g.n (length g.weights)) _ _ refl (λ l. refl))

  edge-rows : (a b w : ℕ) → Leaves rows (add_edge g a b w)
  unfolding add_edge linked with_edge
  edge-rows a b w =
      tested (Leaves rows) (fits g) _ _ refl (λ f.
      tested (Leaves rows) (ltb g.m (length g.registers)) _ _ refl (λ l.
      tested (Leaves rows) (ltb a g.n && ltb b g.n) _ _ refl (λ h. length-set g.registers g.m w)))

  update_rows : (a b w : ℕ) → Leaves rows (update_edge g a b w)
  unfolding update_edge
  update_rows a b w =
      tested (Leaves rows) (fits g) _ _ refl (λ f.
      tested (Leaves rows) (ltb a g.n) _ _ (edge-rows a b w) (λ l.
      sought-by (Leaves rows) (sought g a b) _ _ _ (λ e. length-set g.registers e w) (edge-rows a b w) refl))

  clear_edges-rows : Leaves rows (clear_edges g)
  unfolding clear_edges vacant_edges
  clear_edges-rows = tested (Leaves rows) (fits g) _ _ refl (λ f. filled-length g.registers 0 g.m 0 (omega arith) (fit_of g f).m_within)

  clear-rows : Leaves rows (clear g)
  unfolding clear vacant_edges vacant_nodes
  clear-rows = tested (Leaves rows) (fits g) _ _ refl (λ f. filled-length g.registers 0 g.m 0 (omega arith) (fit_of g f).m_within)

  taken_rows : (e : ℕ) → Leaves rows (taken_out g e)
  unfolding taken_out gone last_moved last_into last_out bypassed led with_edge
  taken_rows e =
      let l = g.m - 1 in
      by_place (Leaves rows) (place_of g e) _ _
      (λ s t read.
      tested (Leaves rows) (eqb e l) _ _
      (by_place (Leaves rows) (place_of (bypassed g e s t) l) _ _
      (λ u v more. let w = get_or g.registers l 0 in length-set (set g.registers e w) l 0 ∙ length-set g.registers e w)
      refl)
      (λ q. length-set g.registers e 0))
      refl

  removal_rows : (e : ℕ) → Leaves rows (remove_edge g e)
  unfolding remove_edge
  removal_rows e = tested (Leaves rows) (fits g) _ _ refl (λ f. tested (Leaves rows) (ltb e g.m) _ _ refl (λ l. taken_rows e))

emptied-rows : (most k a : ℕ) (t : Strip) → length (emptied most k a t).rest.registers ≡ length t.rest.registers
unfolding emptied
emptied-rows zero k a t = refl
emptied-rows (suc most) k a t =
    let e = link_at t.rest k (Head a) in
    tested (λ (u : Strip). length u.rest.registers ≡ length t.rest.registers) (is_end e) (emptied most k a (head_out k a t)) t
    (emptied-rows most k a (head_out k a t) ∙ taken_rows t.rest e)
    (λ q. refl)

stripped-rows : (g : Net) (a : ℕ) → length (stripped g a).rest.registers ≡ length g.registers
unfolding stripped
stripped-rows g a = emptied-rows g.m 1 a (emptied g.m 0 a (strip g [] 0)) ∙ emptied-rows g.m 0 a (strip g [] 0)

closing_rows : (g : Net) (a : ℕ) (items : List ℕ) → length (remove_node g a items).after.0.registers ≡ length g.registers
unfolding remove_node closed_if_room dropped
closing_rows g a items =
    let P : Closed → Type 0 = λ o. length o.after.0.registers ≡ length g.registers in
    tested P (fits g) _ _ refl (λ f.
    tested P (ltb a g.n) _ _ refl (λ l.
    tested P (accepted (checked g)) _ _ refl (λ c.
    tested P (leb (length (around g Weight a)) (length items)) _ _ refl (λ r. stripped-rows g a))))

-- items at the front of a table leave it as long as it was
onto_length : (items table : List ℕ) → length items ≤ length table → length (onto items table) ≡ length table
onto_length items table h = omega (arith, length-append items (drop (length items) table), length-drop (length items) table)

abbrev Keeps : ℕ → Out ℕ (List ℕ) → Type 0
Keeps long o = length o.after ≡ long

give_length : (items table : List ℕ) → Keeps (length table) (give items table)
give_length items table =
    tested (Keeps (length table)) (leb (length items) (length table)) _ _ refl (λ l. onto_length items table (leb-true (length items) (length table) l))

abbrev KeepsThree : Tables3 → Tables3 → Type 0
KeepsThree t u = (length u.numbers ≡ length t.numbers) × (length u.sources ≡ length t.sources) × (length u.targets ≡ length t.targets)

-- a walk gives an item for every row, whichever it gives
around-length : (g : Net) (a : ℕ) (item : Item) → length (around g item a) ≡ length (around g Number a)
around-length g a item =
    let first = picks g 0 Every a in
    let second = picks g 1 (NotTo (record { 0 = a })) a in
    omega (
      arith,
      length-append (map (gives g item 0) first) (map (gives g item 1) second),
      length-append (map (gives g Number 0) first) (map (gives g Number 1) second),
      length-map first (gives g item 0),
      length-map second (gives g item 1),
      length-map first (gives g Number 0),
      length-map second (gives g Number 1),
    )

three_length : (g : Net) (a : ℕ) (t : Tables3) → KeepsThree t (give_three (λ item. around g item a) t).after
three_length g a t =
    let count = length (around g Number a) in
    tested (λ (o : Out ℕ Tables3). KeepsThree t o.after) (room_for count t) _ _ (refl, refl, refl) (λ r.
    let first = both (leb count (length t.numbers) && leb count (length t.sources)) (leb count (length t.targets)) r in
    let second = both (leb count (length t.numbers)) (leb count (length t.sources)) first.0 in (
      onto_length (around g Number a) t.numbers (leb-true count (length t.numbers) second.0),
      onto_length (around g Near a) t.sources (omega (arith, around-length g a Near, leb-true count (length t.sources) second.1)),
      onto_length (around g Far a) t.targets (omega (arith, around-length g a Far, leb-true count (length t.targets) first.1)),
    ))

module _ (g : Net) (a : ℕ) (table : List ℕ) where
  walk-length : (items : List ℕ) → Keeps (length table) (walked g a table (give items table))
  walk-length items = walked_so (Keeps (length table)) g a table (give items table) (λ x. refl) (give_length items table)

  closing_length : length (remove_node g a table).after.1 ≡ length table
  closing_length =
      node_ways (λ o. length o.after.1 ≡ length table) g a table (λ why. refl) (λ f S l r.
      ap length (node-out g (lists g) a table f S l r).given ∙ onto_length (around g Weight a) table r)

edges-length : (g : Net) (a : ℕ) (t : Tables3) → KeepsThree t (edges g a t).after
unfolding edges
edges-length g a t =
    walked_so (λ o. KeepsThree t o.after) g a t (give_three (λ item. around g item a) t) (λ x. (refl, refl, refl)) (three_length g a t)

-- every command
abbrev SameSizes : State → State → Type 0
SameSizes s t = (length t.network.registers ≡ length s.network.registers) × KeepsThree s.tables t.tables

step_sizes : (letter : ℕ) (o : Numbers) (s : State) → SameSizes s (step letter o s).after
unfolding add_node_line add_edge_line update_edge_line remove_edge_line remove_node_line
    neighbors_line edges_line edges_mut_line edges_between_line clear_edges_line clear_line neighbors edges_mut edges_between
step_sizes letter o s =
    let g = s.network in
    let t = s.tables.numbers in
    let a = o.a in
    let same : KeepsThree s.tables s.tables = (refl, refl, refl) in
    step_ways (λ r. SameSizes s r.after) o s letter
    (node-rows g o.w, same)
    (edge-rows g a o.b o.c, same)
    (update_rows g a o.b o.c, same)
    (refl, same)
    (removal_rows g a, same)
    (closing_rows g a t, (closing_length g a t, refl, refl))
    (refl, (walk-length g a t (around g Far a), refl, refl))
    (refl, edges-length g a s.tables)
    (refl, (walk-length g a t (picks g 1 Every a ++ picks g 0 Every a), refl, refl))
    (refl, (walk-length g a t (picks g 0 (To (record { 0 = o.b })) a ++ picks g 1 (ToNot (record { 0 = o.b }) (record { 0 = a })) a), refl, refl))
    (refl, same)
    (refl, same)
    (clear_edges-rows g, same)
    (clear-rows g, same)
    (refl, same)

pub line_sizes : (line : List ℕ) (s : State) → SameSizes s (line_answer line s).after
line_sizes line s = line_so (λ r. SameSizes s r.after) s (refl, (refl, refl, refl)) (λ letter o. step_sizes letter o s) line
