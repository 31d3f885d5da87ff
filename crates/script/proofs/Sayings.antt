-- With output tables of two items for each edge row no command is refused 7; and on a network that fits and is sound none is refused 1 or 6. So in a run
-- a line is told 0, 2, 3, 4, 5 or 10: `run-told`.
use Prim.Native.Nat.{ℕ, ◌*◌, ◌-◌, ◌≤◌}
use mathlib.Core.Path.{◌≡◌, refl}
use mathlib.Core.Bool.{true, not, ◌&&◌}
use mathlib.Core.List.{List, [], ◌∷◌, ◌++◌, map}
use native.Mathlib.Omega.{arith}
use borrow.Author.Tests.{le-leb, ne_eqb}
use lib.Dec.{eqb, ltb}
use lib.IntN.{ℤ}
use lib.ListN.{length, length-append, length-map}
use Rattle.tables.specs.Net.{Net, fits}
use Rattle.tables.specs.Answers.{Told, Out, give}
use Rattle.tables.proofs.Laws.{tested}
use Rattle.rows.specs.Calls.{add_node, add_edge, clear_edges, clear}
use Rattle.lists.specs.declared.Item.{Item}
use Rattle.lists.specs.declared.Item.TheVariants.{Number, Far, Weight}
use Rattle.lists.specs.declared.Pick.{Pick}
use Rattle.lists.specs.declared.Pick.TheVariants.{Every, To, NotTo, ToNot}
use Rattle.lists.specs.declared.Spot.TheVariants.{Head}
use Rattle.lists.specs.Walk.{cell, link_at, picked, rows_from, gives, picks, broken, around}
use Rattle.lists.proofs.Gives.{walk-length}
use Rattle.legs.specs.Legs.{Tables3, give_three}
use Rattle.walks.specs.Walks.{walked, neighbors, edges, edges_mut, edges_between}
use Rattle.find.specs.Find.{sought, find_edge, update_edge}
use Rattle.find.proofs.Laws.{sought-by}
use Rattle.walker.specs.Sums.{present, sum_around}
use Rattle.sound.specs.Check.{checked, accepted, told_checked}
use Rattle.sound.proofs.Exactly.{sound_0}
use Rattle.sound.proofs.Kept.{fit_of}
use Rattle.removal.specs.Removal.{place_of, bypassed, last_moved, gone, taken_out, remove_edge}
use Rattle.removal.proofs.EdgeOuts.{by_place}
use Rattle.closing.specs.Closing.{closed_if_room, remove_node}
use Rattle.stripping.proofs.Others.{filter-fewer}
use Rattle.text.specs.Lines.{lines}
use Rattle.reply.specs.declared.Reply.{Reply}
use Rattle.commands.specs.Commands.{nothing, one_value, one_number, counted, edge_gone, node_gone, rows_read, reply_to, add_node_line, add_edge_line, update_edge_line}
use Rattle.commands.specs.Commands.{find_edge_line, remove_edge_line, remove_node_line, neighbors_line, edges_line, edges_mut_line, edges_between_line, sum_around_line}
use Rattle.commands.specs.Commands.{check_line, clear_edges_line, clear_line}
use Rattle.commands.proofs.Kept.{Sane}
use Rattle.letters.specs.Letters.{among}
use Rattle.dispatch.specs.declared.Numbers.{Numbers}
use Rattle.dispatch.specs.Step.{State, step}
use Rattle.dispatch.proofs.Keeps.{step_ways}
use Rattle.obeying.specs.Line.{line_answer}
use Rattle.script.specs.Script.{answers, Each, begun}
use Rattle.obeying.proofs.Reading.{line_so}
use Rattle.obeying.proofs.Listing.{reply_so}
use Rattle.script.proofs.Throughout.{begun-sane, line_keeps, line_6, each-answer}
use Rattle.obeying.proofs.Sizes.{line_sizes}

-- neither 1 nor 7; 6 is for another law
abbrev Says : ℕ → Type 0
Says x = among x (0 ∷ 2 ∷ 3 ∷ 4 ∷ 5 ∷ 6 ∷ 10 ∷ []) ≡ true

abbrev Answers : {A S : Type 0} → Out A S → Type 0
Answers o = Says o.answer.number

-- a reply tells its answer's number
reply_says : {A : Type 0} (letter : ℕ) (served : ℕ → A → Reply) (told : Told A) → (served letter told.values).number ≡ 0 → Says told.number
    → Says (reply_to letter served told).number
reply_says letter served told z h = reply_so (λ r. Says r.number) letter served told (rw z refl) h

-- calls on tables that fit
module _ (g : Net) (f : fits g ≡ true) where
  node-says : (w : ℤ) → Answers (add_node g w)
  unfolding add_node
  node-says w = rw f (tested Answers (ltb g.n (length g.weights)) _ _ refl (λ l. refl))

  edge-says : (a b w : ℕ) → Answers (add_edge g a b w)
  unfolding add_edge
  edge-says a b w =
      rw f (tested Answers (ltb g.m (length g.registers)) _ _ refl (λ l. tested Answers (ltb a g.n && ltb b g.n) _ _ refl (λ h. refl)))

  update_says : (a b w : ℕ) → Answers (update_edge g a b w)
  unfolding update_edge
  update_says a b w =
      rw f (tested Answers (ltb a g.n) _ _ (edge-says a b w) (λ l. sought-by Answers (sought g a b) _ _ _ (λ e. refl) (edge-says a b w) refl))

  find-says : (a b : ℕ) → Says (find_edge g a b).number
  unfolding find_edge
  find-says a b =
      let P : Told ℕ → Type 0 = λ t. Says t.number in
      rw f (tested P (ltb a g.n) _ _ refl (λ l. sought-by P (sought g a b) _ _ _ (λ e. refl) refl refl))

  removal_says : (e : ℕ) → Answers (remove_edge g e)
  unfolding remove_edge taken_out gone last_moved
  removal_says e =
      let l = g.m - 1 in
      rw f (tested Answers (ltb e g.m) _ _ refl (λ h.
      by_place Answers (place_of g e) _ _
      (λ s t rows. tested Answers (eqb e l) _ _ (by_place Answers (place_of (bypassed g e s t) l) _ _ (λ u v more. refl) refl) (λ q. refl))
      refl))

  sum-says : (a : ℕ) → Says (sum_around g a).number
  unfolding sum_around
  sum-says a =
      let P : Told ℤ → Type 0 = λ t. Says t.number in
      rw f (tested P (ltb a g.n) _ _ refl (λ l. tested P (not (broken g 0 a) && not (broken g 1 a) && present g.n (around g Far a)) _ _ refl (λ b. refl)))

  no_edges_says : Answers (clear_edges g)
  unfolding clear_edges
  no_edges_says = rw f refl

  nothing-says : Answers (clear g)
  unfolding clear
  nothing-says = rw f refl

  -- a walk takes at most m rows of a list, of two lists at most two for each edge row
  picks-few : (k : ℕ) (pick : Pick) (a : ℕ) → length (picks g k pick a) ≤ length g.registers
  picks-few k pick a =
      let rows = rows_from g.links g.m k (link_at g k (Head a)) in
      omega (
        arith,
        filter-fewer (λ x. picked pick (cell g.ends (1 - k) x)) rows,
        walk-length (cell g.links k) g.m g.m (link_at g k (Head a)),
        (fit_of g f).m_within,
      )

  two_few : (j k : ℕ) (p q : Pick) (a : ℕ) → length (picks g j p a ++ picks g k q a) ≤ 2 * length g.registers
  two_few j k p q a = omega (arith, length-append (picks g j p a) (picks g k q a), picks-few j p a, picks-few k q a)

  around-few : (item : Item) (a : ℕ) → length (around g item a) ≤ 2 * length g.registers
  around-few item a =
      let first = picks g 0 Every a in
      let second = picks g 1 (NotTo (record { 0 = a })) a in
      omega (
        arith,
        length-append (map (gives g item 0) first) (map (gives g item 1) second),
        length-map first (gives g item 0),
        length-map second (gives g item 1),
        picks-few 0 Every a,
        picks-few 1 (NotTo (record { 0 = a })) a,
      )

  walk-says : {T : Type 0} (a : ℕ) (table : T) (given : Out ℕ T) → Answers given → Answers (walked g a table given)
  walk-says a table given h =
      rw f (tested Answers (ltb a g.n) _ _ refl (λ l. tested Answers (not (broken g 0 a) && not (broken g 1 a)) _ _ refl (λ b. h)))

  gives-says : (a : ℕ) (items table : List ℕ) → length items ≤ length table → Answers (walked g a table (give items table))
  gives-says a items table h = walk-says a table (give items table) (rw (le-leb (length items) (length table) h) refl)

  closing_says : (a : ℕ) (items : List ℕ) → length (around g Weight a) ≤ length items → Answers (remove_node g a items)
  unfolding remove_node closed_if_room
  closing_says a items h =
      rw f (tested Answers (ltb a g.n) _ _ refl (λ l. tested Answers (accepted (checked g)) _ _ refl (λ c. rw (le-leb (length (around g Weight a)) (length items) h) refl)))

-- a network that fits and is sound, and output tables of two items for each edge row
record Roomy (s : State) : Type 0 where
  sane : Sane s.network
  numbers_hold : 2 * length s.network.registers ≤ length s.tables.numbers
  sources_hold : 2 * length s.network.registers ≤ length s.tables.sources
  targets_hold : 2 * length s.network.registers ≤ length s.tables.targets

three_says : (g : Net) (f : fits g ≡ true) (a : ℕ) (t : Tables3) → 2 * length g.registers ≤ length t.numbers
    → 2 * length g.registers ≤ length t.sources → 2 * length g.registers ≤ length t.targets → Answers (give_three (λ item. around g item a) t)
three_says g f a t n s r =
    let few = around-few g f Number a in
    rw (
      le-leb (length (around g Number a)) (length t.numbers) (omega arith),
      le-leb (length (around g Number a)) (length t.sources) (omega arith),
      le-leb (length (around g Number a)) (length t.targets) (omega arith),
    )
    refl

module _ (letter : ℕ) (o : Numbers) (s : State) (h : Roomy s) where
  step-says : Says (step letter o s).reply.number
  unfolding add_node_line add_edge_line update_edge_line find_edge_line remove_edge_line remove_node_line neighbors_line edges_line edges_mut_line edges_between_line
      sum_around_line check_line clear_edges_line clear_line neighbors edges edges_mut edges_between
  step-says =
      let g = s.network in
      let f = h.sane.0 in
      let a = o.a in
      let b = o.b in
      let t = s.tables.numbers in
      let between = picks g 0 (To (record { 0 = b })) a ++ picks g 1 (ToNot (record { 0 = b }) (record { 0 = a })) a in
      let every = picks g 1 Every a ++ picks g 0 Every a in
      step_ways (λ r. Says r.reply.number) o s letter
      (reply_says 78 one_number (add_node g o.w).answer refl (node-says g f o.w))
      (reply_says 69 one_number (add_edge g a b o.c).answer refl (edge-says g f a b o.c))
      (reply_says 85 one_number (update_edge g a b o.c).answer refl (update_says g f a b o.c))
      (reply_says 70 one_number (find_edge g a b) refl (find-says g f a b))
      (reply_says 88 edge_gone (remove_edge g a).answer refl (removal_says g f a))
      (reply_says 68 node_gone (remove_node g a t).answer refl (closing_says g f a t (omega (arith, around-few g f Weight a, h.numbers_hold))))
      (reply_says 87 counted (neighbors g a t).answer refl (gives-says g f a (around g Far a) t (omega (arith, around-few g f Far a, h.numbers_hold))))
      (reply_says 71 counted (edges g a s.tables).answer refl
      (walk-says g f a s.tables (give_three (λ item. around g item a) s.tables)
      (three_says g f a s.tables h.numbers_hold h.sources_hold h.targets_hold)))
      (reply_says 77 counted (edges_mut g a t).answer refl (gives-says g f a every t (omega (arith, two_few g f 1 0 Every Every a, h.numbers_hold))))
      (reply_says 66 counted (edges_between g a b t).answer refl
      (gives-says g f a between t (omega (arith, two_few g f 0 1 (To (record { 0 = b })) (ToNot (record { 0 = b }) (record { 0 = a })) a, h.numbers_hold))))
      (reply_says 65 one_value (sum_around g a) refl (sum-says g f a))
      (reply_says 83 rows_read (told_checked (checked g)) refl (rw (sound_0 g h.sane.1.0 f h.sane.1.1) refl))
      (reply_says 67 nothing (clear_edges g).answer refl (no_edges_says g f))
      (reply_says 90 nothing (clear g).answer refl (nothing-says g f))
      refl

line_says : (line : List ℕ) (s : State) → Roomy s → Says (line_answer line s).reply.number
line_says line s h = line_so (λ r. Says r.reply.number) s refl (λ letter o. step-says letter o s h) line

line_roomy : (line : List ℕ) (s : State) → Roomy s → Roomy (line_answer line s).after
line_roomy line s h =
    let z = line_sizes line s in
    record {
      sane = line_keeps line s h.sane;
      numbers_hold = omega (arith, z.0, z.1.0, h.numbers_hold);
      sources_hold = omega (arith, z.0, z.1.1, h.sources_hold);
      targets_hold = omega (arith, z.0, z.1.2, h.targets_hold);
    }

begun_roomy : Roomy begun
unfolding begun
begun_roomy = record { sane = begun-sane; numbers_hold = omega arith; sources_hold = omega arith; targets_hold = omega arith }

-- with 6 left out
not_6 : (x : ℕ) → Says x → (x ≡ 6 → ⊥) → among x (0 ∷ 2 ∷ 3 ∷ 4 ∷ 5 ∷ 10 ∷ []) ≡ true
not_6 x h n = rw (ne_eqb x 6 n) at h

pub run-told : (script : List ℕ) → Each (λ o. among o.reply.number (0 ∷ 2 ∷ 3 ∷ 4 ∷ 5 ∷ 10 ∷ []) ≡ true) (answers (lines script) begun)
run-told script =
    each-answer Roomy (λ o. among o.reply.number (0 ∷ 2 ∷ 3 ∷ 4 ∷ 5 ∷ 10 ∷ []) ≡ true) line_roomy
    (λ line s h. not_6 (line_answer line s).reply.number (line_says line s h) (line_6 line s h.sane))
    (lines script) begun begun_roomy
