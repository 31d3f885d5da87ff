-- On a network that fits and is sound no call answers 6: `find_6`, `update_6`, `gone_6`, `closed_6`, `walked_6`, `sum_6`; so no command is told 6:
-- `add_node_6` to `clear_6`.
use Prim.Native.Nat.{ℕ, zero, suc, ◌<◌}
use mathlib.Core.Path.{◌≡◌, refl, ap, subst}
use mathlib.Core.Logic.{⊎_elim}
use mathlib.Core.Bool.{Bool, true, false, cond, ◌&&◌}
use mathlib.Core.List.{List, [], ◌∷◌, ◌++◌, map, append-nil}
use native.Mathlib.Omega.{arith}
use borrow.Author.Tests.{lt-ltb, ltb-true}
use lib.Dec.{eqb, ltb, leb}
use lib.IntN.{ℤ}
use lib.ListN.{length}
use Rattle.tables.specs.Net.{Net, fits}
use Rattle.tables.specs.Answers.{Told, Out, give}
use Rattle.rows.specs.Calls.{add_node, add_edge, clear_edges, clear}
use Rattle.lists.specs.declared.Spot.TheVariants.{Head}
use Rattle.lists.specs.declared.Pick.TheVariants.{Every, To, NotTo, ToNot}
use Rattle.lists.specs.declared.Item.{Item}
use Rattle.lists.specs.declared.Item.TheVariants.{Number, Far}
use Rattle.lists.specs.Walk.{cell, link_at, walk, filter, picked, gives, picks, broken, around}
use Rattle.lists.proofs.Chains.{chain_ends}
use Rattle.legs.specs.Legs.{Tables3, room_for, give_three}
use Rattle.walks.specs.Walks.{walked, neighbors, edges, edges_mut, edges_between}
use Rattle.tables.proofs.Laws.{tested}
use Rattle.std.specs.Prelude.{Ok, None}
use Rattle.find.specs.Parts.{Sought, first_in, searched, sought_from}
use Rattle.find.specs.Find.{sought, on, find_edge, update_edge}
use Rattle.walker.specs.Sums.{present, sum_around}
use Rattle.sound.specs.Sound.{Sound}
use Rattle.sound.specs.Check.{checked, told_checked}
use Rattle.sound.proofs.Exactly.{small, sound_0}
use Rattle.removal.specs.Removal.{remove_edge}
use Rattle.removal.proofs.EdgeOuts.{taken_out_lem}
use Rattle.closing.specs.Closing.{Closed, remove_node}
use Rattle.closing.proofs.NodeOuts.{six_unsound}
use Rattle.reply.specs.declared.Reply.{Reply}
use Rattle.commands.specs.Commands.{nothing, one_value, one_number, counted, edge_gone, node_gone, rows_read, reply_to, add_node_line, add_edge_line}
use Rattle.commands.specs.Commands.{update_edge_line, find_edge_line, remove_edge_line, remove_node_line, neighbors_line, edges_line, edges_mut_line}
use Rattle.commands.specs.Commands.{edges_between_line, sum_around_line, check_line, clear_edges_line, clear_line}
use Rattle.commands.proofs.Ways.{either_way, missing_is}
use Rattle.commands.proofs.Kept.{Sane}

-- an answer that is no 6, with what a call leaves or without
abbrev pub Not6 : {A : Type 0} → Told A → Type 0
Not6 told = told.number ≡ 6 → ⊥

abbrev pub Leaves6 : {A S : Type 0} → Out A S → Type 0
Leaves6 o = Not6 o.answer

chosen_6 : (b : Bool) (x y : Reply) → (x.number ≡ 6 → ⊥) → (y.number ≡ 6 → ⊥) → (cond b x y).number ≡ 6 → ⊥
chosen_6 true x y p q = p
chosen_6 false x y p q = q

-- neither is its reply
reply_6 : {A : Type 0} (letter : ℕ) (served : ℕ → A → Reply) (told : Told A) → (served letter told.values).number ≡ 0 → Not6 told
    → (reply_to letter served told).number ≡ 6 → ⊥
reply_6 letter served told z h = chosen_6 (eqb told.number 0) _ _ (λ e. omega (arith, z, e)) h

-- calls that have no 6
node_6 : (g : Net) (w : ℤ) → Leaves6 (add_node g w)
unfolding add_node
node_6 g w =
    tested Leaves6 (fits g) _ _ (λ z. omega arith) (λ f.
    tested Leaves6 (ltb g.n (length g.weights)) _ _ (λ z. omega arith) (λ l z. omega arith))

edge_6 : (g : Net) (a b w : ℕ) → Leaves6 (add_edge g a b w)
unfolding add_edge
edge_6 g a b w =
    tested Leaves6 (fits g) _ _ (λ z. omega arith) (λ f.
    tested Leaves6 (ltb g.m (length g.registers)) _ _ (λ z. omega arith) (λ l.
    tested Leaves6 (ltb a g.n && ltb b g.n) _ _ (λ z. omega arith) (λ h z. omega arith)))

no_edges_6 : (g : Net) → Leaves6 (clear_edges g)
unfolding clear_edges
no_edges_6 g = tested Leaves6 (fits g) _ _ (λ z. omega arith) (λ f z. omega arith)

nothing_6 : (g : Net) → Leaves6 (clear g)
unfolding clear
nothing_6 g = tested Leaves6 (fits g) _ _ (λ z. omega arith) (λ f z. omega arith)

pub give_6 : (items table : List ℕ) → Leaves6 (give items table)
give_6 items table = tested Leaves6 (leb (length items) (length table)) _ _ (λ z. omega arith) (λ l z. omega arith)

pub three_6 : (items : Item → List ℕ) (t : Tables3) → Leaves6 (give_three items t)
three_6 items t = tested Leaves6 (room_for (length (items Number)) t) _ _ (λ z. omega arith) (λ l z. omega arith)

-- a search of a list that ends
first_ways : {X : Type 0} (P : X → Type 0) (found : ℕ → X) (missing endless : X) (k : ℕ) (xs : List ℕ) (b : Bool) (next : Sought) → b ≡ false
    → ((e : ℕ) → P (found e)) → P (on next found missing endless) → P (on (first_in k xs b next) found missing endless)
first_ways P found missing endless k (x ∷ xs) b next h p q = p x
first_ways P found missing endless k [] true next h p q = absurd (let z : ◌≡◌ {A = ℕ} 0 1 = cc in omega arith)
first_ways P found missing endless k [] false next h p q = q

-- what a walk gives of rows below m are nodes, where f gives nodes of these
module _ (n m : ℕ) (next f : ℕ → ℕ) (p : ℕ → Bool) (nodes : (x : ℕ) → x < m → f x < n) (others : List ℕ) (q : present n others ≡ true) where
  also : (x : ℕ) (xs : List ℕ) → x < n → present n xs ≡ true → present n (x ∷ xs) ≡ true
  also x xs l r = rw (lt-ltb x n l) r

  present-walk : (left e : ℕ) → present n (map f (filter p (walk next m left e)) ++ others) ≡ true
  unfolding walk
  present-walk zero e = q
  present-walk (suc left) e =
      ⊎_elim
      (λ (l : ltb e m ≡ true).
      ⊎_elim
      (λ (t : p e ≡ true). rw (l, t) (also (f e) (map f (filter p (walk next m left (next e))) ++ others) (nodes e (ltb-true e m l)) (present-walk left (next e))))
      (λ (t : p e ≡ false). rw (l, t) (present-walk left (next e)))
      (either_way (p e)))
      (λ (l : ltb e m ≡ false). rw l q)
      (either_way (ltb e m))

module _ (g : Net) (ls : ℕ → ℕ → List ℕ) (f : fits g ≡ true) (S : Sound g ls) where
  -- no list is broken
  unbroken : (k a : ℕ) → k < 2 → a < g.n → broken g k a ≡ false
  unbroken k a h l = chain_ends (link_at g k) g.m (small g f) (Head a) (ls k a) (S.all_end k a h l)

  pub sought_ways : {X : Type 0} (P : X → Type 0) (found : ℕ → X) (missing endless : X) (a b : ℕ) → a < g.n
      → ((e : ℕ) → P (found e)) → P missing → P (on (sought g a b) found missing endless)
  unfolding sought_from
  sought_ways P found missing endless a b l p q =
      let to = To (record { 0 = b }) in
      let incoming = searched g.heads g.links g.ends g.m a b 1 (Ok None) in
      first_ways P found missing endless 0 (picks g 0 to a) (broken g 0 a) incoming (unbroken 0 a (omega arith) l) p
      (first_ways P found missing endless 1 (picks g 1 to a) (broken g 1 a) (Ok None) (unbroken 1 a (omega arith) l) p q)

  pub find_6 : (a b : ℕ) → Not6 (find_edge g a b)
  unfolding find_edge
  find_6 a b =
      tested Not6 (fits g) _ _ (λ z. omega arith) (λ e.
      tested Not6 (ltb a g.n) _ _ (λ z. omega arith) (λ l.
      sought_ways Not6 _ _ _ a b (ltb-true a g.n l) (λ e z. omega arith) (λ z. omega arith)))

  pub update_6 : (a b w : ℕ) → Leaves6 (update_edge g a b w)
  unfolding update_edge
  update_6 a b w =
      tested Leaves6 (fits g) _ _ (λ z. omega arith) (λ e.
      tested Leaves6 (ltb a g.n) _ _ (edge_6 g a b w) (λ l.
      sought_ways Leaves6 _ _ _ a b (ltb-true a g.n l) (λ e z. omega arith) (edge_6 g a b w)))

  pub gone_6 : (e : ℕ) → Leaves6 (remove_edge g e)
  unfolding remove_edge
  gone_6 e =
      tested Leaves6 (fits g) _ _ (λ z. omega arith) (λ h.
      tested Leaves6 (ltb e g.m) _ _ (λ z. omega arith) (λ l z.
      let zero-so = ap (λ (t : Told (ℕ × ℕ × ℕ)). t.number) (taken_out_lem g ls e f S (ltb-true e g.m l)).served in
      omega (arith, zero-so, z)))

  pub closed_6 : (a : ℕ) (items : List ℕ) → Leaves6 (remove_node g a items)
  closed_6 a items z =
      ⊎_elim
      (λ l. six_unsound g a items f (ltb-true a g.n l) z (ls, S))
      (λ l. let three-so = ap (λ (o : Closed). o.answer.number) (missing_is g a items f l) in omega (arith, three-so, z))
      (either_way (ltb a g.n))

  pub walked_6 : {T : Type 0} (a : ℕ) (table : T) (given : Out ℕ T) → Leaves6 given → Leaves6 (walked g a table given)
  walked_6 a table given h =
      tested Leaves6 (fits g) _ _ (λ z. omega arith) (λ e.
      tested Leaves6 (ltb a g.n) _ _ (λ z. omega arith) (λ l.
      rw (unbroken 0 a (omega arith) (ltb-true a g.n l), unbroken 1 a (omega arith) (ltb-true a g.n l)) h))

  all_present : (a : ℕ) → present g.n (around g Far a) ≡ true
  all_present a =
      let second = map (gives g Far 1) (picks g 1 (NotTo (record { 0 = a })) a) in
      let others = NotTo (record { 0 = a }) in
      let q =
      present-walk g.n g.m (cell g.links 1) (gives g Far 1) (λ x. picked others (cell g.ends 0 x)) (λ x l. S.has_ends 0 x (omega arith) l) [] refl
      g.m (link_at g 1 (Head a)) in
      present-walk g.n g.m (cell g.links 0) (gives g Far 0) (λ x. true) (λ x l. S.has_ends 1 x (omega arith) l) second
      (subst (λ (xs : List ℕ). present g.n xs ≡ true) (append-nil second) q)
      g.m (link_at g 0 (Head a))

  pub sum_6 : (a : ℕ) → Not6 (sum_around g a)
  unfolding sum_around
  sum_6 a =
      tested Not6 (fits g) _ _ (λ z. omega arith) (λ e.
      tested Not6 (ltb a g.n) _ _ (λ z. omega arith) (λ l.
      rw (unbroken 0 a (omega arith) (ltb-true a g.n l), unbroken 1 a (omega arith) (ltb-true a g.n l), all_present a) (λ z. omega arith)))

-- the commands
module _ (g : Net) (h : Sane g) where
  pub add_node_6 : (w : ℤ) → (add_node_line g w).reply.number ≡ 6 → ⊥
  unfolding add_node_line
  add_node_6 w = reply_6 78 one_number (add_node g w).answer refl (node_6 g w)

  pub add_edge_6 : (a b w : ℕ) → (add_edge_line g a b w).reply.number ≡ 6 → ⊥
  unfolding add_edge_line
  add_edge_6 a b w = reply_6 69 one_number (add_edge g a b w).answer refl (edge_6 g a b w)

  pub update_edge_6 : (a b w : ℕ) → (update_edge_line g a b w).reply.number ≡ 6 → ⊥
  unfolding update_edge_line
  update_edge_6 a b w = reply_6 85 one_number (update_edge g a b w).answer refl (update_6 g h.1.0 h.0 h.1.1 a b w)

  pub find_edge_6 : (a b : ℕ) → (find_edge_line g a b).number ≡ 6 → ⊥
  unfolding find_edge_line
  find_edge_6 a b = reply_6 70 one_number (find_edge g a b) refl (find_6 g h.1.0 h.0 h.1.1 a b)

  pub remove_edge_6 : (e : ℕ) → (remove_edge_line g e).reply.number ≡ 6 → ⊥
  unfolding remove_edge_line
  remove_edge_6 e = reply_6 88 edge_gone (remove_edge g e).answer refl (gone_6 g h.1.0 h.0 h.1.1 e)

  pub remove_node_6 : (a : ℕ) (items : List ℕ) → (remove_node_line g a items).reply.number ≡ 6 → ⊥
  unfolding remove_node_line
  remove_node_6 a items = reply_6 68 node_gone (remove_node g a items).answer refl (closed_6 g h.1.0 h.0 h.1.1 a items)

  pub neighbors_6 : (a : ℕ) (items : List ℕ) → (neighbors_line g a items).reply.number ≡ 6 → ⊥
  unfolding neighbors_line neighbors
  neighbors_6 a items =
      let xs = around g Far a in
      reply_6 87 counted (neighbors g a items).answer refl (walked_6 g h.1.0 h.0 h.1.1 a items (give xs items) (give_6 xs items))

  pub edges_6 : (a : ℕ) (t : Tables3) → (edges_line g a t).reply.number ≡ 6 → ⊥
  unfolding edges_line edges
  edges_6 a t = reply_6 71 counted (edges g a t).answer refl (walked_6 g h.1.0 h.0 h.1.1 a t (give_three (λ item. around g item a) t) (three_6 (λ item. around g item a) t))

  pub edges_mut_6 : (a : ℕ) (items : List ℕ) → (edges_mut_line g a items).reply.number ≡ 6 → ⊥
  unfolding edges_mut_line edges_mut
  edges_mut_6 a items =
      let xs = picks g 1 Every a ++ picks g 0 Every a in
      reply_6 77 counted (edges_mut g a items).answer refl (walked_6 g h.1.0 h.0 h.1.1 a items (give xs items) (give_6 xs items))

  pub edges_between_6 : (a b : ℕ) (items : List ℕ) → (edges_between_line g a b items).reply.number ≡ 6 → ⊥
  unfolding edges_between_line edges_between
  edges_between_6 a b items =
      let xs = picks g 0 (To (record { 0 = b })) a ++ picks g 1 (ToNot (record { 0 = b }) (record { 0 = a })) a in
      reply_6 66 counted (edges_between g a b items).answer refl (walked_6 g h.1.0 h.0 h.1.1 a items (give xs items) (give_6 xs items))

  pub sum_around_6 : (a : ℕ) → (sum_around_line g a).number ≡ 6 → ⊥
  unfolding sum_around_line
  sum_around_6 a = reply_6 65 one_value (sum_around g a) refl (sum_6 g h.1.0 h.0 h.1.1 a)

  pub check_6 : (check_line g).number ≡ 6 → ⊥
  unfolding check_line
  check_6 = reply_6 83 rows_read (told_checked (checked g)) refl (λ z.
      let zero-so = ap (λ (t : Told (ℕ × ℕ × ℕ)). t.number) (sound_0 g h.1.0 h.0 h.1.1) in omega (arith, zero-so, z))

  pub clear_edges_6 : (clear_edges_line g).reply.number ≡ 6 → ⊥
  unfolding clear_edges_line
  clear_edges_6 = reply_6 67 nothing (clear_edges g).answer refl (no_edges_6 g)

  pub clear_6 : (clear_line g).reply.number ≡ 6 → ⊥
  unfolding clear_line
  clear_6 = reply_6 90 nothing (clear g).answer refl (nothing_6 g)
