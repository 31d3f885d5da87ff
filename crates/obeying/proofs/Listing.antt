-- Whatever the line, its reply speaks of no more items than the first output table holds: `line_listed`, `listed_so`. By the way: a reply by its answer,
-- `reply_so`; a walk by what it gives, `walked_so`.
use Prim.Native.Nat.{ℕ, ◌≤◌}
use mathlib.Core.Path.{◌≡◌, sym, subst}
use mathlib.Core.Bool.{not, ◌&&◌}
use mathlib.Core.List.{List, ◌++◌}
use native.Mathlib.Omega.{arith}
use lib.Dec.{eqb, ltb, leb}
use lib.ListN.{length, drop, length-append}
use Rattle.tables.specs.Net.{Net, fits}
use Rattle.tables.specs.Answers.{Told, Out, out, onto, give}
use Rattle.tables.proofs.Laws.{tested}
use Rattle.rows.specs.Calls.{add_node, add_edge, clear_edges, clear}
use Rattle.lists.specs.declared.Item.{Item}
use Rattle.lists.specs.declared.Item.TheVariants.{Number, Far, Weight}
use Rattle.lists.specs.declared.Pick.TheVariants.{Every, To, ToNot}
use Rattle.lists.specs.Walk.{picks, broken, around}
use Rattle.legs.specs.Legs.{Tables3, room_for, give_three}
use Rattle.walks.specs.Walks.{walked, neighbors, edges, edges_mut, edges_between}
use Rattle.find.specs.Find.{find_edge, update_edge}
use Rattle.walker.specs.Sums.{sum_around}
use Rattle.sound.specs.Check.{checked, accepted, told_checked}
use Rattle.removal.specs.Removal.{remove_edge}
use Rattle.closing.specs.Closing.{Closed, closed_if_room, remove_node}
use Rattle.stripping.specs.Heads.{stripped}
use Rattle.reply.specs.declared.Reply.{Reply}
use Rattle.reply.specs.Replies.{bare_reply}
use Rattle.reply.specs.Parts.{Listed}
use Rattle.commands.specs.Commands.{Replied, replied, nothing, one_value, one_number, counted, edge_gone, node_gone, rows_read, reply_to, add_node_line, add_edge_line}
use Rattle.commands.specs.Commands.{update_edge_line, find_edge_line, remove_edge_line, remove_node_line, neighbors_line, edges_line, edges_mut_line, edges_between_line}
use Rattle.commands.specs.Commands.{sum_around_line, check_line, clear_edges_line, clear_line}
use Rattle.dispatch.specs.declared.Numbers.{Numbers}
use Rattle.dispatch.specs.Step.{State, step}
use Rattle.dispatch.proofs.Keeps.{step_ways}
use Rattle.obeying.specs.Line.{line_answer}
use Rattle.obeying.proofs.Reading.{line_so}

-- items at the front of a table
table_holds : (items table : List ℕ) → length items ≤ length (onto items table)
table_holds items table = omega (arith, length-append items (drop (length items) table))

-- what holds of a served reply, and of letter and number alone, holds of the reply to an answer
module _ (P : Reply → Type 0) {A : Type 0} (letter : ℕ) (served : ℕ → A → Reply) (told : Told A) where
  pub reply_so : P (served letter told.values) → P (bare_reply letter told.number) → P (reply_to letter served told)
  reply_so p q = tested P (eqb told.number 0) (bare_reply letter told.number) (served letter told.values) q (λ z. p)

reply_items : {A : Type 0} (letter : ℕ) (served : ℕ → A → Reply) (told : Told A) {most : ℕ} → (served letter told.values).items ≤ most
    → (reply_to letter served told).items ≤ most
reply_items letter served told {most} h = reply_so (λ r. r.items ≤ most) letter served told h (omega arith)

-- a walk tells how many items it gave
abbrev Given : Out ℕ (List ℕ) → Type 0
Given o = o.answer.values ≤ length o.after

abbrev GivenThree : Out ℕ Tables3 → Type 0
GivenThree o = o.answer.values ≤ length o.after.numbers

give_holds : (items table : List ℕ) → Given (give items table)
give_holds items table = tested Given (leb (length items) (length table)) _ _ (omega arith) (λ l. table_holds items table)

three_hold : (items : Item → List ℕ) (t : Tables3) → GivenThree (give_three items t)
three_hold items t = tested GivenThree (room_for (length (items Number)) t) _ _ (omega arith) (λ l. table_holds (items Number) t.numbers)

-- what holds of no items and of those given holds of what a walk comes to
pub walked_so : {T : Type 0} (P : Out ℕ T → Type 0) (g : Net) (a : ℕ) (table : T) (given : Out ℕ T)
    → ((number : ℕ) → P (out (record { number = number; values = 0 }) table)) → P given → P (walked g a table given)
walked_so P g a table given nothing-so given_so =
    tested P (fits g) _ _ (nothing-so 1) (λ f.
    tested P (ltb a g.n) _ _ (nothing-so 0) (λ l.
    tested P (not (broken g 0 a) && not (broken g 1 a)) _ _ (nothing-so 6) (λ b. given_so)))

walk-holds : (g : Net) (a : ℕ) (items table : List ℕ) → Given (walked g a table (give items table))
walk-holds g a items table = walked_so Given g a table (give items table) (λ x. omega arith) (give_holds items table)

-- the node's removal tells how many weights it gave
abbrev Closes : Closed → Type 0
Closes o = o.answer.values.2 ≤ length o.after.1

closed-holds : (g : Net) (a : ℕ) (items : List ℕ) → Closes (remove_node g a items)
unfolding remove_node closed_if_room
closed-holds g a items =
    tested Closes (fits g) _ _ (omega arith) (λ f.
    tested Closes (ltb a g.n) _ _ (omega arith) (λ l.
    tested Closes (accepted (checked g)) _ _ (omega arith) (λ c.
    tested Closes (leb (length (around g Weight a)) (length items)) _ _ (omega arith) (λ r. table_holds (stripped g a).given items))))

-- every command
abbrev Lists : Replied State → Type 0
Lists r = r.reply.items ≤ length r.after.tables.numbers

step-listed : (letter : ℕ) (o : Numbers) (s : State) → Lists (step letter o s)
unfolding add_node_line add_edge_line update_edge_line find_edge_line remove_edge_line remove_node_line neighbors_line edges_line edges_mut_line edges_between_line sum_around_line
    check_line clear_edges_line clear_line neighbors edges edges_mut edges_between
step-listed letter o s =
    let g = s.network in
    let t = s.tables.numbers in
    let a = o.a in
    let b = o.b in
    let around_a : Item → List ℕ = λ item. around g item a in
    let between = picks g 0 (To (record { 0 = b })) a ++ picks g 1 (ToNot (record { 0 = b }) (record { 0 = a })) a in
    step_ways Lists o s letter
    (reply_items 78 one_number (add_node g o.w).answer (omega arith))
    (reply_items 69 one_number (add_edge g a b o.c).answer (omega arith))
    (reply_items 85 one_number (update_edge g a b o.c).answer (omega arith))
    (reply_items 70 one_number (find_edge g a b) (omega arith))
    (reply_items 88 edge_gone (remove_edge g a).answer (omega arith))
    (reply_items 68 node_gone (remove_node g a t).answer (closed-holds g a t))
    (reply_items 87 counted (neighbors g a t).answer (walk-holds g a (around_a Far) t))
    (reply_items 71 counted (edges g a s.tables).answer (walked_so GivenThree g a s.tables (give_three around_a s.tables) (λ x. omega arith) (three_hold around_a s.tables)))
    (reply_items 77 counted (edges_mut g a t).answer (walk-holds g a (picks g 1 Every a ++ picks g 0 Every a) t))
    (reply_items 66 counted (edges_between g a b t).answer (walk-holds g a between t))
    (reply_items 65 one_value (sum_around g a) (omega arith))
    (reply_items 83 rows_read (told_checked (checked g)) (omega arith))
    (reply_items 67 nothing (clear_edges g).answer (omega arith))
    (reply_items 90 nothing (clear g).answer (omega arith))
    (omega arith)

pub line_listed : (line : List ℕ) (s : State) → Lists (line_answer line s)
line_listed line s = line_so Lists s (omega arith) (λ letter o. step-listed letter o s) line

-- so a line's answer can be printed
pub listed_so : (line : List ℕ) (s : State) {r : Reply} {t : State} → replied r t ≡ line_answer line s → length t.tables.numbers ≤ 65536
    → Listed r t.tables.numbers
listed_so line s e h =
    let l = subst Lists (sym e) (line_listed line s) in
    record { held = l; few = omega (arith, l) }
