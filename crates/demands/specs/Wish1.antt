-- Wish 1: a network run with a directory, the row of each register number. A field for each sentence of the document. What does not speak of a sound network
-- holds of every network and every directory.
use Prim.{tt}
use Rattle.std.specs.Prelude.{ℕ, ◌+◌, ◌*◌, ◌-◌, ◌≤◌, ◌<◌, ◌≡◌, ◌⊎◌, ◌↔◌, true, List, [], ◌∷◌, ℤ, pos, length, set}
use Rattle.index.specs.declared.EdgeDirection.{EdgeDirection}
use Rattle.index.specs.declared.Refusal.TheVariants.{Broken}
use Rattle.index.specs.Index.{END, number_of}
use Rattle.tables.specs.Net.{Net, fits}
use Rattle.tables.specs.Answers.{Out, out, done, refused}
use Rattle.lookups.specs.Lookups.{set_node_weight, set_edge_weight}
use Rattle.rows.specs.Calls.{add_node, add_edge, clear_edges, clear}
use Rattle.lists.specs.Chain.{In}
use Rattle.lists.specs.declared.Item.TheVariants.{Weight}
use Rattle.lists.specs.Walk.{around}
use Rattle.find.specs.Find.{update_edge}
use Rattle.sound.specs.Sound.{end_at, lists}
use Rattle.sound.specs.Check.{checked, told_checked}
use Rattle.removal.specs.Removal.{remove_edge}
use Rattle.removal.specs.Lists.{rows_read, Longest}
use Rattle.closing.specs.Closing.{remove_node}
use Rattle.image.specs.Calls.{image_write, image_read}
use Rattle.directory.specs.Directory.{entry, none, followed, Filed, filed, register_of, RightFor}
use Rattle.dirsound.specs.Check.{checked_filed, SoundFiled, Follows}
use Rattle.dirrows.specs.Calls.{add_edge_filed, set_edge_weight_filed, clear_edges_filed, clear_filed}
use Rattle.dirfind.specs.Find.{update_edge_filed}
use Rattle.dirremoval.specs.Removal.{remove_edge_filed}
use Rattle.bynumber.specs.Numbers.{find_number, remove_number}
use Rattle.dirclosing.specs.Closing.{remove_node_filed}
use Rattle.dirimage.specs.Calls.{image_write_filed, image_read_filed}
use Rattle.dirimage.specs.Load.{load_left, LoadTells}
use Rattle.demands.specs.Demand1.{ServedOr, refusal, Refuses, Tells}
use Rattle.demands.specs.Demand2.{SoundNet}

-- demand 1: the numbers of each call
pub record Demand1Filed (f : Filed) : Type 0 where
  pub add_edge_lem : (a b w : ℕ) → Refuses (1 ∷ 2 ∷ 3 ∷ 12 ∷ 11 ∷ []) 0 f (add_edge_filed f a b w)
  pub update_edge_lem : (a b w : ℕ) → Refuses (1 ∷ 6 ∷ 2 ∷ 3 ∷ 12 ∷ 11 ∷ []) 0 f (update_edge_filed f a b w)
  pub set-edge_weight : (e w : ℕ) → Refuses (1 ∷ 4 ∷ 6 ∷ 12 ∷ 11 ∷ []) tt f (set_edge_weight_filed f e w)
  pub remove-edge : (e : ℕ) → Refuses (1 ∷ 4 ∷ 6 ∷ []) (0, 0, 0) f (remove_edge_filed f e)
  pub remove-node : (a : ℕ) (items : List ℕ) → Refuses (1 ∷ 3 ∷ 6 ∷ 7 ∷ []) (pos 0, 0, 0) (f, items) (remove_node_filed f a items)
  pub clear-edges : Refuses (1 ∷ []) tt f (clear_edges_filed f)
  pub clear-all : Refuses (1 ∷ []) tt f (clear_filed f)
  pub find-number : (r : ℕ) → Tells (1 ∷ 12 ∷ 5 ∷ 6 ∷ []) 0 (find_number f r)
  pub remove-number : (r : ℕ) → Refuses (1 ∷ 12 ∷ 5 ∷ 6 ∷ []) (0, 0, 0) f (remove_number f r)
  pub check : Tells (1 ∷ []) (0, 0, 0) (told_checked (checked_filed f))
      ⊎ ((d : EdgeDirection) × (a : ℕ) × (told_checked (checked_filed f) ≡ refused Broken (0, number_of d, a)))
  pub image_write_lem : (bytes : List ℕ) → Refuses (1 ∷ 6 ∷ 7 ∷ []) 0 bytes (image_write_filed f bytes)
  -- 6, 12 and 11 leave all empty, the other numbers leave all as it was
  pub image_read_lem : (bytes : List ℕ)
      → ServedOr (λ o. o.answer.number) (1 ∷ 8 ∷ 9 ∷ 2 ∷ 6 ∷ 12 ∷ 11 ∷ []) (λ why. refusal tt (load_left f why) why) (image_read_filed f bytes)

-- a call tells and leaves what the call without a directory does
abbrev pub Same : {A : Type 0} → Out A Net → Out A Filed → Type 0
Same o p = (p.answer ≡ o.answer) × (p.after.net ≡ o.after)

-- the same of a call that may be refused 11 or 12
abbrev pub SameOr : {A : Type 0} → (ℕ → Out A Filed) → Out A Net → Out A Filed → Type 0
SameOr refusal o p = ((why : ℕ) × In why (11 ∷ 12 ∷ []) × (p ≡ refusal why)) ⊎ Same o p

-- 'with one, demand 2 leaves out the calls refused 11 or 12'; what the calls without one tell and leave equals the Rust's, by demand 2
pub record Demand2Filed (f : Filed) : Type 0 where
  pub add_edge_lem : (a b w : ℕ) → SameOr (refusal 0 f) (add_edge f.net a b w) (add_edge_filed f a b w)
  pub update_edge_lem : (a b w : ℕ) → SameOr (refusal 0 f) (update_edge f.net a b w) (update_edge_filed f a b w)
  pub set-edge_weight : (e w : ℕ) → SameOr (refusal tt f) (set_edge_weight f.net e w) (set_edge_weight_filed f e w)
  -- 'Its cells .. don't count as rows read': the answers of removals have the rows read
  pub remove-edge : (e : ℕ) → Same (remove_edge f.net e) (remove_edge_filed f e)
  pub remove-node : (a : ℕ) (items : List ℕ)
      → ((remove_node_filed f a items).answer ≡ (remove_node f.net a items).answer)
      × ((remove_node_filed f a items).after.0.net ≡ (remove_node f.net a items).after.0)
      × ((remove_node_filed f a items).after.1 ≡ (remove_node f.net a items).after.1)
  pub clear-edges : Same (clear_edges f.net) (clear_edges_filed f)
  pub clear-all : Same (clear f.net) (clear_filed f)
  pub check : checked_filed f ≡ checked f.net
  pub image_write_lem : (bytes : List ℕ) → image_write_filed f bytes ≡ image_write f.net bytes

-- a call on a sound network with its directory leaves both sound, and the directory is that of the rows that are left, whatever is answered
pub record FollowsEach (f : Filed) : Type 0 where
  pub add_edge_lem : (a b w : ℕ) → Follows f (add_edge_filed f a b w).after
  pub update_edge_lem : (a b w : ℕ) → Follows f (update_edge_filed f a b w).after
  pub set-edge_weight : (e w : ℕ) → Follows f (set_edge_weight_filed f e w).after
  pub remove-edge : (e : ℕ) → Follows f (remove_edge_filed f e).after
  pub remove-number : (r : ℕ) → Follows f (remove_number f r).after
  pub remove-node : (a : ℕ) (items : List ℕ) → Follows f (remove_node_filed f a items).after.0
  pub clear-edges : Follows f (clear_edges_filed f).after
  pub clear-all : Follows f (clear_filed f).after
  -- calls that have no part in register numbers are those without a directory
  pub add_node_lem : (w : ℤ) → Follows f (filed (add_node f.net w).after f.directory)
  pub set-node_weight : (a : ℕ) (w : ℤ) → Follows f (filed (set_node_weight f.net a w).after f.directory)

-- 'both after those of document 01': what the call without a directory refuses is refused the same, and no entry changes
abbrev pub First : {A : Type 0} → Filed → Out A Net → Out A Filed → Type 0
First f o p = (o.answer.number ≡ 0 → ⊥) → p ≡ out o.answer (filed o.after f.directory)

-- register number w for row e, in a call that document 01 serves; a new row is `END`, which no entry names
pub record Judged {A : Type 0} (f : Filed) (zeros : A) (e w : ℕ) (served p : Out A Filed) : Type 0 where
  -- '12, number not below the directory's length', and '12 before 11'
  pub beyond : length f.directory ≤ w → p ≡ refusal zeros f 12
  -- '11, the entry of that number names a row (for update or a set weight, another row)'
  pub taken : w < length f.directory → (entry f.directory w ≡ END → ⊥) → (entry f.directory w ≡ e → ⊥) → p ≡ refusal zeros f 11
  pub free : w < length f.directory → (entry f.directory w ≡ END) ⊎ (entry f.directory w ≡ e) → p ≡ served

-- the entry of row e's number names it
abbrev pub Names : Filed → ℕ → Type 0
Names f e = entry f.directory (register_of f.net e) ≡ e

-- row e gets number w, in a call that document 01 serves
pub record Reweighed {A : Type 0} (f : Filed) (zeros : A) (e w : ℕ) (o : Out A Net) (p : Out A Filed) : Type 0 where
  -- 'An edge to be .. reweighted whose entry doesn't name it gives 6'
  pub misnamed : (Names f e → ⊥) → p ≡ refusal zeros f 6
  -- 'Changing a weight moves its entry'
  pub judged : Names f e
      → Judged f zeros e w (out o.answer (filed o.after (set (set f.directory (register_of f.net e) END) w e))) p

-- a new row, of which a call that document 01 serves tells the number, gets number w
abbrev pub Entered : Filed → ℕ → Out ℕ Net → Out ℕ Filed → Type 0
Entered f w o p = Judged f 0 END w (out o.answer (filed o.after (set f.directory w o.answer.values))) p

pub record Wish1 : Type 0 where
  pub demand_1 : (f : Filed) → Demand1Filed f
  -- 'for each register number the row it stands in, or none'
  pub stands : (f : Filed) → SoundFiled f → (e : ℕ) → e < f.net.m → entry f.directory (register_of f.net e) ≡ e
  pub stands-nowhere : (f : Filed) → SoundFiled f → (r : ℕ) → ((e : ℕ) → e < f.net.m → register_of f.net e ≡ r → ⊥) → entry f.directory r ≡ END
  -- 'with one, demand 2 leaves out the calls refused 11 or 12'
  pub demand_2 : (f : Filed) → SoundFiled f → Demand2Filed f
  -- 'and demand 3 stands'; what it says of the network that is left, by demand_2
  pub edge-reads : (f : Filed) (e : ℕ) → SoundFiled f → e < f.net.m
      → (remove_edge_filed f e).answer.values.2 ≡ rows_read (end_at f.net) (lists f.net) (f.net.m - 1) e
  pub edge-most : (f : Filed) (e : ℕ) → SoundFiled f → e < f.net.m → (D : ℕ) → Longest f.net (lists f.net) D
      → (remove_edge_filed f e).answer.values.2 ≤ 4 * (D - 1)
  pub node-most : (f : Filed) (a : ℕ) (items : List ℕ) → SoundFiled f → a < f.net.n → length (around f.net Weight a) ≤ length items
      → (D : ℕ) → Longest f.net (lists f.net) D
      → (remove_node_filed f a items).answer.values.1 ≤ 3 * length (around f.net Weight a) * (D - 1) + 2 * D
  -- 'register numbers are unique'
  pub unique : (f : Filed) → SoundFiled f → (e x : ℕ) → e < f.net.m → x < f.net.m → register_of f.net e ≡ register_of f.net x → e ≡ x
  -- 'the directory is part of soundness': the check accepts exactly these
  pub sound_accepted : (f : Filed) → SoundFiled f → told_checked (checked_filed f) ≡ done (2 * f.net.m, 0, 0)
  pub accepted-sound : (f : Filed) → (told_checked (checked_filed f)).number ≡ 0 → SoundFiled f
  -- 'checked last: 6, incoming, n+1'
  pub links_first : (f : Filed) → (SoundNet f.net → ⊥) → checked_filed f ≡ checked f.net
  pub checked-last : (f : Filed) → SoundNet f.net → (RightFor f → ⊥) → told_checked (checked_filed f) ≡ refused Broken (0, 1, f.net.n + 1)
  -- so node removal and image write ask for it: 6 exactly when network and directory are not sound
  pub remove_node_6 : (f : Filed) (a : ℕ) (items : List ℕ) → fits f.net ≡ true → a < f.net.n
      → (remove_node_filed f a items).answer.number ≡ 6 ↔ (SoundFiled f → ⊥)
  pub image_write_6 : (f : Filed) (bytes : List ℕ) → fits f.net ≡ true → (image_write_filed f bytes).answer.number ≡ 6 ↔ (SoundFiled f → ⊥)
  -- 'it follows every add, update, removal and moved row'; 'The directory's length is the caller's'
  pub follows : (f : Filed) → SoundFiled f → FollowsEach f
  -- 'clears set all to none'
  pub cleared_edges : (f : Filed) → fits f.net ≡ true → (clear_edges_filed f).after.directory ≡ none f.directory
  pub cleared_all : (f : Filed) → fits f.net ≡ true → (clear_filed f).after.directory ≡ none f.directory
  -- '11 .. 12 .., both after those of document 01 and that 6', of each call that gives a number to a row
  pub add_first : (f : Filed) (a b w : ℕ) → First f (add_edge f.net a b w) (add_edge_filed f a b w)
  pub add_judged : (f : Filed) (a b w : ℕ) → let o = add_edge f.net a b w in o.answer.number ≡ 0 → Entered f w o (add_edge_filed f a b w)
  pub set_first : (f : Filed) (e w : ℕ) → First f (set_edge_weight f.net e w) (set_edge_weight_filed f e w)
  pub set-judged : (f : Filed) (e w : ℕ) → let o = set_edge_weight f.net e w in o.answer.number ≡ 0 → Reweighed f tt e w o (set_edge_weight_filed f e w)
  pub update_first : (f : Filed) (a b w : ℕ) → First f (update_edge f.net a b w) (update_edge_filed f a b w)
  -- the edge that an update finds is below m, and one that it adds is row m
  pub update_judged : (f : Filed) (a b w : ℕ)
      → let o = update_edge f.net a b w in
      o.answer.number ≡ 0 → o.answer.values < f.net.m → Reweighed f 0 o.answer.values w o (update_edge_filed f a b w)
  pub update_adds : (f : Filed) (a b w : ℕ)
      → let o = update_edge f.net a b w in
      o.answer.number ≡ 0 → f.net.m ≤ o.answer.values → Entered f w o (update_edge_filed f a b w)
  -- 'An edge to be removed, moved .. whose entry doesn't name it gives 6'; the last row is the one that moves
  pub remove_first : (f : Filed) (e : ℕ) → First f (remove_edge f.net e) (remove_edge_filed f e)
  pub remove-misnamed : (f : Filed) (e : ℕ) → (remove_edge f.net e).answer.number ≡ 0 → (Names f e → ⊥) ⊎ (Names f (f.net.m - 1) → ⊥)
      → remove_edge_filed f e ≡ refusal (0, 0, 0) f 6
  pub remove-served : (f : Filed) (e : ℕ)
      → let o = remove_edge f.net e in
      let h = o.after in
      o.answer.number ≡ 0 → Names f e → Names f (f.net.m - 1)
      → remove_edge_filed f e ≡ out o.answer (filed h (followed (register_of h) h.m o.answer.values.0 e f.directory))
  -- 'By number: 12, then 5 if the entry is none, then 6 if it names a row that is not below m or bears another number'
  pub number-tables : (f : Filed) (r : ℕ) → (fits f.net ≡ true → ⊥) → (find_number f r).number ≡ 1
  pub number-beyond : (f : Filed) (r : ℕ) → fits f.net ≡ true → length f.directory ≤ r → (find_number f r).number ≡ 12
  pub number-none : (f : Filed) (r : ℕ) → fits f.net ≡ true → r < length f.directory → entry f.directory r ≡ END → (find_number f r).number ≡ 5
  pub number-other : (f : Filed) (r : ℕ) → fits f.net ≡ true → r < length f.directory → (entry f.directory r ≡ END → ⊥)
      → (f.net.m ≤ entry f.directory r) ⊎ (register_of f.net (entry f.directory r) ≡ r → ⊥) → (find_number f r).number ≡ 6
  pub number-found : (f : Filed) (r : ℕ) → fits f.net ≡ true → entry f.directory r < f.net.m
      → register_of f.net (entry f.directory r) ≡ r → find_number f r ≡ done (entry f.directory r)
  -- 'Lookup by number, and removal by number, come with it'
  pub looked_up : (f : Filed) (e : ℕ) → SoundFiled f → e < f.net.m → find_number f (register_of f.net e) ≡ done e
  pub removed_found : (f : Filed) (r e : ℕ) → find_number f r ≡ done e → remove_number f r ≡ remove_edge_filed f e
  pub removed_not : (f : Filed) (r : ℕ) → ((find_number f r).number ≡ 0 → ⊥) → remove_number f r ≡ refusal (0, 0, 0) f (find_number f r).number
  -- 'A load fills it'
  pub load_fills : (f : Filed) (bytes : List ℕ) → (image_read_filed f bytes).answer.number ≡ 0 → Follows f (image_read_filed f bytes).after
  -- 12 and 11 are told of rows that it has brought, so 'after 6 for load', and exactly when; 'which leaves all empty as 6 does', by demand_1
  pub load_tells : (f : Filed) (bytes : List ℕ) → LoadTells f bytes
  pub load_as : (f : Filed) (bytes : List ℕ)
      → let o = image_read_filed f bytes in
      (o.answer.number ≡ 12 → ⊥) → (o.answer.number ≡ 11 → ⊥) → Same (image_read f.net bytes) o
