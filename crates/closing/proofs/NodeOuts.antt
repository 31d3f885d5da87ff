-- A node taken out of a sound network. It is served, with the weights that a walk around it gives before; the rows read are those that the lists say.
-- The network is sound afterwards, and every list left keeps its other edges in their order: `node-out`. A refusal leaves all as it was,
-- `node-refused`; so, whatever is answered, a sound network is left sound: `node_kept`. 6 is given exactly where it is not sound: `unsound_6`,
-- `six_unsound`.
use Prim.Native.Nat.{ℕ, ◌+◌, ◌*◌, ◌-◌, ◌≤◌, ◌<◌}
use mathlib.Core.Path.{◌≡◌, refl, sym, ap, ap₂, ◌∙◌, subst}
use mathlib.Core.Bool.{true, cond}
use mathlib.Core.List.{List}
use native.Mathlib.Decide.{ℕ_discrete}
use native.Mathlib.Omega.{arith}
use borrow.Author.Tests.{eq-eqb, ne_eqb, lt-ltb, ltb-true, le-leb}
use lib.Dec.{eqb, ltb, leb}
use lib.IntN.{ℤ, pos}
use lib.ListN.{length, get_or}
use Rattle.tables.specs.Net.{Net, fits}
use Rattle.tables.specs.Answers.{done, onto}
use Rattle.tables.proofs.Laws.{tested}
use Rattle.lists.specs.declared.Item.TheVariants.{Weight}
use Rattle.lists.specs.Walk.{around}
use Rattle.std.specs.Prelude.{Ok, Err}
use Rattle.sound.specs.Sound.{end_at, Sound, lists}
use Rattle.sound.specs.Check.{Checked, checked, accepted}
use Rattle.sound.proofs.Exactly.{sound_accepted, accepted-sound}
use Rattle.sound.proofs.Kept.{HasLists}
use Rattle.removal.specs.Lists.{renamed, Longest}
use Rattle.removal.proofs.Freed.{freed_on}
use Rattle.stripping.specs.Heads.{stripped}
use Rattle.dropping.specs.Drop.{dropped, rows_moved}
use Rattle.closing.specs.Closing.{Closed, closed, closed_if_room, remove_node}
use Rattle.stripping.specs.Lists.{listing}
use Rattle.dropping.specs.Drop.{node_moved}
use Rattle.closing.specs.Lists.{less_node, node_read, Stays, NodeOut}
use Rattle.stripping.proofs.Stripping.{less_both, given_are, strip-fits, strip-sound, strip-nodes, strip-freed, strip-totals, strip-edges, bare-lists}
use Rattle.stripping.proofs.Stripping.{strip-rows, longest_left, strip-most, new_number, strip-follows}
use Rattle.dropping.proofs.Dropping.{drop-nodes, drop-edges, drop-registers, drop-totals, drop-fits, drop-ends, drop-sound, drop-read, drop-freed}

-- node b under the number a
moved-list : (a b : ℕ) (ls : ℕ → ℕ → List ℕ) (k c : ℕ) → (c ≡ a → ⊥) → node_moved a b ls k (renamed b a c) ≡ ls k c
moved-list a b ls k c n =
    elim (ℕ_discrete c b) [
      | yes q ↦ rw (eq-eqb c b q, eq-eqb a a refl) (ap (ls k) (sym q))
      | no q ↦ rw (ne_eqb c b q, ne_eqb c a n)
    ]

module _ (g : Net) (ls : ℕ → ℕ → List ℕ) (a : ℕ) (f : fits g ≡ true) (S : Sound g ls) (la : a < g.n) where
  -- the network that the node is dropped from
  abbrev rest : Net
  rest = (stripped g a).rest

  in_rest : a < rest.n
  in_rest = rw (strip-nodes g ls a f S la) la

  last : rest.n - 1 ≡ g.n - 1
  last = ap (λ n. n - 1) (strip-nodes g ls a f S la)

  rest_fits : fits rest ≡ true
  rest_fits = strip-fits g ls a f S la

  rest_sound : Sound rest (less_both g ls a).list
  rest_sound = strip-sound g ls a f S la

  rows_are : (stripped g a).rows + rows_moved rest ≡ node_read a (g.n - 1) (listing g ls)
  rows_are =
      let L = (less_both g ls a).list in
      ap₂ (λ q r. q + r) (strip-rows g ls a f S la)
      (drop-read rest L a rest_fits rest_sound in_rest (bare-lists g ls a f S la) ∙ ap (λ b. cond (eqb a b) 0 (length (L 0 b) + length (L 1 b))) last)

  most : (D : ℕ) → Longest g ls D → node_read a (g.n - 1) (listing g ls) ≤ 3 * length (around g Weight a) * (D - 1) + 2 * D
  most D longest =
      let b = g.n - 1 in
      let L = (less_both g ls a).list in
      let few : (k : ℕ) → k < 2 → length (L k b) ≤ D = λ k h. longest_left g ls a f S la D longest k b h (rw (strip-nodes g ls a f S la) (omega arith)) in
      let visited : cond (eqb a b) 0 (length (L 0 b) + length (L 1 b)) ≤ 2 * D =
      elim (ℕ_discrete a b) [
        | yes q ↦ rw (eq-eqb a b q) (omega arith)
        | no q ↦ rw (ne_eqb a b q) (omega (arith, few 0 (omega arith), few 1 (omega arith)))
      ] in
      omega (arith, strip-most g ls a f S la D longest, visited)

  -- an edge left has its weight, and its ends under the nodes' numbers
  stays : (x : ℕ) → x < g.m → (end_at g 0 x ≡ a → ⊥) → (end_at g 1 x ≡ a → ⊥) → Stays g (dropped rest a) a (g.n - 1) x (new_number g ls a f S la x)
  stays x l n o =
      let y = new_number g ls a f S la x in
      let s = (strip-follows g ls a f S la).stays x l (rw (ne_eqb (end_at g 0 x) a n, ne_eqb (end_at g 1 x) a o)) in
      record {
        in_use = rw (drop-edges rest a) s.in_use;
        weight = ap (λ column. get_or column y 0) (drop-registers rest a) ∙ s.weight;
        ends =
            λ k h.
            drop-ends rest (less_both g ls a).list a rest_fits rest_sound in_rest k y h s.in_use ∙ ap₂ (λ b c. renamed b a c) last (s.ends k h);
      }

  closing : (items : List ℕ) → NodeOut g ls a items (closed g a items (stripped g a))
  closing items =
      let b = g.n - 1 in
      let L = (less_both g ls a).list in
      record {
        served = ap₂ (λ r c. done (get_or g.weights a (pos 0), r, c)) rows_are (ap length (given_are g ls a f S la));
        given = ap (λ ws. onto ws items) (given_are g ls a f S la);
        most = most;
        nodes = drop-nodes rest a ∙ last;
        edges = ap (λ m. m + length (around g Weight a)) (drop-edges rest a) ∙ strip-edges g ls a f S la;
        fit = drop-fits rest a rest_fits in_rest;
        sound = subst (λ b. Sound (dropped rest a) (node_moved a b L)) last (drop-sound rest L a rest_fits rest_sound in_rest (bare-lists g ls a f S la));
        renumbered = (
          new_number g ls a f S la,
          record { order = λ k c h l n. moved-list a b L k c n ∙ (strip-follows g ls a f S la).order k c h l; stays = stays },
        );
        totals =
            λ c l.
            drop-totals rest a rest_fits in_rest c (rw last l)
            ∙ ap₂ (λ (ws : List ℤ) b. get_or ws (renamed a b c) (pos 0)) (strip-totals g ls a f S la) last;
        freed =
            freed_on g rest (dropped rest a) (omega (arith, strip-nodes g ls a f S la)) (omega (arith, strip-edges g ls a f S la)) (strip-freed g ls a f S la)
            (drop-freed rest L a rest_fits rest_sound in_rest);
      }

pub node-out : (g : Net) (ls : ℕ → ℕ → List ℕ) (a : ℕ) (items : List ℕ) → fits g ≡ true → Sound g ls → a < g.n → length (around g Weight a) ≤ length items
    → NodeOut g ls a items (remove_node g a items)
unfolding remove_node closed_if_room
node-out g ls a items f S la room =
    rw (f, lt-ltb a g.n la, sound_accepted g ls f S, le-leb (length (around g Weight a)) (length items) room)
    (closing g ls a f S la items)

pub node-refused : (g : Net) (a : ℕ) (items : List ℕ) → ((remove_node g a items).answer.number ≡ 0 → ⊥) → (remove_node g a items).after ≡ (g, items)
unfolding remove_node closed_if_room
node-refused g a items =
    let P : Closed → Type 0 = λ o. (o.answer.number ≡ 0 → ⊥) → o.after ≡ (g, items) in
    tested P (fits g) _ _ (λ n. refl) (λ f.
    tested P (ltb a g.n) _ _ (λ n. refl) (λ l.
    tested P (accepted (checked g)) _ _ (λ n. refl) (λ c.
    tested P (leb (length (around g Weight a)) (length items)) _ _ (λ n. refl) (λ r n. absurd (n refl)))))

pub node_kept : (g : Net) (ls : ℕ → ℕ → List ℕ) (a : ℕ) (items : List ℕ) → Sound g ls → HasLists (remove_node g a items).after.0
unfolding remove_node closed_if_room
node_kept g ls a items S =
    let P : Closed → Type 0 = λ o. HasLists o.after.0 in
    tested P (fits g) _ _ (ls, S) (λ f.
    tested P (ltb a g.n) _ _ (ls, S) (λ l.
    tested P (accepted (checked g)) _ _ (ls, S) (λ c.
    tested P (leb (length (around g Weight a)) (length items)) _ _ (ls, S) (λ r.
    (less_node a (g.n - 1) (listing g ls), (closing g ls a f S (ltb-true a g.n l) items).sound)))))

accepts : (r : Checked) → accepted r ≡ true → (rows : ℕ) × (r ≡ Ok rows)
accepts (Ok rows) h = (rows, refl)
accepts (Err why) h = cc

module _ (g : Net) (a : ℕ) (items : List ℕ) (f : fits g ≡ true) (la : a < g.n) where
  pub unsound_6 : (HasLists g → ⊥) → (remove_node g a items).answer.number ≡ 6
  unfolding remove_node
  unsound_6 n =
      rw (f, lt-ltb a g.n la)
      (tested (λ (o : Closed). o.answer.number ≡ 6) (accepted (checked g)) _ _ refl (λ c.
      let r = accepts (checked g) c in
      absurd (n (lists g, (accepted-sound g r.0 r.1).1))))

  pub six_unsound : (remove_node g a items).answer.number ≡ 6 → HasLists g → ⊥
  unfolding remove_node closed_if_room
  six_unsound h (ls, S) =
      tested (λ (o : Closed). o.answer.number ≡ 6 → ⊥) (leb (length (around g Weight a)) (length items)) _ _ (λ z. omega arith) (λ r z. omega arith)
      (rw (f, lt-ltb a g.n la, sound_accepted g ls f S) at h)
