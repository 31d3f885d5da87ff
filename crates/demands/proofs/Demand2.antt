-- Demand 2, `demand_2`, from the theorems of the layers below. Assumes nothing.
use Prim.{Unit}
use Prim.Native.Nat.{ℕ}
use mathlib.Core.Path.{◌≡◌, sym, ap, subst, ◌∙◌}
use mathlib.Core.Logic.{inl, inr}
use mathlib.Core.Bool.{true, false}
use mathlib.Core.List.{List, [], ◌∷◌, ◌++◌}
use native.Mathlib.Decide.{dec_lt}
use native.Mathlib.Omega.{arith}
use borrow.Author.Tests.{ltb-true, le-ltb}
use lib.Dec.{ltb}
use lib.IntN.{ℤ}
use lib.ListN.{length-set}
use Rattle.tables.specs.Net.{Net, fits}
use Rattle.tables.specs.Answers.{Told, Out, give}
use Rattle.tables.proofs.Laws.{tested}
use Rattle.lookups.specs.Lookups.{set_node_weight, set_edge_weight}
use Rattle.lists.specs.declared.Spot.{Spot}
use Rattle.lists.specs.declared.Spot.TheVariants.{Head, After}
use Rattle.lists.specs.declared.Pick.TheVariants.{Every, To, NotTo, ToNot}
use Rattle.lists.specs.declared.Item.TheVariants.{Far, Weight}
use Rattle.lists.specs.Chain.{Chain, In}
use Rattle.lists.specs.Walk.{cell, link_at, taken_from, stop_from, picks, around}
use Rattle.lists.proofs.Chains.{chain_ends}
use Rattle.lists.proofs.Walks.{stop-end}
use Rattle.legs.specs.Legs.{give_three}
use Rattle.walks.specs.Walks.{walked, neighbors, edge_weights, edges_between, edges_mut, edges}
use Rattle.find.specs.Find.{contains_edge}
use Rattle.walker.specs.declared.Walker.{Walker}
use Rattle.walker.specs.Steps.{incoming_step, step}
use Rattle.sound.specs.Sound.{end_at, Sound, lists}
use Rattle.sound.proofs.Same.{members}
use Rattle.sound.proofs.Exactly.{small, sound_0, answered_0, as_walked}
use Rattle.sound.proofs.Kept.{node-set, edge-set}
use Rattle.layout.specs.Layout.{nodes_in, edges_in}
use Rattle.imagerows.specs.Image.{loaded}
use Rattle.imagerows.proofs.Loads.{loaded-fits}
use Rattle.image.specs.Calls.{image_read}
use Rattle.image.proofs.Copies.{is_sound-says, read_says, read_is}
use Rattle.image.proofs.RoundTrip as RoundTrip·
use Rattle.commands.specs.Commands.{add_node_line, add_edge_line, update_edge_line, remove_edge_line, remove_node_line, clear_edges_line, clear_line}
use Rattle.commands.proofs.Kept.{Sane, add_node_keeps, add_edge_keeps, update_edge_keeps, remove_edge_keeps, remove_node_keeps, clear_edges_keeps, clear_keeps}
use Rattle.commands.proofs.Sixes.{Not6, Leaves6, give_6, three_6, sought_ways, find_6, update_6, gone_6, closed_6, walked_6, sum_6}
use Rattle.text.specs.Lines.{lines}
use Rattle.script.specs.Script.{begun}
use Rattle.script.proofs.Throughout.{begun-sane, line_keeps, each-answer, run_6}
use Rattle.alike.proofs.Gathered.{as_rust}
use Rattle.demands.specs.Demand2.{SoundNet, Unbroken, NothingBroken, LeftSound, Demand2}

-- the lists that a network has are those that a walk meets
walked_so : (g : Net) → Sane g → SoundNet g
walked_so g (f, (ls, S)) = (f, as_walked g ls f S)

sane : (g : Net) → SoundNet g → Sane g
sane g (f, S) = (f, (lists g, S))

-- from any row of a chain the links lead to its end
behind : (lk : Spot → ℕ) (m : ℕ) (s : Spot) (xs : List ℕ) (x : ℕ) → Chain lk m s xs → In x xs → (t : Spot) × (ys : List ℕ) × (lk t ≡ x) × Chain lk m t ys
behind lk m s [] x c i = absurd i
behind lk m s (y ∷ ys) x c (inl e) = (s, y ∷ ys, c.0 ∙ sym e, c)
behind lk m s (y ∷ ys) x c (inr i) = behind lk m (After y) ys x c.2 i

module _ (g : Net) (f : fits g ≡ true) (S : Sound g (lists g)) where
  -- so from any link on a walk ends
  ends : (i : ℕ) → ltb (stop_from g.links g.m 1 i) g.m ≡ false
  ends i =
      elim (dec_lt i g.m) [
        | yes l ↦
            let L = members g (lists g) (small g f) S 1 (omega arith) in
            let b = behind (link_at g 1) g.m (Head (end_at g 1 i)) (lists g 1 (end_at g 1 i)) i (L.chain (end_at g 1 i) (L.has_end i l)) (L.listed i l) in
            subst (λ e. ltb (stop_from g.links g.m 1 e) g.m ≡ false) b.2 (chain_ends (link_at g 1) g.m (small g f) b.0 b.1 b.3)
        | no l ↦ rw (stop-end (cell g.links 1) g.m g.m i (omega arith)) (le-ltb i g.m (omega arith))
      ]

  step-on : (w : Walker) (xs : List ℕ) (s : ℕ) → ltb s g.m ≡ false → Unbroken (incoming_step g w xs s).answer
  step-on w (e ∷ es) s h = λ z. omega arith
  step-on w [] s h = rw h (λ z. omega arith)

  unbroken_all : NothingBroken g
  unfolding neighbors edge_weights edges_between edges_mut edges contains_edge step
  unbroken_all =
      let ls = lists g in
      let given : (a : ℕ) (xs items : List ℕ) → Unbroken (walked g a items (give xs items)).answer = λ a xs items. walked_6 g ls f S a items (give xs items) (give_6 xs items) in
      record {
        neighbors_of = λ a items. given a (around g Far a) items;
        edge-weights = λ a items. given a (around g Weight a) items;
        edges_between_lem = λ a b items. given a (picks g 0 (To (record { 0 = b })) a ++ picks g 1 (ToNot (record { 0 = b }) (record { 0 = a })) a) items;
        edges_mut_lem = λ a items. given a (picks g 1 Every a ++ picks g 0 Every a) items;
        edges_of = λ a t. walked_6 g ls f S a t (give_three (λ item. around g item a) t) (three_6 (λ item. around g item a) t);
        find-edge = find_6 g ls f S;
        contains_edge_lem =
            λ a b.
            tested Not6 (fits g) _ _ (λ z. omega arith) (λ t.
            tested Not6 (ltb a g.n) _ _ (λ z. omega arith) (λ l.
            sought_ways g ls f S Not6 _ _ _ a b (ltb-true a g.n l) (λ e z. omega arith) (λ z. omega arith)));
        update_edge_lem = update_6 g ls f S;
        walker_step =
            λ w.
            tested Leaves6 (fits g) _ _ (λ z. omega arith) (λ t.
            tested Leaves6 (ltb w.outgoing.0 g.m) _ _
            (step-on w (taken_from g.links g.ends g.m 1 (NotTo w.start) w.incoming.0) (stop_from g.links g.m 1 w.incoming.0) (ends w.incoming.0))
            (λ l z. omega arith));
        sum-around = sum_6 g ls f S;
        check = λ z. let served = ap (λ (t : Told (ℕ × ℕ × ℕ)). t.number) (sound_0 g ls f S) in omega (arith, served, z);
        remove-edge = gone_6 g ls f S;
        remove-node = closed_6 g ls f S;
        image_write_lem = λ bytes. RoundTrip·.six_unsound g bytes ls S;
      }

-- what holds of the network where a set is refused, and with the weight set
weight-fits : (g : Net) (a : ℕ) (w : ℤ) → fits g ≡ true → fits (set_node_weight g a w).after ≡ true
unfolding set_node_weight
weight-fits g a w f =
    tested (λ (o : Out (Unit {0}) Net). fits o.after ≡ true) (fits g) _ _ f (λ t.
    tested (λ (o : Out (Unit {0}) Net). fits o.after ≡ true) (ltb a g.n) _ _ f (λ l. rw (length-set g.weights a w) f))

register_fits : (g : Net) (e w : ℕ) → fits g ≡ true → fits (set_edge_weight g e w).after ≡ true
unfolding set_edge_weight
register_fits g e w f =
    tested (λ (o : Out (Unit {0}) Net). fits o.after ≡ true) (fits g) _ _ f (λ t.
    tested (λ (o : Out (Unit {0}) Net). fits o.after ≡ true) (ltb e g.m) _ _ f (λ l. rw (length-set g.registers e w) f))

left-all : (g : Net) → SoundNet g → LeftSound g
unfolding add_node_line add_edge_line update_edge_line remove_edge_line remove_node_line clear_edges_line clear_line
left-all g h =
    let s = sane g h in
    record {
      set-node_weight = λ a w. walked_so _ (weight-fits g a w h.0, (lists g, node-set g (lists g) a w h.1));
      set-edge_weight = λ e w. walked_so _ (register_fits g e w h.0, (lists g, edge-set g (lists g) e w h.1));
      add_node_lem = λ w. walked_so _ (add_node_keeps g w s);
      add_edge_lem = λ a b w. walked_so _ (add_edge_keeps g a b w s);
      update_edge_lem = λ a b w. walked_so _ (update_edge_keeps g a b w s);
      remove-edge = λ e. walked_so _ (remove_edge_keeps g e s);
      remove-node = λ a items. walked_so _ (remove_node_keeps g a items s);
      clear-edges = walked_so _ (clear_edges_keeps g s);
      clear-all = walked_so _ (clear_keeps g s);
    }

-- what a served load leaves has been checked
loaded-sound : (t : Net) (bytes : List ℕ) → (image_read t bytes).answer.number ≡ 0 → SoundNet (image_read t bytes).after
loaded-sound t bytes z =
    let r = read_says t bytes z in
    let g = loaded t bytes (nodes_in bytes) (edges_in bytes) in
    subst (λ (o : Out (Unit {0}) Net). SoundNet o.after) (sym (read_is t bytes r))
    (loaded-fits t bytes (nodes_in bytes) (edges_in bytes) r.lent r.n_within r.m_within, is_sound-says g r.sound)

pub demand_2 : Demand2
demand_2 =
    record {
      as_rust = λ g h. as_rust g (lists g) h.0 h.1;
      nothing-broken = λ g h. unbroken_all g h.0 h.1;
      left-sound = left-all;
      sound_accepted = λ g h. sound_0 g (lists g) h.0 h.1;
      accepted-sound = λ g z. let a = answered_0 g z in (a.0, a.1);
      loaded-sound = loaded-sound;
      run_sound =
          λ script. each-answer (λ s. Sane s.network) (λ o. SoundNet o.after.network) line_keeps (λ line s h. walked_so _ (line_keeps line s h)) (lines script) begun begun-sane;
      run-unbroken = run_6;
      written_read = RoundTrip·.written_read;
      read_written = RoundTrip·.read_written;
    }
