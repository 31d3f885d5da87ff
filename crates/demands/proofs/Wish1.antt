-- Wish 1, `wish_1`, from the laws of the calls with a directory.
use Prim.{tt}
use Prim.Native.Nat.{ℕ, ◌+◌, ◌*◌, ◌-◌, ◌≤◌}
use mathlib.Core.Path.{◌≡◌, refl, sym, ap, subst, ◌∙◌}
use mathlib.Core.Logic.{◌⊎◌, ⊎_elim}
use mathlib.Core.Bool.{false, ◌&&◌}
use native.Mathlib.Decide.{ℕ_discrete}
use borrow.Author.Tests.{eq-eqb, ne_eqb, lt-ltb, le-ltb}
use lib.IntN.{ℤ}
use lib.ListN.{length}
use Rattle.index.specs.Index.{END}
use Rattle.tables.specs.Answers.{Told}
use Rattle.lookups.specs.Lookups.{set_edge_weight}
use Rattle.rows.specs.Calls.{add_edge, clear_edges, clear}
use Rattle.lists.specs.declared.Item.TheVariants.{Weight}
use Rattle.lists.specs.Walk.{around}
use Rattle.find.specs.Find.{update_edge}
use Rattle.sound.specs.Sound.{lists}
use Rattle.sound.specs.Check.{told_checked}
use Rattle.sound.proofs.Exactly.{small}
use Rattle.removal.specs.Removal.{remove_edge}
use Rattle.directory.specs.Directory.{entry, Filed, register_of, named}
use Rattle.directory.proofs.Laws.{apart}
use Rattle.dirsound.specs.Check.{SoundFiled}
use Rattle.dirsound.proofs.Exactly.{right_accepted}
use Rattle.dirrows.specs.Calls.{entered, reweighed, add_edge_filed, set_edge_weight_filed, clear_edges_filed, clear_filed}
use Rattle.dirfind.specs.Find.{update_edge_filed}
use Rattle.dirremoval.specs.Removal.{remove_edge_filed}
use Rattle.bynumber.proofs.Kept.{bears-found, number-refused}
use Rattle.dirclosing.proofs.Kept.{unsound_6_filed, six_unsound_filed}
use Rattle.dirimage.proofs.Load.{load_served, load_tells, load_as}
use Rattle.demands.specs.Wish1.{Names, Wish1}
use Rattle.demands.proofs.Demand3.{demand_3}
use Rattle.demands.proofs.Judged.{second_false, first_so, rest_so, judged_so, reweighed_so}
use Rattle.demands.proofs.DirectoryNumbers.{demand_1_filed}
use Rattle.demands.proofs.DirectorySame.{demand_2_filed, accepted_so, links_first, checked-last, write_6}
use Rattle.demands.proofs.DirectoryFollows.{follows_each}
use Rattle.demands.proofs.ByNumber.{number-tables, number-beyond, number-none, number-other, number-found, removed_found}

-- both entries name their rows, or one does not
and_not : (f : Filed) (e x : ℕ) → (Names f e → ⊥) ⊎ (Names f x → ⊥) → (named f e && named f x) ≡ false
and_not f e x h =
    ⊎_elim
    (λ n. rw (ne_eqb (entry f.directory (register_of f.net e)) e n))
    (λ n. second_false (named f e) (named f x) (ne_eqb (entry f.directory (register_of f.net x)) x n))
    h

-- the rows read are those without a directory
same_reads : (f : Filed) (e : ℕ) → SoundFiled f → (remove_edge_filed f e).answer.values.2 ≡ (remove_edge f.net e).answer.values.2
same_reads f e S = ap (λ (t : Told (ℕ × ℕ × ℕ)). t.values.2) ((demand_2_filed f S).remove-edge e).0

pub wish_1 : Wish1
unfolding add_edge_filed set_edge_weight_filed update_edge_filed remove_edge_filed clear_edges_filed clear_filed clear_edges clear
wish_1 =
    record {
      demand_1 = demand_1_filed;
      stands = λ f S e l. S.2.named e l;
      stands-nowhere =
          λ f S r n.
          elim (ℕ_discrete (entry f.directory r) END) [
            | yes q ↦ q
            | no q ↦ (let b = S.2.borne r q in absurd (n (entry f.directory r) b.0 b.1))
          ];
      demand_2 = demand_2_filed;
      edge-reads = λ f e S l. same_reads f e S ∙ (demand_3.edge-taken f.net e (S.0, S.1) l).reads;
      edge-most =
          λ f e S l D longest. subst (λ rows. rows ≤ 4 * (D - 1)) (sym (same_reads f e S)) ((demand_3.edge-taken f.net e (S.0, S.1) l).most D longest);
      node-most =
          λ f a items S l room D longest.
          subst (λ rows. rows ≤ 3 * length (around f.net Weight a) * (D - 1) + 2 * D)
          (sym (ap (λ (t : Told (ℤ × ℕ × ℕ)). t.values.1) ((demand_2_filed f S).remove-node a items).0))
          ((demand_3.node-taken f.net a items (S.0, S.1) l room).most D longest);
      unique = λ f S e x h l q. apart (register_of f.net) f.net.m f.directory S.2 (small f.net S.0) e x h l q;
      sound_accepted = λ f S. ap told_checked (right_accepted f (lists f.net) S.0 S.1 S.2);
      accepted-sound = accepted_so;
      links_first = links_first;
      checked-last = checked-last;
      remove_node_6 = λ f a items t l. (six_unsound_filed f a items t l, unsound_6_filed f a items t l);
      image_write_6 = write_6;
      follows = follows_each;
      cleared_edges = λ f t. rw t;
      cleared_all = λ f t. rw t;
      add_first = λ f a b w. first_so f _ _;
      add_judged = λ f a b w z. let o = add_edge f.net a b w in rw (rest_so f o (entered f w o) z) (judged_so f 0 END w _);
      set_first = λ f e w. first_so f _ _;
      set-judged = λ f e w z. let o = set_edge_weight f.net e w in rw (rest_so f o (reweighed f tt e w o) z) (reweighed_so f tt e w o);
      update_first = λ f a b w. first_so f _ _;
      update_judged =
          λ f a b w z l.
          let o = update_edge f.net a b w in
          rw (eq-eqb o.answer.number 0 z, lt-ltb o.answer.values f.net.m l) (reweighed_so f 0 o.answer.values w o);
      update_adds =
          λ f a b w z l.
          let o = update_edge f.net a b w in
          rw (eq-eqb o.answer.number 0 z, le-ltb o.answer.values f.net.m l) (judged_so f 0 END w _);
      remove_first = λ f e. first_so f _ _;
      remove-misnamed = λ f e z h. rw (eq-eqb (remove_edge f.net e).answer.number 0 z, and_not f e (f.net.m - 1) h);
      remove-served =
          λ f e z p q.
          rw (
            eq-eqb (remove_edge f.net e).answer.number 0 z,
            eq-eqb (entry f.directory (register_of f.net e)) e p,
            eq-eqb (entry f.directory (register_of f.net (f.net.m - 1))) (f.net.m - 1) q,
          );
      number-tables = number-tables;
      number-beyond = number-beyond;
      number-none = number-none;
      number-other = number-other;
      number-found = number-found;
      looked_up = λ f e S l. bears-found f S.0 S.2 (register_of f.net e) e l refl;
      removed_found = λ f r e p. removed_found f r e p;
      removed_not = number-refused;
      load_fills = load_served;
      load_tells = load_tells;
      load_as = load_as;
    }
