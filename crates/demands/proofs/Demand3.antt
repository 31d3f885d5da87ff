-- Demand 3, `demand_3`, from `edge-out` and `node-out`. Assumes nothing.
use Prim.Native.Nat.{ℕ, ◌+◌, ◌*◌, ◌-◌, ◌≤◌, ◌<◌}
use mathlib.Core.Path.{◌≡◌, sym, ap, subst, ◌∙◌}
use mathlib.Core.List.{List}
use native.Mathlib.Decide.{ℕ_discrete}
use native.Mathlib.Omega.{arith}
use borrow.Author.Tests.{eq-eqb, ne_eqb}
use lib.IntN.{ℤ}
use lib.ListN.{length}
use Rattle.tables.specs.Net.{Net}
use Rattle.tables.specs.Answers.{Told}
use Rattle.lists.specs.declared.Item.TheVariants.{Weight}
use Rattle.lists.specs.Walk.{around}
use Rattle.sound.specs.Sound.{lists}
use Rattle.sound.proofs.Exactly.{lists_are, as_walked}
use Rattle.removal.specs.Removal.{remove_edge}
use Rattle.removal.specs.Lists.{renamed, less_edge}
use Rattle.removal.proofs.EdgeOuts.{edge-out}
use Rattle.closing.specs.Closing.{remove_node}
use Rattle.stripping.specs.Lists.{listing}
use Rattle.closing.specs.Lists.{less_node}
use Rattle.closing.proofs.NodeOuts.{node-out}
use Rattle.demands.specs.Demand2.{SoundNet}
use Rattle.demands.specs.Demand3.{EdgeTaken, NodeTaken, Demand3}

edge-taken : (g : Net) (e : ℕ) → SoundNet g → e < g.m → EdgeTaken g e
edge-taken g e (f, S) l =
    let o = edge-out g (lists g) e f S l in
    let h = (remove_edge g e).after in
    let ls = less_edge (g.m - 1) e (lists g) in
    let reads = ap (λ (t : Told (ℕ × ℕ × ℕ)). t.values.2) o.served in
    record {
      reads = reads;
      most = λ D longest. subst (λ rows. rows ≤ 4 * (D - 1)) (sym reads) (o.most D longest);
      sound = (o.fit, as_walked h ls o.fit o.sound);
      order = λ k a i j. lists_are h ls o.fit o.sound k a i (subst (λ n. a < n) (sym o.nodes) j);
      whole = o;
    }

-- a node that is left, by its new number, is below the new count
still_node : (n a c : ℕ) → a < n → c < n → (c ≡ a → ⊥) → renamed (n - 1) a c < n - 1
still_node n a c i j d =
    elim (ℕ_discrete c (n - 1)) [
      | yes q ↦ rw (eq-eqb c (n - 1) q) (omega arith)
      | no q ↦ rw (ne_eqb c (n - 1) q) (omega arith)
    ]

node-taken : (g : Net) (a : ℕ) (items : List ℕ) → SoundNet g → a < g.n → length (around g Weight a) ≤ length items → NodeTaken g a items
node-taken g a items (f, S) l room =
    let o = node-out g (lists g) a items f S l room in
    let h = (remove_node g a items).after.0 in
    let ls = less_node a (g.n - 1) (listing g (lists g)) in
    let reads = ap (λ (t : Told (ℤ × ℕ × ℕ)). t.values.1) o.served in
    record {
      most = λ D longest. subst (λ rows. rows ≤ 3 * length (around g Weight a) * (D - 1) + 2 * D) (sym reads) (o.most D longest);
      sound = (o.fit, as_walked h ls o.fit o.sound);
      order = (
        o.renumbered.0,
        record {
          order =
              λ k c i j d.
              lists_are h ls o.fit o.sound k (renamed (g.n - 1) a c) i (subst (λ n. renamed (g.n - 1) a c < n) (sym o.nodes) (still_node g.n a c l j d))
              ∙ o.renumbered.1.order k c i j d;
          stays = o.renumbered.1.stays;
        },
      );
      whole = o;
    }

pub demand_3 : Demand3
demand_3 = record { edge-taken = edge-taken; node-taken = node-taken }
