-- A node's removal is refused with zeros and changes nothing, or the node is taken out of a sound network: `node_ways`. So the rows read can be told
-- as a signed number: `few_rows`, `few_so`. Assumes nothing.
use Prim.Native.Nat.{ℕ, ◌^◌, ◌≤◌, ◌<◌}
use mathlib.Core.Path.{◌≡◌, refl, sym, subst}
use mathlib.Core.Logic.{◌⊎◌, inl, inr, ⊎_elim}
use mathlib.Core.Bool.{Bool, true, false}
use mathlib.Core.List.{List}
use native.Mathlib.Omega.{arith}
use borrow.Author.Tests.{ltb-true, leb-true}
use lib.Dec.{ltb, leb}
use lib.IntN.{pos}
use lib.ListN.{length}
use Rattle.index.specs.declared.Refusal.{Refusal}
use Rattle.index.specs.declared.Refusal.TheVariants.{Tables, NoNode, Broken, Short}
use Rattle.tables.specs.Net.{Net, fits}
use Rattle.tables.specs.Answers.{out, refused}
use Rattle.lists.specs.declared.Item.TheVariants.{Weight}
use Rattle.lists.specs.declared.Spot.TheVariants.{Head}
use Rattle.lists.specs.Walk.{around, link_at, cell}
use Rattle.lists.proofs.Gives.{walk-length}
use Rattle.std.specs.Prelude.{Result, Ok, Err}
use Rattle.sound.specs.Sound.{Sound, lists}
use Rattle.sound.specs.Check.{Checked, checked, accepted}
use Rattle.sound.proofs.Exactly.{accepted-sound}
use Rattle.sound.proofs.Kept.{fit_of}
use Rattle.closing.specs.declared.RemovedNode.{RemovedNode}
use Rattle.closing.specs.Closing.{Closed, closed_if_room, remove_node, told_node_removed}
use Rattle.closing.proofs.NodeOuts.{node-out}
use Rattle.commands.specs.Parts.{FewRows}

-- a test passes or fails
pub either_way : (b : Bool) → (b ≡ true) ⊎ (b ≡ false)
either_way true = inl refl
either_way false = inr refl

-- why a removal is refused
module _ (g : Net) (a : ℕ) (items : List ℕ) where
  misfit_is : fits g ≡ false → remove_node g a items ≡ out (refused Tables (pos 0, 0, 0)) (g, items)
  unfolding remove_node
  misfit_is f = rw f

  pub missing_is : fits g ≡ true → ltb a g.n ≡ false → remove_node g a items ≡ out (refused NoNode (pos 0, 0, 0)) (g, items)
  unfolding remove_node
  missing_is f l = rw (f, l)

  broken-is : fits g ≡ true → ltb a g.n ≡ true → accepted (checked g) ≡ false → remove_node g a items ≡ out (refused Broken (pos 0, 0, 0)) (g, items)
  unfolding remove_node
  broken-is f l c = rw (f, l, c)

  short_is : fits g ≡ true → ltb a g.n ≡ true → accepted (checked g) ≡ true → leb (length (around g Weight a)) (length items) ≡ false
      → remove_node g a items ≡ out (refused Short (pos 0, 0, 0)) (g, items)
  unfolding remove_node closed_if_room
  short_is f l c r = rw (f, l, c, r)

  accepted_so : (v : Checked) → checked g ≡ v → accepted v ≡ true → Sound g (lists g)
  accepted_so (Ok rows) e h = (accepted-sound g rows e).1
  accepted_so (Err why) e h = absurd (let z : ◌≡◌ {A = ℕ} 0 1 = cc in omega arith)

module _ (P : Closed → Type 0) (g : Net) (a : ℕ) (items : List ℕ) (no : (why : Refusal) → P (out (refused why (pos 0, 0, 0)) (g, items)))
    (yes-so : fits g ≡ true → Sound g (lists g) → a < g.n → length (around g Weight a) ≤ length items → P (remove_node g a items)) where
  pub node_ways : P (remove_node g a items)
  node_ways =
      ⊎_elim
      (λ f.
      ⊎_elim
      (λ l.
      ⊎_elim
      (λ c.
      ⊎_elim
      (λ r. yes-so f (accepted_so g a items (checked g) refl c) (ltb-true a g.n l) (leb-true (length (around g Weight a)) (length items) r))
      (λ r. subst P (sym (short_is g a items f l c r)) (no Short))
      (either_way (leb (length (around g Weight a)) (length items))))
      (λ c. subst P (sym (broken-is g a items f l c)) (no Broken))
      (either_way (accepted (checked g))))
      (λ l. subst P (sym (missing_is g a items f l)) (no NoNode))
      (either_way (ltb a g.n)))
      (λ f. subst P (sym (misfit_is g a items f)) (no Tables))
      (either_way (fits g))

pub few_rows : (g : Net) (a : ℕ) (items : List ℕ) → (remove_node g a items).answer.values.1 < 2 ^ 63
few_rows g a items =
    node_ways (λ o. o.answer.values.1 < 2 ^ 63) g a items (λ why. omega arith) (λ f S l r.
    let t = fit_of g f in
    let o = node-out g (lists g) a items f S l r in
    let most = o.most 65536 (λ k c h d. omega (arith, walk-length (cell g.links k) g.m g.m (link_at g k (Head c)))) in
    rw o.served (omega (arith, o.edges, most)))

pub few_so : (g : Net) (a : ℕ) (items : List ℕ) {answer : Result RemovedNode Refusal} {after : Net × List ℕ}
    → out (told_node_removed answer) after ≡ remove_node g a items → FewRows answer
few_so g a items e = record { few = subst (λ (o : Closed). o.answer.values.1 < 2 ^ 63) (sym e) (few_rows g a items) }
