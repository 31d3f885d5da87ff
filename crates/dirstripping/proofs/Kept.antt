-- A sound network with a right directory, stripped of a node's edges, has a right directory of as many cells: `strip-kept`.
use Prim.Native.Nat.{ℕ, zero, suc, ◌<◌}
use mathlib.Core.Path.{◌≡◌, sym, ap, ◌∙◌}
use mathlib.Core.Bool.{true}
use mathlib.Core.List.{List, []}
use native.Mathlib.Decide.{ℕ_discrete}
use native.Mathlib.Omega.{arith}
use lib.ListN.{length}
use Rattle.index.specs.Index.{END}
use Rattle.tables.specs.Net.{Net, fits}
use Rattle.tables.specs.Answers.{Told, out}
use Rattle.lists.specs.declared.Spot.TheVariants.{Head}
use Rattle.lists.specs.Walk.{link_at}
use Rattle.sound.specs.Sound.{Sound}
use Rattle.removal.specs.Removal.{taken_out}
use Rattle.stripping.specs.Heads.{Strip, strip, head_out, emptied, stripped}
use Rattle.stripping.proofs.Turns.{emptied-done, emptied-on, head-out}
use Rattle.directory.specs.Directory.{register_of, Right, followed}
use Rattle.dirremoval.proofs.Kept.{followed-length, taken_right}

-- a network of so many nodes that fits, is sound, and has a right directory of so many cells
pub record Kept (nodes cells : ℕ) (g : Net) : Type 0 where
  pub count : g.n ≡ nodes
  pub fit : fits g ≡ true
  pub lists : ℕ → ℕ → List ℕ
  pub sound : Sound g lists
  pub directory : List ℕ
  pub long : length directory ≡ cells
  pub right : Right (register_of g) g.m directory

module _ (nodes cells k a : ℕ) (hk : k < 2) (la : a < nodes) where
  head-kept : (t : Strip) → Kept nodes cells t.rest → (link_at t.rest k (Head a) ≡ END → ⊥) → Kept nodes cells (head_out k a t).rest
  head-kept t K n =
      let g = t.rest in
      let e = link_at g k (Head a) in
      let o = head-out g K.lists k a K.fit K.sound hk (rw K.count la) n in
      let h = (taken_out g e).after in
      let is = ap (λ (v : Told (ℕ × ℕ × ℕ)). out v h) (sym o.1.served) in
      record {
        count = o.1.nodes ∙ K.count;
        fit = o.1.fit;
        lists = _;
        sound = o.1.sound;
        directory = followed (register_of h) h.m (register_of g e) e K.directory;
        long = followed-length (register_of h) h.m (register_of g e) e K.directory ∙ K.long;
        right = taken_right g h K.lists e (register_of g e) _ _ K.directory K.fit K.sound o.0 K.right is;
      }

  emptied-kept : (most : ℕ) (t : Strip) → Kept nodes cells t.rest → Kept nodes cells (emptied most k a t).rest
  unfolding emptied
  emptied-kept zero t K = K
  emptied-kept (suc most) t K =
      elim (ℕ_discrete (link_at t.rest k (Head a)) END) [
        | yes q ↦ rw (emptied-done (suc most) k a t q) K
        | no q ↦ rw (emptied-on most k a t q) (emptied-kept most (head_out k a t) (head-kept t K q))
      ]

pub strip-kept : (g : Net) (cells a : ℕ) → a < g.n → Kept g.n cells g → Kept g.n cells (stripped g a).rest
unfolding stripped
strip-kept g cells a la K =
    emptied-kept g.n cells 1 a (omega arith) la g.m (emptied g.m 0 a (strip g [] 0))
    (emptied-kept g.n cells 0 a (omega arith) la g.m (strip g [] 0) K)
