-- One turn of the stripping takes out the first edge of a list: `head-out`; where there is none, the list is emptied: `emptied-done`.
use Prim.Native.Nat.{ℕ, zero, suc, ◌≤◌, ◌<◌}
use mathlib.Core.Path.{◌≡◌, refl}
use mathlib.Core.Bool.{true}
use mathlib.Core.List.{List, [], ◌∷◌}
use native.Mathlib.Decide.{ℕ_discrete}
use native.Mathlib.Omega.{arith}
use borrow.Author.Tests.{eq-eqb, ne_eqb}
use lib.ListN.{length, length-append}
use Rattle.index.specs.Index.{END}
use Rattle.tables.specs.Net.{Net, fits}
use Rattle.lists.specs.declared.Spot.TheVariants.{Head}
use Rattle.lists.specs.Walk.{link_at}
use Rattle.lists.specs.Chain.{Chain}
use Rattle.sound.specs.Sound.{Sound}
use Rattle.removal.specs.Removal.{taken_out}
use Rattle.removal.specs.Lists.{EdgeOut}
use Rattle.removal.proofs.EdgeOuts.{taken_out_lem}
use Rattle.stripping.specs.Heads.{Strip, head_out, emptied}

-- where the head is `END` nothing more is done, else one more edge goes
pub emptied-done : (most k a : ℕ) (t : Strip) → link_at t.rest k (Head a) ≡ END → emptied most k a t ≡ t
unfolding emptied
emptied-done zero k a t q = refl
emptied-done (suc most) k a t q = rw (eq-eqb (link_at t.rest k (Head a)) END q)

pub emptied-on : (most k a : ℕ) (t : Strip) → (link_at t.rest k (Head a) ≡ END → ⊥) → emptied (suc most) k a t ≡ emptied most k a (head_out k a t)
unfolding emptied
emptied-on most k a t n = rw (ne_eqb (link_at t.rest k (Head a)) END n)

-- the weights given before stand in front of those given then
pub given_grows : (most k a : ℕ) (t : Strip) → length t.given ≤ length (emptied most k a t).given
unfolding emptied
given_grows zero k a t = omega arith
given_grows (suc most) k a t =
    elim (ℕ_discrete (link_at t.rest k (Head a)) END) [
      | yes q ↦ rw (eq-eqb (link_at t.rest k (Head a)) END q) (omega arith)
      | no q ↦
          (let o = taken_out t.rest (link_at t.rest k (Head a)) in
          rw (ne_eqb (link_at t.rest k (Head a)) END q)
          (omega (arith, given_grows most k a (head_out k a t), length-append t.given (o.answer.values.0 ∷ []))))
    ]

module _ (g : Net) (ls : ℕ → ℕ → List ℕ) (k a : ℕ) (f : fits g ≡ true) (S : Sound g ls) (hk : k < 2) (la : a < g.n) where
  head-below : (xs : List ℕ) → Chain (link_at g k) g.m (Head a) xs → (link_at g k (Head a) ≡ END → ⊥) → link_at g k (Head a) < g.m
  head-below [] c n = absurd (n c)
  head-below (x ∷ xs) c n = omega (arith, c.0, c.1)

  -- a head that is not `END` is an edge, and it can be taken out
  pub head-out : (link_at g k (Head a) ≡ END → ⊥)
      → (link_at g k (Head a) < g.m) × EdgeOut g ls (link_at g k (Head a)) (taken_out g (link_at g k (Head a)))
  head-out n =
      let b = head-below (ls k a) (S.all_end k a hk la) n in
      (b, taken_out_lem g ls (link_at g k (Head a)) f S b)
