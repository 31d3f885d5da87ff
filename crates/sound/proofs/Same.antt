-- Sound in the order's words and by members are the same: `counts` and `members`.
use Prim.Native.Nat.{ℕ, suc, ◌≤◌}
use mathlib.Core.Path.{◌≡◌, refl, sym, ap}
use mathlib.Core.Logic.{inl, inr}
use mathlib.Core.List.{List, [], ◌∷◌}
use native.Mathlib.Decide.{ℕ_discrete}
use native.Mathlib.Omega.{arith}
use borrow.Author.Tests.{eq-eqb, ne_eqb}
use Rattle.index.specs.Index.{END}
use Rattle.tables.specs.Net.{Net}
use Rattle.lists.specs.declared.Spot.TheVariants.{Head}
use Rattle.lists.specs.Chain.{In}
use Rattle.lists.specs.Walk.{link_at}
use Rattle.lists.proofs.Chains.{below, Apart, chain_apart}
use Rattle.sound.specs.Sound.{times, end_at, Sound, Listed}
use Rattle.sound.proofs.Listings.{in_tail}

none : (x : ℕ) (xs : List ℕ) → (In x xs → ⊥) → times x xs ≡ 0
none x [] n = refl
none x (y ∷ ys) n = rw (ne_eqb y x (λ h. n (inl (sym h)))) (none x ys (λ i. n (inr i)))

one : (x : ℕ) (xs : List ℕ) → Apart xs → In x xs → times x xs ≡ 1
one x [] c i = absurd i
one x (y ∷ ys) c i =
    elim (ℕ_discrete y x) [
      | yes q ↦ rw (eq-eqb y x q) (ap suc (none x ys (λ j. c.0 (rw q j))))
      | no q ↦ rw (ne_eqb y x q) (one x ys c.1 (in_tail x y ys i q))
    ]

some : (x : ℕ) (xs : List ℕ) → (times x xs ≡ 0 → ⊥) → In x xs
some x [] h = absurd (h refl)
some x (y ∷ ys) h =
    elim (ℕ_discrete y x) [
      | yes q ↦ inl (sym q)
      | no q ↦ inr (some x ys (λ z. h (rw (ne_eqb y x q) z)))
    ]

more : (x : ℕ) (xs : List ℕ) → In x xs → times x xs ≡ 0 → ⊥
more x [] i = absurd i
more x (y ∷ ys) i =
    elim (ℕ_discrete y x) [
      | yes q ↦ rw (eq-eqb y x q) (λ z. omega arith)
      | no q ↦ rw (ne_eqb y x q) (more x ys (in_tail x y ys i q))
    ]

module _ (g : Net) (ls : ℕ → ℕ → List ℕ) (small : g.m ≤ END) where
  pub counts : Listed g ls → Sound g ls
  counts L =
      record {
        all_end = λ k a h l. (L k h).chain a l;
        has_ends = λ k x h l. (L k h).has_end x l;
        once =
            λ k x h l.
            (let a = end_at g k x in
            one x (ls k a) (chain_apart (link_at g k) g.m small (Head a) (ls k a) ((L k h).chain a ((L k h).has_end x l))) ((L k h).listed x l));
        no_other = λ k x a h l b d. none x (ls k a) (λ i. d ((L k h).own a b x i));
      }

  pub members : Sound g ls → Listed g ls
  members S k h =
      record {
        chain = λ a l. S.all_end k a h l;
        own =
            λ a l x i.
            elim (ℕ_discrete (end_at g k x) a) [
              | yes q ↦ q
              | no q ↦ absurd (more x (ls k a) i (S.no_other k x a h (below (link_at g k) g.m small (Head a) x (ls k a) (S.all_end k a h l) i) l q))
            ];
        has_end = λ x l. S.has_ends k x h l;
        listed = λ x l. some x (ls k (end_at g k x)) (λ z. omega (arith, S.once k x h l));
      }
