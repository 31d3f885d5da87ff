-- A loop that stores from the front: after i turns the first i cells are those of t, the others what they were.
-- And a part that such a loop filled.
use Prim.Native.Nat.{ℕ, zero, suc, ◌+◌, ◌-◌, ◌<◌, ◌≤◌}
use mathlib.Core.Path.{◌≡◌, refl, ap, ap₂, ◌∙◌}
use mathlib.Core.List.{List, [], ◌∷◌, ◌++◌, append-nil}
use native.Mathlib.Nat.{not-suc-le-zero, le_of_suc-le-suc, sub-zero}
use native.Mathlib.Numerals.{add-one}
use native.Mathlib.Omega.{arith}
use lib.ListN.{length, get_or, set, take, drop, replicate, drop_of_length-le, length-replicate, get_or-replicate}
use lib.Seq.{take_all, length-take-le}
use borrow.Rule.Slice.PartMut.{mid_of, put_mid, mid_len, Post-is}
use Rattle.tables.specs.Rows.{filled}

module _ {A : Type 0} where
  abbrev pub front : List A → List A → ℕ → List A
  front t d i = take i t ++ drop i d

  front_suc : (t d : List A) (i : ℕ) (z : A) → i < length t → i < length d → set (front t d i) i (get_or t i z) ≡ front t d (suc i)
  front_suc [] d i z h l = absurd (not-suc-le-zero h)
  front_suc (x ∷ t) [] i z h l = absurd (not-suc-le-zero l)
  front_suc (x ∷ t) (y ∷ d) zero z h l = refl
  front_suc (x ∷ t) (y ∷ d) (suc i) z h l = ap (λ (r : List A). x ∷ r) (front_suc t d i z (le_of_suc-le-suc h) (le_of_suc-le-suc l))

  -- one more turn
  pub front_more : (t d : List A) (i : ℕ) (z : A) → i < length t → i < length d → set (front t d i) i (get_or t i z) ≡ front t d (i + 1)
  front_more t d i z h l = rw (add-one i) (front_suc t d i z h l)

  -- the last turn
  pub front_all : (t d : List A) (i : ℕ) → length t ≡ length d → i ≡ length d → front t d i ≡ t
  front_all t d i h e =
      ap₂ (λ (x y : List A). x ++ y) (take_all i t (omega arith)) (drop_of_length-le d {i = i} (omega arith)) ∙ append-nil t

  -- the same where t holds x throughout
  abbrev pub fill_front : List A → A → ℕ → List A
  fill_front d x i = front (replicate (length d) x) d i

  pub fill_more : (d : List A) (x : A) (i : ℕ) → i < length d → set (fill_front d x i) i x ≡ fill_front d x (i + 1)
  fill_more d x i h =
      let t = replicate (length d) x in
      rw (get_or-replicate (length d) i x x h) at (front_more t d i x (rw (length-replicate (length d) x) h) h)

  pub fill_all : (d : List A) (x : A) (i : ℕ) → i ≡ length d → fill_front d x i ≡ replicate (length d) x
  fill_all d x i e = front_all (replicate (length d) x) d i (length-replicate (length d) x) e

  -- a part that was lent, filled and given back
  pub put-filled : (l : List A) (first last : ℕ) (x : A) (ys : List A) → first ≤ last → last ≤ length l
      → ys ≡ replicate (length (mid_of first (last - first) l)) x → put_mid first (last - first) l ys ≡ filled l first last x
  put-filled l first last x ys h g q = rw (q, mid_len first last l g, Post-is first last l h)

  pub prefix_filled : (l : List A) (last : ℕ) (x : A) (ys : List A) → last ≤ length l
      → ys ≡ replicate (length (take last l)) x → ys ++ drop last l ≡ filled l 0 last x
  prefix_filled l last x ys g q = rw (q, length-take-le last l g, sub-zero last)
