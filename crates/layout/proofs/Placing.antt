-- Bytes put in one after the other, and a number read at a place.
use Prim.Native.Nat.{ℕ, zero, suc, ◌-◌, ◌+◌, ◌/◌, ◌%◌, ◌≤◌}
use mathlib.Core.Path.{◌≡◌, refl, sym, ap, ap₂, ◌∙◌}
use mathlib.Core.List.{List, [], ◌∷◌, ◌++◌, append_assoc}
use native.Mathlib.Nat.{add-zero}
use Rattle.std.specs.Int.{to_le_bytes, from_le_bytes}
use Rattle.std.specs.List.{starts_with}
use mathlib.Core.Bool.{Bool, true, false, ◌&&◌}
use native.Mathlib.Decide.{ℕ_discrete}
use borrow.Author.Tests.{eq-eqb, ne_eqb}
use lib.Dec.{eqb}
use borrow.Rule.Slice.PartMut.{put_mid, Post-is}
use mir.Syntax.{w32}
use native.Mathlib.Numerals.{add-one}
use native.Mathlib.Omega.{arith}
use lib.ListN.{length, get_or, take, drop, length-append, length-drop, length-take, take-append-drop}
use lib.Seq.{length-take-le, take_at, drop_at, drop-drop, drop-cons}
use Rattle.tables.specs.declared.row.Node.{Node}
use Rattle.tables.specs.declared.row.Edge.{Edge}
use Rattle.layout.specs.Numbers.{le, number, number_at, bits, placed}
use Rattle.layout.specs.Layout.{mark, version, head, head_bytes, node_bytes, edge_bytes, marked}

pub placed-length : (at : ℕ) (xs l : List ℕ) → at + length xs ≤ length l → length (placed at xs l) ≡ length l
unfolding placed
placed-length at xs l h =
    simp (length-append, length-drop, length-take-le at l (omega arith)) (omega arith)

-- bytes after bytes
pub placed-more : (at next : ℕ) (xs ys l : List ℕ) → next ≡ at + length xs → next + length ys ≤ length l
    → placed next ys (placed at xs l) ≡ placed at (xs ++ ys) l
unfolding placed
placed-more at next xs ys l e h =
    let a = take at l in
    let r = drop (at + length xs) l in
    let la : length (a ++ xs) ≡ next = length-append a xs ∙ ap (λ k. k + length xs) (length-take-le at l (omega arith)) ∙ sym e in
    let p : placed at xs l ≡ (a ++ xs) ++ r = sym (append_assoc a xs r) in
    let front : take next (placed at xs l) ≡ a ++ xs = ap (take next) p ∙ take_at (a ++ xs) r next la in
    let z : at + length xs + length ys ≡ at + length (xs ++ ys) = omega (arith, length-append xs ys) in
    let back : drop (next + length ys) (placed at xs l) ≡ drop (at + length (xs ++ ys)) l =
    sym (drop-drop (length ys) next (placed at xs l))
    ∙ ap (drop (length ys)) (ap (drop next) p ∙ drop_at (a ++ xs) r next la)
    ∙ drop-drop (length ys) (at + length xs) l
    ∙ ap (λ k. drop k l) z in
    ap₂ (λ (x y : List ℕ). x ++ (ys ++ y)) front back
    ∙ append_assoc a xs (ys ++ drop (at + length (xs ++ ys)) l)
    ∙ ap (λ (x : List ℕ). a ++ x) (sym (append_assoc xs ys (drop (at + length (xs ++ ys)) l)))

-- the bytes at a place, and their number
module _ (l : List ℕ) (at : ℕ) where
  pub two_at : at + 2 ≤ length l → take 2 (drop at l) ≡ get_or l at 0 ∷ get_or l (at + 1) 0 ∷ []
  two_at h = rw (drop-cons l at 0 (omega arith), drop-cons l (suc at) 0 (omega arith), add-one at)

  pub four_at : at + 4 ≤ length l → take 4 (drop at l) ≡ get_or l at 0 ∷ get_or l (at + 1) 0 ∷ get_or l (at + 2) 0 ∷ get_or l (at + 3) 0 ∷ []
  four_at h =
      let two : at + 2 ≡ suc (suc at) = omega arith in
      let three : at + 3 ≡ suc (suc (suc at)) = omega arith in
      rw (
        drop-cons l at 0 (omega arith),
        drop-cons l (suc at) 0 (omega arith),
        drop-cons l (suc (suc at)) 0 (omega arith),
        drop-cons l (suc (suc (suc at))) 0 (omega arith),
        add-one at,
        two,
        three,
      )

-- a part of l copied over
pub part_placed : (at : ℕ) (xs l : List ℕ) → put_mid at (at + length xs - at) l xs ≡ placed at xs l
unfolding placed
part_placed at xs l = ap (λ (r : List ℕ). take at l ++ (xs ++ r)) (Post-is at (at + length xs) l (omega arith))

-- the first bytes of std's four
pub low_bytes : (k x : ℕ) → k ≤ 4 → take k (to_le_bytes w32 x) ≡ le k x
unfolding le
low_bytes zero x h = refl
low_bytes (suc zero) x h = refl
low_bytes (suc (suc zero)) x h = refl
low_bytes (suc (suc (suc zero))) x h = ap (λ z. x % 256 ∷ x / 256 % 256 ∷ z ∷ []) (omega arith)
low_bytes (suc (suc (suc (suc zero)))) x h = ap₂ (λ y z. x % 256 ∷ x / 256 % 256 ∷ y ∷ z ∷ []) (omega arith) (omega arith)
low_bytes (suc (suc (suc (suc (suc k))))) x h = absurd (omega arith)

abbrev zeros : List ℕ
zeros = 0 ∷ 0 ∷ 0 ∷ 0 ∷ []

-- few bytes, and zeros up to four, as std reads them
padded : (xs : List ℕ) → length xs ≤ 4 → from_le_bytes w32 (xs ++ drop (length xs) zeros) ≡ number xs
unfolding number
padded [] h = refl
padded (a ∷ []) h = omega arith
padded (a ∷ b ∷ []) h = omega arith
padded (a ∷ b ∷ c ∷ []) h = omega arith
padded (a ∷ b ∷ c ∷ d ∷ []) h = omega arith
padded (a ∷ b ∷ c ∷ d ∷ e ∷ xs) h = absurd (omega arith)

pub part_number : (k at : ℕ) (l : List ℕ) → k ≤ 4 → at + k ≤ length l
    → from_le_bytes w32 (put_mid 0 k zeros (take (at + k - at) (drop at l))) ≡ number_at k l at
unfolding number_at
part_number k at l h r =
    let d : at + k - at ≡ k = omega arith in
    let e : length (take k (drop at l)) ≡ k = simp (length-take, length-drop) (omega arith) in
    rw d (rw e at (padded (take k (drop at l)) (omega (arith, e))))

-- the mark, letter by letter
turned : (x y : ℕ) → eqb x y ≡ eqb y x
turned x y =
    elim (ℕ_discrete x y) [
      | yes q ↦ rw (eq-eqb x y q, eq-eqb y x (sym q))
      | no q ↦ rw (ne_eqb x y q, ne_eqb y x (λ e. q (sym e)))
    ]

and_three : (a b c : Bool) → (a && (b && (c && true))) ≡ (a && b && c)
and_three true true true = refl
and_three true true false = refl
and_three true false c = refl
and_three false b c = refl

pub starts_marked : (l : List ℕ) → 3 ≤ length l → starts_with eqb l mark ≡ marked l
unfolding marked
starts_marked [] h = absurd (omega arith)
starts_marked (a ∷ []) h = absurd (omega arith)
starts_marked (a ∷ b ∷ []) h = absurd (omega arith)
starts_marked (a ∷ b ∷ c ∷ l) h = rw (turned 87 a, turned 78 b, turned 84 c) (and_three (eqb a 87) (eqb b 78) (eqb c 84))

-- what bytes after bytes leave
pub placed-after : (at next : ℕ) (xs ys l : List ℕ) {l₁ l₂ : List ℕ} → next ≡ at + length xs → next + length ys ≤ length l
    → l₁ ≡ placed at xs l → l₂ ≡ placed next ys l₁ → l₂ ≡ placed at (xs ++ ys) l
placed-after at next xs ys l e h p q = q ∙ ap (placed next ys) p ∙ placed-more at next xs ys l e h

module _ (l : List ℕ) (at : ℕ) where
  pub node-placed : (row : Node) {l₁ l₂ l₃ : List ℕ} → at + 12 ≤ length l
      → l₁ ≡ placed at (le 4 (bits row.weight)) l → l₂ ≡ placed (at + 4) (le 4 row.outgoing.0) l₁ → l₃ ≡ placed (at + 8) (le 4 row.incoming.0) l₂
      → l₃ ≡ placed at (node_bytes row) l
  unfolding le node_bytes
  node-placed row h e₁ e₂ e₃ =
      let w = le 4 (bits row.weight) in
      let o = le 4 row.outgoing.0 in
      let i = le 4 row.incoming.0 in
      placed-after at (at + 8) (w ++ o) i l refl (omega arith) (placed-after at (at + 4) w o l refl (omega arith) e₁ e₂) e₃

  pub edge-placed : (row : Edge) {l₁ l₂ l₃ l₄ l₅ : List ℕ} → at + 20 ≤ length l
      → l₁ ≡ placed at (le 4 row.weight) l → l₂ ≡ placed (at + 4) (le 4 row.outgoing.0) l₁ → l₃ ≡ placed (at + 8) (le 4 row.incoming.0) l₂
      → l₄ ≡ placed (at + 12) (le 4 row.source.0) l₃ → l₅ ≡ placed (at + 16) (le 4 row.target.0) l₄
      → l₅ ≡ placed at (edge_bytes row) l
  unfolding le edge_bytes
  edge-placed row h e₁ e₂ e₃ e₄ e₅ =
      let w = le 4 row.weight in
      let o = le 4 row.outgoing.0 in
      let i = le 4 row.incoming.0 in
      let s = le 4 row.source.0 in
      let t = le 4 row.target.0 in
      let two = placed-after at (at + 4) w o l refl (omega arith) e₁ e₂ in
      let three = placed-after at (at + 8) (w ++ o) i l refl (omega arith) two e₃ in
      let four = placed-after at (at + 12) (w ++ o ++ i) s l refl (omega arith) three e₄ in
      placed-after at (at + 16) (w ++ o ++ i ++ s) t l refl (omega arith) four e₅

pub head-placed : (n m : ℕ) (l : List ℕ) {l₁ l₂ l₃ l₄ : List ℕ} → head_bytes ≤ length l
    → l₁ ≡ placed 0 mark l → l₂ ≡ placed 3 (le 2 version) l₁ → l₃ ≡ placed 5 (le 4 n) l₂ → l₄ ≡ placed 9 (le 4 m) l₃
    → l₄ ≡ placed 0 (head n m) l
unfolding le head
head-placed n m l h e₁ e₂ e₃ e₄ =
    let v = le 2 version in
    let two = placed-after 0 3 mark v l refl (omega arith) e₁ e₂ in
    let three = placed-after 0 5 (mark ++ v) (le 4 n) l refl (omega arith) two e₃ in
    placed-after 0 9 (mark ++ v ++ le 4 n) (le 4 m) l refl (omega arith) three e₄

pub ruleset placements = (node-placed, edge-placed, head-placed)

pub placed-none : (at : ℕ) (l : List ℕ) → placed at [] l ≡ l
unfolding placed
placed-none at l = ap (λ k. take at l ++ drop k l) (add-zero at) ∙ take-append-drop at l

-- how many bytes
pub head-length : (n m : ℕ) → length (head n m) ≡ head_bytes
unfolding le head
head-length n m = refl
