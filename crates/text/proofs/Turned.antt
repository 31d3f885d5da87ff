-- A number turned into one of fewer bits: `Ok` where it fits, and so `Some`.
use Prim.Native.Nat.{ℕ, ◌≤◌, ◌<◌}
use mathlib.Core.Path.{◌≡◌, refl, ap, ◌∙◌}
use mathlib.Core.List.{List, ◌∷◌}
use native.Mathlib.Decide.{dec_lt}
use native.Mathlib.Omega.{arith}
use lib.IntN.{ℤ, pos, neg_ℤ, ◌-ℤ◌}
use mir.Syntax.{w32, w64}
use mir.Val.{to_z, of_z, SFits}
use Rattle.std.specs.Prelude.{Some, None, Option, Result, Ok, Err}
use Rattle.std.specs.Result.{OkIff, result_ok}
use Rattle.std.proofs.lemmas.Option.{same_Some}
use Rattle.std.proofs.lemmas.Result.{Ok-from_Ok_iff}
use Rattle.printing.specs.Bytes.{minus}
use Rattle.printing.proofs.Signs.{opposite_back, opposite_fits, opposite_over}
use Rattle.text.specs.Numbers.{weight}
use Rattle.text.specs.Parts.{read_whole, weight_of}
use Rattle.text.proofs.Fields.{whole_small, negative_over, negative_fits, plain_over, plain_fits}

module _ {T E : Type 0} (r : Result T E) (P : Type 0) (v : T) where
  told_no : OkIff r P v → (P → ⊥) → result_ok r ≡ None
  told_no t n = no r t
    where
      no : (r : Result T E) → OkIff r P v → result_ok r ≡ None
      no (Ok x) t = absurd (n t.0)
      no (Err e) t = refl

  told_yes : OkIff r P v → P → result_ok r ≡ Some v
  told_yes t p = ap result_ok (Ok-from_Ok_iff r P v t p)

-- an unsigned number of 32 bits
module _ {E : Type 0} (r : Result ℕ E) {x : ℕ} (t : OkIff r (x < 4294967296) x) where
  pub over_told : None ≡ result_ok r → 4294967295 < x
  over_told n =
      elim (dec_lt x 4294967296) [
        | yes p ↦ absurd (let z : ◌≡◌ {A = ℕ} 0 1 = cc (told_yes r (x < 4294967296) x t p) in omega arith)
        | no p ↦ omega arith
      ]

  pub fits_told : {y : ℕ} → Some y ≡ result_ok r → (x ≤ 4294967295) × (y ≡ x)
  fits_told {y} e =
      elim (dec_lt x 4294967296) [
        | yes p ↦ (omega arith, same_Some y x (e ∙ told_yes r (x < 4294967296) x t p))
        | no p ↦ absurd (let z : ◌≡◌ {A = ℕ} 0 1 = cc (told_no r (x < 4294967296) x t p) in omega arith)
      ]

-- a node weight, by its sign
module _ (end b : ℕ) (bs : List ℕ) {r : Option (ℕ × ℕ)} {v s : ℕ} {E : Type 0} (t : Result ℤ E) where
  pub negative_turned : b ≡ minus → r ≡ read_whole end bs → r ≡ Some (v, s)
      → (let z = to_z w64 (of_z w64 (pos 0 -ℤ to_z w64 v)) in OkIff t (SFits w32 z) z) → result_ok t ≡ weight_of (weight (b ∷ bs))
  negative_turned m e h k =
      let z = neg_ℤ (pos v) in
      let o : OkIff t (SFits w32 z) z =
      rw (opposite_back v (omega (arith, whole_small end bs e h))) at k in
      elim (dec_lt 2147483648 v) [
        | yes p ↦ told_no t (SFits w32 z) z o (λ f. omega (arith, opposite_over v p, f.sfits)) ∙ negative_over end b bs m e h p
        | no p ↦ told_yes t (SFits w32 z) z o (record { sfits = opposite_fits v (omega arith) }) ∙ negative_fits end b bs m e h (omega arith)
      ]

  pub plain_turned : (b ≡ minus → ⊥) → r ≡ read_whole end (b ∷ bs) → r ≡ Some (v, s) → OkIff t (SFits w32 (pos v)) (pos v)
      → result_ok t ≡ weight_of (weight (b ∷ bs))
  plain_turned m e h o =
      let z = pos v in
      elim (dec_lt 2147483647 v) [
        | yes p ↦ told_no t (SFits w32 z) z o (λ f. omega (arith, f.sfits)) ∙ plain_over end b bs m e h p
        | no p ↦ told_yes t (SFits w32 z) z o (record { sfits = omega arith }) ∙ plain_fits end b bs m e h (omega arith)
      ]
