-- Wish 6, `wish_6`: the digits of a number from the left, and those of the kit's printer.
use Prim.Native.Nat.{ℕ, zero, suc, ◌-◌, ◌/◌, ◌%◌, ◌^◌, ◌≤◌, ◌<◌}
use mathlib.Core.Path.{◌≡◌, refl, sym, ap, ap₂, ◌∙◌}
use mathlib.Core.List.{[], ◌∷◌, ◌++◌}
use native.Mathlib.Nat.{pow-suc}
use native.Mathlib.Omega.{arith}
use borrow.Author.Tests.{lt-ltb}
use Rattle.io.specs.Digits as kit
use Rattle.printing.specs.Bytes.{glyph}
use Rattle.printing.specs.Digits.{digits, spelt}
use Rattle.printing.proofs.Spelling.{digits_low, digits_high}
use Rattle.printing.proofs.FromLeft.{from_left_lem}
use Rattle.demands.specs.Wish6.{Wish6}

kit_glyph : (d : ℕ) → d < 10 → kit.hex_digit_ascii d ≡ glyph d
kit_glyph d h = rw (lt-ltb d 10 h)

-- the kit's k digits of x, the last one last
same_bytes : (k x : ℕ) → kit.IsDigitCount 10 1 x k → kit.last_digits 10 k x ≡ digits x
same_bytes zero x f = absurd (omega arith)
same_bytes (suc zero) x f =
    ap (λ g. g ∷ []) (kit_glyph (x % 10) (omega arith) ∙ ap glyph (omega arith)) ∙ sym (digits_low x (omega arith))
same_bytes (suc (suc j)) x f =
    let d : suc j - 1 ≡ j = omega arith in
    let e : suc (suc j) - 1 ≡ suc j = omega arith in
    let high : 10 ^ suc j ≤ x = rw e at (f.2 (omega arith)) in
    let p = pow-suc 10 j in
    let q = pow-suc 10 (suc j) in
    ap₂
    (λ s g. s ++ (g ∷ []))
    (same_bytes (suc j) (x / 10) (omega arith, omega arith, λ _. rw d (omega arith)))
    (kit_glyph (x % 10) (omega arith))
    ∙ sym (digits_high x (omega arith))

pub wish_6 : Wish6
unfolding digits spelt
wish_6 = record { from_left_lem = λ x. sym (from_left_lem x); same_bytes = λ x k f. same_bytes k x f; by_hand = refl }
