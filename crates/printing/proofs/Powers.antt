-- The power of ten that the first digit of a number counts, as a loop comes to it.
use Prim.Native.Nat.{ℕ, ◌+◌, ◌*◌, ◌-◌, ◌/◌, ◌^◌, ◌≤◌, ◌<◌, suc}
use mathlib.Core.Path.{◌≡◌, sym, ap, ◌∙◌}
use native.Mathlib.Nat.{le-div_iff_mul-le, div-lt_iff_lt-mul, div-div-eq-div-mul, pow-suc}
use native.Mathlib.Omega.{arith}
use lib.ListN.{length}
use Rattle.printing.specs.Digits.{digits}
use Rattle.printing.proofs.Spelling.{one_more, only_one}

abbrev pub Power : ℕ → ℕ → Type 0
Power x power = (0 < power) × ((k : ℕ) × (power ≡ 10 ^ k) × (length (digits x) ≡ length (digits (x / power)) + k))

pub longer : (x power : ℕ) → power ≤ x / 10 → Power x power → Power x (power * 10)
longer x power h p =
    let t : 10 ≤ x / power = (le-div_iff_mul-le {k = power} p.0).1 (omega arith) in
    let k = p.1.0 in (
      omega arith,
      (
        suc k,
        ap (λ z. z * 10) p.1.1 ∙ sym (pow-suc 10 k),
        rw (← div-div-eq-div-mul x power 10) (omega (arith, one_more (x / power) t)),
      ),
    )

pub whole : (x power : ℕ) → x / 10 < power → Power x power → power ≡ 10 ^ (length (digits x) - 1)
whole x power h p =
    let t : x / power < 10 = (div-lt_iff_lt-mul {k = power} p.0).1 (omega arith) in
    let e : length (digits x) - 1 ≡ p.1.0 = omega (arith, only_one (x / power) t) in
    rw e p.1.1
