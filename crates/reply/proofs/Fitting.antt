-- A line that fits and a line that does not, and what an answer tells of it. Assumes nothing.
use Prim.Native.Nat.{ℕ, ◌+◌, ◌≤◌, ◌<◌}
use mathlib.Core.Path.{◌≡◌, refl, sym, ap, ◌∙◌}
use mathlib.Core.List.{List}
use native.Mathlib.Decide.{dec_lt}
use native.Mathlib.Omega.{arith}
use borrow.Author.Tests.{le-leb, lt-leb}
use lib.ListN.{length}
use Rattle.printing.specs.Parts.{Writes}
use Rattle.std.specs.Prelude.{Some, None}
use Rattle.std.specs.declared.option.Option as Std·
use Rattle.reply.specs.Parts.{answered}

pub full : (bytes : List ℕ) (at limit : ℕ) (line : List ℕ) → limit < at + length line → (None, bytes) ≡ answered bytes at limit line
unfolding answered
full bytes at limit line h = rw (lt-leb (at + length line) limit h)

pub upto : {bytes after : List ℕ} {at limit r : ℕ} {line : List ℕ} → at + length line ≤ limit → Writes bytes after at line r
    → (Some r, after) ≡ answered bytes at limit line
unfolding answered
upto {bytes} {after} {at} {limit} {r} {line} h w = rw (le-leb (at + length line) limit h, w.ends_at, w.bytes_are)

-- once written, the line ends at the limit or before and stands in the bytes whole; the answer says where it ends
pub written : (bytes : List ℕ) (at limit : ℕ) (line : List ℕ) {after : List ℕ} {r : ℕ} → (Some r, after) ≡ answered bytes at limit line
    → (at + length line ≤ limit) × Writes bytes after at line r
written bytes at limit line {after} {r} h =
    elim (dec_lt limit (at + length line)) [
      | yes t ↦
          let e : ◌≡◌ {A = Std·.Option ℕ} (Some r) None = ap (λ o. o.0) (h ∙ sym (full bytes at limit line t)) in
          absurd (let z : ◌≡◌ {A = ℕ} 0 1 = cc in omega arith)
      | no t ↦
          let e = h ∙ sym (upto {limit = limit} (omega arith) (record { bytes_are = refl; ends_at = refl })) in
          let n : Some r ≡ Some (at + length line) = ap (λ o. o.0) e in
          (omega arith, record { bytes_are = ap (λ o. o.1) e; ends_at = cc })
    ]

-- where it does not fit no byte is touched
pub untouched : (bytes : List ℕ) (at limit : ℕ) (line : List ℕ) {after : List ℕ} → (None, after) ≡ answered bytes at limit line
    → (limit < at + length line) × (after ≡ bytes)
untouched bytes at limit line {after} h =
    elim (dec_lt limit (at + length line)) [
      | yes t ↦ (t, ap (λ o. o.1) (h ∙ sym (full bytes at limit line t)))
      | no t ↦
          let e = h ∙ sym (upto {limit = limit} (omega arith) (record { bytes_are = refl; ends_at = refl })) in
          let n : ◌≡◌ {A = Std·.Option ℕ} None (Some (at + length line)) = ap (λ o. o.0) e in
          absurd (let z : ◌≡◌ {A = ℕ} 0 1 = cc in omega arith)
    ]
