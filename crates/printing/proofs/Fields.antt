-- A loop over fields: those left and those written are all of them.
use Prim.Native.Nat.{ℕ, ◌+◌, ◌^◌, ◌≤◌, ◌<◌}
use mathlib.Core.Path.{◌≡◌, sym, ap, ◌∙◌}
use mathlib.Core.List.{List}
use native.Mathlib.Omega.{arith}
use lib.ListN.{length, drop, get_or}
use lib.Seq.{sets}
use Rattle.printing.specs.Digits.{digits, field, fields_text}
use Rattle.printing.specs.Parts.{Writes}
use Rattle.printing.proofs.Spelling.{digits-few, fields-step, fields_width_step, fields-end}
use Rattle.printing.proofs.Putting.{put_is, writes_some}

pub few : {x w : ℕ} → x < 2 ^ 32 → w ≡ length (digits x) → w ≤ 10
few {x} {w} h e = omega (arith, digits-few 9 x (omega arith))

pub record Going (out₀ : List ℕ) (at : ℕ) (fields out : List ℕ) (to i : ℕ) : Type 0 where
  pub within : i ≤ length fields
  pub long : length out ≡ length out₀
  pub to_write : to + length (fields_text (drop i fields)) ≡ at + length (fields_text fields)
  pub bytes : sets out to (fields_text (drop i fields)) ≡ sets out₀ at (fields_text fields)

pub turn : {out₀ : List ℕ} {at : ℕ} {fields out after : List ℕ} {to i r : ℕ} → Going out₀ at fields out to i → i < length fields
    → at + length (fields_text fields) ≤ length out₀ → length after ≡ length out → Writes out after to (field (digits (get_or fields i 0))) r
    → Going out₀ at fields after r (i + 1)
turn {out₀} {at} {fields} {out} {after} {to} {i} {r} g h room l w =
    let n = fields_width_step fields i h in
    record {
      within = omega arith;
      long = l ∙ g.long;
      to_write = omega (arith, g.to_write, w.ends_at);
      bytes =
          writes_some (field (digits (get_or fields i 0))) (fields_text (drop (i + 1) fields)) w (omega (arith, g.to_write, g.long))
          ∙ ap (sets out to) (sym (fields-step fields i h)) ∙ g.bytes;
    }

pub done : {out₀ : List ℕ} {at : ℕ} {fields out : List ℕ} {to i : ℕ} → Going out₀ at fields out to i → length fields ≤ i → at + length (fields_text fields) ≤ length out₀
    → Writes out₀ out at (fields_text fields) to
done {out₀} {at} {fields} {out} {to} {i} g h room =
    let e = fields-end fields i h in
    record { bytes_are = (rw e at g.bytes) ∙ put_is out₀ at (fields_text fields) room; ends_at = omega (arith, g.to_write, ap length e) }
