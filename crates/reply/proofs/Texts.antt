-- The parts of an answer line, and how long each is. Assumes nothing.
use Prim.Native.Nat.{ℕ, ◌+◌, ◌*◌, ◌≤◌}
use mathlib.Core.Path.{◌≡◌, refl, ap, ◌∙◌}
use mathlib.Core.List.{List, [], ◌∷◌, ◌++◌}
use native.Mathlib.Omega.{arith}
use lib.ListN.{length, take, length-append}
use lib.Seq.{length-take-le}
use Rattle.printing.specs.Bytes.{newline}
use Rattle.printing.specs.Digits.{digits, field, fields_text}
use Rattle.printing.specs.Parts.{Measures, Writes}
use Rattle.printing.proofs.Putting.{writes_on}
use Rattle.reply.specs.declared.Reply.{Reply}
use Rattle.reply.specs.Replies.{value_field, values_text, line_of}
use Rattle.reply.specs.Parts.{Listed, head_text}

three_long : (xs ys zs : List ℕ) → length (xs ++ ys ++ zs) ≡ length xs + length ys + length zs
three_long xs ys zs = omega (arith, length-append (xs ++ ys) zs, length-append xs ys)

-- the three values, each where the reply has it
abbrev pub first_field : Reply → List ℕ
first_field r = value_field r.first

abbrev pub second_field : Reply → List ℕ
second_field r = value_field r.second

abbrev pub third_field : Reply → List ℕ
third_field r = value_field r.third

pub values_long : (r : Reply) → length (values_text r) ≡ length (first_field r) + length (second_field r) + length (third_field r)
values_long r = three_long (first_field r) (second_field r) (third_field r)

pub head-long : (r : Reply) → length (head_text r) ≡ 2 + length (digits r.number) + length (values_text r)
head-long r = length-append (r.letter ∷ field (digits r.number)) (values_text r) ∙ omega arith

pub line_is : (r : Reply) (table : List ℕ) → line_of r table ≡ head_text r ++ fields_text (take r.items table) ++ (newline ∷ [])
unfolding line_of
line_is r table = refl

pub line_long : (r : Reply) (table : List ℕ) → length (line_of r table) ≡ length (head_text r) + length (fields_text (take r.items table)) + 1
line_long r table = ap length (line_is r table) ∙ three_long (head_text r) (fields_text (take r.items table)) (newline ∷ [])

-- three measures, and that of what they measure one behind the other
pub values_measured : (r : Reply) {x y z : ℕ} → Measures (first_field r) 21 x → Measures (second_field r) 21 y → Measures (third_field r) 21 z
    → Measures (values_text r) 63 (x + y + z)
values_measured r {x} {y} {z} f s t =
    record { is = omega (arith, values_long r, f.is, s.is, t.is); few = omega (arith, f.few, s.few, t.few) }

-- the items that the reply speaks of, no more
pub items_few : {r : Reply} {table : List ℕ} {w : ℕ} → Listed r table → w ≤ 11 * length (take r.items table) → w ≤ 11 * r.items
items_few {r} {table} l h = omega (arith, length-take-le r.items table l.held)

pub line_measured : {r : Reply} {table : List ℕ} {x y z : ℕ} → Listed r table → Measures (digits r.number) 20 x → Measures (values_text r) 63 y
    → Measures (fields_text (take r.items table)) (11 * length (take r.items table)) z
    → Measures (line_of r table) (86 + 11 * r.items) (2 + x + y + z + 1)
line_measured {r} {table} l n v f =
    record {
      is = omega (arith, line_long r table, head-long r, n.is, v.is, f.is);
      few = omega (arith, n.few, v.few, items_few l f.few);
    }

-- three texts written one behind the other are one text
pub writes_three : {before one two after : List ℕ} {at : ℕ} {xs ys zs : List ℕ} {p q r : ℕ} → at + length (xs ++ ys ++ zs) ≤ length before
    → Writes before one at xs p → Writes one two p ys q → Writes two after q zs r → Writes before after at (xs ++ ys ++ zs) r
writes_three {before} {one} {two} {after} {at} {xs} {ys} {zs} h u v w =
    let n = three_long xs ys zs in
    let m = length-append xs ys in
    writes_on (omega arith) (writes_on (omega arith) u v) w
