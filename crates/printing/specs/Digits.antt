-- Numbers as they are printed.
use Rattle.std.specs.Prelude.{ℕ, zero, suc, ◌/◌, ◌%◌, ◌^◌, true, false, List, [], ◌∷◌, ◌++◌, ltb, ℤ, pos, negsuc}
use Rattle.printing.specs.Bytes.{space, minus, glyph}

-- the last digits of x, at most `most`, the highest first, without leading zeros; 0 has the one digit 0
unfoldable pub spelt : ℕ → ℕ → List ℕ
spelt zero x = []
spelt (suc most) x =
    elim (ltb x 10) [
      | true ↦ glyph x ∷ []
      | false ↦ spelt most (x / 10) ++ (glyph (x % 10) ∷ [])
    ]

-- the decimal digits of x, which has never more than x + 1 of them
unfoldable pub digits : ℕ → List ℕ
digits x = spelt (suc x) x

-- the last k digits of x as they come out from the left: the first counts 10 ^ (k - 1), each behind it a tenth of what the one before it counts
unfoldable pub from_left : ℕ → ℕ → List ℕ
from_left zero x = []
from_left (suc k) x = glyph (x / 10 ^ k % 10) ∷ from_left k x

-- a negative number has a `-` before its digits
abbrev pub signed : ℤ → List ℕ
signed (pos x) = digits x
signed (negsuc x) = minus ∷ digits (suc x)

-- a field of an answer line has a space before it
abbrev pub field : List ℕ → List ℕ
field text = space ∷ text

unfoldable pub fields_text : List ℕ → List ℕ
fields_text [] = []
fields_text (x ∷ xs) = field (digits x) ++ fields_text xs
