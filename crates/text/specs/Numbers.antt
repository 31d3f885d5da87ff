-- Numbers as they are read.
use Rattle.std.specs.Prelude.{ℕ, ◌+◌, ◌*◌, ◌-◌, Bool, true, cond, ◌&&◌, List, [], ◌∷◌, eqb, ltb, leb, ℤ, pos, neg_ℤ, length}
use Rattle.std.proofs.Math.Option.{Option, none, some}
use Rattle.printing.specs.Bytes.{space, minus}
use Rattle.text.specs.Bytes.{is_digit, before}

abbrev pub are_digits : List ℕ → Bool
are_digits [] = true
are_digits (b ∷ bs) = is_digit b && are_digits bs

-- the value of digits, the highest first, behind others of value v
abbrev pub value_on : ℕ → List ℕ → ℕ
value_on v [] = v
value_on v (b ∷ bs) = value_on (v * 10 + (b - 48)) bs

-- 1 to 10 digits, and their value
unfoldable pub magnitude : List ℕ → Option ℕ
magnitude field = cond (are_digits field && leb 1 (length field) && leb (length field) 10) (some (value_on 0 field)) none

-- that value, where it is below the limit and so fits
abbrev pub fitting : ℕ → Option ℕ → Option ℕ
fitting limit none = none
fitting limit (some x) = cond (ltb x limit) (some x) none

-- the number that a field spells, in unsigned 32 bits
abbrev pub number : List ℕ → Option ℕ
number field = fitting 4294967296 (magnitude field)

-- a number with its sign
abbrev pub with_sign : (ℕ → ℤ) → Option ℕ → Option ℤ
with_sign sign none = none
with_sign sign (some x) = some (sign x)

-- the node weight that a field spells, in signed 32 bits: it alone may have a `-`, which is no digit
abbrev pub weight : List ℕ → Option ℤ
weight [] = none
weight (b ∷ bs) =
    cond (eqb b minus)
    (with_sign (λ x. neg_ℤ (pos x)) (fitting 2147483649 (magnitude bs)))
    (with_sign pos (fitting 2147483648 (magnitude (b ∷ bs))))

-- the fields of a line: what stands behind each space, up to the next
unfoldable pub fields : List ℕ → List (List ℕ)
fields [] = []
fields (b ∷ bs) = cond (eqb b space) (before space bs ∷ fields bs) (fields bs)

-- the numbers that all fields spell; none where one is no number
abbrev pub both : Option ℕ → Option (List ℕ) → Option (List ℕ)
both none xs = none
both (some x) none = none
both (some x) (some xs) = some (x ∷ xs)

abbrev pub numbers : List (List ℕ) → Option (List ℕ)
numbers [] = some []
numbers (f ∷ fs) = both (number f) (numbers fs)

-- what stands behind a command's letter: `count` numbers, one space before each, and nothing else
unfoldable pub operands : ℕ → List ℕ → Option (List ℕ)
operands count text =
    cond (eqb (length (before space text)) 0 && eqb (length (fields text)) count) (numbers (fields text)) none

-- what stands behind an `N`: one space and a node weight
unfoldable pub weight_operand : List ℕ → Option ℤ
weight_operand [] = none
weight_operand (b ∷ bs) = cond (eqb b space) (weight bs) none
