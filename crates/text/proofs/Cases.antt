-- Texts and what they mean, computed from the definitions. Each comment gives the text, `|` at both ends.
use mathlib.Core.Path.{◌≡◌, refl}
use mathlib.Core.List.{[], ◌∷◌}
use mathlib.Core.Option.{none, some}
use lib.IntN.{pos, negsuc}
use Rattle.text.specs.Bytes.{before}
use Rattle.printing.specs.Digits.{spelt, digits, signed, fields_text}
use Rattle.text.specs.Numbers.{magnitude, number, weight, fields, operands, weight_operand}
use Rattle.text.specs.Lines.{lines}

-- |0|, |7|, |10|, |4294967295|, |-3|, | 2 10|
pub printed :
    (digits 0 ≡ 48 ∷ [])
    × (digits 7 ≡ 55 ∷ [])
    × (digits 10 ≡ 49 ∷ 48 ∷ [])
    × (digits 4294967295 ≡ 52 ∷ 50 ∷ 57 ∷ 52 ∷ 57 ∷ 54 ∷ 55 ∷ 50 ∷ 57 ∷ 53 ∷ [])
    × (signed (negsuc 2) ≡ 45 ∷ 51 ∷ [])
    × (fields_text (2 ∷ 10 ∷ []) ≡ 32 ∷ 50 ∷ 32 ∷ 49 ∷ 48 ∷ [])
unfolding digits spelt fields_text
printed = (refl, refl, refl, refl, refl, refl)

-- node weights: |-0| and |-0000000000| are 0, |-2147483648| is good; |2147483648|, |-2147483649|, |-|, |--1|, |+1| are not
pub weights :
    (weight (45 ∷ 48 ∷ []) ≡ some (pos 0))
    × (weight (45 ∷ 48 ∷ 48 ∷ 48 ∷ 48 ∷ 48 ∷ 48 ∷ 48 ∷ 48 ∷ 48 ∷ 48 ∷ []) ≡ some (pos 0))
    × (weight (45 ∷ 50 ∷ 49 ∷ 52 ∷ 55 ∷ 52 ∷ 56 ∷ 51 ∷ 54 ∷ 52 ∷ 56 ∷ []) ≡ some (negsuc 2147483647))
    × (weight (50 ∷ 49 ∷ 52 ∷ 55 ∷ 52 ∷ 56 ∷ 51 ∷ 54 ∷ 52 ∷ 56 ∷ []) ≡ none)
    × (weight (45 ∷ 50 ∷ 49 ∷ 52 ∷ 55 ∷ 52 ∷ 56 ∷ 51 ∷ 54 ∷ 52 ∷ 57 ∷ []) ≡ none)
    × (weight (45 ∷ []) ≡ none)
    × (weight (45 ∷ 45 ∷ 49 ∷ []) ≡ none)
    × (weight (43 ∷ 49 ∷ []) ≡ none)
unfolding magnitude
weights = (refl, refl, refl, refl, refl, refl, refl, refl)

-- other numbers: |4294967295| fits, |4294967296| does not; |0000000001| is 1, |00000000001| has 11 digits
pub fit :
    (number (52 ∷ 50 ∷ 57 ∷ 52 ∷ 57 ∷ 54 ∷ 55 ∷ 50 ∷ 57 ∷ 53 ∷ []) ≡ some 4294967295)
    × (number (52 ∷ 50 ∷ 57 ∷ 52 ∷ 57 ∷ 54 ∷ 55 ∷ 50 ∷ 57 ∷ 54 ∷ []) ≡ none)
    × (number (48 ∷ 48 ∷ 48 ∷ 48 ∷ 48 ∷ 48 ∷ 48 ∷ 48 ∷ 48 ∷ 49 ∷ []) ≡ some 1)
    × (number (48 ∷ 48 ∷ 48 ∷ 48 ∷ 48 ∷ 48 ∷ 48 ∷ 48 ∷ 48 ∷ 48 ∷ 49 ∷ []) ≡ none)
unfolding magnitude
fit = (refl, refl, refl, refl)

-- no numbers: ||, |-1|, |+1|, a CR, a tab and a NUL behind |1|, a byte above 127
pub no_number :
    (number [] ≡ none)
    × (number (45 ∷ 49 ∷ []) ≡ none)
    × (number (43 ∷ 49 ∷ []) ≡ none)
    × (number (49 ∷ 13 ∷ []) ≡ none)
    × (number (49 ∷ 9 ∷ []) ≡ none)
    × (number (49 ∷ 0 ∷ []) ≡ none)
    × (number (177 ∷ []) ≡ none)
unfolding magnitude
no_number = (refl, refl, refl, refl, refl, refl, refl)

-- behind a letter: || has no number, | 1| one, | 1 2| two; || for one, | 1 2| for one and | 1| for two are missing or extra numbers
pub counts :
    (operands 0 [] ≡ some [])
    × (operands 1 (32 ∷ 49 ∷ []) ≡ some (1 ∷ []))
    × (operands 2 (32 ∷ 49 ∷ 32 ∷ 50 ∷ []) ≡ some (1 ∷ 2 ∷ []))
    × (operands 1 [] ≡ none)
    × (operands 1 (32 ∷ 49 ∷ 32 ∷ 50 ∷ []) ≡ none)
    × (operands 2 (32 ∷ 49 ∷ []) ≡ none)
unfolding operands fields before magnitude
counts = (refl, refl, refl, refl, refl, refl)

-- nothing is trimmed: |  1|, | 1 |, |1|, | |, | 1| and a CR, | -1|; | 1| and a space and a CR for two
pub untrimmed :
    (operands 1 (32 ∷ 32 ∷ 49 ∷ []) ≡ none)
    × (operands 1 (32 ∷ 49 ∷ 32 ∷ []) ≡ none)
    × (operands 1 (49 ∷ []) ≡ none)
    × (operands 0 (32 ∷ []) ≡ none)
    × (operands 1 (32 ∷ 49 ∷ 13 ∷ []) ≡ none)
    × (operands 1 (32 ∷ 45 ∷ 49 ∷ []) ≡ none)
    × (operands 2 (32 ∷ 49 ∷ 32 ∷ 13 ∷ []) ≡ none)
unfolding operands fields before magnitude
untrimmed = (refl, refl, refl, refl, refl, refl, refl)

-- behind an N: | -3| and | 5| are good; |-3|, |  5|, | 5 | and || are not
pub behind_n :
    (weight_operand (32 ∷ 45 ∷ 51 ∷ []) ≡ some (negsuc 2))
    × (weight_operand (32 ∷ 53 ∷ []) ≡ some (pos 5))
    × (weight_operand (45 ∷ 51 ∷ []) ≡ none)
    × (weight_operand (32 ∷ 32 ∷ 53 ∷ []) ≡ none)
    × (weight_operand (32 ∷ 53 ∷ 32 ∷ []) ≡ none)
    × (weight_operand [] ≡ none)
unfolding weight_operand magnitude
behind_n = (refl, refl, refl, refl, refl, refl)

-- lines of S and C: empty input has none, a lone newline is one empty line; |S| with and without its newline is one line,
-- a newline before it or a second one behind it an empty line more
pub cut :
    (lines [] ≡ [])
    × (lines (10 ∷ []) ≡ [] ∷ [])
    × (lines (83 ∷ 10 ∷ []) ≡ (83 ∷ []) ∷ [])
    × (lines (83 ∷ []) ≡ (83 ∷ []) ∷ [])
    × (lines (10 ∷ 83 ∷ []) ≡ [] ∷ (83 ∷ []) ∷ [])
    × (lines (83 ∷ 10 ∷ 10 ∷ []) ≡ (83 ∷ []) ∷ [] ∷ [])
    × (lines (83 ∷ 10 ∷ 67 ∷ []) ≡ (83 ∷ []) ∷ (67 ∷ []) ∷ [])
unfolding lines
cut = (refl, refl, refl, refl, refl, refl, refl)
