-- How many numbers stand behind the letter of a line.
use Rattle.std.specs.Prelude.{ℕ, Option, Some, None, Bool, true, false, cond, List, [], ◌∷◌, eqb}

-- a letter is one of these
abbrev pub among : ℕ → List ℕ → Bool
among x [] = false
among x (y ∷ ys) = cond (eqb x y) true (among x ys)

-- how many numbers stand behind a letter; 4, more than any command has, where it is none
unfoldable pub operands_of : ℕ → ℕ
operands_of letter =
    -- E, U
    cond (among letter (69 ∷ 85 ∷ [])) 3
    -- F, B
    (cond (among letter (70 ∷ 66 ∷ [])) 2
    -- N, X, D, W, G, M, A
    (cond (among letter (78 ∷ 88 ∷ 68 ∷ 87 ∷ 71 ∷ 77 ∷ 65 ∷ [])) 1
    -- S, C, Z
    (cond (among letter (83 ∷ 67 ∷ 90 ∷ [])) 0
    4)))

-- that number where it is a command's, none where it is 4
abbrev pub command_has : ℕ → Option ℕ
command_has count = cond (eqb count 4) None (Some count)
