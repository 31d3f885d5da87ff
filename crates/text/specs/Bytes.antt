-- Bytes as they are read.
use Rattle.std.specs.Prelude.{ℕ, Bool, cond, ◌&&◌, List, [], ◌∷◌, eqb, leb}

abbrev pub is_digit : ℕ → Bool
is_digit b = leb 48 b && leb b 57

-- what stands before the first `mark`; all of it where there is none
unfoldable pub before : ℕ → List ℕ → List ℕ
before mark [] = []
before mark (b ∷ bs) = cond (eqb b mark) [] (b ∷ before mark bs)
