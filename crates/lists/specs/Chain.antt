-- A list that is whole: from a spot on, its links lead through its rows and then to `END`.
use Rattle.std.specs.Prelude.{ℕ, ◌<◌, ◌≡◌, ◌⊎◌, cond, List, [], ◌∷◌, eqb}
use Rattle.index.specs.Index.{END}
use Rattle.lists.specs.declared.Spot.{Spot}
use Rattle.lists.specs.declared.Spot.TheVariants.{After}

-- one direction's links lead from spot s through the rows xs, each below m, to `END`
abbrev pub Chain : (Spot → ℕ) → ℕ → Spot → List ℕ → Type 0
Chain lk m s [] = lk s ≡ END
Chain lk m s (x ∷ xs) = (lk s ≡ x) × (x < m) × Chain lk m (After x) xs

-- x stands in the list
abbrev pub In : ℕ → List ℕ → Type 0
In x [] = ⊥
In x (y ∷ ys) = (x ≡ y) ⊎ In x ys

-- the list without x, where it first stands; the others keep their order
abbrev pub without : ℕ → List ℕ → List ℕ
without x [] = []
without x (y ∷ ys) = cond (eqb y x) ys (y ∷ without x ys)
