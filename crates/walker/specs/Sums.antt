-- The sum around a node: the node weights over its neighbour walk.
use Rattle.std.specs.Prelude.{ℕ, ◌+◌, ◌-◌, ◌*◌, ◌^◌, ◌≤◌, ◌<◌, ◌≡◌, Bool, true, not, ◌&&◌, List, [], ◌∷◌, map, ltb, ℤ, pos, ◌+ℤ◌, get_or, Option, Some, None, Result}
use Rattle.std.specs.Int.Signed.{mag}
use Rattle.index.specs.declared.Refusal.{Refusal}
use Rattle.index.specs.declared.Refusal.TheVariants.{Tables, NoNode, Broken}
use Rattle.tables.specs.Net.{Net, fits}
use Rattle.tables.specs.Answers.{Told, done, refused, unless, told_as}
use Rattle.lists.specs.declared.Pick.{Pick}
use Rattle.lists.specs.declared.Item.TheVariants.{Far}
use Rattle.lists.specs.Walk.{cell, taken_from, stop_from, broken, around}
use Rattle.lists.specs.Parts.{Edges}

-- the total of signed numbers, negative kept
abbrev pub total : List ℤ → ℤ
total [] = pos 0
total (x ∷ xs) = x +ℤ total xs

-- no node of a list is missing
abbrev pub present : ℕ → List ℕ → Bool
present n [] = true
present n (b ∷ bs) = ltb b n && present n bs

-- the total of the weights of nodes
abbrev pub weighed : List ℤ → List ℕ → ℤ
weighed weights bs = total (map (λ b. get_or weights b (pos 0)) bs)

-- a list that is broken and a neighbour that is missing are the same 6
unfoldable pub sum_around : Net → ℕ → Told ℤ
sum_around g a =
    unless (fits g) (refused Tables (pos 0))
    (unless (ltb a g.n) (refused NoNode (pos 0))
    (unless (not (broken g 0 a) && not (broken g 1 a) && present g.n (around g Far a)) (refused Broken (pos 0))
    (done (weighed g.weights (around g Far a)))))

-- a refusal tells zero
abbrev pub told_summed : Result ℤ Refusal → Told ℤ
told_summed = told_as (λ (z : ℤ). z) (pos 0)

-- what one list adds to a sum, by the far ends that a walk takes of it and the link where it ends; nothing where it is broken or one of them is missing
abbrev pub tally_of : List ℤ → (n m s : ℕ) → List ℕ → ℤ → Option ℤ
tally_of weights n m s bs before = unless (not (ltb s m) && present n bs) None (Some (before +ℤ weighed weights bs))

-- the columns hold n weights and m edges, and m weights more leave the sum within 64 bits, which hold what has `mag` below 2 ^ 63
pub record Sums (weights links ends n m k : ℕ) (before : ℤ) : Type 0 where
  pub edges : Edges links ends m k
  pub weights_hold : n ≤ weights
  pub room : mag before + 2 ^ 31 * m < 2 ^ 63

-- how far from zero a list's total is
abbrev pub size_of : Option ℤ → ℕ
size_of (Some z) = mag z
size_of None = 0

-- what the part that sums one list answers, and how far m weights can have moved the sum
pub record Tallies (weights : List ℤ) (links ends : List ℕ) (n m k : ℕ) (pick : Pick) (link : ℕ) (before : ℤ) (r : Option ℤ) : Type 0 where
  pub answer_is : r ≡ tally_of weights n m (stop_from links m k link) (map (cell ends (1 - k)) (taken_from links ends m k pick link)) before
  pub small : size_of r ≤ mag before + 2 ^ 31 * m
