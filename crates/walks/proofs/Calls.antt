-- What the two legs of a walk tell, in the words of its definition.
use Prim.Native.Nat.{ℕ}
use mathlib.Core.Path.{◌≡◌, refl, ap, ◌∙◌}
use mathlib.Core.Bool.{Bool, ◌&&◌}
use mathlib.Core.List.{List, [], ◌∷◌, ◌++◌, map}
use Rattle.index.specs.declared.NodeIndex.{NodeIndex}
use Rattle.index.specs.declared.Refusal.TheVariants.{Tables, Broken}
use Rattle.tables.specs.Net.{Net, fits}
use Rattle.tables.specs.Answers.{Out, out, done, refused, unless, give}
use lib.Dec.{ltb}
use Rattle.std.proofs.Math.Bool.{and_comm}
use Rattle.lists.specs.declared.Item.{Item}
use Rattle.lists.specs.declared.Item.TheVariants.{Number}
use Rattle.lists.specs.declared.Pick.TheVariants.{Every, To, ToNot}
use Rattle.lists.specs.Walk.{item_of}
use Rattle.legs.specs.declared.parts.Leg.{Leg}
use Rattle.legs.specs.Legs.{leg_at, leg_takes, leg_ends, legs_told}
use Rattle.walks.specs.Walks.{edges_between, edges_mut, walked_legs}

-- what two legs tell of a network
abbrev pub items_told : Net → Item → Leg → Leg → List ℕ → Out ℕ (List ℕ)
items_told g item first second table = legs_told g.registers g.links g.ends g.m item first second table

-- and where they give numbers, the rows themselves; which list is looked at first does not matter
abbrev pub rows_told : Net → (ends : Bool) → Leg → Leg → List ℕ → Out ℕ (List ℕ)
rows_told g ends first second table =
    unless ends (out (refused Broken 0) table)
    (give (leg_takes g.links g.ends g.m first ++ leg_takes g.links g.ends g.m second) table)

numbers : (registers ends : List ℕ) (k : ℕ) (xs : List ℕ) → map (item_of registers ends Number k) xs ≡ xs
numbers registers ends k [] = refl
numbers registers ends k (x ∷ xs) = ap (λ l. x ∷ l) (numbers registers ends k xs)

module _ (g : Net) (first second : Leg) (table : List ℕ) where
  abbrev first_ends : Bool
  first_ends = leg_ends g.links g.m first

  abbrev second_ends : Bool
  second_ends = leg_ends g.links g.m second

  pub numbers-told : items_told g Number first second table ≡ rows_told g (first_ends && second_ends) first second table
  numbers-told =
      rw (
        numbers g.registers g.ends first.k (leg_takes g.links g.ends g.m first),
        numbers g.registers g.ends second.k (leg_takes g.links g.ends g.m second),
      )

  pub numbers-turned : items_told g Number first second table ≡ rows_told g (second_ends && first_ends) first second table
  numbers-turned = numbers-told ∙ ap (λ b. rows_told g b first second table) (and_comm first_ends second_ends)

-- a walk into one table is refused before its legs where the columns do not fit, and empty where the node is missing
abbrev past : Net → ℕ → List ℕ → Out ℕ (List ℕ) → Out ℕ (List ℕ)
past g a table o = unless (fits g) (out (refused Tables 0) table) (unless (ltb a g.n) (out (done 0) table) o)

pub between_told : (g : Net) (a b : NodeIndex) (table : List ℕ) → walked_legs g a.0 Number 0 (To b) (ToNot b a) table ≡ edges_between g a.0 b.0 table
unfolding walked_legs edges_between
between_told g a b table = ap (past g a.0 table) (numbers-told g (leg_at g.heads 0 (To b) a.0) (leg_at g.heads 1 (ToNot b a) a.0) table)

pub mut_told : (g : Net) (a : NodeIndex) (table : List ℕ) → walked_legs g a.0 Number 1 Every Every table ≡ edges_mut g a.0 table
unfolding walked_legs edges_mut
mut_told g a table = ap (past g a.0 table) (numbers-turned g (leg_at g.heads 1 Every a.0) (leg_at g.heads 0 Every a.0) table)
