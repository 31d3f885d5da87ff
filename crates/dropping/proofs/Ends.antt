-- The rows of a list get another end, one after the other.
use Prim.Native.Nat.{ℕ, ◌-◌}
use mathlib.Core.Path.{◌≡◌, refl, ap, ◌∙◌}
use mathlib.Core.List.{List, [], ◌∷◌, ◌++◌, append-nil}
use native.Mathlib.Omega.{arith}
use lib.ListN.{length, set, length-set}
use Rattle.tables.specs.Net.{edge_cell}
use Rattle.lists.specs.Walk.{walk}
use Rattle.lists.proofs.Walks.{Along, walk-out}
use Rattle.dropping.specs.Drop.{ended}

-- one row more
pub ended-more : (k a : ℕ) (xs : List ℕ) (x : ℕ) (ends : List ℕ) → ended k a (xs ++ (x ∷ [])) ends ≡ set (ended k a xs ends) (edge_cell x k) a
ended-more k a [] x ends = refl
ended-more k a (y ∷ ys) x ends = ended-more k a ys x (set ends (edge_cell y k) a)

pub ended-length : (k a : ℕ) (xs ends : List ℕ) → length (ended k a xs ends) ≡ length ends
ended-length k a [] ends = refl
ended-length k a (x ∷ xs) ends = ended-length k a xs (set ends (edge_cell x k) a) ∙ length-set ends (edge_cell x k) a

-- after m rows a walk has met all that it meets
pub all_out_lem : {next : ℕ → ℕ} {m first : ℕ} {met : List ℕ} {e rows : ℕ} → Along next m first met e rows → rows ≡ m → walk next m m first ≡ met
all_out_lem {next} {m} {first} {met} {e} {rows} a h = a.whole ∙ ap (λ x. met ++ x) (walk-out next m (m - rows) e (omega (arith, h))) ∙ append-nil met
