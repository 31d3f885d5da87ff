-- No two answers of `contains_edge` are told alike.
use mathlib.Core.Path.{◌≡◌, refl}
use lib.Dec.{eqb}
use Rattle.std.proofs.Common.{Bool, true, false, cond, Result}
use Rattle.index.specs.declared.Refusal.{Refusal}
use Rattle.tables.proofs.Told.{told_as_once}
use Rattle.find.specs.Find.{told_contains}

told_back : (yes : Bool) → eqb (cond yes 1 0) 1 ≡ yes
told_back true = refl
told_back false = refl

pub contains_told_once : (r s : Result Bool Refusal) → told_contains r ≡ told_contains s → r ≡ s
contains_told_once = told_as_once (λ (yes : Bool). cond yes 1 0) 0 (λ x. eqb x 1) told_back
