-- When a call with a directory is refused as without one, and what a register number has against it: `first_so`, `judged_so`, `reweighed_so`.
use Prim.{tt}
use Prim.Native.Nat.{ℕ}
use mathlib.Core.Path.{◌≡◌, refl}
use mathlib.Core.Logic.{⊎_elim}
use mathlib.Core.Bool.{Bool, true, false, ◌&&◌, ◌||◌}
use borrow.Author.Tests.{eq-eqb, ne_eqb, lt-ltb, le-ltb}
use lib.Dec.{eqb, ltb}
use lib.ListN.{length}
use Rattle.std.proofs.Common.{Ok, Err}
use Rattle.index.specs.declared.Refusal.TheVariants.{Broken, Taken, Beyond}
use Rattle.index.specs.Index.{END, is_end}
use Rattle.tables.specs.Net.{Net}
use Rattle.tables.specs.Answers.{Out, out, unless}
use Rattle.directory.specs.Directory.{entry, row_named, Filed, filed, register_of, beside}
use Rattle.dirrows.specs.Calls.{claimed, if_free, reentered, reweighed}
use Rattle.demands.specs.Demand1.{refusal}
use Rattle.demands.specs.Wish1.{First, Judged, Reweighed}

module _ {A : Type 0} (f : Filed) (o : Out A Net) (rest : Out A Filed) where
  -- the call without a directory refuses, or leaves it to the rest
  pub first_so : First f o (beside f o rest)
  first_so n = rw (ne_eqb o.answer.number 0 n)

  pub rest_so : o.answer.number ≡ 0 → beside f o rest ≡ rest
  rest_so z = rw (eq-eqb o.answer.number 0 z)

either_true : (a b : Bool) → b ≡ true → (a || b) ≡ true
either_true true b h = refl
either_true false b h = h

pub second_false : (a b : Bool) → b ≡ false → (a && b) ≡ false
second_false true b h = h
second_false false b h = refl

-- a claim on number w for row e, and what it comes to
module _ {A : Type 0} (f : Filed) (zeros : A) (e w : ℕ) (served : Out A Filed) where
  pub judged_so : Judged f zeros e w served (if_free f zeros (claimed f.directory w e) served)
  unfolding claimed
  judged_so =
      let d = f.directory in
      record {
        beyond = λ h. rw (le-ltb w (length d) h);
        taken = λ l n k. rw (lt-ltb w (length d) l, ne_eqb (entry d w) END n, ne_eqb (entry d w) e k);
        free =
            λ l z.
            ⊎_elim
            (λ q. rw (lt-ltb w (length d) l, eq-eqb (entry d w) END q))
            (λ q. rw (lt-ltb w (length d) l, either_true (is_end (entry d w)) (eqb (entry d w) e) (eq-eqb (entry d w) e q)))
            z;
      }

  -- it is free, or refused 12 or 11
  pub judged_ways : (P : Out A Filed → Type 0) → P served → P (refusal zeros f 12) → P (refusal zeros f 11) → P (if_free f zeros (claimed f.directory w e) served)
  unfolding claimed
  judged_ways P s b t = go (ltb w (length f.directory)) (is_end (entry f.directory w) || eqb (entry f.directory w) e)
    where
      go : (i j : Bool) → P (if_free f zeros (unless i (Err Beyond) (unless j (Err Taken) (Ok tt))) served)
      go true true = s
      go true false = t
      go false j = b

-- row e gets number w
module _ {A : Type 0} (f : Filed) (zeros : A) (e w : ℕ) (o : Out A Net) where
  pub reweighed_so : Reweighed f zeros e w o (reweighed f zeros e w o)
  reweighed_so =
      let x = entry f.directory (register_of f.net e) in
      record {
        misnamed = λ n. rw (ne_eqb x e n);
        judged = λ q. rw (eq-eqb x e q) (judged_so f zeros e w _);
      }

  -- it is refused 6, or its number is judged
  pub reweigh_ways : (P : Out A Filed → Type 0) → P (out o.answer (filed o.after (reentered (register_of f.net) f.directory e w)))
      → P (refusal zeros f 6) → P (refusal zeros f 12) → P (refusal zeros f 11) → P (reweighed f zeros e w o)
  reweigh_ways P s m b t = go (row_named (register_of f.net) f.directory e)
    where
      go : (i : Bool)
          → P (if_free f zeros (unless i (Err Broken) (claimed f.directory w e)) (out o.answer (filed o.after (reentered (register_of f.net) f.directory e w))))
      go true = judged_ways f zeros e w _ P s b t
      go false = m
