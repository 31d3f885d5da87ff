-- No two answers of the check are told alike: `told-apart`.
use Prim.Native.Nat.{ℕ}
use mathlib.Core.Path.{◌≡◌, refl, sym, ap, ◌∙◌}
use mathlib.Core.Bool.{true, false, Bool, cond}
use lib.Dec.{eqb}
use Rattle.std.specs.Prelude.{Ok, Err}
use Rattle.sound.specs.declared.Fault.TheVariants.{At, Refused}
use Rattle.index.specs.declared.Refusal.TheVariants.{Tables}
use Rattle.index.specs.Index.{direction_of}
use Rattle.tables.specs.Net.{Net, fits}
use Rattle.tables.specs.Answers.{Told, unless}
use Rattle.sound.specs.Check.{Walked, Checked, way, verdict, checked, told_checked}

-- number and values give the answer back: the check refuses with 1 alone, so 6 is a fault
abbrev back : Told (ℕ × ℕ × ℕ) → Checked
back t =
    cond (eqb t.number 0) (Ok t.values.0)
    (cond (eqb t.number 6) (Err (At (direction_of t.values.1) (record { 0 = t.values.2 })))
    (Err (Refused Tables)))

back_is : (g : Net) → back (told_checked (checked g)) ≡ checked g
unfolding checked
back_is g = go (fits g) (way g 0) (way g 1)
  where
    go : (b : Bool) (w v : Walked) → back (told_checked (unless b (Err (Refused Tables)) (verdict w v))) ≡ unless b (Err (Refused Tables)) (verdict w v)
    go false w v = refl
    go true (Err a) v = refl
    go true (Ok q) (Err a) = refl
    go true (Ok q) (Ok r) = refl

pub told-apart : (g h : Net) → told_checked (checked g) ≡ told_checked (checked h) → checked g ≡ checked h
told-apart g h e = sym (back_is g) ∙ ap back e ∙ back_is h
