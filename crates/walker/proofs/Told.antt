-- No two answers are told alike: number and values, and a step's walker, give the answer back.
use Prim.Native.Nat.{ℕ}
use mathlib.Core.Path.{◌≡◌, refl, ap, ap₂}
use lib.IntN.{ℤ, pos}
use Rattle.std.proofs.Common.{Result}
use Rattle.index.specs.declared.NodeIndex.{NodeIndex}
use Rattle.index.specs.declared.Refusal.{Refusal}
use Rattle.tables.specs.Answers.{Out, out}
use Rattle.tables.proofs.Told.{told_as_once, node_told_once}
use Rattle.walker.specs.declared.Walker.{Walker}
use Rattle.walker.specs.declared.Step.{Step}
use Rattle.walker.specs.Steps.{walker_of, told_begun, told_step, moved}
use Rattle.walker.specs.Sums.{told_summed}

pub begun_told_once : (r s : Result Walker Refusal) → told_begun r ≡ told_begun s → r ≡ s
begun_told_once = told_as_once (λ (w : Walker). w) (walker_of 0 0 0) (λ w. w) (λ w. refl)

pub step_told-once : (r s : Step) → out (told_step r) (moved r) ≡ out (told_step s) (moved s) → r ≡ s
step_told-once r s e =
    let neighbor : r.neighbor ≡ s.neighbor = node_told_once r.neighbor s.neighbor (ap (λ (o : Out ℕ Walker). o.answer) e) in
    let walker : r.walker ≡ s.walker = ap (λ (o : Out ℕ Walker). o.after) e in
    ap₂ (λ (a : Result NodeIndex Refusal) (w : Walker). record { neighbor = a; walker = w }) neighbor walker

pub summed_told_once : (r s : Result ℤ Refusal) → told_summed r ≡ told_summed s → r ≡ s
summed_told_once = told_as_once (λ (z : ℤ). z) (pos 0) (λ z. z) (λ z. refl)
