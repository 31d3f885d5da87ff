-- The whole run, from what its loop leaves: a script too long, `too_long`; else the bytes are few enough to be packed, `few_bytes`, and `packed_so`.
use Prim.Native.Nat.{ℕ, ◌+◌, ◌*◌, ◌^◌, ◌≤◌, ◌<◌, min}
use mathlib.Core.Path.{◌≡◌, ap, ap₂, ◌∙◌}
use mathlib.Core.List.{List}
use native.Mathlib.Nat.{min-le_right}
use native.Mathlib.Omega.{arith}
use borrow.Author.Tests.{le-leb, lt-leb}
use lib.ListN.{length}
use Rattle.index.specs.declared.Refusal.TheVariants.{Tables}
use Rattle.index.specs.Refusals.{refusal_no}
use Rattle.dispatch.specs.Step.{State}
use Rattle.script.specs.declared.parts.Ended.{Ended}
use Rattle.script.specs.Script.{most_bytes, begun, run, packed}
use Rattle.script.specs.Parts.{Ends, stop_no}
use Rattle.script.proofs.Limits.{from_most}

module _ (script : List ℕ) {output : List ℕ} where
  pub too_long : {r : ℕ} → most_bytes < length script → r ≡ refusal_no Tables * 2 ^ 32 + 0 → (r, output) ≡ packed (run script (length output)) output
  unfolding run
  too_long h e = rw (lt-leb (length script) most_bytes h) (ap (λ x. (x, output)) e)

  module _ {limit : ℕ} {t : State} {q : Ended} {after : List ℕ} (l : limit ≡ min (length output) most_bytes) (e : Ends begun t limit script output after q) where
    pub few_bytes : q.bytes < 2 ^ 32
    few_bytes = omega (arith, e.bytes_are, from_most begun limit script, l, min-le_right (length output) most_bytes)

    pub packed_so : {r : ℕ} → length script ≤ most_bytes → r ≡ stop_no q.stopped * 2 ^ 32 + q.bytes → (r, after) ≡ packed (run script (length output)) output
    unfolding run
    packed_so h p =
        rw (le-leb (length script) most_bytes h, ← l) (ap₂ (λ x y. (x, y)) (p ∙ ap₂ (λ n b. n * 2 ^ 32 + b) e.number_is e.bytes_are) e.output_is)
