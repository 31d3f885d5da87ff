-- An answer taken apart is told as the call told it, and what the call left stands beside it.
use mathlib.Core.Path.{◌≡◌, ap, ◌∙◌}
use Rattle.tables.specs.Answers.{Told, Out, out}

pub passed_on : {A S : Type 0} {told answer : Told A} {after : S} {o : Out A S} → told ≡ answer → out answer after ≡ o → out told after ≡ o
passed_on {after} e q = ap (λ t. out t after) e ∙ q
