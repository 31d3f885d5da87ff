-- A call with a directory, beside the call without one: refused where that is refused, `beside-refused`; where that is served the rest decides, `beside-served`.
use mathlib.Core.Path.{◌≡◌, refl}
use borrow.Author.Tests.{ne_eqb}
use lib.Dec.{eqb}
use lib.ListN.{length}
use Rattle.index.specs.declared.Refusal.{Refusal}
use Rattle.index.specs.Refusals.{refusal_no}
use Rattle.index.proofs.Laws.{not_zero}
use Rattle.tables.specs.Net.{Net}
use Rattle.tables.specs.Answers.{Out, out, done, refused}
use Rattle.tables.proofs.Laws.{tested}
use Rattle.directory.specs.Directory.{Filed, filed, beside}

module _ {A : Type 0} (f : Filed) (o : Out A Net) (rest : Out A Filed) where
  pub beside-refused : (why : Refusal) (zeros : A) (h : Net) → out (refused why zeros) h ≡ o → out (refused why zeros) (filed h f.directory) ≡ beside f o rest
  beside-refused why zeros h p = rw (← p, ne_eqb (refusal_no why) 0 (not_zero why))

  pub beside-served : (values : A) (h : Net) (x : Out A Filed) → out (done values) h ≡ o → x ≡ rest → x ≡ beside f o rest
  beside-served values h x p q = rw (← p) q

  -- the directory keeps its length where the rest keeps it
  pub beside-length : length rest.after.directory ≡ length f.directory → length (beside f o rest).after.directory ≡ length f.directory
  beside-length p =
      tested (λ (x : Out A Filed). length x.after.directory ≡ length f.directory) (eqb o.answer.number 0)
      (out o.answer (filed o.after f.directory)) rest refl (λ t. p)
