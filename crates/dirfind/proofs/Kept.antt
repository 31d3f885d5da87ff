-- Whatever an update is answered, a right directory is left right, `updated_right`, and keeps its length, `update_keeps_length`.
use Prim.Native.Nat.{ℕ}
use mathlib.Core.Path.{◌≡◌, subst}
use mathlib.Core.Logic.{⊎_elim}
use mathlib.Core.Bool.{true, cond}
use borrow.Author.Tests.{lt-ltb}
use lib.Dec.{ltb}
use lib.ListN.{length}
use Rattle.tables.specs.Net.{fits}
use Rattle.tables.specs.Answers.{Out}
use Rattle.tables.proofs.Laws.{tested}
use Rattle.find.specs.Find.{update_edge}
use Rattle.directory.specs.Directory.{Filed, RightFor}
use Rattle.directory.proofs.Beside.{beside-length}
use Rattle.dirrows.specs.Calls.{entered, reweighed}
use Rattle.dirrows.proofs.Kept.{added_right, reweighed-right, entered-length, reweighed-length}
use Rattle.dirfind.specs.Find.{update_edge_filed}
use Rattle.dirfind.proofs.Ways.{update_ways, as_add}

pub updated_right : (f : Filed) → fits f.net ≡ true → RightFor f → (a b w : ℕ) → RightFor (update_edge_filed f a b w).after
unfolding update_edge_filed
updated_right f t R a b w =
    ⊎_elim
    (λ z. rw (← z.2, lt-ltb z.0 f.net.m z.3) (reweighed-right f t R 0 z.0 z.0 w z.3))
    (λ y. ⊎_elim
    (λ z. rw (← z.1) R)
    (λ z. subst (λ (o : Out ℕ Filed). RightFor o.after) (as_add f a b w z.3) (added_right f t R a b w)) y)
    (update_ways f.net a b w)

pub update_keeps_length : (f : Filed) (a b w : ℕ) → length (update_edge_filed f a b w).after.directory ≡ length f.directory
unfolding update_edge_filed
update_keeps_length f a b w =
    let o = update_edge f.net a b w in
    let again = reweighed f 0 o.answer.values w o in
    beside-length f o (cond (ltb o.answer.values f.net.m) again (entered f w o))
    (tested (λ (x : Out ℕ Filed). length x.after.directory ≡ length f.directory) (ltb o.answer.values f.net.m) (entered f w o) again
    (entered-length f w o) (λ t. reweighed-length f 0 o.answer.values w o))
