-- One turn of the stripping leaves the directory right, `right_turned`, and so it is that of the rows left: `directory_so`.
use Prim.Native.Nat.{ℕ, ◌≤◌, ◌<◌}
use mathlib.Core.Path.{◌≡◌, sym, ap, ◌∙◌}
use mathlib.Core.List.{List}
use native.Mathlib.Omega.{arith}
use lib.IntN.{ℤ}
use lib.ListN.{length}
use Rattle.std.specs.Prelude.{Result, Ok}
use Rattle.index.specs.declared.Refusal.{Refusal}
use Rattle.tables.specs.Net.{net}
use Rattle.tables.specs.Answers.{out}
use Rattle.removal.specs.declared.removed.RemovedEdge.{RemovedEdge}
use Rattle.removal.specs.Removal.{moved_no, told_edge_removed, taken_out}
use Rattle.stripping.proofs.Headwise.{Alive}
use Rattle.directory.specs.Directory.{register_in, Right, directory_of}
use Rattle.directory.proofs.Laws.{right_is}
use Rattle.dirremoval.specs.Parts.{directory_after}
use Rattle.dirremoval.proofs.Kept.{taken_right}

pub right_turned : {n : ℕ} {H R L E : List ℕ} {m : ℕ} → Alive n H R L E m → {H' R' L' E' : List ℕ} {m' : ℕ} {r : Result RemovedEdge Refusal}
    → (x : RemovedEdge) (e : ℕ) (D : List ℕ) {D' : List ℕ} → r ≡ Ok x → e < m
    → ((T : List ℤ) → out (told_edge_removed r) (net T H' R' L' E' n m') ≡ taken_out (net T H R L E n m) e)
    → D' ≡ directory_after r R' m' e D → Right (register_in R) m D → Right (register_in R') m' D'
right_turned {n} {H} {R} {L} {E} {m} A {H'} {R'} {L'} {E'} {m'} {r} x e D {D'} p lt is q P =
    let T = A.totals in
    let told = ap (λ y. out (told_edge_removed y) (net T H' R' L' E' n m')) (sym p) ∙ is T in
    rw (q ∙ ap (λ y. directory_after y R' m' e D) p)
    (taken_right (net T H R L E n m) (net T H' R' L' E' n m') A.lists e x.weight (moved_no x.moved) x.rows D A.fit A.sound lt P told)

-- a right directory of as many cells is the directory of the rows
pub directory_so : (R : List ℕ) (m : ℕ) (D D₀ : List ℕ) → Right (register_in R) m D → length D ≡ length D₀ → m ≤ 65536
    → D ≡ directory_of (length D₀) (register_in R) m
directory_so R m D D₀ P q l = right_is (register_in R) m D P (omega arith) ∙ ap (λ c. directory_of c (register_in R) m) q
