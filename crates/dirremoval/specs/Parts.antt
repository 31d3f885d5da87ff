-- What the part leaves.
use Rattle.std.specs.Prelude.{ℕ, ◌≡◌, List, Result, Ok, Err}
use Rattle.tables.specs.Net.{Lent}
use Rattle.index.specs.declared.Refusal.{Refusal}
use Rattle.removal.specs.declared.removed.RemovedEdge.{RemovedEdge}
use Rattle.removal.specs.Parts.{Count, TakesOut}
use Rattle.directory.specs.Directory.{register_in, followed}

-- the directory after an answer: it follows an edge that is out
abbrev pub directory_after : Result RemovedEdge Refusal → (registers : List ℕ) → (m e : ℕ) → List ℕ → List ℕ
directory_after (Ok removed) registers m e directory = followed (register_in registers) m removed.weight e directory
directory_after (Err why) registers m e directory = directory

-- what the part without a directory promises, whole; and the directory
pub record TakesOutFiled (heads registers links ends : Lent ℕ) (n : ℕ) (m : Count) (directory : Lent ℕ) (e : ℕ) (r : Result RemovedEdge Refusal) : Type 0 where
  pub taken : TakesOut heads registers links ends n m e r
  pub directory_is : directory.new ≡ directory_after r registers.new m.new e directory.old
