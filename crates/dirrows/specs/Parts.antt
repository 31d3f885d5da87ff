-- What the parts promise.
use Prim.{Unit}
use Rattle.std.specs.Prelude.{ℕ, ◌≡◌, List, set, Result, Ok, Err}
use Rattle.index.specs.declared.Refusal.{Refusal}
use Rattle.tables.specs.Net.{Lent, Net}
use Rattle.tables.specs.Answers.{told_change}
use Rattle.rows.specs.Calls.{add_edge}
use Rattle.directory.specs.Directory.{register_in}
use Rattle.dirrows.specs.Calls.{reclaimed, reentered}

-- the number of a claim: 0 where it is free
abbrev pub claim_no : Result Unit Refusal → ℕ
claim_no r = (told_change r).number

-- a claim for a new edge has the number by which the call without a directory answers it, whatever its register number
abbrev pub Adds : Net → (a b : ℕ) → Result Unit Refusal → Type 0
Adds g a b r = (w : ℕ) → claim_no r ≡ (add_edge g a b w).answer.number

-- the columns after a claim: only one that is free changes them
abbrev pub if_granted : Result Unit Refusal → List ℕ → List ℕ → List ℕ
if_granted (Ok u) changed column = changed
if_granted (Err why) changed column = column

-- what the part that changes a row's number answers and leaves
pub record Reweighs (registers directory : Lent ℕ) (e w : ℕ) (r : Result Unit Refusal) : Type 0 where
  pub answer_is : r ≡ reclaimed (register_in registers.old) directory.old e w
  pub registers_are : registers.new ≡ if_granted r (set registers.old e w) registers.old
  pub directory_is : directory.new ≡ if_granted r (reentered (register_in registers.old) directory.old e w) directory.old
