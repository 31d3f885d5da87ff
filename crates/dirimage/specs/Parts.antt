-- What the parts promise, and what one asks.
use Prim.{Unit, tt}
use Rattle.std.specs.Prelude.{ℕ, ◌≡◌, true, length, Result, Ok}
use Rattle.index.specs.declared.Refusal.{Refusal}
use Rattle.tables.specs.Net.{Lent, fit}
use Rattle.directory.specs.Directory.{none, directory_of}
use Rattle.dirrows.specs.Parts.{if_granted}
use Rattle.dirimage.specs.Loading.{filing}

-- whether the rows can be filed, and then what the directory is
pub record Enters (number : ℕ → ℕ) (m : ℕ) (directory : Lent ℕ) (r : Result Unit Refusal) : Type 0 where
  pub answer_is : r ≡ filing number m (length directory.old)
  pub directory_is : r ≡ Ok tt → directory.new ≡ directory_of (length directory.old) number m

-- the same, and where they cannot be filed no entry is left
pub record Files (number : ℕ → ℕ) (m : ℕ) (directory : Lent ℕ) (r : Result Unit Refusal) : Type 0 where
  pub answer_is : r ≡ filing number m (length directory.old)
  pub directory_is : directory.new ≡ if_granted r (directory_of (length directory.old) number m) (none directory.old)

-- a load that was served without a directory has left tables that hold their rows
abbrev pub LeavesFit : Result Unit Refusal → (weights heads registers links ends n m : ℕ) → Type 0
LeavesFit told weights heads registers links ends n m = told ≡ Ok tt → fit weights heads registers links ends n m ≡ true
