-- What the part asks of its caller, and what it leaves.
use Rattle.std.specs.Prelude.{ℕ, ◌≡◌, List, length}
use Rattle.tables.specs.Net.{Lent}
use Rattle.removal.specs.Parts.{Count}
use Rattle.stripping.specs.declared.parts.Stripped.{Stripped}
use Rattle.stripping.specs.Parts.{Strippable, Strips}
use Rattle.directory.specs.Directory.{register_in, Right, directory_of}

-- as without a directory, and the directory is right
pub record StrippableFiled (heads registers links ends : List ℕ) (n m : ℕ) (directory : List ℕ) (a items : ℕ) : Type 0 where
  pub strippable : Strippable heads registers links ends n m a items
  pub right : Right (register_in registers) m directory

-- what the part without a directory promises, whole; and the directory is that of what is left
pub record StripsFiled (heads registers links ends : Lent ℕ) (n : ℕ) (m : Count) (directory : Lent ℕ) (a : ℕ) (items : Lent ℕ) (r : Stripped) : Type 0 where
  pub strips : Strips heads registers links ends n m a items r
  pub directory_is : directory.new ≡ directory_of (length directory.old) (register_in registers.new) m.new
