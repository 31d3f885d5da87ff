-- What the parts ask of their callers, and what they leave.
use Rattle.std.specs.Prelude.{ℕ, ◌≡◌, List, Result}
use Rattle.tables.specs.Net.{Net}
use Rattle.tables.specs.Answers.{out}
use Rattle.index.specs.declared.Refusal.{Refusal}
use Rattle.closing.specs.declared.RemovedNode.{RemovedNode}
use Rattle.closing.specs.Closing.{Closed, told_node_removed}
use Rattle.closing.specs.Parts.{Ready}
use Rattle.directory.specs.Directory.{Filed, register_of, RightFor, directory_of}

-- as without a directory, and the directory is right
pub record ReadyFiled (f : Filed) (a items : ℕ) : Type 0 where
  pub ready : Ready f.net a items
  pub right : RightFor f

-- what the part without a directory comes to; and the directory, of so many cells, is that of what is left
pub record ClosesFiled (cells : ℕ) (r : Result RemovedNode Refusal) (h : Net) (items directory : List ℕ) (o : Closed) : Type 0 where
  pub closes : out (told_node_removed r) (h, items) ≡ o
  pub directory_is : directory ≡ directory_of cells (register_of h) h.m
