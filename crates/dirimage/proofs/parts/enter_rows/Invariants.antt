-- The rows before e are entered, each has a cell, and `apart` tells whether each was the first to bear its number.
use Rattle.std.proofs.Common.{◌≡◌, true, length}
use Rattle.directory.specs.Directory.{register_in, every, directory_of}
use Rattle.dirimage.specs.Loading.{has_cell, is_first}
use Rattle.dirimage.proofs.parts.enter_rows.Given as goal

abbrev pub invariant-loop-e : goal.invariant-loop-e
invariant-loop-e l = record {
  long : length l.directory ≡ length l.fn.directory;
  is : l.directory ≡ directory_of (length l.fn.directory) (register_in l.registers) l.e;
  below : every (has_cell (register_in l.registers) (length l.fn.directory)) l.e ≡ true;
  told : l.apart ≡ every (is_first (register_in l.registers)) l.e;
}
