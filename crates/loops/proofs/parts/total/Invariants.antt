-- So many items on the sum is theirs.
use Rattle.std.proofs.Common.{◌≡◌, take}
use Rattle.loops.specs.Loops.{in64, total}
use Rattle.loops.proofs.parts.total.Given as goal

abbrev pub invariant-loop-x : goal.invariant-loop-x
invariant-loop-x l =
    l.sum ≡ in64 (total (take l.x-index l.items))
