-- Taking a node out of a network with a directory. It is changed only where it is sound and the directory right.
use Rattle.std.specs.Prelude.{ℕ, List, ltb, ℤ, pos, length}
use Rattle.index.specs.declared.Refusal.TheVariants.{Tables, NoNode, Broken}
use Rattle.tables.specs.Net.{fits}
use Rattle.tables.specs.Answers.{Out, out, refused, unless}
use Rattle.closing.specs.Closing.{Closed, remove_node}
use Rattle.directory.specs.Directory.{Filed, filed, register_of, directory_of}
use Rattle.dirsound.specs.Check.{is_sound_filed}

-- what removing a node tells and leaves; the directory stands beside the network
abbrev pub ClosedFiled : Type 0
ClosedFiled = Out (ℤ × ℕ × ℕ) (Filed × List ℕ)

-- what is left has the directory of its rows, of as many cells; so it follows every edge that went and every row that moved
abbrev pub refiled : ℕ → Closed → ClosedFiled
refiled cells o =
    out o.answer (filed o.after.0 (directory_of cells (register_of o.after.0) o.after.0.m), o.after.1)

-- taking node a out: 1, 3, 6 exactly where the network is not sound or its directory not right; then as without a directory, 7
unfoldable pub remove_node_filed : Filed → ℕ → List ℕ → ClosedFiled
remove_node_filed f a items =
    unless (fits f.net) (out (refused Tables (pos 0, 0, 0)) (f, items))
    (unless (ltb a f.net.n) (out (refused NoNode (pos 0, 0, 0)) (f, items))
    (unless (is_sound_filed f) (out (refused Broken (pos 0, 0, 0)) (f, items))
    (refiled (length f.directory) (remove_node f.net a items))))
