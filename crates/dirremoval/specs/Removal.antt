-- Taking an edge out of a network with a directory.
use Rattle.std.specs.Prelude.{ℕ, ◌-◌, ◌&&◌}
use Rattle.index.specs.declared.Refusal.TheVariants.{Broken}
use Rattle.tables.specs.Answers.{Out, out, refused, unless}
use Rattle.removal.specs.Removal.{Gone, remove_edge}
use Rattle.directory.specs.Directory.{Filed, filed, register_of, followed, beside, named}

-- e is out, and the directory follows: the number told stands in none, and the row that is e now, if one is, has its entry there
abbrev pub out_and_followed : Filed → ℕ → Gone → Out (ℕ × ℕ × ℕ) Filed
out_and_followed f e o =
    out o.answer (filed o.after (followed (register_of o.after) o.after.m o.answer.values.0 e f.directory))

-- taking edge e out: as without a directory, 1, 4, 6; and 6 where the entry of e, or of the last row, does not name it
unfoldable pub remove_edge_filed : Filed → ℕ → Out (ℕ × ℕ × ℕ) Filed
remove_edge_filed f e =
    let o = remove_edge f.net e in
    beside f o
    (unless (named f e && named f (f.net.m - 1)) (out (refused Broken (0, 0, 0)) f)
    (out_and_followed f e o))
