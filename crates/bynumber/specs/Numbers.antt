-- Edges looked up and taken out by their register numbers.
use Rattle.std.specs.Prelude.{ℕ, cond, not, eqb, ltb, length}
use Rattle.index.specs.declared.Refusal.TheVariants.{Tables, Nothing, Broken, Beyond}
use Rattle.index.specs.Index.{is_end}
use Rattle.tables.specs.Net.{fits}
use Rattle.tables.specs.Answers.{Told, Out, out, done, refused, unless}
use Rattle.directory.specs.Directory.{entry, bears, Filed, register_of}
use Rattle.dirremoval.specs.Removal.{remove_edge_filed}

-- the row of number r: 1; 12 where the directory is too short for it; 5 where its entry is none; 6 where that names no row, or one that bears another number
unfoldable pub find_number : Filed → ℕ → Told ℕ
find_number f r =
    let e = entry f.directory r in
    unless (fits f.net) (refused Tables 0)
    (unless (ltb r (length f.directory)) (refused Beyond 0)
    (unless (not (is_end e)) (refused Nothing 0)
    (unless (bears (register_of f.net) f.net.m e r) (refused Broken 0)
    (done e))))

-- the edge that is found is taken out; what refuses the lookup refuses the removal
unfoldable pub remove_number : Filed → ℕ → Out (ℕ × ℕ × ℕ) Filed
remove_number f r =
    let found = find_number f r in
    cond (eqb found.number 0) (remove_edge_filed f found.values) (out (record { number = found.number; values = (0, 0, 0) }) f)
