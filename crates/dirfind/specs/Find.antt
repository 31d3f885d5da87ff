-- An edge updated in a network with a directory.
use Rattle.std.specs.Prelude.{ℕ, cond, ltb}
use Rattle.tables.specs.Answers.{Out}
use Rattle.find.specs.Find.{update_edge}
use Rattle.directory.specs.Directory.{Filed, beside}
use Rattle.dirrows.specs.Calls.{entered, reweighed}

-- an update: refused as without a directory; an edge that was in use gets the number, 6, 12, 11; a new one is entered, 12, 11
unfoldable pub update_edge_filed : Filed → ℕ → ℕ → ℕ → Out ℕ Filed
update_edge_filed f a b w =
    let o = update_edge f.net a b w in
    beside f o (cond (ltb o.answer.values f.net.m) (reweighed f 0 o.answer.values w o) (entered f w o))
