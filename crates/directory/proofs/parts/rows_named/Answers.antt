use Rattle.std.proofs.Common.{ℕ, ◌==◌, ◌∙◌, rules, tests}
use Rattle.std.proofs.lemmas.Iterator.{YieldsList-from_slice}
use Rattle.std.proofs.lemmas.Iterator.Consumers.{YieldsList-from_enumerate}
use Rattle.std.proofs.lemmas.Iterator.Search.{all_from_yields_List}
use Rattle.directory.specs.Directory.{entry}
use Rattle.directory.proofs.Every.{rows_listed}
use Rattle.directory.proofs.parts.rows_named.Goals as goal

pub returns : goal.returns
returns c =
    all_from_yields_List (λ (p : ℕ × ℕ). entry c.args.directory.now p.1 == p.0) _ _ _ c.all.ensures.ran
    (YieldsList-from_enumerate (YieldsList-from_slice c.args.numbers.now cc) cc) (λ x b q k. search (rules, tests))
    ∙ rows_listed c.args.numbers.now c.args.directory.now
