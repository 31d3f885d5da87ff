use Rattle.std.proofs.Common.{ℕ, length, ◌∙◌, rules, tests}
use Rattle.std.proofs.lemmas.Iterator.{YieldsList-from_slice}
use Rattle.std.proofs.lemmas.Iterator.Consumers.{YieldsList-from_enumerate}
use Rattle.std.proofs.lemmas.Iterator.Search.{all_from_yields_List}
use Rattle.directory.specs.Directory.{register_in, stands}
use Rattle.directory.proofs.Every.{entries_listed}
use Rattle.directory.proofs.parts.entries_stand.Goals as goal

pub returns : goal.returns
returns c =
    all_from_yields_List (λ (p : ℕ × ℕ). stands (register_in c.args.numbers.now) (length c.args.numbers.now) p.1 p.0) _ _ _ c.all.ensures.ran
    (YieldsList-from_enumerate (YieldsList-from_slice c.args.directory.now cc) cc) (λ x b q k. search (rules, tests))
    ∙ entries_listed c.args.numbers.now c.args.directory.now
