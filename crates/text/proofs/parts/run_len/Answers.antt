use Rattle.std.proofs.Common.{not, rules, tests}
use Rattle.std.proofs.lemmas.Iterator.{YieldsList-from_slice}
use Rattle.std.proofs.lemmas.Iterator.Search.{position_from_yields_List}
use Rattle.text.specs.Bytes.{is_digit}
use Rattle.text.proofs.Runs.{run_len_is, run_short, stops_at}
use Rattle.text.proofs.parts.run_len.Goals as goal

pub returns : goal.returns
returns c =
    let text = c.args.text.now in
    let items = YieldsList-from_slice text c.iter.ensures.rest in
    let found = position_from_yields_List (λ b. not (is_digit b)) _ _ c.position.result c.position.ensures.ran items (λ x b q k. search (rules, tests)) in
    stops_at c.unwrap_or.ensures found (run_len_is text) (run_short text)
