use Rattle.std.proofs.Common.{eqb, ◌+◌, ◌-◌, length, take, drop, rules, tests, ap, ◌≡◌, ◌∙◌, ℕ, List, arith}
use Rattle.std.proofs.lemmas.Iterator.{YieldsList-from_slice}
use Rattle.std.proofs.lemmas.Iterator.Search.{position_from_yields_List}
use Rattle.std.proofs.lemmas.List.{take_all, length-drop}
use Rattle.printing.specs.Bytes.{newline}
use Rattle.text.specs.Bytes.{before}
use Rattle.text.proofs.Cutting.{before_len_is, before_short}
use Rattle.text.proofs.Runs.{stops_at}
use Rattle.text.proofs.parts.line_end.Goals as goal

pub returns : goal.returns
returns c =
    let script = c.args.script.now in
    let text : List ℕ = take (length script - c.args.at) (drop c.args.at script) in
    let whole : text ≡ drop c.args.at script = take_all _ _ (omega (arith, length-drop c.args.at script)) in
    let items = YieldsList-from_slice text c.iter.ensures.rest in
    let found = position_from_yields_List (λ b. eqb b newline) _ _ c.position.result c.position.ensures.ran items (λ x b q k. search (rules, tests)) in
    let stop = stops_at c.unwrap_or.ensures found (before_len_is newline text) (before_short newline text) in
    record {
      is = ap (λ n. c.args.at + n) (stop ∙ ap (λ t. length (before newline t)) whole);
      held = omega (arith, stop, before_short newline text, ap length whole, length-drop c.args.at script);
    }
