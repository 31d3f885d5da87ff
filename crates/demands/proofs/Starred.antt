-- The starred cases, computed from the definitions. Assumes nothing.
use mathlib.Core.Path.{refl}
use Rattle.tables.specs.Net.{fit}
use Rattle.tables.specs.Rows.{with_node, with_edge}
use Rattle.tables.proofs.NetworkA.{network_a}
use Rattle.lists.specs.Walk.{walk, stop}
use Rattle.walks.specs.Walks.{neighbors}
use Rattle.find.specs.Parts.{sought_from}
use Rattle.find.specs.Find.{find_edge}
use Rattle.walker.specs.Sums.{sum_around}
use Rattle.sound.specs.Check.{walked, up_to, one_way, checked}
use Rattle.links.specs.Links.{seek, searched, located, heads_at, links_at, led}
use Rattle.removal.specs.Removal.{bypassed, last_out, last_into, last_moved, gone, taken_out, remove_edge}
use Rattle.stripping.specs.Heads.{emptied, stripped}
use Rattle.dropping.specs.Drop.{dropped}
use Rattle.closing.specs.Closing.{closed_if_room, remove_node}
use Rattle.text.specs.Bytes.{before}
use Rattle.printing.specs.Digits.{spelt, digits, fields_text}
use Rattle.text.specs.Numbers.{magnitude, fields, operands}
use Rattle.reply.specs.Replies.{line_of}
use Rattle.commands.specs.Commands.{neighbors_line, find_edge_line, sum_around_line, remove_edge_line, remove_node_line}
use Rattle.letters.specs.Letters.{operands_of}
use Rattle.dispatch.specs.Step.{step}
use Rattle.obeying.specs.Line.{numbers_behind, line_answer}
use Rattle.demands.specs.Starred.{CasesHold}

pub cases_hold : CasesHold
unfolding network_a line_answer numbers_behind operands_of operands fields before magnitude step neighbors_line find_edge_line sum_around_line remove_edge_line
    remove_node_line line_of digits spelt fields_text neighbors find_edge sought_from sum_around remove_edge remove_node fit walk stop checked one_way up_to
    walked closed_if_room stripped emptied dropped taken_out gone last_moved last_into last_out bypassed led heads_at links_at located searched seek with_edge
    with_node
cases_hold = refl
