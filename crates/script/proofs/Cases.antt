-- Whole scripts, and what a run of each comes to, computed from the definitions: `network_a_lem` to `too_long`.
use Prim.Native.Nat.{ℕ}
use Prim.Native.Char.{code}
use Prim.Native.String.{String, [] as end, ◌∷◌ as ◌then◌}
use mathlib.Core.Path.{◌≡◌, refl}
use mathlib.Core.List.{List, [], ◌∷◌}
use lib.ListN.{replicate}
use Rattle.tables.specs.Net.{fit}
use Rattle.tables.specs.Rows.{with_node, with_edge, vacant_nodes, vacant_edges}
use Rattle.rows.specs.Calls.{add_node, linked, add_edge, clear_edges, clear}
use Rattle.lists.specs.Walk.{walk, stop}
use Rattle.walks.specs.Walks.{neighbors, edges, edges_mut, edges_between}
use Rattle.find.specs.Parts.{sought_from}
use Rattle.find.specs.Find.{find_edge, update_edge}
use Rattle.walker.specs.Sums.{sum_around}
use Rattle.sound.specs.Check.{walked, up_to, one_way, checked}
use Rattle.links.specs.Links.{seek, searched, located, heads_at, links_at, led}
use Rattle.removal.specs.Removal.{bypassed, last_out, last_into, last_moved, gone, taken_out, remove_edge}
use Rattle.stripping.specs.Heads.{emptied, stripped}
use Rattle.dropping.specs.Drop.{dropped}
use Rattle.closing.specs.Closing.{closed_if_room, remove_node}
use Rattle.printing.specs.Bytes.{newline}
use Rattle.text.specs.Bytes.{before}
use Rattle.printing.specs.Digits.{spelt, digits, fields_text}
use Rattle.text.specs.Numbers.{magnitude, fields, operands, weight_operand}
use Rattle.text.specs.Lines.{lines}
use Rattle.reply.specs.Replies.{line_of}
use Rattle.commands.specs.Commands.{add_node_line, add_edge_line, update_edge_line, find_edge_line, remove_edge_line, remove_node_line, neighbors_line, edges_line}
use Rattle.commands.specs.Commands.{edges_mut_line, edges_between_line, sum_around_line, check_line, clear_edges_line, clear_line}
use Rattle.letters.specs.Letters.{operands_of}
use Rattle.dispatch.specs.Step.{step}
use Rattle.obeying.specs.Line.{numbers_behind, line_answer}
use Rattle.script.specs.Script.{answers, ran, printed, begun, run}

-- a text's bytes
abbrev bytes : String → List ℕ
bytes end = []
bytes (c then s) = code c ∷ bytes s

-- the order's network A, and its whole output
pub network_a_lem :
    run (bytes "N 5\nN -3\nN 8\nE 0 1 10\nE 1 2 11\nE 0 2 12\nE 1 1 13\nW 1\nM 1\nX 0\nD 9\n") 16384
    ≡ ran 0 (bytes "N 0 0\nN 0 1\nN 0 2\nE 0 0\nE 0 1\nE 0 2\nE 0 3\nW 0 3 1 2 0\nM 0 4 3 0 3 1\nX 0 10 3 2\nD 3\n")
unfolding run begun answers line_answer numbers_behind printed lines line_of digits spelt fields_text operands_of operands weight_operand fields before magnitude step
    fit add_node_line add_node with_node add_edge_line add_edge linked with_edge walk stop neighbors_line neighbors edges_mut_line edges_mut remove_edge_line remove_edge
    taken_out gone last_moved last_into last_out bypassed led heads_at links_at located searched seek remove_node_line remove_node
network_a_lem = refl

-- what is asked of A: neighbours, finds, a sum, an edge that is not there, the check, edges, edges between
pub told_of_a :
    run (bytes "N 5\nN -3\nN 8\nE 0 1 10\nE 1 2 11\nE 0 2 12\nE 1 1 13\nW 0\nW 2\nF 2 1\nF 1 1\nF 0 0\nA 1\nX 4\nS\nG 1\nB 1 2\n") 16384
    ≡ ran 0 (bytes "N 0 0\nN 0 1\nN 0 2\nE 0 0\nE 0 1\nE 0 2\nE 0 3\nW 0 2 2 1\nW 0 2 0 1\nF 0 1\nF 0 3\nF 5\nA 0 10\nX 4\nS 0 8\nG 0 3 3 1 0\nB 0 1 1\n")
unfolding run begun answers line_answer numbers_behind printed lines line_of digits spelt fields_text operands_of operands weight_operand fields before magnitude step
    fit add_node_line add_node with_node add_edge_line add_edge linked with_edge walk stop neighbors_line neighbors find_edge_line find_edge sought_from sum_around_line
    sum_around remove_edge_line remove_edge check_line checked one_way up_to walked edges_line edges edges_between_line edges_between
told_of_a = refl

-- A updated, its last edge, a node and another taken out, its edges and all cleared; then there is no node
pub done_to_a :
    run (bytes "N 5\nN -3\nN 8\nE 0 1 10\nE 1 2 11\nE 0 2 12\nE 1 1 13\nU 2 1 4294967295\nX 3\nD 0\nD 0\nC\nS\nZ\nW 0\nD 0\n") 16384
    ≡ ran 0 (bytes "N 0 0\nN 0 1\nN 0 2\nE 0 0\nE 0 1\nE 0 2\nE 0 3\nU 0 1\nX 0 13 - 0\nD 0 5 1 2 12 10\nD 0 8 0 1 4294967295\nC 0\nS 0 0\nZ 0\nW 0 0\nD 3\n")
unfolding run begun answers line_answer numbers_behind printed lines line_of digits spelt fields_text operands_of operands weight_operand fields before magnitude step
    fit add_node_line add_node with_node add_edge_line add_edge linked with_edge walk stop neighbors_line neighbors update_edge_line update_edge sought_from
    remove_edge_line remove_edge taken_out gone last_moved last_into last_out bypassed led heads_at links_at located searched seek remove_node_line remove_node
    closed_if_room checked one_way up_to walked stripped emptied dropped clear_edges_line clear_edges vacant_edges vacant_nodes check_line clear_line clear
done_to_a = refl

-- no commands: another letter, a small one, a `-` before a node, before an edge weight, 11 digits, a trailing space, nothing, a `+`, a number
-- that does not fit, a number too many; the run goes on, and the last line does without its newline
pub bad_lines :
    run (bytes "Q\nn 1\nE 0 -1 5\nE 0 0 -5\nN 00000000001\nN 1 \n\nN +1\nE 0 0 4294967296\nS 1\nQ 1 2 3 4\nN 0000000001") 16384
    ≡ ran 0 (bytes "? 10\n? 10\n? 10\n? 10\n? 10\n? 10\n? 10\n? 10\n? 10\n? 10\n? 10\nN 0 0\n")
unfolding run begun answers line_answer numbers_behind printed lines line_of digits spelt fields_text operands_of
    operands weight_operand fields before magnitude step fit add_node_line add_node with_node
bad_lines = refl

-- `-0` is a node weight; 4294967295 names no node and no edge, and refused lines don't stop the run
pub odd_lines :
    run (bytes "N -0\nE 0 4294967295 1\nX 4294967295\nS\n") 16384
    ≡ ran 0 (bytes "N 0 0\nE 3\nX 4\nS 0 0\n")
unfolding run begun answers line_answer numbers_behind printed lines line_of digits spelt fields_text operands_of operands weight_operand fields before magnitude step
    fit add_node_line add_node with_node add_edge_line add_edge linked with_edge remove_edge_line remove_edge check_line checked one_way up_to walked
odd_lines = refl

-- nothing; a lone newline; one line with and without its newline; an empty line behind it
pub few_lines :
    (run (bytes "") 16384 ≡ ran 0 (bytes ""))
    × (run (bytes "\n") 16384 ≡ ran 0 (bytes "? 10\n"))
    × (run (bytes "C\n") 16384 ≡ ran 0 (bytes "C 0\n"))
    × (run (bytes "C") 16384 ≡ ran 0 (bytes "C 0\n"))
    × (run (bytes "C\n\n") 16384 ≡ ran 0 (bytes "C 0\n? 10\n"))
unfolding run begun answers line_answer numbers_behind printed lines line_of digits spelt fields_text operands_of operands weight_operand fields before magnitude step
    fit clear_edges_line clear_edges vacant_edges
few_lines = (refl, refl, refl, refl, refl)

-- answers that just fit, and one byte less; no room; a later line that would fit
pub fits_or_not :
    (run (bytes "N 5\nC\n") 10 ≡ ran 0 (bytes "N 0 0\nC 0\n"))
    × (run (bytes "N 5\nC\n") 9 ≡ ran 7 (bytes "N 0 0\n"))
    × (run (bytes "N 5\nC\n") 0 ≡ ran 7 (bytes ""))
    × (run (bytes "N 5\nC\n") 5 ≡ ran 7 (bytes ""))
    × (run (bytes "") 0 ≡ ran 0 (bytes ""))
unfolding run begun answers line_answer numbers_behind printed lines line_of digits spelt fields_text operands_of operands weight_operand fields before magnitude step
    fit add_node_line add_node with_node clear_edges_line clear_edges vacant_edges
fits_or_not = (refl, refl, refl, refl, refl)

-- 16,385 bytes, whatever the room
pub too_long : (room : ℕ) → run (replicate 16385 newline) room ≡ ran 1 []
unfolding run
too_long room = refl
