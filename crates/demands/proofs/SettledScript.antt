-- The same of what a script is made of, and of its run: its texts, its answer lines, its commands. Assumes nothing.
use Prim.{tt}
use mathlib.Core.Path.{◌≡◌, sym, ◌∙◌}
use mir.Syntax.{Dict}
use denote.MutBor.{MutBor}
use denote.RattleType.{RattleType}
use denote.Param.Laws.{Laws, IsCopy}
use Rattle.std.specs.declared.clone.Clone.{Ghosts}
use Rattle.commands.specs.declared.parts.ToReply as ToReply
use Rattle.dispatch.specs.declared.Desk.{Desk}
use Rattle.dispatch.specs.Parts.{SameTable, SameTables}
use Rattle.dispatch.specs.Step.{state_of}
use mathlib.Core.Path.{refl, ap}
use Rattle.printing.proofs as printing
use Rattle.printing.specs.contracts as printing_contracts
use Rattle.text.proofs as text
use Rattle.text.specs.contracts as text_contracts
use Rattle.reply.proofs as reply
use Rattle.reply.specs.contracts as reply_contracts
use Rattle.commands.proofs as commands
use Rattle.commands.specs.contracts as commands_contracts
use Rattle.letters.proofs as letters
use Rattle.letters.specs.contracts as letters_contracts
use Rattle.dispatch.proofs as dispatch
use Rattle.dispatch.specs.contracts as dispatch_contracts
use Rattle.obeying.proofs as obeying
use Rattle.obeying.specs.contracts as obeying_contracts
use Rattle.script.proofs as script
use Rattle.script.specs.contracts as script_contracts
use Rattle.telling.proofs as telling
use Rattle.telling.specs.contracts as telling_contracts
use Rattle.printer.proofs as printer
use Rattle.printer.specs.contracts as printer_contracts
use Rattle.std.proofs.Common.{Option, None, Some}
use Rattle.index.specs.declared.Refusal.{Refusal}
use Rattle.index.proofs.Laws.{untold, untold_refusal}
use Rattle.tables.proofs.Told.{told-once}
use Rattle.script.specs.Parts.{stop_no}
use Rattle.demands.specs.Settles.{Settles, SettlesAll}
use Rattle.demands.proofs.Alike.{alike, answers-alike, all_columns, node_columns, edge_columns}

pub printing_width : Settles printing_contracts.parts.width.ended printing.parts.width.Reads.Post
printing_width κs given x y p q = answers-alike p.is q.is

pub printing_leading : Settles printing_contracts.parts.leading.ended printing.parts.leading.Reads.Post
printing_leading κs given x y p q = answers-alike p q

pub printing_glyph : Settles printing_contracts.parts.glyph.ended printing.parts.glyph.Reads.Post
printing_glyph κs given x y p q = answers-alike p q

pub printing_write_number : Settles printing_contracts.parts.write_number.ended printing.parts.write_number.Reads.Post
printing_write_number κs given x y p q = λ i. (alike p.ends_at q.ends_at i, (alike p.bytes_are q.bytes_are i, _))

pub printing_write_byte : Settles printing_contracts.parts.write_byte.ended printing.parts.write_byte.Reads.Post
printing_write_byte κs given x y p q = λ i. (alike p.ends_at q.ends_at i, (alike p.bytes_are q.bytes_are i, _))

pub printing_signed_width : Settles printing_contracts.parts.signed_width.ended printing.parts.signed_width.Reads.Post
printing_signed_width κs given x y p q = answers-alike p.is q.is

pub printing_write_signed : Settles printing_contracts.parts.write_signed.ended printing.parts.write_signed.Reads.Post
printing_write_signed κs given x y p q = λ i. (alike p.ends_at q.ends_at i, (alike p.bytes_are q.bytes_are i, _))

pub printing_write_field : Settles printing_contracts.parts.write_field.ended printing.parts.write_field.Reads.Post
printing_write_field κs given x y p q = λ i. (alike p.ends_at q.ends_at i, (alike p.bytes_are q.bytes_are i, _))

pub printing_write_signed_field : Settles printing_contracts.parts.write_signed_field.ended printing.parts.write_signed_field.Reads.Post
printing_write_signed_field κs given x y p q = λ i. (alike p.ends_at q.ends_at i, (alike p.bytes_are q.bytes_are i, _))

pub printing_fields_width : Settles printing_contracts.parts.fields_width.ended printing.parts.fields_width.Reads.Post
printing_fields_width κs given x y p q = answers-alike p.is q.is

pub printing_write_fields : Settles printing_contracts.parts.write_fields.ended printing.parts.write_fields.Reads.Post
printing_write_fields κs given x y p q = λ i. (alike p.ends_at q.ends_at i, (alike p.bytes_are q.bytes_are i, _))

pub text_read_number : Settles text_contracts.parts.read_number.ended text.parts.read_number.Reads.Post
text_read_number κs given x y p q = answers-alike p q

pub text_read_weight : Settles text_contracts.parts.read_weight.ended text.parts.read_weight.Reads.Post
text_read_weight κs given x y p q = answers-alike p q

pub text_read_operands : Settles text_contracts.parts.read_operands.ended text.parts.read_operands.Reads.Post
text_read_operands κs given x y p q = answers-alike p q

pub text_read_weight_operand : Settles text_contracts.parts.read_weight_operand.ended text.parts.read_weight_operand.Reads.Post
text_read_weight_operand κs given x y p q = answers-alike p q

pub text_line_end : Settles text_contracts.parts.line_end.ended text.parts.line_end.Reads.Post
text_line_end κs given x y p q = answers-alike p.is q.is

pub reply_bare : SettlesAll reply_contracts.Reply.bare.ended reply.Reply.bare.Reads.Pre reply.Reply.bare.Reads.Post
reply_bare = (λ κs given. tt, λ κs given x y p q. answers-alike p q)

pub reply_line_width : Settles reply_contracts.parts.line_width.ended reply.parts.line_width.Reads.Post
reply_line_width κs given x y p q = answers-alike p.is q.is

pub reply_write_line : Settles reply_contracts.parts.write_line.ended reply.parts.write_line.Reads.Post
reply_write_line κs given x y p q = λ i. (alike p.ends_at q.ends_at i, (alike p.bytes_are q.bytes_are i, _))

pub reply_answer : Settles reply_contracts.parts.answer.ended reply.parts.answer.Reads.Post
reply_answer κs given x y p q = ap (λ o. (o.0, (o.1, _))) (alike p q)

pub add_node_line_lem : SettlesAll commands_contracts.add_node_line.ended commands.add_node_line.Reads.Pre commands.add_node_line.Reads.Post
add_node_line_lem = (λ κs given. tt, λ κs given x y p q. ap (λ o. (o.reply, node_columns o.after _)) (alike p q))

pub add_edge_line_lem : SettlesAll commands_contracts.add_edge_line.ended commands.add_edge_line.Reads.Pre commands.add_edge_line.Reads.Post
add_edge_line_lem = (λ κs given. tt, λ κs given x y p q. ap (λ o. (o.reply, edge_columns o.after _)) (alike p q))

pub update_edge_line_lem : SettlesAll commands_contracts.update_edge_line.ended commands.update_edge_line.Reads.Pre commands.update_edge_line.Reads.Post
update_edge_line_lem = (λ κs given. tt, λ κs given x y p q. ap (λ o. (o.reply, edge_columns o.after _)) (alike p q))

pub find_edge_line_lem : SettlesAll commands_contracts.find_edge_line.ended commands.find_edge_line.Reads.Pre commands.find_edge_line.Reads.Post
find_edge_line_lem = (λ κs given. tt, λ κs given x y p q. answers-alike p q)

pub remove_edge_line_lem : SettlesAll commands_contracts.remove_edge_line.ended commands.remove_edge_line.Reads.Pre commands.remove_edge_line.Reads.Post
remove_edge_line_lem = (λ κs given. tt, λ κs given x y p q. ap (λ o. (o.reply, edge_columns o.after _)) (alike p q))

pub remove_node_line_lem : SettlesAll commands_contracts.remove_node_line.ended commands.remove_node_line.Reads.Pre commands.remove_node_line.Reads.Post
remove_node_line_lem = (λ κs given. tt, λ κs given x y p q. ap (λ o. (o.reply, all_columns o.after.0 (_, (o.after.1, _)))) (alike p q))

pub neighbors_line_lem : SettlesAll commands_contracts.neighbors_line.ended commands.neighbors_line.Reads.Pre commands.neighbors_line.Reads.Post
neighbors_line_lem = (λ κs given. tt, λ κs given x y p q. ap (λ o. (o.reply, (_, (_, (o.after, _))))) (alike p q))

pub edges_line_lem : SettlesAll commands_contracts.edges_line.ended commands.edges_line.Reads.Pre commands.edges_line.Reads.Post
edges_line_lem = (λ κs given. tt, λ κs given x y p q. ap (λ o. (o.reply, (_, (_, (o.after.numbers, (o.after.sources, (o.after.targets, _))))))) (alike p q))

pub edges_mut_line_lem : SettlesAll commands_contracts.edges_mut_line.ended commands.edges_mut_line.Reads.Pre commands.edges_mut_line.Reads.Post
edges_mut_line_lem = (λ κs given. tt, λ κs given x y p q. ap (λ o. (o.reply, (_, (_, (o.after, _))))) (alike p q))

pub edges_between_line_lem : SettlesAll commands_contracts.edges_between_line.ended commands.edges_between_line.Reads.Pre commands.edges_between_line.Reads.Post
edges_between_line_lem = (λ κs given. tt, λ κs given x y p q. ap (λ o. (o.reply, (_, (_, (_, (o.after, _)))))) (alike p q))

pub sum_around_line_lem : SettlesAll commands_contracts.sum_around_line.ended commands.sum_around_line.Reads.Pre commands.sum_around_line.Reads.Post
sum_around_line_lem = (λ κs given. tt, λ κs given x y p q. answers-alike p q)

pub check_line_lem : SettlesAll commands_contracts.check_line.ended commands.check_line.Reads.Pre commands.check_line.Reads.Post
check_line_lem = (λ κs given. tt, λ κs given x y p q. answers-alike p q)

pub clear-edges_line : SettlesAll commands_contracts.clear_edges_line.ended commands.clear_edges_line.Reads.Pre commands.clear_edges_line.Reads.Post
clear-edges_line = (λ κs given. tt, λ κs given x y p q. ap (λ o. (o.reply, edge_columns o.after _)) (alike p q))

pub clear_line_lem : SettlesAll commands_contracts.clear_line.ended commands.clear_line.Reads.Pre commands.clear_line.Reads.Post
clear_line_lem = (λ κs given. tt, λ κs given x y p q. ap (λ o. (o.reply, all_columns o.after _)) (alike p q))

pub commands_refused : Settles commands_contracts.parts.refused.ended commands.parts.refused.Reads.Post
commands_refused κs given x y p q = answers-alike p q

pub commands_value : Settles commands_contracts.parts.value.ended commands.parts.value.Reads.Post
commands_value κs given x y p q = answers-alike p q

pub commands_node_to_reply : Settles commands_contracts.parts.NodeIndexToReply.to_reply.ended commands.parts.NodeIndexToReply.to_reply.Reads.Post
commands_node_to_reply κs given x y p q = answers-alike p q

pub commands_edge_to_reply : Settles commands_contracts.parts.EdgeIndexToReply.to_reply.ended commands.parts.EdgeIndexToReply.to_reply.Reads.Post
commands_edge_to_reply κs given x y p q = answers-alike p q

pub commands_nothing_to_reply : Settles commands_contracts.parts.UnitToReply.to_reply.ended commands.parts.UnitToReply.to_reply.Reads.Post
commands_nothing_to_reply κs given x y p q = answers-alike p q

pub commands_sum_to_reply : Settles commands_contracts.parts.I64ToReply.to_reply.ended commands.parts.I64ToReply.to_reply.Reads.Post
commands_sum_to_reply κs given x y p q = answers-alike p q

pub commands_count_to_reply : Settles commands_contracts.parts.U32ToReply.to_reply.ended commands.parts.U32ToReply.to_reply.Reads.Post
commands_count_to_reply κs given x y p q = answers-alike p q

pub commands_removed_edge_to_reply : Settles commands_contracts.parts.RemovedEdgeToReply.to_reply.ended commands.parts.RemovedEdgeToReply.to_reply.Reads.Post
commands_removed_edge_to_reply κs given x y p q = answers-alike p q

-- for every type of what a served call tells
module _ (T : RattleType) (lt : Laws T) (t : IsCopy T) (g : ToReply.Ghosts T.Denot) (d : Dict) (gt : Ghosts T.Denot) (dt : Dict) where
  pub commands_reply_of : Settles (commands_contracts.parts.reply_of.ended T g d gt dt) (commands.parts.reply_of.Reads.Post T lt t g d gt dt)
  commands_reply_of κs given x y p q = answers-alike p q

pub commands_check_reply : Settles commands_contracts.parts.check_reply.ended commands.parts.check_reply.Reads.Post
commands_check_reply κs given x y p q = answers-alike p q

pub commands_node_removed_reply : Settles commands_contracts.parts.node_removed_reply.ended commands.parts.node_removed_reply.Reads.Post
commands_node_removed_reply κs given x y p q = answers-alike p q

pub operands_of_lem : SettlesAll letters_contracts.operands_of.ended letters.operands_of.Reads.Pre letters.operands_of.Reads.Post
operands_of_lem = (λ κs given. tt, λ κs given x y p q. answers-alike p q)

-- what lies behind a reference to the same table is all that can differ; so of a desk
lent_alike : {A : Type 0} {b x y : MutBor A} → SameTable b x → SameTable b y → x.now ≡ y.now → x ≡ y
lent_alike p q h = λ i. record { ref_ptr = (sym p.place ∙ q.place) i; ghost_name = (sym p.name ∙ q.name) i; now = h i }

desk_alike : {d x y : Desk} → SameTables d x → SameTables d y → state_of x ≡ state_of y → x ≡ y
desk_alike p q h =
    let weights = lent_alike p.weights_stay q.weights_stay (ap (λ s. s.network.weights) h) in
    let heads = lent_alike p.heads_stay q.heads_stay (ap (λ s. s.network.heads) h) in
    let registers = lent_alike p.registers_stay q.registers_stay (ap (λ s. s.network.registers) h) in
    let links = lent_alike p.links_stay q.links_stay (ap (λ s. s.network.links) h) in
    let ends = lent_alike p.ends_stay q.ends_stay (ap (λ s. s.network.ends) h) in
    let items = lent_alike p.items_stay q.items_stay (ap (λ s. s.tables.numbers) h) in
    let sources = lent_alike p.sources_stay q.sources_stay (ap (λ s. s.tables.sources) h) in
    let targets = lent_alike p.targets_stay q.targets_stay (ap (λ s. s.tables.targets) h) in
    λ i. record {
      weights = weights i;
      heads = heads i;
      registers = registers i;
      links = links i;
      ends = ends i;
      n = (h i).network.n;
      m = (h i).network.m;
      items = items i;
      sources = sources i;
      targets = targets i;
    }

pub dispatch_command : SettlesAll dispatch_contracts.dispatch.ended dispatch.dispatch.Reads.Pre dispatch.dispatch.Reads.Post
dispatch_command = (
  λ κs given. tt,
  λ κs given x y p q.
      let e = alike p.0 q.0 in
      let desk = desk_alike p.1 q.1 (ap (λ o. o.after) e) in
      λ i. ((e i).reply, (desk i, _)),
)

pub net-run : SettlesAll script_contracts.net_run.ended script.net_run.Reads.Pre script.net_run.Reads.Post
net-run = (λ κs given. tt, λ κs given x y p q. ap (λ o. (o.0, (_, (o.1, _)))) (alike p q))

pub obeying_answer_line : Settles obeying_contracts.parts.answer_line.ended obeying.parts.answer_line.Reads.Post
obeying_answer_line κs given x y p q =
    let e = alike p.0 q.0 in
    let desk = desk_alike p.1 q.1 (ap (λ o. o.after) e) in
    λ i. ((e i).reply, (_, (desk i, _)))

-- what stops a run is told by its number, and nothing by 0
stop_is : (r : Option Refusal) → untold None Some (stop_no r) ≡ r
stop_is None = refl
stop_is (Some why) = untold_refusal None Some why

stop_told_once : (r s : Option Refusal) → stop_no r ≡ stop_no s → r ≡ s
stop_told_once = told-once stop_no (untold None Some) stop_is

pub script_run_lines : Settles script_contracts.parts.run_lines.ended script.parts.run_lines.Reads.Post
script_run_lines κs given x y p q =
    let stopped = stop_told_once _ _ (alike p.0.number_is q.0.number_is) in
    let desk = desk_alike p.1 q.1 (alike p.0.state-is q.0.state-is) in
    λ i. (record { stopped = stopped i; bytes = alike p.0.bytes_are q.0.bytes_are i }, (_, (alike p.0.output_is q.0.output_is i, (_, (desk i, _)))))

pub script_ended_number : Settles script_contracts.parts.Ended.number.ended script.parts.Ended.number.Reads.Post
script_ended_number κs given x y p q = answers-alike p q

pub script_limit_of : Settles script_contracts.parts.limit_of.ended script.parts.limit_of.Reads.Post
script_limit_of κs given x y p q = answers-alike p q

pub script_pack : Settles script_contracts.parts.pack.ended script.parts.pack.Reads.Post
script_pack κs given x y p q = answers-alike p q

pub telling_write_ending : Settles telling_contracts.parts.write_ending.ended telling.parts.write_ending.Reads.Post
telling_write_ending κs given x y p q = λ i. (alike p.ends_at q.ends_at i, (alike p.bytes_are q.bytes_are i, _))

pub telling_tell_run : Settles telling_contracts.parts.tell_run.ended telling.parts.tell_run.Reads.Post
telling_tell_run κs given x y p q = λ i. (alike p.writes.ends_at q.writes.ends_at i, (_, (alike p.writes.bytes_are q.writes.bytes_are i, _)))

-- nothing is answered, and nothing is lent: which bytes C is given no contract can say
pub printer_print_number : SettlesAll printer_contracts.print_number.ended printer.print_number.Reads.Pre printer.print_number.Reads.Post
printer_print_number = (λ κs given. tt, λ κs given x y p q. refl)
