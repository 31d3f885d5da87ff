-- One command of a script: its letter says what is done.
use Rattle.std.specs.Prelude.{ℕ, cond, List, eqb}
use Rattle.index.specs.declared.Refusal.TheVariants.{NotCommand}
use Rattle.index.specs.Refusals.{refusal_no}
use Rattle.tables.specs.Net.{Net, net}
use Rattle.legs.specs.Legs.{Tables3, tables3}
use Rattle.reply.specs.declared.Reply.{Reply}
use Rattle.reply.specs.Replies.{bare_reply}
use Rattle.commands.specs.Commands.{Replied, replied, add_node_line, add_edge_line, update_edge_line, remove_edge_line, remove_node_line, clear_edges_line, clear_line}
use Rattle.commands.specs.Commands.{find_edge_line, neighbors_line, edges_line, edges_mut_line, edges_between_line, sum_around_line, check_line}
use Rattle.dispatch.specs.declared.Desk.{Desk}
use Rattle.dispatch.specs.declared.Numbers.{Numbers}

-- what a run keeps from line to line: the network, and the output tables of its commands
pub record State : Type 0 where
  pub network : Net
  pub tables : Tables3

abbrev pub state : Net → Tables3 → State
state network tables = record { network = network; tables = tables }

-- a command that only tells, or that leaves another network, another first table, other tables, both
abbrev pub tells : State → Reply → Replied State
tells s r = replied r s

abbrev pub changes : State → Replied Net → Replied State
changes s o = replied o.reply (state o.after s.tables)

abbrev pub gives : State → Replied (List ℕ) → Replied State
gives s o = replied o.reply (state s.network (tables3 o.after s.tables.sources s.tables.targets))

abbrev pub gives_three : State → Replied Tables3 → Replied State
gives_three s o = replied o.reply (state s.network o.after)

abbrev pub changes_and_gives : State → Replied (Net × List ℕ) → Replied State
changes_and_gives s o = replied o.reply (state o.after.0 (tables3 o.after.1 s.tables.sources s.tables.targets))

-- a line that is no command is told `? 10` and changes nothing
abbrev pub no_command : State → Replied State
no_command s = tells s (bare_reply 63 (refusal_no NotCommand))

-- the command of a letter; a letter that is none is told `? 10`
unfoldable pub step : ℕ → Numbers → State → Replied State
step letter o s =
    let g = s.network in
    let t = s.tables in
    cond (eqb letter 78) (changes s (add_node_line g o.w))
    (cond (eqb letter 69) (changes s (add_edge_line g o.a o.b o.c))
    (cond (eqb letter 85) (changes s (update_edge_line g o.a o.b o.c))
    (cond (eqb letter 70) (tells s (find_edge_line g o.a o.b))
    (cond (eqb letter 88) (changes s (remove_edge_line g o.a))
    (cond (eqb letter 68) (changes_and_gives s (remove_node_line g o.a t.numbers))
    (cond (eqb letter 87) (gives s (neighbors_line g o.a t.numbers))
    (cond (eqb letter 71) (gives_three s (edges_line g o.a t))
    (cond (eqb letter 77) (gives s (edges_mut_line g o.a t.numbers))
    (cond (eqb letter 66) (gives s (edges_between_line g o.a o.b t.numbers))
    (cond (eqb letter 65) (tells s (sum_around_line g o.a))
    (cond (eqb letter 83) (tells s (check_line g))
    (cond (eqb letter 67) (changes s (clear_edges_line g))
    (cond (eqb letter 90) (changes s (clear_line g))
    (no_command s))))))))))))))

-- the network and the tables that lie on a desk
abbrev pub state_of : Desk → State
state_of d = state (net d.weights.now d.heads.now d.registers.now d.links.now d.ends.now d.n d.m) (tables3 d.items.now d.sources.now d.targets.now)
