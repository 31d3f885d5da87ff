-- The run, and behind its lines its ending.
use Rattle.std.proofs.Common.{arith, ◌∙◌}
use Rattle.telling.proofs.Endings.{ending_room, told_so}
use Rattle.telling.proofs.parts.tell_run.Goals as goal

pub write_ending-requires : goal.write_ending-requires
write_ending-requires c =
    omega (arith, ending_room c.args.script.now c.args.out.now c.requires c.net_run-told.ensures, c.net_run-told.auto.out)

pub returns : goal.returns
returns c =
    told_so c.args.script.now c.args.out.now c.requires c.net_run-told.ensures (c.write_ending.auto.out ∙ c.net_run-told.auto.out) c.write_ending.ensures
