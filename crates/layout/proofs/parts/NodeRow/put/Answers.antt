-- Word after word.
use Rattle.std.proofs.Common.{rules, w32}
use mir.Val.{SFits}
use mir.Facts.{to_z-of_z}
use Rattle.layout.proofs.Placing.{node-placed}
use Rattle.layout.proofs.parts.NodeRow.put.Goals as goal

pub returns : goal.returns
returns c =
    let f : SFits w32 c.args.self.weight = search rules in
    node-placed _ _ _ c.requires (rw (← to_z-of_z f, ← c.bits.ensures) c.put_number.ensures) c.put_number-2.ensures c.put_number-3.ensures
