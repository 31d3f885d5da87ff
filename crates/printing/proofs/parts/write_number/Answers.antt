use Rattle.std.proofs.Common.{arith}
use Rattle.printing.proofs.FromLeft.{some_coming, low_coming}
use Rattle.printing.proofs.Numbering.{start, turn, done}
use Rattle.printing.proofs.parts.write_number.Goals as goal

pub loop-power-init : goal.loop-power-init
loop-power-init c = (_, start _ _ _ _ c.leading-power.ensures)

pub glyph-requires : goal.glyph-requires
glyph-requires c = let i = c.loop-power.invariant in omega (arith, low_coming i.0 i.1.coming (omega arith))

pub bounds-out-to : goal.bounds-out-to
bounds-out-to c = let i = c.loop-power.invariant in omega (arith, some_coming i.0 i.1.coming (omega arith))

pub loop-power-preserved : goal.loop-power-preserved
loop-power-preserved c = let i = c.loop-power.invariant in turn c.glyph.result i.0 i.1 (omega arith) c.glyph.ensures

pub returns : goal.returns
returns c = let i = c.loop-power.invariant in done i.0 i.1 c.requires (omega arith)
