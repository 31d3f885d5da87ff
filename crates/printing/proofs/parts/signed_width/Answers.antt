use Rattle.std.proofs.Common.{◌≡◌, suc, arith}
use mir.Facts.{to_z-of_z}
use Rattle.printing.proofs.Spelling.{digits-few}
use Rattle.printing.proofs.Signs.{negative, signed-negative}
use Rattle.printing.proofs.parts.signed_width.Goals as goal

pub returns-then-z-lt0 : goal.returns-then-z-lt0
returns-then-z-lt0 c =
    let x = c.absolute.result in
    let q = negative _ c.ranges.z c.if-z-lt0.true in
    let m : x ≡ suc q.0 = rw (to_z-of_z c.ranges.z, q.1) at c.absolute.ensures in
    rw (signed-negative _ c.ranges.z c.absolute.ensures c.if-z-lt0.true)
    (record { is = omega (arith, c.width.ensures.is); few = omega (arith, c.width.ensures.is, digits-few 18 x (omega arith)) })
