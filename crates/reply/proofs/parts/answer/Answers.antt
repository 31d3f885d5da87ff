-- The line is measured, and written where it fits.
use Rattle.std.proofs.Common.{arith}
use Rattle.reply.proofs.Fitting.{full, upto}
use Rattle.reply.proofs.parts.answer.Goals as goal

pub returns-then-limit-at : goal.returns-then-limit-at
returns-then-limit-at c = full _ _ _ _ (omega (arith, c.line_width.ensures.is, c.requires.1.within))

pub returns : goal.returns
returns c = upto (omega (arith, c.line_width.ensures.is, c.requires.1.within)) c.write_line.ensures
