use Rattle.reply.proofs.Texts.{line_measured}
use Rattle.reply.proofs.parts.line_width.Goals as goal

pub returns : goal.returns
returns c = line_measured c.requires c.width.ensures c.values_width.ensures c.fields_width.ensures
