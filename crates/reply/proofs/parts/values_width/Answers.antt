-- That of its three values.
use Rattle.reply.proofs.Texts.{values_measured}
use Rattle.reply.proofs.parts.values_width.Goals as goal

pub returns : goal.returns
returns c = values_measured c.args.reply c.value_width.ensures c.value_width-2.ensures c.value_width-3.ensures
