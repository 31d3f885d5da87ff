-- Letter, answer number and values, one behind the other.
use Rattle.reply.proofs.Texts.{writes_three}
use Rattle.reply.proofs.parts.write_head.Goals as goal

pub returns : goal.returns
returns c = writes_three c.requires c.write_byte-number.ensures c.write_field-values.ensures c.write_values.ensures
