-- The rows read are few.
use Rattle.commands.proofs.Ways.{few_so}
use Rattle.commands.proofs.remove_node_line.Goals as goal

pub node_removed_reply-requires : goal.node_removed_reply-requires
node_removed_reply-requires c = few_so _ _ _ c.remove_node-answer.ensures
