-- What the parts ask of their callers and what they leave.
use Rattle.std.specs.Prelude.{ℕ, ◌^◌, ◌<◌, Result, Ok, Err}
use Rattle.index.specs.declared.Refusal.{Refusal}
use Rattle.index.specs.Refusals.{refusal_no}
use Rattle.closing.specs.declared.RemovedNode.{RemovedNode}
use Rattle.closing.specs.Closing.{told_node_removed}
use Rattle.reply.specs.declared.Reply.{Reply}
use Rattle.reply.specs.Replies.{bare_reply}

-- what a call answers, as a reply: what it tells where it is served, letter and number alone where it is refused
abbrev pub reply_of : {A : Type 0} → ℕ → (ℕ → A → Reply) → Result A Refusal → Reply
reply_of letter served (Ok x) = served letter x
reply_of letter served (Err why) = bare_reply letter (refusal_no why)

-- the rows read can be told as a signed number
pub record FewRows (answer : Result RemovedNode Refusal) : Type 0 where
  pub few : (told_node_removed answer).values.1 < 2 ^ 63
