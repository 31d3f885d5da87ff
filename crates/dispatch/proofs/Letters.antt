-- What `step` is at a letter that is no command's: `of_none`.
use Prim.Native.Nat.{ℕ}
use mathlib.Core.Path.{◌≡◌, ap}
use borrow.Author.Tests.{ne_eqb}
use Rattle.index.specs.declared.Refusal.TheVariants.{NotCommand}
use Rattle.index.specs.Refusals.{refusal_no}
use Rattle.reply.specs.declared.Reply.{Reply}
use Rattle.reply.specs.Replies.{bare_reply}
use Rattle.commands.specs.Commands.{replied}
use Rattle.dispatch.specs.declared.Numbers.{Numbers}
use Rattle.dispatch.specs.Parts.{NotChanging, NotTelling}
use Rattle.dispatch.specs.Step.{State, tells, step}

module _ {letter : ℕ} (o : Numbers) (s : State) {r : Reply} where
  pub of_none : NotChanging letter → NotTelling letter → r ≡ bare_reply 63 (refusal_no NotCommand) → replied r s ≡ step letter o s
  unfolding step
  of_none c t e =
      let a = c.not_adding in
      rw (
        ne_eqb letter 78 a.not_N,
        ne_eqb letter 69 a.not_E,
        ne_eqb letter 85 a.not_U,
        ne_eqb letter 70 t.not_F,
        ne_eqb letter 88 c.not_X,
        ne_eqb letter 68 c.not_D,
        ne_eqb letter 87 t.not_W,
        ne_eqb letter 71 t.not_G,
        ne_eqb letter 77 t.not_M,
        ne_eqb letter 66 t.not_B,
        ne_eqb letter 65 t.not_A,
        ne_eqb letter 83 t.not_S,
        ne_eqb letter 67 c.not_C,
        ne_eqb letter 90 c.not_Z,
      )
      (ap (tells s) e)
