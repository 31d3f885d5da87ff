-- What a part asks of its caller.
use Rattle.std.specs.Prelude.{ℕ, ◌≤◌}
use Rattle.layout.specs.Layout.{head_bytes}
use Rattle.imagerows.specs.Parts.{RowsAgree}

-- the columns agree in rows, and the bytes hold an image's head
pub record HeadHeld (weights heads registers links ends bytes : ℕ) : Type 0 where
  pub agree : RowsAgree weights heads registers links ends
  pub head-holds : head_bytes ≤ bytes
