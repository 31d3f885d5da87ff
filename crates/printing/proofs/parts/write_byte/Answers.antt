use Rattle.std.proofs.Common.{refl}
use Rattle.printing.proofs.Putting.{put_byte}
use Rattle.printing.proofs.parts.write_byte.Goals as goal

pub returns : goal.returns
returns c = record { bytes_are = put_byte _ _ _ c.requires; ends_at = refl }
