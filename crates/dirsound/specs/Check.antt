-- The check of a network with a directory: links first, then the directory, whose fault is told at node n + 1 of the incoming lists.
use Rattle.std.specs.Prelude.{ℕ, ◌+◌, ◌≡◌, Bool, true, length, Ok, Err}
use Rattle.index.specs.declared.EdgeDirection.TheVariants.{Incoming}
use Rattle.tables.specs.Net.{fits}
use Rattle.tables.specs.Answers.{unless}
use Rattle.sound.specs.declared.Fault.TheVariants.{At}
use Rattle.sound.specs.Sound.{Sound, lists}
use Rattle.sound.specs.Check.{Checked, checked, accepted}
use Rattle.directory.specs.Directory.{Filed, RightFor, is_right_for, directory_of, register_of}

-- only where the links are accepted is the directory looked at
abbrev pub also_right : Checked → Bool → ℕ → Checked
also_right (Ok rows) right n = unless right (Err (At Incoming (record { 0 = n + 1 }))) (Ok rows)
also_right (Err fault) right n = Err fault

unfoldable pub checked_filed : Filed → Checked
checked_filed f = also_right (checked f.net) (is_right_for f) f.net.n

abbrev pub is_sound_filed : Filed → Bool
is_sound_filed f = accepted (checked_filed f)

-- a sound network within the limits, and its directory is right
abbrev pub SoundFiled : Filed → Type 0
SoundFiled f = (fits f.net ≡ true) × Sound f.net (lists f.net) × RightFor f

-- what a call leaves, of f: both sound, and the directory, as long as before, that of the rows that are left
pub record Follows (f after : Filed) : Type 0 where
  pub sound : SoundFiled after
  pub directory_is : after.directory ≡ directory_of (length f.directory) (register_of after.net) after.net.m
