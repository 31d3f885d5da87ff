-- The check accepts exactly the sound networks whose directory is right: `right_accepted`, and `accepted-right` for the other way.
use Prim.Native.Nat.{ℕ, ◌*◌}
use mathlib.Core.Path.{◌≡◌, refl}
use mathlib.Core.Bool.{Bool, true, false}
use mathlib.Core.List.{List}
use Rattle.tables.specs.Net.{fits}
use Rattle.std.specs.Prelude.{Ok, Err}
use Rattle.sound.specs.Sound.{Sound}
use Rattle.sound.specs.Check.{Checked, checked}
use Rattle.sound.proofs.Exactly.{sound_accepted, accepted-sound}
use Rattle.directory.specs.Directory.{Filed, RightFor, is_right_for, register_of}
use Rattle.directory.proofs.Every.{right_says, right_so}
use Rattle.dirsound.specs.Check.{also_right, checked_filed, SoundFiled}

pub right_accepted : (f : Filed) (ls : ℕ → ℕ → List ℕ) → fits f.net ≡ true → Sound f.net ls → RightFor f → checked_filed f ≡ Ok (2 * f.net.m)
unfolding checked_filed
right_accepted f ls t S R =
    rw (sound_accepted f.net ls t S, right_so (register_of f.net) f.net.m f.directory R)

-- what an accepted verdict was made of
made_of : (c : Checked) (b : Bool) (n rows : ℕ) → also_right c b n ≡ Ok rows → (c ≡ Ok rows) × (b ≡ true)
made_of (Ok q) true n rows p = (p, refl)
made_of (Ok q) false n rows p = cc
made_of (Err fault) b n rows p = cc

pub accepted-right : (f : Filed) (rows : ℕ) → checked_filed f ≡ Ok rows → SoundFiled f × (rows ≡ 2 * f.net.m)
unfolding checked_filed
accepted-right f rows p =
    let q = made_of (checked f.net) (is_right_for f) f.net.n rows p in
    let s = accepted-sound f.net rows q.0 in
    ((s.0, s.1, right_says (register_of f.net) f.net.m f.directory q.1), s.2)
