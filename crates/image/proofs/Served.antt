-- What an image's writing tests and leaves is what the definition says, over plain columns.
use Prim.Native.Nat.{ℕ, ◌≤◌, ◌<◌}
use mathlib.Core.Path.{◌≡◌}
use mathlib.Core.Bool.{true, false}
use mathlib.Core.List.{List}
use native.Mathlib.Nat.{zero-add}
use borrow.Author.Tests.{le-leb, lt-leb}
use lib.Dec.{leb}
use lib.ListN.{length}
use Rattle.tables.specs.Net.{Net}
use Rattle.tables.specs.Answers.{out, done, onto}
use Rattle.layout.specs.Numbers.{placed}
use Rattle.layout.specs.Layout.{image_length}
use Rattle.imagerows.specs.Image.{image_of}
use Rattle.imagerows.proofs.Served.{image_length_lem}

-- the test for 7, by the length k that the code has computed
pub no_room : (g : Net) (bytes : List ℕ) (k : ℕ) → k ≡ image_length g.n g.m → length bytes < k → leb (length (image_of g)) (length bytes) ≡ false
no_room g bytes k p h = rw (image_length_lem g, ← p, lt-leb k (length bytes) h)

pub room : (g : Net) (bytes : List ℕ) (k : ℕ) → k ≡ image_length g.n g.m → k ≤ length bytes → leb (length (image_of g)) (length bytes) ≡ true
room g bytes k p h = rw (image_length_lem g, ← p, le-leb k (length bytes) h)

pub ruleset rooms = (no_room, room)

-- the image stands at the front, and its length is told
pub image_given : (g : Net) (bytes : List ℕ) {k : ℕ} {after : List ℕ} → k ≡ image_length g.n g.m → after ≡ placed 0 (image_of g) bytes
    → out (done k) after ≡ out (done (length (image_of g))) (onto (image_of g) bytes)
unfolding placed
image_given g bytes p e = rw (e, zero-add (length (image_of g)), image_length_lem g, ← p)
