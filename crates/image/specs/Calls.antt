-- What each call answers, and what it leaves.
use Prim.{Unit, tt}
use Rattle.std.specs.Prelude.{ℕ, ◌&&◌, List, leb, eqb, length}
use Rattle.index.specs.declared.Refusal.TheVariants.{Tables, Broken, NotImage, Version}
use Rattle.tables.specs.Net.{Net, fits}
use Rattle.tables.specs.Answers.{Out, out, refused, unless, give}
use Rattle.sound.specs.Check.{is_sound}
use Rattle.layout.specs.Layout.{version, head_bytes, marked, version_in}
use Rattle.imagerows.specs.Image.{image_of}
use Rattle.loading.specs.Loading.{read_one}

-- the image into an output table: 1, 6, 7
unfoldable pub image_write : Net → List ℕ → Out ℕ (List ℕ)
image_write g bytes =
    unless (fits g) (out (refused Tables 0) bytes)
    (unless (is_sound g) (out (refused Broken 0) bytes)
    (give (image_of g) bytes))

-- any bytes: 1, 8, 9, then by the version
unfoldable pub image_read : Net → List ℕ → Out Unit Net
image_read g bytes =
    unless (fits g) (out (refused Tables tt) g)
    (unless (leb head_bytes (length bytes) && marked bytes) (out (refused NotImage tt) g)
    (unless (eqb (version_in bytes) version) (out (refused Version tt) g)
    (read_one g bytes)))
