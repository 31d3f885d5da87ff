-- Images of a network with a directory: what the call without one tells and leaves, and what the directory adds.
use Prim.{Unit, tt}
use Rattle.std.specs.Prelude.{ℕ, cond, List, eqb, length, Result, Ok, Err}
use Rattle.index.specs.declared.Refusal.{Refusal}
use Rattle.index.specs.declared.Refusal.TheVariants.{Tables, Broken}
use Rattle.tables.specs.Net.{Net, fits}
use Rattle.tables.specs.Answers.{Out, out, done, refused, unless}
use Rattle.loading.specs.Loading.{vacated}
use Rattle.image.specs.Calls.{image_write, image_read}
use Rattle.directory.specs.Directory.{none, directory_of, Filed, filed, register_of, is_right_for}
use Rattle.dirimage.specs.Loading.{filing}

-- the image into an output table: 1, 6 where the directory is not right, then as without a directory: 6, 7
unfoldable pub image_write_filed : Filed → List ℕ → Out ℕ (List ℕ)
image_write_filed f bytes =
    unless (fits f.net) (out (refused Tables 0) bytes)
    (unless (is_right_for f) (out (refused Broken 0) bytes)
    (image_write f.net bytes))

-- the rows that a load has brought stay, with their directory; refused, nothing is left of them and every entry is none
abbrev pub kept : Net → List ℕ → Result Unit Refusal → Out Unit Filed
kept g directory (Ok u) = out (done tt) (filed g (directory_of (length directory) (register_of g) g.m))
kept g directory (Err why) = out (refused why tt) (filed (vacated g) (none directory))

-- they stay where they can be filed: 12, 11
unfoldable pub settled_filed : Net → List ℕ → Out Unit Filed
settled_filed g directory = kept g directory (filing (register_of g) g.m (length directory))

-- a load that is refused without a directory: 6 leaves every entry none, any other number leaves the entries as they were
abbrev pub entries_left : ℕ → List ℕ → List ℕ
entries_left number directory = cond (eqb number 6) (none directory) directory

-- a load beside a directory, by what it tells and leaves without one
abbrev pub filled_by : List ℕ → Out Unit Net → Out Unit Filed
filled_by directory o =
    cond (eqb o.answer.number 0)
    (settled_filed o.after directory)
    (out o.answer (filed o.after (entries_left o.answer.number directory)))

-- a load: 1, 8, 9, 2, 8, 6, then 12, 11
unfoldable pub image_read_filed : Filed → List ℕ → Out Unit Filed
image_read_filed f bytes = filled_by f.directory (image_read f.net bytes)
