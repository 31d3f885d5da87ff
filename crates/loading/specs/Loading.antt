-- What a load of version 1 leaves, and what it answers.
use Prim.{Unit, tt}
use Rattle.std.specs.Prelude.{ℕ, ◌&&◌, List, leb, eqb, length}
use Rattle.index.specs.declared.Refusal.TheVariants.{Full, Broken, NotImage}
use Rattle.tables.specs.Net.{Net, with_counts}
use Rattle.tables.specs.Answers.{Out, out, done, refused, unless}
use Rattle.tables.specs.Rows.{vacant_nodes, vacant_edges}
use Rattle.sound.specs.Check.{is_sound}
use Rattle.layout.specs.Layout.{image_length, nodes_in, edges_in}
use Rattle.imagerows.specs.Image.{loaded}

-- no row is in use, and all rows lent are vacant
unfoldable pub vacated : Net → Net
vacated g = with_counts (vacant_edges (vacant_nodes g 0 (length g.weights)) 0 (length g.registers)) 0 0

-- a network that was loaded stays if it is sound; else 6, and nothing is left of it
unfoldable pub settled : Net → Out Unit Net
settled g =
    unless (is_sound g) (out (refused Broken tt) (vacated g))
    (out (done tt) g)

-- a version 1 image: 2 for its counts, 8 for its length, 6
unfoldable pub read_one : Net → List ℕ → Out Unit Net
read_one g bytes =
    let n = nodes_in bytes in
    let m = edges_in bytes in
    unless (leb n (length g.weights) && leb m (length g.registers)) (out (refused Full tt) g)
    (unless (eqb (length bytes) (image_length n m)) (out (refused NotImage tt) g)
    (settled (loaded g bytes n m)))
