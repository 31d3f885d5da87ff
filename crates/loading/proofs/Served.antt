-- What was loaded beside the counts is settled.
use Prim.{Unit}
use Prim.Native.Nat.{ℕ}
use mathlib.Core.Path.{◌≡◌, ap, ◌∙◌}
use mathlib.Core.List.{List}
use Rattle.tables.specs.Net.{Net, with_counts}
use Rattle.tables.specs.Answers.{Out}
use Rattle.imagerows.specs.Image.{loaded}
use Rattle.imagerows.proofs.Served.{counts_free}
use Rattle.loading.specs.Loading.{settled}

pub rows_settled : (g : Net) (bytes : List ℕ) (n m : ℕ) {h : Net} {o : Out Unit Net} → h ≡ loaded (with_counts g n m) bytes n m → o ≡ settled h → o ≡ settled (loaded g bytes n m)
rows_settled g bytes n m l o = o ∙ ap settled (l ∙ counts_free g bytes n m n m)
