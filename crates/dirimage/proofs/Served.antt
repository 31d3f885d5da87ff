-- What the parts leave is what the definitions say, over plain columns.
use Prim.{Unit, tt}
use Prim.Native.Nat.{ℕ}
use mathlib.Core.Path.{◌≡◌, sym, ap, ◌∙◌, subst}
use mathlib.Core.Bool.{true}
use mathlib.Core.List.{List}
use lib.ListN.{length}
use Rattle.index.specs.declared.Refusal.{Refusal}
use Rattle.std.specs.Prelude.{Result, Ok, Err, is_err}
use Rattle.dirrows.specs.Parts.{if_granted}
use Rattle.tables.specs.Net.{Net, with_counts, fits}
use Rattle.tables.specs.Answers.{Out, out, done, told_change}
use Rattle.tables.specs.Rows.{vacant_nodes, vacant_edges}
use Rattle.layout.specs.Layout.{nodes_in, edges_in}
use Rattle.imagerows.proofs.Loads.{loaded-fits}
use Rattle.loading.specs.Loading.{vacated}
use Rattle.image.specs.Calls.{image_read}
use Rattle.image.proofs.Copies.{read_says, read_is}
use Rattle.directory.specs.Directory.{none, directory_of, Filed, filed, register_of}
use Rattle.dirimage.specs.Loading.{filing}
use Rattle.dirimage.specs.Calls.{settled_filed, filled_by, image_read_filed}

-- nothing is left of rows that cannot be filed
module _ (g : Net) (d c : List ℕ) (told : Result Unit Refusal) where
  pub rows-emptied : (h : Net) (r : Result Unit Refusal) → told ≡ Ok tt → is_err r ≡ true → r ≡ filing (register_of g) g.m (length d)
      → h ≡ vacated (with_counts g 0 0) → c ≡ if_granted r (directory_of (length d) (register_of g) g.m) (none d)
      → out (told_change r) (filed h c) ≡ filled_by d (out (told_change told) g)
  unfolding settled_filed vacated vacant_nodes vacant_edges
  rows-emptied h (Err why) z t p e q = rw (z, ← p, e, q)
  rows-emptied h (Ok u) z t p e q = cc

-- the load is the one without a directory, and what comes of it
pub load_filled : (f : Filed) (bytes : List ℕ) (p : Out Unit Net) (o : Out Unit Filed) → p ≡ image_read f.net bytes → o ≡ filled_by f.directory p
    → o ≡ image_read_filed f bytes
unfolding image_read_filed
load_filled f bytes p o z q = rw (← z) q

-- the tables that a served read leaves hold their rows
pub read_fits : (g h : Net) (bytes : List ℕ) (told : Result Unit Refusal) → out (told_change told) h ≡ image_read g bytes → told ≡ Ok tt → fits h ≡ true
read_fits g h bytes told p t =
    let q : out (done tt) h ≡ image_read g bytes = rw t at p in
    let r = read_says g bytes (sym (ap (λ (o : Out Unit Net). o.answer.number) q)) in
    let z = ap (λ (o : Out Unit Net). o.after) (q ∙ read_is g bytes r) in
    subst (λ t. fits t ≡ true) (sym z) (loaded-fits g bytes (nodes_in bytes) (edges_in bytes) r.lent r.n_within r.m_within)
