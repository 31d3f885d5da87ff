-- A network with its directory, written and read back: the same rows and the same directory, `written_read_filed`; a file read and written back: the same bytes,
-- `read_written_filed`.
use Prim.{Unit, tt}
use Prim.Native.Nat.{ℕ, ◌≤◌, ◌<◌}
use mathlib.Core.Path.{◌≡◌, sym, ap, ◌∙◌, subst}
use mathlib.Core.Bool.{true}
use mathlib.Core.List.{List}
use native.Mathlib.Omega.{arith}
use lib.ListN.{length, take}
use Rattle.index.specs.Index.{END}
use Rattle.tables.specs.Net.{Net, fits}
use Rattle.tables.specs.Answers.{Out, out, done, onto}
use Rattle.layout.specs.Numbers.{Bytes}
use Rattle.sound.proofs.Exactly.{small}
use Rattle.image.specs.Calls.{image_write, image_read}
use Rattle.image.specs.RoundTrip.{Cells, SameRows}
use Rattle.image.proofs.Copies.{write_says}
use Rattle.image.proofs.RoundTrip.{written_read, read_written}
use Rattle.directory.specs.Directory.{Right, Filed, register_of, RightFor}
use Rattle.directory.proofs.Laws.{right_only}
use Rattle.dirrows.specs.Parts.{claim_no}
use Rattle.dirimage.specs.Calls.{image_read_filed, image_write_filed}
use Rattle.dirimage.proofs.Filing.{right_files}
use Rattle.dirimage.proofs.Load.{brought, load_as, load_right, load_length, write_as, write_served}

-- a directory is right for all rows that bear the same numbers
right_same : (number now : ℕ → ℕ) (m : ℕ) (d : List ℕ) → ((e : ℕ) → e < m → now e ≡ number e) → Right number m d → Right now m d
right_same number now m d same R =
    record { named = λ e h. rw (same e h) (R.named e h); borne = λ r n. (let b = R.borne r n in (b.0, same _ b.0 ∙ b.1)) }

-- the same rows bear the same numbers
rows_right : (f : Filed) (h : Net) → SameRows f.net h → RightFor f → Right (register_of h) h.m f.directory
rows_right f h s R =
    rw s.m_is (right_same (register_of f.net) (register_of h) f.net.m f.directory (λ e l. ap (λ r. r.weight) (s.edges_are e l)) R)

-- a load that is served is the one without a directory
served_as : (f : Filed) (bytes : List ℕ) → (image_read_filed f bytes).answer.number ≡ 0
    → ((image_read_filed f bytes).answer ≡ (image_read f.net bytes).answer) × ((image_read_filed f bytes).after.net ≡ (image_read f.net bytes).after)
served_as f bytes z = load_as f bytes (λ q. omega arith) (λ q. omega arith)

-- rows read back beside a directory that is as long: it becomes what it was
module _ (f t : Filed) (bytes : List ℕ) (fit-f : fits f.net ≡ true) (R : RightFor f) (same : length t.directory ≡ length f.directory) where
  read_back : (image_read t.net bytes).answer ≡ done tt → SameRows f.net (image_read t.net bytes).after
      → ((image_read_filed t bytes).answer ≡ done tt) × SameRows f.net (image_read_filed t bytes).after.net × ((image_read_filed t bytes).after.directory ≡ f.directory)
  read_back a s =
      let h = (image_read t.net bytes).after in
      let fewer : h.m ≤ END = rw s.m_is (small f.net fit-f) in
      let P = rows_right f h s R in
      let number : (image_read_filed t bytes).answer.number ≡ 0 =
      brought t bytes (ap (λ a. a.number) a) ∙ rw same (ap claim_no (right_files (register_of h) h.m f.directory fewer P)) in
      let is = served_as t bytes number in
      let d = (image_read_filed t bytes).after.directory in
      let Q : Right (register_of h) h.m d = subst (λ k. Right (register_of k) k.m d) is.1 (load_right t bytes number) in (
        is.0 ∙ a,
        subst (SameRows f.net) (sym is.1) s,
        right_only (register_of h) h.m d f.directory fewer (load_length t bytes ∙ same) Q P,
      )

-- what was written, read into other tables beside another directory
abbrev pub carried_filed : Filed → List ℕ → Filed → Out Unit Filed
carried_filed f table t = image_read_filed t (take (image_write_filed f table).answer.values (image_write_filed f table).after)

pub written_read_filed : (f t : Filed) (table : List ℕ) → Cells f.net → (image_write_filed f table).answer.number ≡ 0
    → fits t.net ≡ true → f.net.n ≤ length t.net.weights → f.net.m ≤ length t.net.registers → length t.directory ≡ length f.directory
    → ((carried_filed f table t).answer ≡ done tt) × SameRows f.net (carried_filed f table t).after.net × ((carried_filed f table t).after.directory ≡ f.directory)
written_read_filed f t table c z fit-t hn hm same =
    let w = write_served f table z in
    let k = rw w.1 at z in
    let b = written_read f.net t.net table c k fit-t hn hm in
    rw w.1 (read_back f t _ (write_says f.net table k).lent w.0 same b.0 b.1)

pub read_written_filed : (t : Filed) (bytes table : List ℕ) → Bytes bytes → (image_read_filed t bytes).answer.number ≡ 0 → length bytes ≤ length table
    → image_write_filed (image_read_filed t bytes).after table ≡ out (done (length bytes)) (onto bytes table)
read_written_filed t bytes table b z l =
    let is = served_as t bytes z in
    write_as (image_read_filed t bytes).after table (load_right t bytes z)
    ∙ ap (λ g. image_write g table) is.1
    ∙ read_written t.net bytes table b (sym (ap (λ a. a.number) is.0) ∙ z) l
