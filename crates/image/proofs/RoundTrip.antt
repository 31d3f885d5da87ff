-- An image written and read back gives the same rows: `written_read`. A file read and written back gives the same bytes: `read_written`.
-- Nothing but an image is read: `only_images`, `read_image`. What a read leaves: `read_past`, `broken-vacated`, `refused_kept`, `vacated-node`,
-- `vacated-edge`. A write is refused 6 exactly where the network is not sound: `unsound_6`, `six_unsound`.
use Prim.{Unit, tt}
use Prim.Native.Nat.{ℕ, ◌≤◌, ◌<◌}
use mathlib.Core.Path.{◌≡◌, refl, sym, ap, subst, ◌∙◌}
use mathlib.Core.Bool.{Bool, true, false, ◌&&◌}
use mathlib.Core.List.{List}
use native.Mathlib.Omega.{arith}
use borrow.Author.Tests.{leb-true}
use lib.Dec.{leb, eqb}
use lib.ListN.{length, take, drop}
use lib.Seq.{take-append_seam}
use Rattle.index.specs.declared.Refusal.{Refusal}
use Rattle.index.specs.declared.Refusal.TheVariants.{Tables, Full, Broken, NotImage, Version}
use Rattle.index.specs.Refusals.{refusal_no}
use Rattle.tables.specs.Net.{Net, fits}
use Rattle.tables.specs.Answers.{Out, out, done, refused, unless, onto}
use Rattle.tables.specs.Rows.{node_row, edge_row, vacant_node, vacant_edge, vacant_nodes, vacant_edges}
use Rattle.tables.proofs.Laws.{both, fit-says}
use Rattle.tables.proofs.Vacant.{vacant_node_lem, vacant_edge_lem}
use Rattle.sound.specs.Sound.{Sound, lists}
use Rattle.layout.specs.Numbers.{Bytes}
use Rattle.layout.specs.Layout.{mark, version, head_bytes, image_length, node_bytes, edge_bytes, marked, version_in, nodes_in, edges_in}
use Rattle.layout.proofs.Words.{node-back, edge-back}
use Rattle.imagerows.specs.Image.{image_of, node_place, edge_place, loaded}
use Rattle.image.specs.RoundTrip.{Cells, SameRows}
use Rattle.sound.specs.Check.{is_sound}
use Rattle.loading.specs.Loading.{vacated, settled, read_one}
use Rattle.image.specs.Calls.{image_write, image_read}
use Rattle.imagerows.proofs.Spans.{mark-again, image_again}
use Rattle.imagerows.proofs.Loads.{loaded-columns, loaded-fits, loaded-node, loaded-edge, node-past, edge-past}
use Rattle.loading.proofs.Vacated.{loaded-vacated}
use Rattle.image.proofs.Copies.{sound_is, is_sound-says, read_says, read_is, write_says, write_is, copy_same, copy_read}

-- what was written, read into other tables
abbrev pub carried : Net → List ℕ → Net → Out Unit Net
carried g table t = image_read t (take (image_write g table).answer.values (image_write g table).after)

pub written_read : (g t : Net) (table : List ℕ) → Cells g → (image_write g table).answer.number ≡ 0
    → fits t ≡ true → g.n ≤ length t.weights → g.m ≤ length t.registers
    → ((carried g table t).answer ≡ done tt) × SameRows g (carried g table t).after
written_read g t table c h f hn hm =
    let w = write_says g table h in
    let e : carried g table t ≡ image_read t (image_of g) =
    ap (λ (o : Out ℕ (List ℕ)). image_read t (take o.answer.values o.after)) (write_is g table w)
    ∙ ap (image_read t) (take-append_seam (image_of g) (drop (length (image_of g)) table)) in
    let r = e ∙ copy_read g t c w.lent w.sound f hn hm in (
      ap (λ (o : Out Unit Net). o.answer) r,
      subst (λ (o : Out Unit Net). SameRows g o.after) (sym r) (copy_same g t c w.lent w.sound f hn hm),
    )

-- the bytes that are read are the image of what they give
pub read_image : (t : Net) (bytes : List ℕ) → Bytes bytes → (image_read t bytes).answer.number ≡ 0 → image_of (image_read t bytes).after ≡ bytes
read_image t bytes b h =
    let r = read_says t bytes h in
    let n = nodes_in bytes in
    let m = edges_in bytes in
    let l = loaded-columns t bytes n m in
    let k = r.length-is in
    let n_is : (loaded t bytes n m).n ≡ n = ap (λ g. g.n) l in
    let m_is : (loaded t bytes n m).m ≡ m = ap (λ g. g.m) l in
    ap (λ (o : Out Unit Net). image_of o.after) (read_is t bytes r)
    ∙ image_again bytes (loaded t bytes n m) b r.mark-is r.version-is n_is m_is (rw (n_is, m_is) k)
    (λ a i.
    let h : a < n = rw n_is at i in
    ap node_bytes (loaded-node t bytes n m r.lent r.n_within r.m_within a h) ∙ node-back bytes b (node_place a) (omega arith))
    (λ e i.
    let h : e < m = rw m_is at i in
    ap edge_bytes (loaded-edge t bytes n m r.lent r.n_within r.m_within e h)
    ∙ edge-back bytes b (edge_place n e) (omega arith)
    ∙ ap (λ x. take 20 (drop (edge_place x e) bytes)) (sym n_is))

pub read_written : (t : Net) (bytes table : List ℕ) → Bytes bytes → (image_read t bytes).answer.number ≡ 0 → length bytes ≤ length table
    → image_write (image_read t bytes).after table ≡ out (done (length bytes)) (onto bytes table)
read_written t bytes table b h k =
    let r = read_says t bytes h in
    let e = read_image t bytes b h in
    let o : (image_read t bytes).after ≡ loaded t bytes (nodes_in bytes) (edges_in bytes) = ap (λ (o : Out Unit Net). o.after) (read_is t bytes r) in
    write_is (image_read t bytes).after table
    (record {
      lent = ap fits o ∙ loaded-fits t bytes (nodes_in bytes) (edges_in bytes) r.lent r.n_within r.m_within;
      sound = ap is_sound o ∙ r.sound;
      room = rw e k;
    })
    ∙ rw e

-- mark, version and length of whatever is read
pub only_images : (t : Net) (bytes : List ℕ) → (image_read t bytes).answer.number ≡ 0
    → (take 3 bytes ≡ mark) × (version_in bytes ≡ version) × (length bytes ≡ image_length (nodes_in bytes) (edges_in bytes))
only_images t bytes h =
    let r = read_says t bytes h in
    (sym (mark-again bytes r.long r.mark-is), r.version-is, r.length-is)

-- a served read leaves every row past the counts vacant
pub read_past : (t : Net) (bytes : List ℕ) → (image_read t bytes).answer.number ≡ 0
    → ((a : ℕ) → (image_read t bytes).after.n ≤ a → a < length t.weights → node_row (image_read t bytes).after a ≡ vacant_node)
    × ((e : ℕ) → (image_read t bytes).after.m ≤ e → e < length t.registers → edge_row (image_read t bytes).after e ≡ vacant_edge)
read_past t bytes h =
    let r = read_says t bytes h in
    let n = nodes_in bytes in
    let m = edges_in bytes in
    let l = loaded-columns t bytes n m in
    let o : (image_read t bytes).after ≡ loaded t bytes n m = ap (λ (o : Out Unit Net). o.after) (read_is t bytes r) in
    let n_is : (image_read t bytes).after.n ≡ n = ap (λ g. g.n) (o ∙ l) in
    let m_is : (image_read t bytes).after.m ≡ m = ap (λ g. g.m) (o ∙ l) in (
      λ a i k. ap (λ g. node_row g a) o ∙ node-past t bytes n m r.lent r.n_within r.m_within a (omega arith) k,
      λ e i k. ap (λ g. edge_row g e) o ∙ edge-past t bytes n m r.lent r.n_within r.m_within e (omega arith) k,
    )

-- what holds of a call's answer, refused or not
either : {A S : Type 0} (P : Out A S → Type 0) (b : Bool) (refusal rest : Out A S) → (b ≡ false → P refusal) → (b ≡ true → P rest) → P (unless b refusal rest)
either P true refusal rest p q = q refl
either P false refusal rest p q = p refl

-- a read refused 6 leaves all that was lent empty; any other refusal leaves it as it was
abbrev Leaves : Net → Out Unit Net → Type 0
Leaves t o = (o.answer.number ≡ 6 → o.after ≡ vacated t) × ((o.answer.number ≡ 0 → ⊥) → (o.answer.number ≡ 6 → ⊥) → o.after ≡ t)

kept : (t : Net) (why : Refusal) → (refusal_no why ≡ 6 → ⊥) → Leaves t (out (refused why tt) t)
kept t why n = (λ h. absurd (n h), λ h k. refl)

read_leaves : (t : Net) (bytes : List ℕ) → Leaves t (image_read t bytes)
unfolding image_read read_one settled
read_leaves t bytes =
    let n = nodes_in bytes in
    let m = edges_in bytes in
    either (Leaves t) (fits t) _ _ (λ _. kept t Tables (λ h. omega arith)) (λ f.
    either (Leaves t) (leb head_bytes (length bytes) && marked bytes) _ _ (λ _. kept t NotImage (λ h. omega arith)) (λ _.
    either (Leaves t) (eqb (version_in bytes) version) _ _ (λ _. kept t Version (λ h. omega arith)) (λ _.
    either (Leaves t) (leb n (length t.weights) && leb m (length t.registers)) _ _ (λ _. kept t Full (λ h. omega arith)) (λ w.
    either (Leaves t) (eqb (length bytes) (image_length n m)) _ _ (λ _. kept t NotImage (λ h. omega arith)) (λ _.
    either (Leaves t) (is_sound (loaded t bytes n m)) _ _
    (λ _.
    let y = both (leb n (length t.weights)) (leb m (length t.registers)) w in
    (λ h. loaded-vacated t bytes n m f (leb-true _ _ y.0) (leb-true _ _ y.1), λ h k. absurd (k refl)))
    (λ _. (λ (h : ◌≡◌ {A = ℕ} 0 6). absurd (omega arith), λ h k. absurd (h refl))))))))

pub broken-vacated : (t : Net) (bytes : List ℕ) → (image_read t bytes).answer.number ≡ 6 → (image_read t bytes).after ≡ vacated t
broken-vacated t bytes = (read_leaves t bytes).0

pub refused_kept : (t : Net) (bytes : List ℕ) → ((image_read t bytes).answer.number ≡ 0 → ⊥) → ((image_read t bytes).answer.number ≡ 6 → ⊥)
    → (image_read t bytes).after ≡ t
refused_kept t bytes = (read_leaves t bytes).1

-- and empty is: no row in use, every row vacant
pub vacated-node : (t : Net) (a : ℕ) → fits t ≡ true → a < length t.weights → node_row (vacated t) a ≡ vacant_node
unfolding vacated vacant_edges
vacated-node t a f h =
    let l = fit-says (length t.weights) (length t.heads) (length t.registers) (length t.links) (length t.ends) t.n t.m f in
    vacant_node_lem t 0 (length t.weights) (record { ordered = omega arith; weights_hold = omega arith; heads_hold = omega arith }) a (omega arith) h

pub vacated-edge : (t : Net) (e : ℕ) → fits t ≡ true → e < length t.registers → edge_row (vacated t) e ≡ vacant_edge
unfolding vacated vacant_nodes
vacated-edge t e f h =
    let l = fit-says (length t.weights) (length t.heads) (length t.registers) (length t.links) (length t.ends) t.n t.m f in
    vacant_edge_lem (vacant_nodes t 0 (length t.weights)) 0 (length t.registers)
    (record { ordered = omega arith; registers_hold = omega arith; links_hold = omega arith; ends_hold = omega arith }) e (omega arith) h

not_so : (b : Bool) → (b ≡ true → ⊥) → b ≡ false
not_so true h = absurd (h refl)
not_so false h = refl

-- a write is refused 6 exactly where the network is not sound
pub unsound_6 : (g : Net) (table : List ℕ) → fits g ≡ true → ((ls : ℕ → ℕ → List ℕ) → Sound g ls → ⊥) → image_write g table ≡ out (refused Broken 0) table
unfolding image_write
unsound_6 g table f h = rw (f, not_so (is_sound g) (λ s. h (lists g) (is_sound-says g s)))

pub six_unsound : (g : Net) (table : List ℕ) (ls : ℕ → ℕ → List ℕ) → Sound g ls → (image_write g table).answer.number ≡ 6 → ⊥
unfolding image_write
six_unsound g table ls S =
    either (λ (o : Out ℕ (List ℕ)). o.answer.number ≡ 6 → ⊥) (fits g) _ _ (λ _ h. omega arith) (λ f.
    either (λ (o : Out ℕ (List ℕ)). o.answer.number ≡ 6 → ⊥) (is_sound g) _ _
    (λ s h. let z : ◌≡◌ {A = ℕ} 0 1 = cc (sound_is g ls f S) in omega arith)
    (λ s.
    either (λ (o : Out ℕ (List ℕ)). o.answer.number ≡ 6 → ⊥) (leb (length (image_of g)) (length table)) _ _ (λ _ h. omega arith) (λ _ h. omega arith)))
