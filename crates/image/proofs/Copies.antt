-- An answer 0 of a read or a write, and the rows of an image read into tables with room.
use Prim.{tt}
use Prim.Native.Nat.{ℕ, ◌≤◌}
use mathlib.Core.Path.{◌≡◌, refl, ap, ◌∙◌}
use mathlib.Core.Bool.{Bool, true, false, ◌&&◌}
use mathlib.Core.List.{List}
use Rattle.std.specs.Prelude.{Ok, Err}
use native.Mathlib.Omega.{arith}
use borrow.Author.Tests.{leb-true, eqb-true, le-leb, eq-eqb}
use lib.Dec.{leb, eqb}
use lib.ListN.{length, get_or}
use Rattle.index.specs.declared.Refusal.{Refusal}
use Rattle.index.specs.declared.Refusal.TheVariants.{Tables, Full, Broken, Short, NotImage, Version}
use Rattle.index.proofs.Laws.{not_zero}
use Rattle.tables.specs.Net.{Net, fits, node_cell, edge_cell}
use Rattle.tables.specs.Answers.{Out, out, done, refused, unless, onto}
use Rattle.tables.specs.Rows.{node_row, edge_row}
use Rattle.tables.proofs.Laws.{both, fit-says}
use Rattle.sound.specs.Sound.{Sound, lists}
use Rattle.sound.specs.Check.{Checked, checked, accepted, is_sound}
use Rattle.sound.proofs.Exactly.{two, sound_accepted, accepted-sound}
use Rattle.sound.proofs.Kept.{Agree, in_use}
use Rattle.layout.specs.Layout.{version, head_bytes, image_length, marked, version_in, nodes_in, edges_in}
use Rattle.layout.proofs.Words.{node-read, edge-read}
use Rattle.imagerows.specs.Image.{image_of, node_place, edge_place, loaded}
use Rattle.image.specs.RoundTrip.{Cells, SameRows}
use Rattle.loading.specs.Loading.{vacated, settled, read_one}
use Rattle.image.specs.Calls.{image_write, image_read}
use Rattle.imagerows.proofs.Served.{image_length_lem}
use Rattle.imagerows.proofs.Spans.{image_marked, image_version, image_nodes, image_edges, node-stands, edge-stands}
use Rattle.imagerows.proofs.Loads.{loaded-columns, loaded-fits, loaded-node, loaded-edge}

-- the check accepts exactly the sound networks
accepted-is : (r : Checked) → accepted r ≡ true → (rows : ℕ) × (r ≡ Ok rows)
accepted-is (Ok rows) h = (rows, refl)
accepted-is (Err why) h = absurd (let z : ◌≡◌ {A = ℕ} 0 1 = cc in omega arith)

pub sound_is : (g : Net) (ls : ℕ → ℕ → List ℕ) → fits g ≡ true → Sound g ls → is_sound g ≡ true
sound_is g ls f S = ap accepted (sound_accepted g ls f S)

pub is_sound-says : (g : Net) → is_sound g ≡ true → Sound g (lists g)
is_sound-says g h = let a = accepted-is (checked g) h in (accepted-sound g a.0 a.1).1

-- what an answer 0 says of the tests before it
passed : {A S : Type 0} (b : Bool) (why : Refusal) (zeros : A) (s : S) (rest : Out A S) → (unless b (out (refused why zeros) s) rest).answer.number ≡ 0
    → (b ≡ true) × (rest.answer.number ≡ 0)
passed true why zeros s rest h = (refl, h)
passed false why zeros s rest h = absurd (not_zero why h)

-- a read that is served
pub record ReadServed (t : Net) (bytes : List ℕ) : Type 0 where
  pub lent : fits t ≡ true
  pub long : head_bytes ≤ length bytes
  pub mark-is : marked bytes ≡ true
  pub version-is : version_in bytes ≡ version
  pub n_within : nodes_in bytes ≤ length t.weights
  pub m_within : edges_in bytes ≤ length t.registers
  pub length-is : length bytes ≡ image_length (nodes_in bytes) (edges_in bytes)
  pub sound : is_sound (loaded t bytes (nodes_in bytes) (edges_in bytes)) ≡ true

pub read_says : (t : Net) (bytes : List ℕ) → (image_read t bytes).answer.number ≡ 0 → ReadServed t bytes
unfolding image_read read_one settled
read_says t bytes h =
    let n = nodes_in bytes in
    let m = edges_in bytes in
    let a = passed (fits t) Tables tt t _ h in
    let b = passed (leb head_bytes (length bytes) && marked bytes) NotImage tt t _ a.1 in
    let c = passed (eqb (version_in bytes) version) Version tt t _ b.1 in
    let d = passed (leb n (length t.weights) && leb m (length t.registers)) Full tt t _ c.1 in
    let e = passed (eqb (length bytes) (image_length n m)) NotImage tt t _ d.1 in
    let f = passed (is_sound (loaded t bytes n m)) Broken tt (vacated (loaded t bytes n m)) _ e.1 in
    let x = both (leb head_bytes (length bytes)) (marked bytes) b.0 in
    let y = both (leb n (length t.weights)) (leb m (length t.registers)) d.0 in
    record {
      lent = a.0;
      long = leb-true _ _ x.0;
      mark-is = x.1;
      version-is = eqb-true _ _ c.0;
      n_within = leb-true _ _ y.0;
      m_within = leb-true _ _ y.1;
      length-is = eqb-true _ _ e.0;
      sound = f.0;
    }

pub read_is : (t : Net) (bytes : List ℕ) → ReadServed t bytes → image_read t bytes ≡ out (done tt) (loaded t bytes (nodes_in bytes) (edges_in bytes))
unfolding image_read read_one settled
read_is t bytes r =
    rw (
      r.lent,
      le-leb _ _ r.long,
      r.mark-is,
      eq-eqb _ _ r.version-is,
      le-leb _ _ r.n_within,
      le-leb _ _ r.m_within,
      eq-eqb _ _ r.length-is,
      r.sound,
    )

-- a write that is served
pub record WriteServed (g : Net) (table : List ℕ) : Type 0 where
  pub lent : fits g ≡ true
  pub sound : is_sound g ≡ true
  pub room : length (image_of g) ≤ length table

pub write_says : (g : Net) (table : List ℕ) → (image_write g table).answer.number ≡ 0 → WriteServed g table
unfolding image_write
write_says g table h =
    let a = passed (fits g) Tables 0 table _ h in
    let b = passed (is_sound g) Broken 0 table _ a.1 in
    let c = passed (leb (length (image_of g)) (length table)) Short 0 table _ b.1 in
    record { lent = a.0; sound = b.0; room = leb-true _ _ c.0 }

pub write_is : (g : Net) (table : List ℕ) → WriteServed g table → image_write g table ≡ out (done (length (image_of g))) (onto (image_of g) table)
unfolding image_write
write_is g table w = rw (w.lent, w.sound, le-leb _ _ w.room)

-- the rows of a sound network, read from its image into tables with room
module _ (g t : Net) (c : Cells g) (fit-g : fits g ≡ true) (sound-g : is_sound g ≡ true) (fit-t : fits t ≡ true)
    (hn : g.n ≤ length t.weights) (hm : g.m ≤ length t.registers) where
  abbrev pub copy : Net
  copy = loaded t (image_of g) g.n g.m

  pub copy_same : SameRows g copy
  copy_same =
      let l = loaded-columns t (image_of g) g.n g.m in
      record {
        n_is = ap (λ h. h.n) l;
        m_is = ap (λ h. h.m) l;
        nodes_are =
            λ a h.
            let s = node-stands g a h in
            loaded-node t (image_of g) g.n g.m fit-t hn hm a h
            ∙ node-read (image_of g) (node_place a) (node_row g a) s.0
            (record { weight-fits = c.weights_fit a; outgoing_fits = c.heads_fit (node_cell a 0); incoming_fits = c.heads_fit (node_cell a 1) })
            s.1;
        edges_are =
            λ e h.
            let s = edge-stands g e h in
            loaded-edge t (image_of g) g.n g.m fit-t hn hm e h
            ∙ edge-read (image_of g) (edge_place g.n e) (edge_row g e) s.0
            (record {
              weight-fits = c.registers_fit e;
              outgoing_fits = c.links_fit (edge_cell e 0);
              incoming_fits = c.links_fit (edge_cell e 1);
              source_fits = c.ends_fit (edge_cell e 0);
              target_fits = c.ends_fit (edge_cell e 1);
            })
            s.1;
      }

  copy_agrees : Agree g copy
  copy_agrees =
      let s = copy_same in
      record {
        nodes = s.n_is;
        edges = s.m_is;
        heads = λ k a l h. two (λ k. get_or copy.heads (node_cell a k) 0 ≡ get_or g.heads (node_cell a k) 0)
            (ap (λ r. r.outgoing.0) (s.nodes_are a h)) (ap (λ r. r.incoming.0) (s.nodes_are a h)) k l;
        nexts = λ k e l h. two (λ k. get_or copy.links (edge_cell e k) 0 ≡ get_or g.links (edge_cell e k) 0)
            (ap (λ r. r.outgoing.0) (s.edges_are e h)) (ap (λ r. r.incoming.0) (s.edges_are e h)) k l;
        ends = λ k e l h. two (λ k. get_or copy.ends (edge_cell e k) 0 ≡ get_or g.ends (edge_cell e k) 0)
            (ap (λ r. r.source.0) (s.edges_are e h)) (ap (λ r. r.target.0) (s.edges_are e h)) k l;
      }

  pub copy_read : image_read t (image_of g) ≡ out (done tt) copy
  copy_read =
      let f = fit-says (length g.weights) (length g.heads) (length g.registers) (length g.links) (length g.ends) g.n g.m fit-g in
      let n_is : nodes_in (image_of g) ≡ g.n = image_nodes g (omega arith) in
      let m_is : edges_in (image_of g) ≡ g.m = image_edges g (omega arith) in
      let k = image_length_lem g in
      let s = sound_is copy (lists g) (loaded-fits t (image_of g) g.n g.m fit-t hn hm) (in_use g copy (lists g) fit-g copy_agrees (is_sound-says g sound-g)) in
      read_is t (image_of g)
      (record {
        lent = fit-t;
        long = omega arith;
        mark-is = image_marked g;
        version-is = image_version g;
        n_within = rw n_is hn;
        m_within = rw m_is hm;
        length-is = rw (n_is, m_is) k;
        sound = rw (n_is, m_is) s;
      })
      ∙ rw (n_is, m_is)
