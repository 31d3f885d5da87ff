-- A load with a directory: how it ends, `load_ends`; a served one leaves a right directory, `load_right`; a refused one what `load_left_lem` says;
-- when 12 and 11 are told, `load_tells`, and what is else, `load_as`; its directory keeps its length, `load_length`.
-- An image is written as without a directory where that is right, `write_as`, `write_served`; else it is refused 6, `write_wrong`.
use Prim.{Unit, tt}
use Prim.Native.Nat.{ℕ, ◌<◌}
use mathlib.Core.Path.{◌≡◌, refl, sym, ap, ◌∙◌}
use mathlib.Core.Logic.{inl, inr}
use mathlib.Core.Bool.{Bool, true, false, cond, ◌&&◌, ◌||◌}
use mathlib.Core.List.{List}
use native.Mathlib.Decide.{ℕ_discrete}
use native.Mathlib.Omega.{arith}
use borrow.Author.Tests.{eq-eqb, ne_eqb, leb-true}
use lib.Dec.{eqb, leb}
use lib.ListN.{length, length-replicate}
use Rattle.std.specs.Prelude.{Result, Ok, Err}
use Rattle.index.specs.declared.Refusal.{Refusal}
use Rattle.index.specs.declared.Refusal.TheVariants.{Tables, Full, Broken, NotImage, Version, Taken, Beyond}
use Rattle.index.specs.Index.{END}
use Rattle.index.specs.Refusals.{refusal_no}
use Rattle.index.proofs.Laws.{not_zero}
use Rattle.tables.specs.Net.{Net, fits}
use Rattle.tables.specs.Answers.{Out, out, refused, unless}
use Rattle.tables.proofs.Laws.{tested, both}
use Rattle.sound.specs.Check.{is_sound}
use Rattle.sound.proofs.Exactly.{small}
use Rattle.layout.specs.Layout.{version, head_bytes, image_length, marked, version_in, nodes_in, edges_in}
use Rattle.imagerows.specs.Image.{loaded}
use Rattle.imagerows.proofs.Loads.{loaded-fits}
use Rattle.loading.specs.Loading.{vacated, settled, read_one}
use Rattle.loading.proofs.Vacated.{loaded-vacated}
use Rattle.image.specs.Calls.{image_write, image_read}
use Rattle.image.proofs.Copies.{is_sound-says}
use Rattle.directory.specs.Directory.{none, Filed, filed, register_of, RightFor, is_right_for}
use Rattle.directory.proofs.Every.{right_says, right_so}
use Rattle.directory.proofs.Laws.{directory_length}
use Rattle.dirsound.specs.Check.{Follows}
use Rattle.dirrows.specs.Parts.{claim_no}
use Rattle.dirimage.specs.Loading.{filing}
use Rattle.dirimage.specs.Calls.{kept, settled_filed, filled_by, image_read_filed, image_write_filed}
use Rattle.dirimage.specs.Load.{load_left, LoadEnds, stays, goes, LoadTells}
use Rattle.dirimage.proofs.Filing.{FilingEnds, beyond, taken, free, filing-ends, filing-beyond, filing-taken, filing-number, filed-right}

-- rows h that were loaded into the tables of g
settled-ends : (g h : Net) (d : List ℕ) → fits h ≡ true → is_sound h ≡ true → vacated h ≡ vacated g → LoadEnds (filed g d) (settled_filed h d)
unfolding settled_filed
settled-ends g h d t s v = go (filing (register_of h) h.m (length d)) refl (filing-ends (register_of h) h.m (length d))
  where
    go : (r : Result Unit Refusal) → filing (register_of h) h.m (length d) ≡ r → FilingEnds (register_of h) h.m (length d) r → LoadEnds (filed g d) (kept h d r)
    go r z (beyond p b) = rw p (goes Beyond (inr (inr (inr (inr (inr (inl refl)))))) (ap (λ k. out (refused Beyond tt) (filed k (none d))) v))
    go r z (taken p a b) =
        rw p (goes Taken (inr (inr (inr (inr (inr (inr (inl refl))))))) (ap (λ k. out (refused Taken tt) (filed k (none d))) v))
    go r z (free p a b) =
        rw p
        (stays refl (record { sound = (t, is_sound-says h s, filed-right (register_of h) h.m (length d) (small h t) (z ∙ p)); directory_is = refl }))

pub load_ends : (f : Filed) (bytes : List ℕ) → LoadEnds f (image_read_filed f bytes)
unfolding image_read_filed image_read read_one settled
load_ends f bytes =
    let g = f.net in
    let d = f.directory in
    let n = nodes_in bytes in
    let m = edges_in bytes in
    let h = loaded g bytes n m in
    let P : Out Unit Net → Type 0 = λ o. LoadEnds f (filled_by d o) in
    let past : fits g ≡ true → (leb n (length g.weights) && leb m (length g.registers)) ≡ true → P (settled h) =
    λ t r.
    (let w = both (leb n (length g.weights)) (leb m (length g.registers)) r in
    let hn = leb-true _ _ w.0 in
    let hm = leb-true _ _ w.1 in
    let v = loaded-vacated g bytes n m t hn hm in
    tested P (is_sound h) _ _
    (goes Broken (inr (inr (inr (inr (inl refl))))) (ap (λ k. out (refused Broken tt) (filed k (none d))) v))
    (λ s. settled-ends g h d (loaded-fits g bytes n m t hn hm) s v)) in
    tested P (fits g) _ _ (goes Tables (inl refl) refl) (λ t.
    tested P (leb head_bytes (length bytes) && marked bytes) _ _ (goes NotImage (inr (inl refl)) refl) (λ k.
    tested P (eqb (version_in bytes) version) _ _ (goes Version (inr (inr (inl refl))) refl) (λ v.
    tested P (leb n (length g.weights) && leb m (length g.registers)) _ _ (goes Full (inr (inr (inr (inl refl)))) refl) (λ r.
    tested P (eqb (length bytes) (image_length n m)) _ _ (goes NotImage (inr (inl refl)) refl) (λ l. past t r)))))

-- by the number that is told
module _ (f : Filed) where
  ends_served : (o : Out Unit Filed) → LoadEnds f o → o.answer.number ≡ 0 → Follows f o.after
  ends_served o (stays a s) z = s
  ends_served o (goes why p q) z = absurd (not_zero why (sym (ap (λ (o : Out Unit Filed). o.answer.number) q) ∙ z))

  ends_left : (o : Out Unit Filed) → LoadEnds f o → (o.answer.number ≡ 0 → ⊥) → o.after ≡ load_left f o.answer.number
  ends_left o (stays a s) n = absurd (n (ap (λ t. t.number) a))
  ends_left o (goes why p q) n = rw q

  left-length : (number : ℕ) → length (load_left f number).directory ≡ length f.directory
  left-length number = go (eqb number 6 || eqb number 12 || eqb number 11)
    where
      go : (b : Bool) → length (cond b (filed (vacated f.net) (none f.directory)) f).directory ≡ length f.directory
      go true = length-replicate (length f.directory) END
      go false = refl

  ends_length : (o : Out Unit Filed) → LoadEnds f o → length o.after.directory ≡ length f.directory
  ends_length o (stays a s) = ap length s.directory_is ∙ directory_length (length f.directory) (register_of o.after.net) o.after.net.m
  ends_length o (goes why p q) = ap (λ (o : Out Unit Filed). length o.after.directory) q ∙ left-length (refusal_no why)

  module _ (bytes : List ℕ) where
    pub load_served : (image_read_filed f bytes).answer.number ≡ 0 → Follows f (image_read_filed f bytes).after
    load_served = ends_served (image_read_filed f bytes) (load_ends f bytes)

    pub load_right : (image_read_filed f bytes).answer.number ≡ 0 → RightFor (image_read_filed f bytes).after
    load_right z = (load_served z).sound.2

    pub load_left_lem : ((image_read_filed f bytes).answer.number ≡ 0 → ⊥) → (image_read_filed f bytes).after ≡ load_left f (image_read_filed f bytes).answer.number
    load_left_lem = ends_left (image_read_filed f bytes) (load_ends f bytes)

    pub load_length : length (image_read_filed f bytes).after.directory ≡ length f.directory
    load_length = ends_length (image_read_filed f bytes) (load_ends f bytes)

-- a load without a directory knows no 11 and no 12
read_below : (g : Net) (bytes : List ℕ) → (image_read g bytes).answer.number < 10
unfolding image_read read_one settled
read_below g bytes =
    let P : Out Unit Net → Type 0 = λ o. o.answer.number < 10 in
    tested P (fits g) _ _ (omega arith) (λ t.
    tested P (leb head_bytes (length bytes) && marked bytes) _ _ (omega arith) (λ k.
    tested P (eqb (version_in bytes) version) _ _ (omega arith) (λ v.
    tested P (leb (nodes_in bytes) (length g.weights) && leb (edges_in bytes) (length g.registers)) _ _ (omega arith) (λ r.
    tested P (eqb (length bytes) (image_length (nodes_in bytes) (edges_in bytes))) _ _ (omega arith) (λ l.
    tested P (is_sound (loaded g bytes (nodes_in bytes) (edges_in bytes))) _ _ (omega arith) (λ s. omega arith))))))

kept-number : (g : Net) (d : List ℕ) (r : Result Unit Refusal) → (kept g d r).answer.number ≡ claim_no r
kept-number g d (Ok u) = refl
kept-number g d (Err why) = refl

module _ (f : Filed) (bytes : List ℕ) where
  abbrev read : Out Unit Net
  read = image_read f.net bytes

  abbrev claim : Result Unit Refusal
  claim = filing (register_of read.after) read.after.m (length f.directory)

  -- rows that it has brought stay where they can be filed
  pub load_brought : read.answer.number ≡ 0 → image_read_filed f bytes ≡ kept read.after f.directory claim
  unfolding image_read_filed settled_filed
  load_brought z = rw (eq-eqb read.answer.number 0 z)

  pub brought : read.answer.number ≡ 0 → (image_read_filed f bytes).answer.number ≡ claim_no claim
  brought z = ap (λ (o : Out Unit Filed). o.answer.number) (load_brought z) ∙ kept-number read.after f.directory claim

  -- so 11 and 12 are told of rows that it has brought
  not_brought : (read.answer.number ≡ 0 → ⊥) → (image_read_filed f bytes).answer.number < 10
  unfolding image_read_filed
  not_brought n = rw (ne_eqb read.answer.number 0 n) (read_below f.net bytes)

  brings : 10 < (image_read_filed f bytes).answer.number → read.answer.number ≡ 0
  brings h =
      elim (ℕ_discrete read.answer.number 0) [
        | yes z ↦ z
        | no n ↦ absurd (omega (arith, not_brought n))
      ]

  pub load_tells : LoadTells f bytes
  load_tells =
      let number = register_of read.after in
      let cells = length f.directory in
      let is = filing-number number read.after.m cells in
      let b = filing-beyond number read.after.m cells in
      let t = filing-taken number read.after.m cells in
      record {
        beyond_told =
            (λ z. (let r = brings (omega (arith, z)) in (r, b.0 (is.0 (sym (brought r) ∙ z)))), λ z. brought z.0 ∙ ap claim_no (b.1 z.1));
        taken_told =
            (λ z. (let r = brings (omega (arith, z)) in (r, t.0 (is.1 (sym (brought r) ∙ z)))), λ z. brought z.0 ∙ ap claim_no (t.1 z.1));
      }

  -- a load that is told neither is the one without a directory
  pub load_as : ((image_read_filed f bytes).answer.number ≡ 12 → ⊥) → ((image_read_filed f bytes).answer.number ≡ 11 → ⊥)
      → ((image_read_filed f bytes).answer ≡ read.answer) × ((image_read_filed f bytes).after.net ≡ read.after)
  unfolding image_read_filed
  load_as n₁ n₂ =
      elim (ℕ_discrete read.answer.number 0) [
        | yes z ↦
            (let c = filing-ends (register_of read.after) read.after.m (length f.directory) in
            rw (load_brought z) (go claim (λ q. n₁ (brought z ∙ q)) (λ q. n₂ (brought z ∙ q)) c z))
        | no n ↦ rw (ne_eqb read.answer.number 0 n) (refl, refl)
      ]
    where
      go : (r : Result Unit Refusal) → (claim_no r ≡ 12 → ⊥) → (claim_no r ≡ 11 → ⊥) → FilingEnds (register_of read.after) read.after.m (length f.directory) r
          → read.answer.number ≡ 0 → ((kept read.after f.directory r).answer ≡ read.answer) × ((kept read.after f.directory r).after.net ≡ read.after)
      go r n₁ n₂ (beyond p b) z = absurd (n₁ (ap claim_no p))
      go r n₁ n₂ (taken p a b) z = absurd (n₂ (ap claim_no p))
      go r n₁ n₂ (free p a b) z = rw p (ap (λ k. record { number = k; values = tt }) (sym z), refl)

-- an image is written as without a directory where that is right; else 6
module _ (f : Filed) (bytes : List ℕ) where
  pub write_as : RightFor f → image_write_filed f bytes ≡ image_write f.net bytes
  unfolding image_write_filed image_write
  write_as R =
      let r = right_so (register_of f.net) f.net.m f.directory R in
      rw r (go (fits f.net) _ _)
    where
      go : {X : Type 0} (b : Bool) (x y : X) → unless b x (unless b x y) ≡ unless b x y
      go true x y = refl
      go false x y = refl

  pub write_wrong : fits f.net ≡ true → (RightFor f → ⊥) → image_write_filed f bytes ≡ out (refused Broken 0) bytes
  unfolding image_write_filed
  write_wrong t n = rw t (go (is_right_for f) refl)
    where
      go : (b : Bool) → is_right_for f ≡ b → unless b (out (refused Broken 0) bytes) (image_write f.net bytes) ≡ out (refused Broken 0) bytes
      go true z = absurd (n (right_says (register_of f.net) f.net.m f.directory z))
      go false z = refl

  write_right : (image_write_filed f bytes).answer.number ≡ 0 → RightFor f
  unfolding image_write_filed
  write_right z = go (fits f.net) (is_right_for f) refl z
    where
      go : (a b : Bool) → is_right_for f ≡ b
          → (unless a (out (refused Tables 0) bytes) (unless b (out (refused Broken 0) bytes) (image_write f.net bytes))).answer.number ≡ 0 → RightFor f
      go true true q z = right_says (register_of f.net) f.net.m f.directory q
      go true false q z = absurd (not_zero Broken z)
      go false b q z = absurd (not_zero Tables z)

  pub write_served : (image_write_filed f bytes).answer.number ≡ 0 → RightFor f × (image_write_filed f bytes ≡ image_write f.net bytes)
  write_served z = let R = write_right z in (R, write_as R)
