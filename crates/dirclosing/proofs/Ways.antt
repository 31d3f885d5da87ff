-- The ways in which a node's removal with a directory ends: what the check decides, `all_accepted`; past it the two lists' edges,
-- `short_so`, `room_so`; and what is left, by the number told, `refused_so`, `ready_so`, `taken_so`.
use Prim.Native.Nat.{ℕ, ◌≤◌, ◌<◌}
use mathlib.Core.Path.{◌≡◌, refl, sym, ap, ◌∙◌}
use mathlib.Core.Logic.{◌⊎◌, inl, inr, ⊎_elim}
use mathlib.Core.Bool.{Bool, true, false}
use mathlib.Core.List.{List}
use borrow.Author.Tests.{lt-ltb, ltb-true, leb-true}
use lib.Dec.{ltb, leb}
use lib.IntN.{pos}
use lib.ListN.{length}
use Prim.{Unit, tt}
use Rattle.std.specs.Prelude.{Result, Ok, Err}
use Rattle.std.specs.Result.{is_err}
use Rattle.index.specs.declared.Refusal.{Refusal}
use Rattle.index.specs.declared.Refusal.TheVariants.{Tables, NoNode, Broken, Short}
use Rattle.index.specs.Refusals.{refusal_no}
use Rattle.index.proofs.Laws.{not_zero}
use Rattle.tables.specs.Net.{Net, fits}
use Rattle.tables.specs.Answers.{out, refused}
use Rattle.tables.proofs.Laws.{tested}
use Rattle.lists.specs.declared.Item.TheVariants.{Weight}
use Rattle.lists.specs.Walk.{around}
use Rattle.sound.specs.Sound.{lists}
use Rattle.sound.specs.Check.{Checked, accepted, is_sound}
use Rattle.sound.proofs.Exactly.{small, sound_accepted}
use Rattle.stripping.specs.Heads.{stripped}
use Rattle.closing.specs.declared.RemovedNode.{RemovedNode}
use Rattle.closing.specs.Closing.{Closed, told_node_removed, closed, closed_if_room, remove_node}
use Rattle.closing.specs.Parts.{Closable}
use Rattle.closing.proofs.Closes.{enough, too_short, long_enough}
use Rattle.directory.specs.Directory.{Filed, filed, register_of, directory_of}
use Rattle.directory.proofs.Laws.{right_is}
use Rattle.dirsound.specs.Check.{checked_filed, is_sound_filed}
use Rattle.dirrows.specs.Parts.{claim_no}
use Rattle.dirclosing.specs.Closing.{ClosedFiled, refiled, remove_node_filed}
use Rattle.dirclosing.specs.Parts.{ReadyFiled, ClosesFiled}
use Rattle.dirclosing.proofs.Kept.{sound_so}

-- what the check's answer says of the test for 6
pub all_accepted : (f : Filed) (v : Checked) → v ≡ checked_filed f → is_err v ≡ false → is_sound_filed f ≡ true
all_accepted f (Ok rows) p q = ap accepted (sym p)
all_accepted f (Err fault) p q = cc

-- an accepted network is sound
pub closable_so : (f : Filed) (a : ℕ) → is_sound_filed f ≡ true → a < f.net.n → Closable f.net a
closable_so f a s l =
    let S = sound_so f s in
    record { fit = S.0; lists = lists f.net; sound = S.1; node = l }

-- as the code has tested it
pub closable_told : (f : Filed) {a : ℕ} {v : Checked} {b : Bool} → v ≡ checked_filed f → b ≡ is_err v → b ≡ false → a < f.net.n → Closable f.net a
closable_told f {a} {v} p e q l = closable_so f a (all_accepted f v p (sym e ∙ q)) l

module _ (f : Filed) (a : ℕ) (I : List ℕ) where
  abbrev asked : ClosedFiled
  asked = remove_node_filed f a I

  abbrev cells : ℕ
  cells = length f.directory

  abbrev around_a : ℕ
  around_a = length (around f.net Weight a)

  -- the same told
  pub by_number : (x : ClosedFiled) → x ≡ asked → x.answer.number ≡ asked.answer.number
  by_number x p = ap (λ (o : ClosedFiled). o.answer.number) p

  -- past the tests the call is that of the network without a directory, which has only its table left to ask for
  module _ (s : is_sound_filed f ≡ true) (l : a < f.net.n) where
    past : (o : Closed) → o ≡ closed_if_room f.net a I → refiled cells o ≡ asked
    unfolding remove_node_filed remove_node
    past o p =
        let c = closable_so f a s l in
        rw (c.fit, lt-ltb a f.net.n l, s, ap accepted (sound_accepted f.net c.lists c.fit c.sound)) (ap (refiled cells) p)

    pub short_so : (count : ℕ) → count ≡ around_a → length I < count → 7 ≡ asked.answer.number
    short_so count c h = by_number _ (past _ (too_short f.net a (closable_so f a s l) I count c h))

    pub room_so : (count : ℕ) → count ≡ around_a → count ≤ length I → 0 ≡ asked.answer.number
    room_so count c h = by_number _ (past _ (long_enough f.net a (closable_so f a s l) I count _ c h refl))

  -- it is refused, and all is as it was; or it is served, and was ready
  ends : ((why : Refusal) × (out (refused why (pos 0, 0, 0)) (f, I) ≡ asked))
      ⊎ (ReadyFiled f a (length I) × (refiled cells (closed f.net a I (stripped f.net a)) ≡ asked))
  unfolding remove_node_filed remove_node closed_if_room
  ends =
      let g = f.net in
      let P : ClosedFiled → Type 0 =
      λ o. ((why : Refusal) × (out (refused why (pos 0, 0, 0)) (f, I) ≡ o)) ⊎ (ReadyFiled f a (length I) × (refiled cells (closed g a I (stripped g a)) ≡ o)) in
      let Q : Closed → Type 0 = λ o. P (refiled cells o) in
      tested P (fits g) _ _ (inl (Tables, refl)) (λ t.
      tested P (ltb a g.n) _ _ (inl (NoNode, refl)) (λ l.
      tested P (is_sound_filed f) _ _ (inl (Broken, refl)) (λ s.
      let R = (sound_so f s).2 in
      let C = closable_so f a s (ltb-true a g.n l) in
      let still : (why : Refusal) → Q (out (refused why (pos 0, 0, 0)) (g, I)) =
      λ why. inl (why, ap (λ d. out (refused why (pos 0, 0, 0)) (filed g d, I)) (right_is (register_of g) g.m f.directory R (small g t))) in
      tested Q (fits g) _ _ (still Tables) (λ _.
      tested Q (ltb a g.n) _ _ (still NoNode) (λ _.
      tested Q (is_sound g) _ _ (still Broken) (λ _.
      tested Q (leb around_a (length I)) _ _ (still Short) (λ r.
      inr (record { ready = record { closable = C; room = enough g a C around_a (length I) refl (leb-true around_a (length I) r) }; right = R }, refl))))))))

  -- by what `removable` told
  module _ (c : Result Unit Refusal) (told : claim_no c ≡ asked.answer.number) where
    pub refused_so : (why : Refusal) → c ≡ Err why → out (refused why (pos 0, 0, 0)) (f, I) ≡ asked
    refused_so why q =
        let z : refusal_no why ≡ asked.answer.number = sym (ap claim_no q) ∙ told in
        ⊎_elim
        (λ x. ap (λ n. out (record { number = n; values = (pos 0, 0, 0) }) (f, I)) (z ∙ sym (by_number _ x.1)) ∙ x.1)
        (λ x. absurd (not_zero why (z ∙ sym (by_number _ x.1))))
        ends

    module _ (free : c ≡ Ok tt) where
      served : ReadyFiled f a (length I) × (refiled cells (closed f.net a I (stripped f.net a)) ≡ asked)
      served =
          let z : 0 ≡ asked.answer.number = sym (ap claim_no free) ∙ told in
          ⊎_elim (λ x. absurd (not_zero x.0 (by_number _ x.1 ∙ sym z))) (λ x. x) ends

      pub ready_so : ReadyFiled f a (length I)
      ready_so = served.0

      pub taken_so : (r : Result RemovedNode Refusal) (h : Net) (J d : List ℕ) → ClosesFiled cells r h J d (closed f.net a I (stripped f.net a))
          → out (told_node_removed r) (filed h d, J) ≡ asked
      taken_so r h J d K = refiled_so r h J d _ K.closes K.directory_is ∙ served.1
        where
          refiled_so : (r : Result RemovedNode Refusal) (h : Net) (J d : List ℕ) (o : Closed) → out (told_node_removed r) (h, J) ≡ o
              → d ≡ directory_of cells (register_of h) h.m → out (told_node_removed r) (filed h d, J) ≡ refiled cells o
          refiled_so r h J d o p q = rw (← p, q)
