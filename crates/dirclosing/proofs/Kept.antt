-- A node taken out of a network with a directory: a refusal changes nothing, `node_unchanged`; 6 is told exactly where the network is not sound or its
-- directory not right, `unsound_6_filed`, `six_unsound_filed`; the directory keeps its length, `node-length`. Of a sound network with a right directory,
-- whatever is answered: answer, network and table are those without a directory, `node_same`, and the directory is right afterwards, `node_kept`.
use Prim.Native.Nat.{ℕ, ◌≤◌, ◌<◌}
use mathlib.Core.Path.{◌≡◌, refl, sym, ap, ◌∙◌, subst}
use mathlib.Core.Bool.{true}
use mathlib.Core.List.{List}
use native.Mathlib.Decide.{dec_lt}
use native.Mathlib.Omega.{arith}
use borrow.Author.Tests.{lt-ltb, le-ltb, ltb-true}
use lib.Dec.{ltb, leb}
use lib.ListN.{length}
use Rattle.index.specs.Index.{END}
use Rattle.tables.specs.Net.{Net, fits}
use Rattle.tables.proofs.Laws.{tested}
use Rattle.lists.specs.declared.Item.TheVariants.{Weight}
use Rattle.lists.specs.Walk.{around}
use Rattle.std.specs.Prelude.{Ok, Err}
use Rattle.sound.specs.Sound.{Sound, lists}
use Rattle.sound.specs.Check.{Checked, accepted, is_sound}
use Rattle.sound.proofs.Exactly.{small}
use Rattle.stripping.specs.Heads.{stripped}
use Rattle.dropping.specs.Drop.{dropped}
use Rattle.closing.specs.Closing.{Closed, closed_if_room, remove_node}
use Rattle.closing.proofs.NodeOuts.{node-refused, six_unsound}
use Rattle.directory.specs.Directory.{Filed, filed, register_of, Right, RightFor, directory_of}
use Rattle.directory.proofs.Laws.{directory_length, right_is}
use Rattle.dirsound.specs.Check.{checked_filed, is_sound_filed, SoundFiled}
use Rattle.dirsound.proofs.Exactly.{right_accepted, accepted-right}
use Rattle.dirstripping.proofs.Kept.{Kept, strip-kept}
use Rattle.dirclosing.specs.Closing.{ClosedFiled, remove_node_filed}

pub node-length : (f : Filed) (a : ℕ) (I : List ℕ) → length (remove_node_filed f a I).after.0.directory ≡ length f.directory
unfolding remove_node_filed
node-length f a I =
    let P : ClosedFiled → Type 0 = λ o. length o.after.0.directory ≡ length f.directory in
    let h = (remove_node f.net a I).after.0 in
    tested P (fits f.net) _ _ refl (λ t.
    tested P (ltb a f.net.n) _ _ refl (λ l.
    tested P (is_sound_filed f) _ _ refl (λ s. directory_length (length f.directory) (register_of h) h.m)))

-- an accepted network is sound, and its directory right
pub sound_so : (f : Filed) → is_sound_filed f ≡ true → SoundFiled f
sound_so f c = let r = accepts (checked_filed f) c in (accepted-right f r.0 r.1).0
  where
    accepts : (r : Checked) → accepted r ≡ true → (rows : ℕ) × (r ≡ Ok rows)
    accepts (Ok rows) h = (rows, refl)
    accepts (Err fault) h = cc

-- a refusal changes nothing: a right directory is that of its rows
pub node_unchanged : (f : Filed) (a : ℕ) (I : List ℕ) → ((remove_node_filed f a I).answer.number ≡ 0 → ⊥) → (remove_node_filed f a I).after ≡ (f, I)
unfolding remove_node_filed
node_unchanged f a I =
    let P : ClosedFiled → Type 0 = λ o. (o.answer.number ≡ 0 → ⊥) → o.after ≡ (f, I) in
    let g = f.net in
    let cells = length f.directory in
    tested P (fits g) _ _ (λ n. refl) (λ t.
    tested P (ltb a g.n) _ _ (λ n. refl) (λ l.
    tested P (is_sound_filed f) _ _ (λ n. refl) (λ s n.
    ap (λ (o : Net × List ℕ). (filed o.0 (directory_of cells (register_of o.0) o.0.m), o.1)) (node-refused g a I n)
    ∙ ap (λ d. (filed g d, I)) (sym (right_is (register_of g) g.m f.directory (sound_so f s).2 (small g t))))))

-- 6 exactly where the network is not sound or its directory not right
module _ (f : Filed) (a : ℕ) (I : List ℕ) (t : fits f.net ≡ true) (la : a < f.net.n) where
  pub unsound_6_filed : (SoundFiled f → ⊥) → (remove_node_filed f a I).answer.number ≡ 6
  unfolding remove_node_filed
  unsound_6_filed n =
      rw (t, lt-ltb a f.net.n la)
      (tested (λ (o : ClosedFiled). o.answer.number ≡ 6) (is_sound_filed f) _ _ refl (λ s. absurd (n (sound_so f s))))

  pub six_unsound_filed : (remove_node_filed f a I).answer.number ≡ 6 → SoundFiled f → ⊥
  unfolding remove_node_filed
  six_unsound_filed h (q, S, R) =
      six_unsound f.net a I t la (rw (t, lt-ltb a f.net.n la, right_accepted f (lists f.net) t S R) at h) (lists f.net, S)

-- some directory of so many cells is right for a network
record HasRight (cells : ℕ) (g : Net) : Type 0 where
  directory : List ℕ
  long : length directory ≡ cells
  right : Right (register_of g) g.m directory
  few : g.m ≤ END

-- then the directory of its rows is
of_rows : (cells : ℕ) (g : Net) → HasRight cells g → Right (register_of g) g.m (directory_of cells (register_of g) g.m)
of_rows cells g H =
    let is = right_is (register_of g) g.m H.directory H.right H.few in
    subst (Right (register_of g) g.m) (is ∙ ap (λ c. directory_of c (register_of g) g.m) H.long) H.right

dropped-has : (cells a : ℕ) (g : Net) → HasRight cells g → HasRight cells (dropped g a)
unfolding dropped
dropped-has cells a g H = record { directory = H.directory; long = H.long; right = H.right; few = H.few }

module _ (f : Filed) (ls : ℕ → ℕ → List ℕ) (a : ℕ) (I : List ℕ) (S : Sound f.net ls) (R : RightFor f) where
  closed-has : fits f.net ≡ true → HasRight (length f.directory) (remove_node f.net a I).after.0
  unfolding remove_node closed_if_room
  closed-has t =
      let cells = length f.directory in
      let g = f.net in
      let h = (stripped g a).rest in
      let P : Closed → Type 0 = λ o. HasRight cells o.after.0 in
      let H : HasRight cells g = record { directory = f.directory; long = refl; right = R; few = small g t } in
      let start : Kept g.n cells g = record { count = refl; fit = t; lists = ls; sound = S; directory = f.directory; long = refl; right = R } in
      tested P (fits g) _ _ H (λ t.
      tested P (ltb a g.n) _ _ H (λ l.
      tested P (is_sound g) _ _ H (λ s.
      tested P (leb (length (around g Weight a)) (length I)) _ _ H (λ r.
      let K = strip-kept g cells a (ltb-true a g.n l) start in
      dropped-has cells a h (record { directory = K.directory; long = K.long; right = K.right; few = small h K.fit })))))

  pub node_kept : RightFor (remove_node_filed f a I).after.0
  unfolding remove_node_filed
  node_kept =
      let P : ClosedFiled → Type 0 = λ o. RightFor o.after.0 in
      tested P (fits f.net) _ _ R (λ t.
      tested P (ltb a f.net.n) _ _ R (λ l.
      tested P (is_sound_filed f) _ _ R (λ s. of_rows (length f.directory) (remove_node f.net a I).after.0 (closed-has t))))

  pub node_same : fits f.net ≡ true
      → (let x = remove_node_filed f a I in let o = remove_node f.net a I in
      (x.answer ≡ o.answer) × (x.after.0.net ≡ o.after.0) × (x.after.1 ≡ o.after.1))
  unfolding remove_node_filed remove_node
  node_same t =
      elim (dec_lt a f.net.n) [
        | yes l ↦ rw (t, lt-ltb a f.net.n l, ap accepted (right_accepted f ls t S R)) (refl, refl, refl)
        | no l ↦ rw (t, le-ltb a f.net.n (omega arith)) (refl, refl, refl)
      ]
