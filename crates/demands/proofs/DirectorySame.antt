-- Beside a sound network its directory changes no answer but to 11 or 12, `demand_2_filed`; and the check looks at it last.
use Prim.{Unit, tt}
use Prim.Native.Nat.{ℕ, ◌+◌, ◌<◌}
use mathlib.Core.Path.{◌≡◌, refl, sym, ap, ◌∙◌}
use mathlib.Core.Logic.{◌↔◌, inl, inr}
use mathlib.Core.Bool.{Bool, true, false}
use mathlib.Core.List.{List}
use native.Mathlib.Decide.{dec_lt, ℕ_discrete}
use native.Mathlib.Omega.{arith}
use borrow.Author.Tests.{eq-eqb, ne_eqb, lt-ltb, le-ltb, ltb-true}
use lib.Dec.{ltb}
use Rattle.index.specs.declared.Refusal.TheVariants.{Tables, NoEdge, Broken}
use Rattle.index.specs.Index.{END}
use Rattle.index.proofs.Laws.{not_zero}
use Rattle.tables.specs.Net.{Net, fits}
use Rattle.tables.specs.Answers.{Out, refused}
use Rattle.tables.proofs.Laws.{tested}
use Rattle.lookups.specs.Lookups.{set_edge_weight}
use Rattle.rows.specs.Calls.{add_edge}
use Rattle.find.specs.Find.{update_edge}
use Rattle.std.proofs.Common.{Ok, Err}
use Rattle.sound.specs.declared.Fault.TheVariants.{At, Refused}
use Rattle.sound.specs.Sound.{lists}
use Rattle.sound.specs.Check.{Checked, checked, is_sound, told_checked}
use Rattle.sound.proofs.Exactly.{sound_accepted, accepted-sound}
use Rattle.image.specs.Calls.{image_write}
use Rattle.image.proofs.Copies.{is_sound-says}
use Rattle.image.proofs.RoundTrip.{six_unsound}
use Rattle.directory.specs.Directory.{entry, Filed, register_of, beside, is_right_for, RightFor}
use Rattle.directory.proofs.Every.{right_so, right_says}
use Rattle.dirsound.specs.Check.{also_right, checked_filed, SoundFiled}
use Rattle.dirsound.proofs.Exactly.{right_accepted, accepted-right}
use Rattle.dirrows.specs.Calls.{entered, reweighed, add_edge_filed, set_edge_weight_filed, clear_edges_filed, clear_filed}
use Rattle.dirfind.specs.Find.{update_edge_filed}
use Rattle.dirremoval.proofs.Kept.{edge_same}
use Rattle.dirclosing.proofs.Kept.{node_same}
use Rattle.dirimage.specs.Calls.{image_write_filed}
use Rattle.demands.specs.Demand1.{refusal}
use Rattle.demands.specs.Demand2.{SoundNet}
use Rattle.demands.specs.Wish1.{Same, SameOr, Names, Demand2Filed}
use Rattle.demands.proofs.Judged.{judged_ways}

-- a call is refused as without a directory, or what follows is the same
module _ {A : Type 0} (f : Filed) (o : Out A Net) (rest : Out A Filed) where
  same_beside : (o.answer.number ≡ 0 → Same o rest) → Same o (beside f o rest)
  same_beside h =
      elim (ℕ_discrete o.answer.number 0) [
        | yes z ↦ rw (eq-eqb o.answer.number 0 z) (h z)
        | no n ↦ rw (ne_eqb o.answer.number 0 n) (refl, refl)
      ]

  same_or_beside : {refusals : ℕ → Out A Filed} → (o.answer.number ≡ 0 → SameOr refusals o rest) → SameOr refusals o (beside f o rest)
  same_or_beside h =
      elim (ℕ_discrete o.answer.number 0) [
        | yes z ↦ rw (eq-eqb o.answer.number 0 z) (h z)
        | no n ↦ rw (ne_eqb o.answer.number 0 n) (inr (refl, refl))
      ]

-- a number is judged
same_entered : (f : Filed) (w : ℕ) (o : Out ℕ Net) → SameOr (refusal 0 f) o (entered f w o)
same_entered f w o =
    judged_ways f 0 END w _ (SameOr (refusal 0 f) o) (inr (refl, refl)) (inl (12, inr (inl refl), refl)) (inl (11, inl refl, refl))

same_reweighed : {A : Type 0} (f : Filed) (zeros : A) (e w : ℕ) (o : Out A Net) → Names f e → SameOr (refusal zeros f) o (reweighed f zeros e w o)
same_reweighed f zeros e w o q =
    rw (eq-eqb (entry f.directory (register_of f.net e)) e q)
    (judged_ways f zeros e w _ (SameOr (refusal zeros f) o) (inr (refl, refl)) (inl (12, inr (inl refl), refl)) (inl (11, inl refl, refl)))

-- an edge that has its weight set is in use
set_below : (g : Net) (e w : ℕ) → (set_edge_weight g e w).answer.number ≡ 0 → e < g.m
unfolding set_edge_weight
set_below g e w =
    tested (λ (o : Out (Unit {0}) Net). o.answer.number ≡ 0 → e < g.m) (fits g) _ _ (λ z. absurd (not_zero Tables z)) (λ t.
    tested (λ (o : Out (Unit {0}) Net). o.answer.number ≡ 0 → e < g.m) (ltb e g.m) _ _ (λ z. absurd (not_zero NoEdge z)) (λ l z. ltb-true e g.m l))

module _ (f : Filed) (S : SoundFiled f) where
  right_test : is_right_for f ≡ true
  right_test = right_so (register_of f.net) f.net.m f.directory S.2

  pub demand_2_filed : Demand2Filed f
  unfolding add_edge_filed update_edge_filed set_edge_weight_filed clear_edges_filed clear_filed image_write_filed
  demand_2_filed =
      let g = f.net in
      record {
        add_edge_lem = λ a b w. same_or_beside f _ _ (λ z. same_entered f w (add_edge g a b w));
        update_edge_lem =
            λ a b w.
            let o = update_edge g a b w in
            same_or_beside f o _ (λ z.
            elim (dec_lt o.answer.values g.m) [
              | yes l ↦ rw (lt-ltb o.answer.values g.m l) (same_reweighed f 0 o.answer.values w o (S.2.named o.answer.values l))
              | no l ↦ rw (le-ltb o.answer.values g.m (omega arith)) (same_entered f w o)
            ]);
        set-edge_weight = λ e w. same_or_beside f _ _ (λ z. same_reweighed f tt e w (set_edge_weight g e w) (S.2.named e (set_below g e w z)));
        remove-edge = λ e. edge_same f (lists g) e S.0 S.1 S.2;
        remove-node = λ a items. node_same f (lists g) a items S.1 S.2 S.0;
        clear-edges = same_beside f _ _ (λ z. (refl, refl));
        clear-all = same_beside f _ _ (λ z. (refl, refl));
        check = right_accepted f (lists g) S.0 S.1 S.2 ∙ sym (sound_accepted g (lists g) S.0 S.1);
        image_write_lem = λ bytes. rw (S.0, right_test);
      }

-- the check: the links first, the directory last
pub accepted_so : (f : Filed) → (told_checked (checked_filed f)).number ≡ 0 → SoundFiled f
accepted_so f z = go (checked_filed f) refl z
  where
    go : (c : Checked) → checked_filed f ≡ c → (told_checked c).number ≡ 0 → SoundFiled f
    go (Ok rows) e z = (accepted-right f rows e).0
    go (Err (At d a)) e z = absurd (omega arith)
    go (Err (Refused why)) e z = absurd (not_zero why z)

pub links_first : (f : Filed) → (SoundNet f.net → ⊥) → checked_filed f ≡ checked f.net
unfolding checked_filed
links_first f n = go (checked f.net) refl
  where
    go : (c : Checked) → checked f.net ≡ c → also_right c (is_right_for f) f.net.n ≡ c
    go (Ok rows) e = let s = accepted-sound f.net rows e in absurd (n (s.0, s.1))
    go (Err (At d a)) e = refl
    go (Err (Refused why)) e = refl

not_sound : (g : Net) → fits g ≡ true → (SoundNet g → ⊥) → is_sound g ≡ false
not_sound g t n = go (is_sound g) refl
  where
    go : (b : Bool) → is_sound g ≡ b → b ≡ false
    go false e = refl
    go true e = absurd (n (t, is_sound-says g e))

not_right : (f : Filed) → (RightFor f → ⊥) → is_right_for f ≡ false
not_right f n = go (is_right_for f) refl
  where
    go : (b : Bool) → is_right_for f ≡ b → b ≡ false
    go false e = refl
    go true e = absurd (n (right_says (register_of f.net) f.net.m f.directory e))

pub checked-last : (f : Filed) → SoundNet f.net → (RightFor f → ⊥) → told_checked (checked_filed f) ≡ refused Broken (0, 1, f.net.n + 1)
unfolding checked_filed
checked-last f (t, S) n = rw (sound_accepted f.net (lists f.net) t S, not_right f n)

-- so calls that ask for a sound network ask for the directory: it is not right, or it is and the links are broken
by_right : (f : Filed) (P : Type 0) → (SoundFiled f → ⊥) → (is_right_for f ≡ false → P) → (RightFor f → is_right_for f ≡ true → (SoundNet f.net → ⊥) → P) → P
by_right f P n wrong right = go (is_right_for f) refl
  where
    go : (b : Bool) → is_right_for f ≡ b → P
    go false e = wrong e
    go true e =
        let R = right_says (register_of f.net) f.net.m f.directory e in
        right R e (λ (t, S). n (t, S, R))

pub write_6 : (f : Filed) (bytes : List ℕ) → fits f.net ≡ true → (image_write_filed f bytes).answer.number ≡ 6 ↔ (SoundFiled f → ⊥)
unfolding image_write_filed image_write
write_6 f bytes t = (
  λ h S. six_unsound f.net bytes (lists f.net) S.1 (sym (ap (λ (o : Out ℕ (List ℕ)). o.answer.number) ((demand_2_filed f S).image_write_lem bytes)) ∙ h),
  λ n. by_right f _ n (λ e. rw (t, e)) (λ R e u. rw (t, e, not_sound f.net t u)),
)
