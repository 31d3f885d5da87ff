-- An edge taken out of a network with a directory: a refusal changes nothing, `edge_unchanged`; the directory keeps its length, `edge-length`.
-- Of a sound network with a right directory, whatever is answered: answer and network are those without a directory, `edge_same`, and the directory is
-- right afterwards, `edge_out_right`. Of the part: `taken_right`.
use Prim.Native.Nat.{ℕ, ◌-◌, ◌≤◌, ◌<◌}
use mathlib.Core.Path.{◌≡◌, refl, ap, ◌∙◌}
use mathlib.Core.Bool.{Bool, true, false, cond, ◌&&◌}
use mathlib.Core.List.{List}
use native.Mathlib.Decide.{dec_lt}
use native.Mathlib.Omega.{arith}
use borrow.Author.Tests.{eq-eqb, ne_eqb, le-ltb, eqb-true}
use lib.Dec.{eqb, ltb}
use lib.ListN.{length, set, length-set}
use Rattle.index.specs.declared.Refusal.TheVariants.{NoEdge}
use Rattle.index.specs.Index.{END}
use Rattle.tables.specs.Net.{Net, fits}
use Rattle.tables.specs.Answers.{Told, Out, out, done, refused}
use Rattle.tables.proofs.Laws.{tested}
use Rattle.sound.specs.Sound.{Sound}
use Rattle.sound.proofs.Exactly.{small}
use Rattle.removal.specs.Removal.{Gone, taken_out, remove_edge}
use Rattle.removal.specs.Lists.{renamed, EdgeOut}
use Rattle.removal.proofs.EdgeOuts.{taken_out_lem, edge-out, edge-refused}
use Rattle.directory.specs.Directory.{Filed, filed, RightFor, Right, register_of, followed, named}
use Rattle.directory.proofs.Laws.{right_less}
use Rattle.dirremoval.specs.Removal.{out_and_followed, remove_edge_filed}

pub followed-length : (numbers : ℕ → ℕ) (m w e : ℕ) (d : List ℕ) → length (followed numbers m w e d) ≡ length d
unfolding followed
followed-length numbers m w e d = go (ltb e m)
  where
    go : (b : Bool) → length (cond b (set (set d w END) (numbers e) e) (set d w END)) ≡ length d
    go true = length-set (set d w END) (numbers e) e ∙ length-set d w END
    go false = length-set d w END

pub edge-length : (f : Filed) (e : ℕ) → length (remove_edge_filed f e).after.directory ≡ length f.directory
unfolding remove_edge_filed
edge-length f e =
    let P : Out (ℕ × ℕ × ℕ) Filed → Type 0 = λ o. length o.after.directory ≡ length f.directory in
    let o = remove_edge f.net e in
    tested P (eqb o.answer.number 0) _ _ refl (λ z.
    tested P (named f e && named f (f.net.m - 1)) _ _ refl (λ y.
    followed-length (register_of o.after) o.after.m o.answer.values.0 e f.directory))

pub edge_unchanged : (f : Filed) (e : ℕ) → ((remove_edge_filed f e).answer.number ≡ 0 → ⊥) → (remove_edge_filed f e).after ≡ f
unfolding remove_edge_filed
edge_unchanged f e =
    let P : Out (ℕ × ℕ × ℕ) Filed → Type 0 = λ o. (o.answer.number ≡ 0 → ⊥) → o.after ≡ f in
    let o = remove_edge f.net e in
    tested P (eqb o.answer.number 0) _ _ (λ n. ap (λ h. filed h f.directory) (edge-refused f.net e n)) (λ z.
    tested P (named f e && named f (f.net.m - 1)) _ _ (λ n. refl) (λ y n. absurd (n (eqb-true o.answer.number 0 z))))

-- the part leaves h of a sound network g: a directory that follows is right
pub taken_right : (g h : Net) (ls : ℕ → ℕ → List ℕ) (e w moved read : ℕ) (d : List ℕ) → fits g ≡ true → Sound g ls → e < g.m
    → Right (register_of g) g.m d → out (done (w, moved, read)) h ≡ taken_out g e → Right (register_of h) h.m (followed (register_of h) h.m w e d)
taken_right g h ls e w moved read d t S lt R is =
    let o = taken_out_lem g ls e t S lt in
    let edges : h.m ≡ g.m - 1 = ap (λ (x : Gone). x.after.m) is ∙ o.edges in
    let told : w ≡ register_of g e = ap (λ (x : Gone). x.answer.values.0) is ∙ ap (λ (v : Told (ℕ × ℕ × ℕ)). v.values.0) o.served in
    let same : (x : ℕ) → x < g.m - 1 → register_of h x ≡ register_of g (renamed e (g.m - 1) x) =
    λ x b. ap (λ (y : Gone). register_of y.after x) is ∙ o.weights x b in
    rw (edges, told)
    (right_less (register_of g) g.m d R (small g t) (register_of h) e lt
    (λ x b n. rw (ne_eqb x e n) at (same x b))
    (λ b. rw (eq-eqb e e refl) at (same e b)))

module _ (f : Filed) (ls : ℕ → ℕ → List ℕ) (e : ℕ) (t : fits f.net ≡ true) (S : Sound f.net ls) (R : RightFor f) where
  -- an edge that is not in use
  not_in_use : f.net.m ≤ e → (remove_edge f.net e ≡ out (refused NoEdge (0, 0, 0)) f.net) × (remove_edge_filed f e ≡ out (refused NoEdge (0, 0, 0)) f)
  unfolding remove_edge_filed remove_edge
  not_in_use l = (rw (t, le-ltb e f.net.m l), rw (t, le-ltb e f.net.m l))

  -- one that is: it is served, and the directory follows
  module _ (lt : e < f.net.m) where
    whole : EdgeOut f.net ls e (remove_edge f.net e)
    whole = edge-out f.net ls e t S lt

    served_so : remove_edge_filed f e ≡ out_and_followed f e (remove_edge f.net e)
    unfolding remove_edge_filed
    served_so =
        let l = f.net.m - 1 in
        rw (
          eq-eqb (remove_edge f.net e).answer.number 0 (ap (λ (v : Told (ℕ × ℕ × ℕ)). v.number) whole.served),
          eq-eqb _ _ (R.named e lt),
          eq-eqb _ _ (R.named l (omega arith)),
        )

    served_right : RightFor (remove_edge_filed f e).after
    served_right =
        rw served_so
        (rw (whole.edges, ap (λ (v : Told (ℕ × ℕ × ℕ)). v.values.0) whole.served)
        (right_less (register_of f.net) f.net.m f.directory R (small f.net t) (register_of (remove_edge f.net e).after) e lt
        (λ x b n. rw (ne_eqb x e n) at (whole.weights x b))
        (λ b. rw (eq-eqb e e refl) at (whole.weights e b))))

  pub edge_same : ((remove_edge_filed f e).answer ≡ (remove_edge f.net e).answer) × ((remove_edge_filed f e).after.net ≡ (remove_edge f.net e).after)
  edge_same =
      elim (dec_lt e f.net.m) [
        | yes lt ↦ rw (served_so lt) (refl, refl)
        | no n ↦ (let z = not_in_use (omega arith) in rw (z.0, z.1) (refl, refl))
      ]

  pub edge_out_right : RightFor (remove_edge_filed f e).after
  edge_out_right =
      elim (dec_lt e f.net.m) [
        | yes lt ↦ served_right lt
        | no n ↦ rw (not_in_use (omega arith)).1 R
      ]
