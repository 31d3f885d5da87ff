-- The check's answer is right in words, `right`, and is the only one that is: `only`, `determined`.
use Prim.Native.Nat.{◌+◌}
use mathlib.Core.Path.{◌≡◌, refl, sym, ap, ◌∙◌}
use mathlib.Core.Bool.{Bool, true, false}
use Rattle.std.specs.Prelude.{Ok, Err}
use Rattle.sound.specs.declared.Fault.TheVariants.{At, Refused}
use Rattle.index.specs.declared.EdgeDirection.TheVariants.{Outgoing, Incoming}
use Rattle.index.specs.declared.Refusal.TheVariants.{Tables}
use Rattle.tables.specs.Net.{Net, fits}
use Rattle.tables.specs.Answers.{unless}
use Rattle.lists.specs.Walk.{link_at}
use Rattle.sound.specs.Sound.{end_at, lists}
use Rattle.sound.specs.Check.{Walked, Checked, way, verdict, checked}
use Rattle.sound.specs.Answer.{Answers}
use Rattle.sound.proofs.Exact.{way-reads, way-met}
use Rattle.sound.proofs.Faults.{way-first, first_way}
use Rattle.sound.proofs.Exactly.{small, sound_accepted, accepted-sound}

pub right : (g : Net) → Answers g (checked g)
unfolding Answers checked
right g = go (fits g) (way g 0) (way g 1) refl refl refl
  where
    go : (b : Bool) (w v : Walked) → fits g ≡ b → way g 0 ≡ w → way g 1 ≡ v → Answers g (unless b (Err (Refused Tables)) (verdict w v))
    go false w v f o i = (f, refl)
    go true (Err a) v f o i = (f, way-first (link_at g 0) (end_at g 0) g.m (small g f) g.n a.0 o)
    go true (Ok q) (Err a) f o i = (
      f,
      (lists g 0, (way-met (link_at g 0) (end_at g 0) g.m (small g f) g.n q o).0),
      way-first (link_at g 1) (end_at g 1) g.m (small g f) g.n a.0 i,
    )
    go true (Ok q) (Ok r) f o i =
        let s = accepted-sound g (q + r) (rw (f, o, i)) in
        (f, s.2, (lists g, s.1))

pub only : (g : Net) (r : Checked) → Answers g r → r ≡ checked g
unfolding Answers checked
only g (Ok rows) (f, e, (ls, S)) = ap Ok e ∙ sym (sound_accepted g ls f S)
only g (Err (At Outgoing a)) (f, o) = rw (f, first_way (link_at g 0) (end_at g 0) g.m (small g f) g.n a.0 o)
only g (Err (At Incoming a)) (f, (ls, L), i) =
    rw (
      f,
      way-reads (link_at g 0) (end_at g 0) g.m (small g f) g.n ls L,
      first_way (link_at g 1) (end_at g 1) g.m (small g f) g.n a.0 i,
    )
only g (Err (Refused why)) (f, e) = rw (f, e)

pub determined : (g : Net) (r s : Checked) → Answers g r → Answers g s → r ≡ s
determined g r s p q = only g r p ∙ sym (only g s q)
