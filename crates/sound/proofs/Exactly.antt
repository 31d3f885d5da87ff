-- The check accepts exactly the sound networks, `sound_accepted` and `accepted-sound`, and then reads 2 m rows; by the order's numbers,
-- `sound_0` and `answered_0`. A sound network's lists are those that a walk meets: `lists_are`, `as_walked`.
use Prim.Native.Nat.{ℕ, zero, suc, ◌+◌, ◌*◌, ◌≤◌, ◌<◌}
use mathlib.Core.Path.{◌≡◌, refl, ap, ◌∙◌}
use mathlib.Core.Bool.{Bool, true, false}
use mathlib.Core.List.{List}
use native.Mathlib.Omega.{arith}
use lib.ListN.{length}
use Rattle.std.specs.Prelude.{Ok, Err}
use Rattle.sound.specs.declared.Fault.TheVariants.{At, Refused}
use Rattle.index.specs.declared.Refusal.TheVariants.{Tables}
use Rattle.index.specs.Index.{END}
use Rattle.index.proofs.Laws.{not_zero}
use Rattle.tables.specs.Net.{Net, fits}
use Rattle.tables.specs.Answers.{done, unless}
use Rattle.tables.proofs.Laws.{fit-says}
use Rattle.lists.specs.declared.Spot.TheVariants.{Head}
use Rattle.lists.specs.Walk.{link_at}
use Rattle.lists.proofs.Chains.{chain_walked}
use Rattle.sound.specs.Sound.{end_at, Sound, Lists, Listed, lists}
use Rattle.sound.specs.Check.{Walked, Checked, way, verdict, checked, told_checked}
use Rattle.sound.proofs.Same.{counts, members}
use Rattle.sound.proofs.Exact.{way-reads, way-met}

-- no edge has the number `END`
pub small : (g : Net) → fits g ≡ true → g.m ≤ END
small g f =
    let t = fit-says (length g.weights) (length g.heads) (length g.registers) (length g.links) (length g.ends) g.n g.m f in
    omega arith

-- an accepted network: what the test for answer 1 and each direction give
accepts : (b : Bool) (w v : Walked) (rows : ℕ) → unless b (Err (Refused Tables)) (verdict w v) ≡ Ok rows
    → (b ≡ true) × ((q r : ℕ) × (w ≡ Ok q) × (v ≡ Ok r) × (rows ≡ q + r))
accepts false w v rows h = absurd (let z : ◌≡◌ {A = ℕ} 0 1 = cc in omega arith)
accepts true (Err a) v rows h = cc
accepts true (Ok q) (Err a) rows h = cc
accepts true (Ok q) (Ok r) rows h = (refl, (q, r, refl, refl, cc))

-- what holds of either direction
pub two : (P : ℕ → Type 0) → P 0 → P 1 → (k : ℕ) → k < 2 → P k
two P f g zero l = f
two P f g (suc zero) l = g
two P f g (suc (suc k)) l = absurd (omega arith)

-- a sound network is accepted
pub sound_accepted : (g : Net) (ls : ℕ → ℕ → List ℕ) → fits g ≡ true → Sound g ls → checked g ≡ Ok (2 * g.m)
unfolding checked
sound_accepted g ls f S =
    let L = members g ls (small g f) S in
    let z : g.m + g.m ≡ 2 * g.m = omega arith in
    rw (
      f,
      way-reads (link_at g 0) (end_at g 0) g.m (small g f) g.n (ls 0) (L 0 (omega arith)),
      way-reads (link_at g 1) (end_at g 1) g.m (small g f) g.n (ls 1) (L 1 (omega arith)),
    )
    (ap Ok z)

-- an accepted network is sound
pub accepted-sound : (g : Net) (rows : ℕ) → checked g ≡ Ok rows → (fits g ≡ true) × Sound g (lists g) × (rows ≡ 2 * g.m)
unfolding checked
accepted-sound g rows h =
    let a = accepts (fits g) (way g 0) (way g 1) rows h in
    let s = small g a.0 in
    let o = way-met (link_at g 0) (end_at g 0) g.m s g.n a.1.0 a.1.2 in
    let i = way-met (link_at g 1) (end_at g 1) g.m s g.n a.1.1 a.1.3 in
    let L : Listed g (lists g) = two (λ k. Lists g.n g.m (link_at g k) (end_at g k) (lists g k)) o.0 i.0 in
    (a.0, counts g (lists g) s L, omega (arith, o.1, i.1, a.1.4))

zero_accepts : (r : Checked) → (told_checked r).number ≡ 0 → (rows : ℕ) × (r ≡ Ok rows)
zero_accepts (Ok rows) h = (rows, refl)
zero_accepts (Err (At d a)) h = absurd (omega arith)
zero_accepts (Err (Refused why)) h = absurd (not_zero why h)

-- the same by the order's numbers: 0 is answered exactly where the network is sound, with 2 m rows
pub sound_0 : (g : Net) (ls : ℕ → ℕ → List ℕ) → fits g ≡ true → Sound g ls → told_checked (checked g) ≡ done (2 * g.m, 0, 0)
sound_0 g ls f S = ap told_checked (sound_accepted g ls f S)

pub answered_0 : (g : Net) → (told_checked (checked g)).number ≡ 0 → (fits g ≡ true) × Sound g (lists g) × (told_checked (checked g) ≡ done (2 * g.m, 0, 0))
answered_0 g h =
    let a = zero_accepts (checked g) h in
    let s = accepted-sound g a.0 a.1 in
    (s.0, s.1, ap told_checked (a.1 ∙ ap Ok s.2))

-- the lists of a sound network are those that a walk meets
pub lists_are : (g : Net) (ls : ℕ → ℕ → List ℕ) → fits g ≡ true → Sound g ls → (k a : ℕ) → k < 2 → a < g.n → lists g k a ≡ ls k a
lists_are g ls f S k a h l = chain_walked (link_at g k) g.m (small g f) (Head a) (ls k a) (S.all_end k a h l)

pub as_walked : (g : Net) (ls : ℕ → ℕ → List ℕ) → fits g ≡ true → Sound g ls → Sound g (lists g)
as_walked g ls f S = (accepted-sound g (2 * g.m) (sound_accepted g ls f S)).1
