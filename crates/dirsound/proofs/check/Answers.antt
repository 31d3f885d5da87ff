-- It is told by what the check of the links told, and where that accepts by the directory.
use Rattle.std.proofs.Common.{◌≡◌, ◌≤◌, ℕ, Bool, length, Ok, sym, refl, ◌∙◌, arith}
use Rattle.std.proofs.lemmas.List.{length-take-le}
use Rattle.std.proofs.lemmas.Result.{err_from_is_err_and}
use Rattle.tables.specs.Net.{Net}
use Rattle.sound.specs.Check.{Checked, checked}
use Rattle.sound.proofs.Exactly.{accepted-sound}
use Rattle.sound.proofs.Kept.{fit_of}
use Rattle.directory.specs.Directory.{Filed, is_right_for}
use Rattle.directory.proofs.Every.{right_front}
use Rattle.dirsound.specs.Check.{also_right, checked_filed}
use Rattle.dirsound.proofs.check.Goals as goal

-- past the check of the links; where it accepts, the columns fit
told : (f : Filed) (v : Checked) (b : Bool) → v ≡ checked f.net → b ≡ is_right_for f → also_right v b f.net.n ≡ checked_filed f
unfolding checked_filed
told f v b p q = rw (p, q)

-- an accepted network has its rows in its columns
held_rows : (g : Net) (rows : ℕ) → Ok rows ≡ checked g → g.m ≤ length g.registers
held_rows g rows p = (fit_of g (accepted-sound g rows (sym p)).0).m_within

pub slice_bounds-is_right-end : goal.slice_bounds-is_right-end
slice_bounds-is_right-end c = sym (length-take-le _ _ (held_rows _ _ c.in_ok-rows.ensures))

pub overflow_add-result : goal.overflow_add-result
overflow_add-result c = let f = fit_of _ (accepted-sound _ _ (sym c.in_ok-rows.ensures)).0 in omega (arith, f.n_within, f.nodes_most)

pub returns-then-not-is_right : goal.returns-then-not-is_right
returns-then-not-is_right c =
    told _ _ _ c.in_ok-rows.ensures (sym c.if-not-is_right.true ∙ c.is_right.ensures ∙ right_front _ _ (held_rows _ _ c.in_ok-rows.ensures) c.args.directory.now)

pub returns-in_err-rows : goal.returns-in_err-rows
returns-in_err-rows c =
    let p = err_from_is_err_and c.from_residual.result c.from_residual.ensures.1 in
    rw (p.1, p.2) (told _ _ _ c.in_err-rows.ensures refl)

pub returns : goal.returns
returns c =
    told _ _ _ c.in_ok-rows.ensures (sym c.if-not-is_right.false ∙ c.is_right.ensures ∙ right_front _ _ (held_rows _ _ c.in_ok-rows.ensures) c.args.directory.now)
