-- `guards` finds each test's fact; past the tests the call is its part.
use Rattle.std.proofs.Common.{◌≡◌, ◌∙◌, ◌<◌, ℕ, List, true, sym, lt-ltb}
use Rattle.tables.specs.Net.{Net, fits}
use Rattle.tables.proofs.Guards.{guards}
use Rattle.tables.proofs.Laws.{fitted}
use Rattle.sound.specs.Check.{is_sound}
use Rattle.closing.specs.Closing.{closed_if_room, remove_node}
use Rattle.closing.proofs.Closes.{closable_so, at_fault, is_sound_lem, rows_told}
use Rattle.closing.proofs.remove_node.Goals as goal

past : (g : Net) (a : ℕ) (items : List ℕ) → fits g ≡ true → a < g.n → is_sound g ≡ true → closed_if_room g a items ≡ remove_node g a items
unfolding remove_node
past g a items f l s = rw (f, lt-ltb a g.n l, s)

pub returns-then-is_err : goal.returns-then-is_err
unfolding remove_node
returns-then-is_err c =
    let s = at_fault _ _ c.check.ensures (sym c.is_err.ensures.value ∙ c.if-is_err.true) in
    search (guards, s) depth 9

pub close-requires : goal.close-requires
close-requires c =
    let r = rows_told _ (sym c.is_err.ensures.value ∙ c.if-is_err.false) in
    closable_so _ _ _ (sym c.check.ensures ∙ r.1) c.if-nodes-a.false

pub returns : goal.returns
returns c =
    let r = rows_told _ (sym c.is_err.ensures.value ∙ c.if-is_err.false) in
    c.close.ensures
    ∙ past _ _ _ (fitted c.fits.ensures c.if-not-fits.false) c.if-nodes-a.false (is_sound_lem _ _ _ c.check.ensures r.1)
