-- An empty network fits and is sound, `empty_sane`. So the network in a run is always sound, `run_sound`, and no line of a run is told 6, `run_6`.
--
use Prim.{tt}
use Prim.Native.Nat.{ℕ, ◌*◌, ◌≤◌}
use mathlib.Core.Path.{◌≡◌, refl}
use mathlib.Core.List.{List, [], ◌∷◌}
use native.Mathlib.Omega.{arith}
use borrow.Author.Tests.{le-leb, eq-eqb}
use lib.IntN.{pos}
use lib.ListN.{length-replicate}
use Rattle.index.specs.Index.{END}
use Rattle.tables.specs.Net.{fit, node_rows, edge_rows, node_cells, edge_cells}
use Rattle.sound.specs.Kept.{bare_lists}
use Rattle.text.specs.Lines.{lines}
use Rattle.commands.specs.Commands.{Replied}
use Rattle.commands.proofs.Kept.{Sane}
use Rattle.dispatch.specs.Step.{State}
use Rattle.dispatch.proofs.Keeps.{step_keeps, step_6}
use Rattle.obeying.specs.Line.{line_answer}
use Rattle.script.specs.Script.{node_room, edge_room, answers, Each, empty_net, begun}
use Rattle.obeying.proofs.Reading.{line_so}

-- an empty network within the limits fits and is sound
pub empty_sane : (nodes edges : ℕ) → nodes ≤ node_rows → edges ≤ edge_rows → Sane (empty_net nodes edges)
unfolding fit
empty_sane nodes edges h l = (
  rw (
    length-replicate nodes (pos 0),
    length-replicate (node_cells * nodes) END,
    length-replicate {A = ℕ} edges 0,
    length-replicate (edge_cells * edges) END,
    le-leb nodes node_rows h,
    le-leb edges edge_rows l,
    eq-eqb (node_cells * nodes) (node_cells * nodes) refl,
    eq-eqb (edge_cells * edges) (edge_cells * edges) refl,
    le-leb 0 nodes (omega arith),
    le-leb 0 edges (omega arith),
  ),
  (
    bare_lists,
    record {
      all_end = λ k a d b. absurd (omega arith);
      has_ends = λ k x d b. absurd (omega arith);
      once = λ k x d b. absurd (omega arith);
      no_other = λ k x a d b. absurd (omega arith);
    },
  ),
)

pub begun-sane : Sane begun.network
unfolding begun
begun-sane = empty_sane node_room edge_room (omega arith) (omega arith)

-- what a command keeps up, a line does
module _ (line : List ℕ) (s : State) (h : Sane s.network) where
  pub line_keeps : Sane (line_answer line s).after.network
  line_keeps = line_so (λ r. Sane r.after.network) s h (λ letter o. step_keeps letter o s h) line

  pub line_6 : (line_answer line s).reply.number ≡ 6 → ⊥
  line_6 = line_so (λ r. r.reply.number ≡ 6 → ⊥) s (λ z. omega arith) (λ letter o. step_6 letter o s h) line

-- what every line keeps up, and what follows of its answer, hold of each answer of a script
module _ (P : State → Type 0) (Q : Replied State → Type 0) (keeps : (line : List ℕ) (s : State) → P s → P (line_answer line s).after)
    (so : (line : List ℕ) (s : State) → P s → Q (line_answer line s)) where
  pub each-answer : (script : List (List ℕ)) (s : State) → P s → Each Q (answers script s)
  unfolding answers
  each-answer [] s p = tt
  each-answer (line ∷ others) s p = (so line s p, each-answer others (line_answer line s).after (keeps line s p))

abbrev SaneState : State → Type 0
SaneState s = Sane s.network

module _ (script : List ℕ) where
  pub run_sound : Each (λ o. Sane o.after.network) (answers (lines script) begun)
  run_sound = each-answer SaneState (λ o. Sane o.after.network) line_keeps line_keeps (lines script) begun begun-sane

  pub run_6 : Each (λ o. o.reply.number ≡ 6 → ⊥) (answers (lines script) begun)
  run_6 = each-answer SaneState (λ o. o.reply.number ≡ 6 → ⊥) line_keeps line_6 (lines script) begun begun-sane
