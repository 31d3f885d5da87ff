-- Whatever the letter, a command leaves a network that fits and is sound so, `step_keeps`; and on such a network none is told 6, `step_6`.
use Prim.Native.Nat.{ℕ}
use mathlib.Core.Path.{◌≡◌}
use mathlib.Core.Bool.{Bool, true, false, cond}
use native.Mathlib.Omega.{arith}
use lib.Dec.{eqb}
use Rattle.index.specs.declared.Refusal.TheVariants.{NotCommand}
use Rattle.index.specs.Refusals.{refusal_no}
use Rattle.reply.specs.Replies.{bare_reply}
use Rattle.commands.specs.Commands.{Replied, add_node_line, add_edge_line, update_edge_line, remove_edge_line, remove_node_line, clear_edges_line, clear_line}
use Rattle.commands.specs.Commands.{find_edge_line, neighbors_line, edges_line, edges_mut_line, edges_between_line, sum_around_line, check_line}
use Rattle.commands.proofs.Kept.{Sane, add_node_keeps, add_edge_keeps, update_edge_keeps, remove_edge_keeps, remove_node_keeps, clear_edges_keeps, clear_keeps}
use Rattle.commands.proofs.Sixes.{add_node_6, add_edge_6, update_edge_6, remove_edge_6, remove_node_6, clear_edges_6, clear_6}
use Rattle.commands.proofs.Sixes.{find_edge_6, neighbors_6, edges_6, edges_mut_6, edges_between_6, sum_around_6, check_6}
use Rattle.dispatch.specs.declared.Numbers.{Numbers}
use Rattle.dispatch.specs.Step.{State, tells, changes, gives, gives_three, changes_and_gives, step}

-- what holds of every command holds of the one that is chosen
module _ (P : Replied State → Type 0) (o : Numbers) (s : State) where
  chosen : (b : Bool) (x y : Replied State) → P x → P y → P (cond b x y)
  chosen true x y p q = p
  chosen false x y p q = q

  pub step_ways : (letter : ℕ)
      → P (changes s (add_node_line s.network o.w))
      → P (changes s (add_edge_line s.network o.a o.b o.c))
      → P (changes s (update_edge_line s.network o.a o.b o.c))
      → P (tells s (find_edge_line s.network o.a o.b))
      → P (changes s (remove_edge_line s.network o.a))
      → P (changes_and_gives s (remove_node_line s.network o.a s.tables.numbers))
      → P (gives s (neighbors_line s.network o.a s.tables.numbers))
      → P (gives_three s (edges_line s.network o.a s.tables))
      → P (gives s (edges_mut_line s.network o.a s.tables.numbers))
      → P (gives s (edges_between_line s.network o.a o.b s.tables.numbers))
      → P (tells s (sum_around_line s.network o.a))
      → P (tells s (check_line s.network))
      → P (changes s (clear_edges_line s.network))
      → P (changes s (clear_line s.network))
      → P (tells s (bare_reply 63 (refusal_no NotCommand)))
      → P (step letter o s)
  unfolding step
  step_ways letter n e u f x d w g m b a k c z none =
      chosen (eqb letter 78) _ _ n
      (chosen (eqb letter 69) _ _ e
      (chosen (eqb letter 85) _ _ u
      (chosen (eqb letter 70) _ _ f
      (chosen (eqb letter 88) _ _ x
      (chosen (eqb letter 68) _ _ d
      (chosen (eqb letter 87) _ _ w
      (chosen (eqb letter 71) _ _ g
      (chosen (eqb letter 77) _ _ m
      (chosen (eqb letter 66) _ _ b
      (chosen (eqb letter 65) _ _ a
      (chosen (eqb letter 83) _ _ k
      (chosen (eqb letter 67) _ _ c
      (chosen (eqb letter 90) _ _ z
      none)))))))))))))

module _ (letter : ℕ) (o : Numbers) (s : State) (h : Sane s.network) where
  pub step_keeps : Sane (step letter o s).after.network
  step_keeps =
      let g = s.network in
      step_ways (λ r. Sane r.after.network) o s letter
      (add_node_keeps g o.w h)
      (add_edge_keeps g o.a o.b o.c h)
      (update_edge_keeps g o.a o.b o.c h)
      h
      (remove_edge_keeps g o.a h)
      (remove_node_keeps g o.a s.tables.numbers h)
      h
      h
      h
      h
      h
      h
      (clear_edges_keeps g h)
      (clear_keeps g h)
      h

  pub step_6 : (step letter o s).reply.number ≡ 6 → ⊥
  step_6 =
      let g = s.network in
      let t = s.tables.numbers in
      step_ways (λ r. r.reply.number ≡ 6 → ⊥) o s letter
      (add_node_6 g h o.w)
      (add_edge_6 g h o.a o.b o.c)
      (update_edge_6 g h o.a o.b o.c)
      (find_edge_6 g h o.a o.b)
      (remove_edge_6 g h o.a)
      (remove_node_6 g h o.a t)
      (neighbors_6 g h o.a t)
      (edges_6 g h o.a s.tables)
      (edges_mut_6 g h o.a t)
      (edges_between_6 g h o.a o.b t)
      (sum_around_6 g h o.a)
      (check_6 g h)
      (clear_edges_6 g h)
      (clear_6 g h)
      (λ z. omega arith)
