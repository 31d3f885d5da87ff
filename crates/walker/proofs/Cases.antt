-- The walker and the sum on network A of the order, and on small networks with self-loops and broken rows, computed.
use Prim.Native.Nat.{ℕ}
use mathlib.Core.Path.{◌≡◌, refl}
use mathlib.Core.List.{[], ◌∷◌}
use lib.IntN.{pos, negsuc}
use Rattle.index.specs.Index.{END}
use Rattle.index.specs.declared.Refusal.TheVariants.{NoNode, Nothing, Broken}
use Rattle.tables.specs.Net.{Net, net, fit}
use Rattle.tables.proofs.NetworkA.{heads_of, network_a}
use Rattle.tables.specs.Answers.{out, done, refused}
use Rattle.lists.specs.Walk.{walk, stop}
use Rattle.walker.specs.Steps.{walker_of, begin, step}
use Rattle.walker.specs.Sums.{sum_around}
use Rattle.walker.proofs.Walked.{steps}

-- A 1
pub sum_a : sum_around network_a 1 ≡ done (pos 10)
unfolding network_a sum_around fit walk stop
sum_a = refl

-- W 1, a step at a time: 1, 2 and 0, then 5
pub walk_a : steps 4 network_a (begin network_a 1).values ≡ (1 ∷ 2 ∷ 0 ∷ [], 5)
unfolding network_a steps begin step fit walk stop
walk_a = refl

-- a missing node: the sum is refused 3, a walker is begun and is at its end
pub no_sum : sum_around network_a 3 ≡ refused NoNode (pos 0)
unfolding network_a sum_around fit
no_sum = refl

pub no_walk : begin network_a 3 ≡ done (walker_of 3 END END)
unfolding network_a begin fit
no_walk = refl

-- a node of weight -3 with one edge: its ends, and what follows it in the incoming list
abbrev single : ℕ → ℕ → ℕ → Net
single source target incoming = net (negsuc 2 ∷ []) (heads_of ((0, 0) ∷ [])) (10 ∷ []) (END ∷ incoming ∷ []) (source ∷ target ∷ []) 1 1

-- a self-loop comes once; at 5 the walker stands past it in the incoming list too
pub loop_once : step (single 0 0 END) (walker_of 0 0 0) ≡ out (done 0) (walker_of 0 END 0)
unfolding step fit
loop_once = refl

pub loop_passed : step (single 0 0 END) (walker_of 0 END 0) ≡ out {A = ℕ} (refused Nothing 0) (walker_of 0 END END)
unfolding step fit walk stop
loop_passed = refl

pub loop_summed : sum_around (single 0 0 END) 0 ≡ done (negsuc 2)
unfolding sum_around fit walk stop
loop_summed = refl

-- an incoming list of self-loops that does not end: 6, and the walker stays
pub loop_endless : step (single 0 0 0) (walker_of 0 END 0) ≡ out {A = ℕ} (refused Broken 0) (walker_of 0 END 0)
unfolding step fit walk stop
loop_endless = refl

pub no_total : sum_around (single 0 0 0) 0 ≡ refused Broken (pos 0)
unfolding sum_around fit walk stop
no_total = refl

-- a neighbour that is missing: the walker gives it, the sum is refused 6
pub missing_given : step (single 0 7 END) (walker_of 0 0 0) ≡ out (done 7) (walker_of 0 END 0)
unfolding step fit
missing_given = refl

pub missing_refused : sum_around (single 0 7 END) 0 ≡ refused Broken (pos 0)
unfolding sum_around fit walk stop
missing_refused = refl
