-- The starred walks of the order, computed from the definitions. Assumes nothing.
use mathlib.Core.Path.{◌≡◌, refl}
use mathlib.Core.List.{[], ◌∷◌}
use Rattle.tables.specs.Net.{fit}
use Rattle.tables.specs.Answers.{out, done}
use Rattle.tables.proofs.NetworkA.{empty, network_a}
use Rattle.lists.specs.Walk.{walk, stop}
use Rattle.walks.specs.Walks.{neighbors, edges_mut}

-- W 0 on network A: 2 1; the cells past the items keep their values
pub neighbors_of_0 : neighbors network_a 0 (7 ∷ 7 ∷ 7 ∷ []) ≡ out (done 2) (2 ∷ 1 ∷ 7 ∷ [])
unfolding network_a neighbors fit walk stop
neighbors_of_0 = refl

-- W 2: 0 1
pub neighbors_of_2 : neighbors network_a 2 (7 ∷ 7 ∷ []) ≡ out (done 2) (0 ∷ 1 ∷ [])
unfolding network_a neighbors fit walk stop
neighbors_of_2 = refl

-- W 1: 1 2 0, the self-loop once; M 1: 3 0 3 1, the self-loop twice
pub neighbors_of_1 : neighbors network_a 1 (7 ∷ 7 ∷ 7 ∷ []) ≡ out (done 3) (1 ∷ 2 ∷ 0 ∷ [])
unfolding network_a neighbors fit walk stop
neighbors_of_1 = refl

pub edges_mut_of_1 : edges_mut network_a 1 (7 ∷ 7 ∷ 7 ∷ 7 ∷ []) ≡ out (done 4) (3 ∷ 0 ∷ 3 ∷ 1 ∷ [])
unfolding network_a edges_mut fit walk stop
edges_mut_of_1 = refl

-- W 0 on the empty network: no items
pub neighbors-of_none : neighbors (empty 3 4) 0 (7 ∷ []) ≡ out (done 0) (7 ∷ [])
unfolding neighbors fit
neighbors-of_none = refl
