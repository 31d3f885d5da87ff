-- The lists of a network after a call that keeps it sound.
use Rattle.std.specs.Prelude.{ℕ, cond, List, [], ◌∷◌, eqb}

-- with a new node n, whose lists are empty
abbrev pub node_more : ℕ → (ℕ → ℕ → List ℕ) → ℕ → ℕ → List ℕ
node_more n ls k c = cond (eqb c n) [] (ls k c)

-- with a new edge e at the front of a's outgoing and of b's incoming list; the others are unchanged
abbrev pub edge_more : (e a b : ℕ) → (ℕ → ℕ → List ℕ) → ℕ → ℕ → List ℕ
edge_more e a b ls k c = cond (eqb c (cond (eqb k 0) a b)) (e ∷ ls k c) (ls k c)

-- with no edges
abbrev pub bare_lists : ℕ → ℕ → List ℕ
bare_lists k c = []
