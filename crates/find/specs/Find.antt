-- Finding the edge between two nodes. It compares the far end only.
use Rattle.std.specs.Prelude.{ℕ, Bool, cond, ltb, set, Some, None, Result, Ok, Err}
use Rattle.index.specs.declared.Refusal.{Refusal}
use Rattle.index.specs.declared.Refusal.TheVariants.{Tables, NoNode, Nothing, Broken}
use Rattle.tables.specs.Net.{Net, fits, with_edges}
use Rattle.tables.specs.Answers.{Told, Out, out, done, refused, unless, told_as}
use Rattle.rows.specs.Calls.{add_edge}
use Rattle.find.specs.Parts.{Sought, sought_from}

-- the search of node a's lists for a row whose far end is b
abbrev pub sought : Net → ℕ → ℕ → Sought
sought g a b = sought_from g.heads g.links g.ends g.m a b

-- what each outcome of the search comes to
abbrev pub on : {A : Type 0} → Sought → (ℕ → A) → A → A → A
on (Ok (Some row)) found missing endless = found row.0.0
on (Ok None) found missing endless = missing
on (Err why) found missing endless = endless

unfoldable pub find_edge : Net → ℕ → ℕ → Told ℕ
find_edge g a b =
    unless (fits g) (refused Tables 0)
    (unless (ltb a g.n) (refused NoNode 0)
    (on (sought g a b) (λ e. done e) (refused Nothing 0) (refused Broken 0)))

-- yes is 1, no is 0; a missing node gives no
unfoldable pub contains_edge : Net → ℕ → ℕ → Told ℕ
contains_edge g a b =
    unless (fits g) (refused Tables 0)
    (unless (ltb a g.n) (done 0)
    (on (sought g a b) (λ e. done 1) (done 0) (refused Broken 0)))

-- an edge that is found gets the weight, even in a full table; else one is added
unfoldable pub update_edge : Net → ℕ → ℕ → ℕ → Out ℕ Net
update_edge g a b w =
    unless (fits g) (out (refused Tables 0) g)
    (unless (ltb a g.n) (add_edge g a b w)
    (on (sought g a b) (λ e. out (done e) (with_edges g (set g.registers e w) g.links g.ends)) (add_edge g a b w) (out (refused Broken 0) g)))

-- the answers of `contains_edge` by number and value
abbrev pub told_contains : Result Bool Refusal → Told ℕ
told_contains = told_as (λ (yes : Bool). cond yes 1 0) 0
