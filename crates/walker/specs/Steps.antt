-- The walker of a node's neighbours: three numbers, moved on by one neighbour a step.
use Rattle.std.specs.Prelude.{ℕ, cond, List, [], ◌∷◌, ltb, Result}
use Rattle.index.specs.Index.{END}
use Rattle.index.specs.declared.Refusal.{Refusal}
use Rattle.index.specs.declared.Refusal.TheVariants.{Tables, Nothing, Broken}
use Rattle.tables.specs.Net.{Net, fits}
use Rattle.tables.specs.Answers.{Told, Out, out, done, refused, unless, told_as, told_node}
use Rattle.lists.specs.declared.Spot.TheVariants.{Head}
use Rattle.lists.specs.declared.Pick.TheVariants.{NotTo}
use Rattle.lists.specs.declared.Item.TheVariants.{Far}
use Rattle.lists.specs.Walk.{cell, link_at, gives, taken_from, stop_from}
use Rattle.walker.specs.declared.Walker.{Walker}
use Rattle.walker.specs.declared.Step.{Step}

-- a walker: the node where it started, its next outgoing and its next incoming edge
abbrev pub walker_of : (start outgoing incoming : ℕ) → Walker
walker_of start outgoing incoming = record { start = record { 0 = start }; outgoing = record { 0 = outgoing }; incoming = record { 0 = incoming } }

-- a walker with one of its links moved on
abbrev pub with_outgoing : Walker → ℕ → Walker
with_outgoing w e = walker_of w.start.0 e w.incoming.0

abbrev pub with_incoming : Walker → ℕ → Walker
with_incoming w e = walker_of w.start.0 w.outgoing.0 e

-- a walker at the heads of node a's two lists; a missing node has none
abbrev pub at_heads : Net → ℕ → Walker
at_heads g a = cond (ltb a g.n) (walker_of a (link_at g 0 (Head a)) (link_at g 1 (Head a))) (walker_of a END END)

unfoldable pub begin : Net → ℕ → Told Walker
begin g a = unless (fits g) (refused Tables (walker_of 0 0 0)) (done (at_heads g a))

-- a step along the incoming list, by the rows of it that are no self-loops and the link where it stops
abbrev pub incoming_step : Net → Walker → List ℕ → ℕ → Out ℕ Walker
incoming_step g w (e ∷ es) s = out (done (gives g Far 1 e)) (with_incoming w (cell g.links 1 e))
-- at 6 the walker stays; at 5 it stands at that link, past the self-loops skipped
incoming_step g w [] s = cond (ltb s g.m) (out (refused Broken 0) w) (out (refused Nothing 0) (with_incoming w s))

-- the next neighbour, and the walker past it: first along the outgoing list, then along the incoming one
unfoldable pub step : Net → Walker → Out ℕ Walker
step g w =
    let e = w.outgoing.0 in
    let i = w.incoming.0 in
    unless (fits g) (out (refused Tables 0) w)
    (cond (ltb e g.m) (out (done (gives g Far 0 e)) (with_outgoing w (cell g.links 0 e)))
    (incoming_step g w (taken_from g.links g.ends g.m 1 (NotTo w.start) i) (stop_from g.links g.m 1 i)))

-- a refusal tells zeros
abbrev pub told_begun : Result Walker Refusal → Told Walker
told_begun = told_as (λ (w : Walker). w) (walker_of 0 0 0)

-- what a step tells is its neighbour; beside it stands the walker
abbrev pub told_step : Step → Told ℕ
told_step s = told_node s.neighbor

abbrev pub moved : Step → Walker
moved s = s.walker
