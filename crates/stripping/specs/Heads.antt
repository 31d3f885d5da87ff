-- A node stripped of its edges, one head after the other.
use Rattle.std.specs.Prelude.{ℕ, zero, suc, ◌+◌, cond, List, [], ◌∷◌, ◌++◌}
use Rattle.index.specs.Index.{is_end}
use Rattle.tables.specs.Net.{Net}
use Rattle.lists.specs.declared.Spot.TheVariants.{Head}
use Rattle.lists.specs.Walk.{link_at}
use Rattle.removal.specs.Removal.{taken_out}

-- how far the stripping has come: the network that is left, the weights of the edges taken out, the rows read
pub record Strip : Type 0 where
  pub rest : Net
  pub given : List ℕ
  pub rows : ℕ

abbrev pub strip : Net → List ℕ → ℕ → Strip
strip g given rows = record { rest = g; given = given; rows = rows }

-- the first edge of node a's list in direction k is taken out
abbrev pub head_out : (k a : ℕ) → Strip → Strip
head_out k a t =
    let o = taken_out t.rest (link_at t.rest k (Head a)) in
    strip o.after (t.given ++ (o.answer.values.0 ∷ [])) (t.rows + o.answer.values.2)

-- and so on until its head is `END`, at most `most` times
unfoldable pub emptied : (most k a : ℕ) → Strip → Strip
emptied zero k a t = t
emptied (suc most) k a t = cond (is_end (link_at t.rest k (Head a))) t (emptied most k a (head_out k a t))

-- node a without its edges: the outgoing list, then the incoming one
unfoldable pub stripped : Net → ℕ → Strip
stripped g a = emptied g.m 1 a (emptied g.m 0 a (strip g [] 0))
