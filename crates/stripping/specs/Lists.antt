-- A network by its lists, as edges go from the head of one: what is left, and the rows read.
use Rattle.std.specs.Prelude.{ℕ, zero, suc, ◌+◌, ◌-◌, List, [], ◌∷◌, length}
use Rattle.tables.specs.Net.{Net}
use Rattle.sound.specs.Sound.{end_at}
use Rattle.removal.specs.Lists.{renamed, less_edge, rows_read}

-- a network by its lists: node a's list and edge x's end in direction k, how many edges there are
pub record Listing : Type 0 where
  pub list : (k a : ℕ) → List ℕ
  pub end : (k x : ℕ) → ℕ
  pub edges : ℕ

abbrev pub listing : Net → (ℕ → ℕ → List ℕ) → Listing
listing g ls = record { list = ls; end = end_at g; edges = g.m }

-- edge e is out, and the last row has its number
abbrev pub out_of : ℕ → Listing → Listing
out_of e N =
    record { list = less_edge (N.edges - 1) e N.list; end = λ k x. N.end k (renamed e (N.edges - 1) x); edges = N.edges - 1 }

-- what is done with the first edge of a list
abbrev pub on_head : {A : Type 0} → List ℕ → A → (ℕ → A) → A
on_head [] none some = none
on_head (e ∷ xs) none some = some e

-- the first edge of node a's list in direction k is out, f times; and the rows read for that
unfoldable pub heads_out : (f k a : ℕ) → Listing → Listing
heads_out zero k a N = N
heads_out (suc f) k a N = heads_out f k a (on_head (N.list k a) N (λ e. out_of e N))

unfoldable pub heads_read : (f k a : ℕ) → Listing → ℕ
heads_read zero k a N = 0
heads_read (suc f) k a N =
    on_head (N.list k a) 0 (λ e. rows_read N.end N.list (N.edges - 1) e) + heads_read f k a (on_head (N.list k a) N (λ e. out_of e N))

-- node a's list of direction k is emptied
abbrev pub list_out : (k a : ℕ) → Listing → Listing
list_out k a N = heads_out (length (N.list k a)) k a N

abbrev pub list_read : (k a : ℕ) → Listing → ℕ
list_read k a N = heads_read (length (N.list k a)) k a N
