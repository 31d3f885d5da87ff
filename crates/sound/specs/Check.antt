-- The check of a network: the rows that it reads, or direction and node of the first fault.
use Rattle.std.specs.Prelude.{ℕ, zero, suc, ◌+◌, ◌-◌, Bool, true, false, cond, ◌&&◌, eqb, ltb, Result, Ok, Err}
use Rattle.index.specs.declared.NodeIndex.{NodeIndex}
use Rattle.index.specs.declared.EdgeDirection.TheVariants.{Outgoing, Incoming}
use Rattle.index.specs.declared.Refusal.TheVariants.{Tables, Broken}
use Rattle.index.specs.Index.{END, number_of}
use Rattle.tables.specs.Net.{Net, fits}
use Rattle.tables.specs.Answers.{Told, done, refused, unless}
use Rattle.lists.specs.declared.Spot.{Spot}
use Rattle.lists.specs.declared.Spot.TheVariants.{Head, After}
use Rattle.lists.specs.Walk.{link_at}
use Rattle.sound.specs.declared.Fault.{Fault}
use Rattle.sound.specs.declared.Fault.TheVariants.{At, Refused}
use Rattle.sound.specs.Sound.{end_at}

-- the rows read of one direction's lists; or the first node with a fault, n where some edge is in no list
abbrev pub Walked : Type 0
Walked = Result ℕ NodeIndex

-- a fault at node a
abbrev pub fault : ℕ → Walked
fault a = Err (record { 0 = a })

-- the rows read of a sound network; or why it is not accepted
abbrev pub Checked : Type 0
Checked = Result ℕ Fault

-- node a's list from spot s on, with `rows` rows read before and at most `left` to read: `END` ends it, an edge below m that
-- has a at its end leads on, and all else is a fault at a
unfoldable pub walked : (Spot → ℕ) → (ℕ → ℕ) → (m a left : ℕ) → Spot → (rows : ℕ) → Walked
walked lk node m a zero s rows = cond (eqb (lk s) END) (Ok rows) (fault a)
walked lk node m a (suc left) s rows =
    cond (eqb (lk s) END) (Ok rows)
    (cond (ltb (lk s) m && eqb (node (lk s)) a) (walked lk node m a left (After (lk s)) (rows + 1)) (fault a))

-- a fault ends the walk through the lists
abbrev pub and_then : Walked → (ℕ → Walked) → Walked
and_then (Ok rows) f = f rows
and_then (Err a) f = Err a

-- node a's list, once `rows` rows of that direction are read: m in all are the most
abbrev pub node_walked : (Spot → ℕ) → (ℕ → ℕ) → (m a rows : ℕ) → Walked
node_walked lk node m a rows = walked lk node m a (m - rows) (Head a) rows

-- the lists of the nodes below a, in node order
unfoldable pub up_to : (Spot → ℕ) → (ℕ → ℕ) → (m a : ℕ) → Walked
up_to lk node m zero = Ok 0
up_to lk node m (suc a) = and_then (up_to lk node m a) (node_walked lk node m a)

-- all lists of one direction; node n where they have not all m edges
unfoldable pub one_way : (Spot → ℕ) → (ℕ → ℕ) → (n m : ℕ) → Walked
one_way lk node n m = and_then (up_to lk node m n) (λ rows. cond (eqb rows m) (Ok rows) (fault n))

-- direction k of a network
abbrev pub way : Net → ℕ → Walked
way g k = one_way (link_at g k) (end_at g k) g.n g.m

-- what the two directions come to: an outgoing fault comes first
abbrev pub verdict : Walked → Walked → Checked
verdict (Err a) w = Err (At Outgoing a)
verdict (Ok q) (Err a) = Err (At Incoming a)
verdict (Ok q) (Ok r) = Ok (q + r)

-- outgoing lists, then incoming lists
unfoldable pub checked : Net → Checked
checked g = unless (fits g) (Err (Refused Tables)) (verdict (way g 0) (way g 1))

-- whether it accepts: exactly the sound networks
abbrev pub accepted : Checked → Bool
accepted (Ok rows) = true
accepted (Err why) = false

abbrev pub is_sound : Net → Bool
is_sound g = accepted (checked g)

-- rows read, direction and node: an accepted network tells the rows and two zeros, a fault a zero and its place, a refusal zeros
abbrev pub told_checked : Checked → Told (ℕ × ℕ × ℕ)
told_checked (Ok rows) = done (rows, 0, 0)
told_checked (Err (At d a)) = refused Broken (0, number_of d, a.0)
told_checked (Err (Refused why)) = refused why (0, 0, 0)
