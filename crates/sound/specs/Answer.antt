-- The check's answer in words, with no walk in it.
use Rattle.std.specs.Prelude.{ℕ, ◌*◌, ◌≤◌, ◌<◌, ◌≡◌, true, false, List, Ok, Err}
use Rattle.index.specs.declared.EdgeDirection.TheVariants.{Outgoing, Incoming}
use Rattle.index.specs.declared.Refusal.TheVariants.{Tables}
use Rattle.tables.specs.Net.{Net, fits}
use Rattle.lists.specs.declared.Spot.{Spot}
use Rattle.lists.specs.declared.Spot.TheVariants.{Head}
use Rattle.lists.specs.Chain.{Chain, In}
use Rattle.lists.specs.Walk.{link_at}
use Rattle.sound.specs.declared.Fault.TheVariants.{At, Refused}
use Rattle.sound.specs.Sound.{end_at, Sound, Lists}
use Rattle.sound.specs.Check.{Checked}

-- the links from spot s on lead through the edges xs to `END`, and each of them has node a at its end
pub record Own (lk : Spot → ℕ) (node : ℕ → ℕ) (m a : ℕ) (s : Spot) (xs : List ℕ) : Type 0 where
  pub chain : Chain lk m s xs
  pub own : (x : ℕ) → In x xs → node x ≡ a

-- the first fault of one direction: node a has no such list and all before it have; or a is n, all have, and some edge is in none
pub record FirstFault (lk : Spot → ℕ) (node : ℕ → ℕ) (n m a : ℕ) : Type 0 where
  pub inside : a ≤ n
  pub before : (b : ℕ) → b < a → (xs : List ℕ) × Own lk node m b (Head b) xs
  pub here : a < n → (xs : List ℕ) → Own lk node m a (Head a) xs → ⊥
  pub missing : a ≡ n → (x : ℕ) × (x < m) × ((b : ℕ) → b < n → (xs : List ℕ) → Own lk node m b (Head b) xs → In x xs → ⊥)

-- the first fault of direction k is at node a
abbrev pub FaultIn : Net → ℕ → ℕ → Type 0
FaultIn g k a = FirstFault (link_at g k) (end_at g k) g.n g.m a

-- the outgoing lists alone have no fault
abbrev pub OutgoingSound : Net → Type 0
OutgoingSound g = (ls : ℕ → List ℕ) × Lists g.n g.m (link_at g 0) (end_at g 0) ls

-- the answer that is right: 2 m rows of a sound network; else the first fault, outgoing before incoming; or columns that do not fit
unfoldable pub Answers : Net → Checked → Type 0
Answers g (Ok rows) = (fits g ≡ true) × (rows ≡ 2 * g.m) × ((ls : ℕ → ℕ → List ℕ) × Sound g ls)
Answers g (Err (At Outgoing a)) = (fits g ≡ true) × FaultIn g 0 a.0
Answers g (Err (At Incoming a)) = (fits g ≡ true) × OutgoingSound g × FaultIn g 1 a.0
Answers g (Err (Refused why)) = (fits g ≡ false) × (why ≡ Tables)
