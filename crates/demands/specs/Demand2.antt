-- Demand 2: 'On every sound network within our limits each answer and every row afterwards equal the Rust's.' The rules are the definitions of the
-- calls, which their contracts equal on all inputs. Here is what these come to on a sound network: they are the Rust's, nothing is broken, and it stays sound.
use Prim.{tt}
use Rattle.std.specs.Prelude.{ℕ, ◌*◌, ◌≤◌, ◌≡◌, true, List, ℤ, length, take}
use Rattle.tables.specs.Net.{Net, fits}
use Rattle.tables.specs.Answers.{Told, out, done, onto}
use Rattle.lookups.specs.Lookups.{set_node_weight, set_edge_weight}
use Rattle.rows.specs.Calls.{add_node, add_edge, clear_edges, clear}
use Rattle.legs.specs.Legs.{Tables3}
use Rattle.walks.specs.Walks.{neighbors, edge_weights, edges_between, edges_mut, edges}
use Rattle.find.specs.Find.{find_edge, contains_edge, update_edge}
use Rattle.walker.specs.declared.Walker.{Walker}
use Rattle.walker.specs.Steps.{step}
use Rattle.walker.specs.Sums.{sum_around}
use Rattle.sound.specs.Sound.{Sound, lists}
use Rattle.sound.specs.Check.{checked, told_checked}
use Rattle.removal.specs.Removal.{remove_edge}
use Rattle.closing.specs.Closing.{remove_node}
use Rattle.alike.specs.Calls.{AsRust}
use Rattle.layout.specs.Numbers.{Bytes}
use Rattle.image.specs.RoundTrip.{Cells, SameRows}
use Rattle.image.specs.Calls.{image_write, image_read}
use Rattle.text.specs.Lines.{lines}
use Rattle.script.specs.Script.{answers, Each, begun}

-- a sound network within the limits; its lists are those that a walk meets
abbrev pub SoundNet : Net → Type 0
SoundNet g = (fits g ≡ true) × Sound g (lists g)

-- a call does not tell 6, broken links
abbrev pub Unbroken : {A : Type 0} → Told A → Type 0
Unbroken told = told.number ≡ 6 → ⊥

-- of the calls that can, none does
pub record NothingBroken (g : Net) : Type 0 where
  pub neighbors_of : (a : ℕ) (items : List ℕ) → Unbroken (neighbors g a items).answer
  pub edge-weights : (a : ℕ) (items : List ℕ) → Unbroken (edge_weights g a items).answer
  pub edges_between_lem : (a b : ℕ) (items : List ℕ) → Unbroken (edges_between g a b items).answer
  pub edges_mut_lem : (a : ℕ) (items : List ℕ) → Unbroken (edges_mut g a items).answer
  pub edges_of : (a : ℕ) (tables : Tables3) → Unbroken (edges g a tables).answer
  pub find-edge : (a b : ℕ) → Unbroken (find_edge g a b)
  pub contains_edge_lem : (a b : ℕ) → Unbroken (contains_edge g a b)
  pub update_edge_lem : (a b w : ℕ) → Unbroken (update_edge g a b w).answer
  pub walker_step : (w : Walker) → Unbroken (step g w).answer
  pub sum-around : (a : ℕ) → Unbroken (sum_around g a)
  pub check : Unbroken (told_checked (checked g))
  pub remove-edge : (e : ℕ) → Unbroken (remove_edge g e).answer
  pub remove-node : (a : ℕ) (items : List ℕ) → Unbroken (remove_node g a items).answer
  pub image_write_lem : (bytes : List ℕ) → Unbroken (image_write g bytes).answer

-- every call that may change the network leaves it sound, whatever it answers
pub record LeftSound (g : Net) : Type 0 where
  pub set-node_weight : (a : ℕ) (w : ℤ) → SoundNet (set_node_weight g a w).after
  pub set-edge_weight : (e w : ℕ) → SoundNet (set_edge_weight g e w).after
  pub add_node_lem : (w : ℤ) → SoundNet (add_node g w).after
  pub add_edge_lem : (a b w : ℕ) → SoundNet (add_edge g a b w).after
  pub update_edge_lem : (a b w : ℕ) → SoundNet (update_edge g a b w).after
  pub remove-edge : (e : ℕ) → SoundNet (remove_edge g e).after
  pub remove-node : (a : ℕ) (items : List ℕ) → SoundNet (remove_node g a items).after.0
  pub clear-edges : SoundNet (clear_edges g).after
  pub clear-all : SoundNet (clear g).after

pub record Demand2 : Type 0 where
  -- 'each answer and every row afterwards equal the Rust's', graph.rs being what crates/original has
  pub as_rust : (g : Net) → SoundNet g → AsRust g
  pub nothing-broken : (g : Net) → SoundNet g → NothingBroken g
  pub left-sound : (g : Net) → SoundNet g → LeftSound g
  -- the check accepts exactly the sound networks
  pub sound_accepted : (g : Net) → SoundNet g → told_checked (checked g) ≡ done (2 * g.m, 0, 0)
  pub accepted-sound : (g : Net) → (told_checked (checked g)).number ≡ 0 → SoundNet g
  -- a load that is served leaves a sound network, whatever was there
  pub loaded-sound : (t : Net) (bytes : List ℕ) → (image_read t bytes).answer.number ≡ 0 → SoundNet (image_read t bytes).after
  -- the network in a run is always sound, and no line of it is told 6
  pub run_sound : (script : List ℕ) → Each (λ o. SoundNet o.after.network) (answers (lines script) begun)
  pub run-unbroken : (script : List ℕ) → Each (λ o. o.reply.number ≡ 6 → ⊥) (answers (lines script) begun)
  -- 'An image written and read back gives the same rows': read into tables with room
  pub written_read : (g t : Net) (bytes : List ℕ) → Cells g → (image_write g bytes).answer.number ≡ 0
      → fits t ≡ true → g.n ≤ length t.weights → g.m ≤ length t.registers
      → let image = take (image_write g bytes).answer.values (image_write g bytes).after in
      ((image_read t image).answer ≡ done tt) × SameRows g (image_read t image).after
  -- 'one read and written back, the same bytes'
  pub read_written : (t : Net) (bytes table : List ℕ) → Bytes bytes → (image_read t bytes).answer.number ≡ 0 → length bytes ≤ length table
      → image_write (image_read t bytes).after table ≡ out (done (length bytes)) (onto bytes table)
