-- Demand 1: 'What it can't serve it refuses by a number listed .., and the network stays as it was, except that a file with broken links .. leaves it empty.'
-- That each call takes every input is said of its contract, in Settles.
use Prim.{Unit, tt}
use Rattle.std.specs.Prelude.{ℕ, zero, suc, ◌-◌, ◌<◌, min, ◌≡◌, ◌⊎◌, true, cond, List, [], ◌∷◌, ◌++◌, map, eqb, leb, ℤ, pos, length}
use Rattle.index.specs.declared.EdgeDirection.{EdgeDirection}
use Rattle.index.specs.declared.Refusal.TheVariants.{Broken}
use Rattle.index.specs.Index.{number_of}
use Rattle.tables.specs.Net.{Net, fits}
use Rattle.tables.specs.Answers.{Told, Out, out, refused}
use Rattle.lookups.specs.Lookups.{node_weight, edge_weight, edge_endpoints, first_edge, next_edge, set_node_weight, set_edge_weight}
use Rattle.rows.specs.Calls.{add_node, add_edge, all_edge_weights, clear_edges, clear}
use Rattle.lists.specs.Chain.{In}
use Rattle.lists.specs.Walk.{stop_from}
use Rattle.legs.specs.Legs.{Tables3}
use Rattle.walks.specs.Walks.{neighbors, edge_weights, edges_between, edges_mut, edges}
use Rattle.find.specs.Find.{find_edge, contains_edge, update_edge}
use Rattle.walker.specs.declared.Walker.{Walker}
use Rattle.walker.specs.Steps.{walker_of, with_incoming, begin, step}
use Rattle.walker.specs.Sums.{sum_around}
use Rattle.sound.specs.Sound.{Sound}
use Rattle.sound.specs.Check.{Checked, checked, told_checked}
use Rattle.sound.specs.Answer.{Answers}
use Rattle.removal.specs.Removal.{remove_edge}
use Rattle.closing.specs.Closing.{remove_node}
use Rattle.loading.specs.Loading.{vacated}
use Rattle.image.specs.Calls.{image_write, image_read}
use Rattle.text.specs.Lines.{lines}
use Rattle.script.specs.Script.{most_bytes, Ran, ran, text_of, answers, Each, begun, run}

-- a call is served; or it is refused by one of these numbers, and then it comes to this
pub data ServedOr {X : Type 0} (number : X → ℕ) (numbers : List ℕ) (refusal : ℕ → X) (x : X) : Type 0 where
  served : number x ≡ 0 → ServedOr number numbers refusal x
  refused_by : (why : ℕ) → In why numbers → x ≡ refusal why → ServedOr number numbers refusal x

-- a refusal gives its number and zeros, and leaves what it found
abbrev pub refusal : {A S : Type 0} → A → S → ℕ → Out A S
refusal zeros found why = out (record { number = why; values = zeros }) found

abbrev pub Refuses : {A S : Type 0} → List ℕ → A → S → Out A S → Type 0
Refuses numbers zeros found = ServedOr (λ o. o.answer.number) numbers (refusal zeros found)

-- the same of a call that has nothing to change
abbrev pub Tells : {A : Type 0} → List ℕ → A → Told A → Type 0
Tells numbers zeros = ServedOr (λ t. t.number) numbers (λ why. record { number = why; values = zeros })

-- the two calls that a refusal may leave otherwise: a walker at its end, 5, stands past the self-loops that it skipped; a load's 6 leaves nothing
abbrev pub step_refusal : Net → Walker → ℕ → Out ℕ Walker
step_refusal g w number = refusal 0 (cond (eqb number 5) (with_incoming w (stop_from g.links g.m 1 w.incoming.0)) w) number

abbrev pub load_refusal : Net → ℕ → Out Unit Net
load_refusal g number = refusal tt (cond (eqb number 6) (vacated g) g) number

-- how many lines fit into so many bytes, one after the other: the first that does not ends the count
abbrev pub lines_that_fit : ℕ → List (List ℕ) → ℕ
lines_that_fit room [] = 0
lines_that_fit room (text ∷ others) = cond (leb (length text) room) (suc (lines_that_fit (room - length text) others)) 0

-- so many of them, each whole
abbrev pub first_lines : ℕ → List (List ℕ) → List ℕ
first_lines zero texts = []
first_lines (suc count) [] = []
first_lines (suc count) (text ∷ others) = text ++ first_lines count others

-- a script too long is told 1, with no line; one that is stopped has written all the answer lines that fit, and no other
abbrev pub run_refusal : List ℕ → (room why : ℕ) → Ran
run_refusal script room why =
    let texts = map text_of (answers (lines script) begun) in
    ran why (cond (eqb why 1) [] (first_lines (lines_that_fit (min room most_bytes) texts) texts))

-- 6 is told exactly where the network is not sound
pub record SixExactly (g : Net) (number : ℕ) : Type 0 where
  pub unsound_told : ((ls : ℕ → ℕ → List ℕ) → Sound g ls → ⊥) → number ≡ 6
  pub told-unsound : number ≡ 6 → (ls : ℕ → ℕ → List ℕ) → Sound g ls → ⊥

-- the numbers of each call
pub record Demand1 : Type 0 where
  pub node-weight : (g : Net) (a : ℕ) → Tells (1 ∷ 3 ∷ []) (pos 0) (node_weight g a)
  pub edge-weight : (g : Net) (e : ℕ) → Tells (1 ∷ 4 ∷ []) 0 (edge_weight g e)
  pub edge_endpoints_lem : (g : Net) (e : ℕ) → Tells (1 ∷ 4 ∷ []) (0, 0) (edge_endpoints g e)
  pub first_edge_lem : (g : Net) (a : ℕ) (d : EdgeDirection) → Tells (1 ∷ 3 ∷ 5 ∷ []) 0 (first_edge g a d)
  pub next_edge_lem : (g : Net) (e : ℕ) (d : EdgeDirection) → Tells (1 ∷ 4 ∷ 5 ∷ []) 0 (next_edge g e d)
  pub set-node_weight : (g : Net) (a : ℕ) (w : ℤ) → Refuses (1 ∷ 3 ∷ []) tt g (set_node_weight g a w)
  pub set-edge_weight : (g : Net) (e w : ℕ) → Refuses (1 ∷ 4 ∷ []) tt g (set_edge_weight g e w)
  pub add_node_lem : (g : Net) (w : ℤ) → Refuses (1 ∷ 2 ∷ []) 0 g (add_node g w)
  pub add_edge_lem : (g : Net) (a b w : ℕ) → Refuses (1 ∷ 2 ∷ 3 ∷ []) 0 g (add_edge g a b w)
  pub all_edge_weights_lem : (g : Net) (items : List ℕ) → Refuses (1 ∷ 7 ∷ []) 0 items (all_edge_weights g items)
  pub clear-edges : (g : Net) → Refuses (1 ∷ []) tt g (clear_edges g)
  pub clear-all : (g : Net) → Refuses (1 ∷ []) tt g (clear g)
  pub neighbors_of : (g : Net) (a : ℕ) (items : List ℕ) → Refuses (1 ∷ 6 ∷ 7 ∷ []) 0 items (neighbors g a items)
  pub edge-weights : (g : Net) (a : ℕ) (items : List ℕ) → Refuses (1 ∷ 6 ∷ 7 ∷ []) 0 items (edge_weights g a items)
  pub edges_between_lem : (g : Net) (a b : ℕ) (items : List ℕ) → Refuses (1 ∷ 6 ∷ 7 ∷ []) 0 items (edges_between g a b items)
  -- `edge_weights_mut` has the same definition
  pub edges_mut_lem : (g : Net) (a : ℕ) (items : List ℕ) → Refuses (1 ∷ 6 ∷ 7 ∷ []) 0 items (edges_mut g a items)
  pub edges_of : (g : Net) (a : ℕ) (tables : Tables3) → Refuses (1 ∷ 6 ∷ 7 ∷ []) 0 tables (edges g a tables)
  pub find-edge : (g : Net) (a b : ℕ) → Tells (1 ∷ 3 ∷ 6 ∷ 5 ∷ []) 0 (find_edge g a b)
  pub contains_edge_lem : (g : Net) (a b : ℕ) → Tells (1 ∷ 6 ∷ []) 0 (contains_edge g a b)
  pub update_edge_lem : (g : Net) (a b w : ℕ) → Refuses (1 ∷ 6 ∷ 2 ∷ 3 ∷ []) 0 g (update_edge g a b w)
  pub walker_new : (g : Net) (a : ℕ) → Tells (1 ∷ []) (walker_of 0 0 0) (begin g a)
  pub walker_step : (g : Net) (w : Walker) → ServedOr (λ o. o.answer.number) (1 ∷ 6 ∷ 5 ∷ []) (step_refusal g w) (step g w)
  pub sum-around : (g : Net) (a : ℕ) → Tells (1 ∷ 3 ∷ 6 ∷ []) (pos 0) (sum_around g a)
  -- the check's 6 comes with direction and node
  pub check : (g : Net)
      → Tells (1 ∷ []) (0, 0, 0) (told_checked (checked g))
      ⊎ ((d : EdgeDirection) × (a : ℕ) × (told_checked (checked g) ≡ refused Broken (0, number_of d, a)))
  -- its answer is the right one in the order's words, which have the first fault; and no other is
  pub check_right : (g : Net) → Answers g (checked g)
  pub check_only : (g : Net) (r : Checked) → Answers g r → r ≡ checked g
  pub remove-edge : (g : Net) (e : ℕ) → Refuses (1 ∷ 4 ∷ 6 ∷ []) (0, 0, 0) g (remove_edge g e)
  pub remove-node : (g : Net) (a : ℕ) (items : List ℕ) → Refuses (1 ∷ 3 ∷ 6 ∷ 7 ∷ []) (pos 0, 0, 0) (g, items) (remove_node g a items)
  -- 'Remove node and image write answer 6 exactly when the whole network is not sound'
  pub remove_node_6 : (g : Net) (a : ℕ) (items : List ℕ) → fits g ≡ true → a < g.n → SixExactly g (remove_node g a items).answer.number
  pub image_write_lem : (g : Net) (bytes : List ℕ) → Refuses (1 ∷ 6 ∷ 7 ∷ []) 0 bytes (image_write g bytes)
  pub image_write_6 : (g : Net) (bytes : List ℕ) → fits g ≡ true → SixExactly g (image_write g bytes).answer.number
  pub image_read_lem : (g : Net) (bytes : List ℕ) → ServedOr (λ o. o.answer.number) (1 ∷ 8 ∷ 9 ∷ 2 ∷ 6 ∷ []) (load_refusal g) (image_read g bytes)
  -- a run: a script that is too long writes nothing, and one stopped by 7 keeps the lines already written
  pub net-run : (script : List ℕ) (room : ℕ) → ServedOr (λ r. r.number) (1 ∷ 7 ∷ []) (run_refusal script room) (run script room)
  -- each of its lines is told one of these
  pub line_told : (script : List ℕ) → Each (λ o. In o.reply.number (0 ∷ 2 ∷ 3 ∷ 4 ∷ 5 ∷ 10 ∷ [])) (answers (lines script) begun)
