-- Demand 1, `demand_1`, by one law: a call is its tests, each with its refusal, and then it is served. Assumes nothing.
use Prim.{tt}
use Prim.Native.Nat.{ℕ, ◌+◌, ◌-◌, ◌≤◌, min}
use mathlib.Core.Path.{◌≡◌, refl, sym, ap, subst}
use mathlib.Core.Logic.{◌⊎◌, inl, inr}
use mathlib.Core.Bool.{Bool, true, false, cond, not, ◌&&◌}
use mathlib.Core.List.{List, [], ◌∷◌, ◌++◌, map, append-nil, append_assoc}
use native.Mathlib.Nat.{sub-zero}
use native.Mathlib.Decide.{dec_lt}
use native.Mathlib.Omega.{arith}
use borrow.Author.Tests.{eqb-true, leb-true, le-leb, lt-leb}
use lib.Dec.{eqb, ltb, leb}
use lib.ListN.{length, get_or, take, length-append}
use Rattle.std.proofs.Common.{Option, None, Some, Ok, Err}
use Rattle.index.specs.declared.EdgeDirection.{EdgeDirection}
use Rattle.index.specs.declared.EdgeDirection.TheVariants.{Outgoing, Incoming}
use Rattle.index.specs.declared.Refusal.TheVariants.{Tables, Broken}
use Rattle.index.specs.Index.{is_end, number_of}
use Rattle.tables.specs.Net.{Net, fits, node_cell, edge_cell}
use Rattle.tables.specs.Answers.{Out, out, refused, unless, give}
use Rattle.tables.proofs.Laws.{both}
use Rattle.lookups.specs.Lookups.{node_weight, edge_weight, edge_endpoints, first_edge, next_edge, set_node_weight, set_edge_weight}
use Rattle.rows.specs.Calls.{add_node, add_edge, all_edge_weights, clear_edges, clear}
use Rattle.lists.specs.Chain.{In}
use Rattle.lists.specs.declared.Spot.{Spot}
use Rattle.lists.specs.declared.Pick.TheVariants.{Every, To, NotTo, ToNot}
use Rattle.lists.specs.declared.Item.TheVariants.{Number, Far, Weight}
use Rattle.lists.specs.Walk.{taken_from, stop_from, picks, broken, around}
use Rattle.legs.specs.Legs.{room_for}
use Rattle.walks.specs.Walks.{walked, neighbors, edge_weights, edges_between, edges_mut, edges}
use Rattle.find.specs.Parts.{Sought}
use Rattle.find.specs.Find.{sought, on, find_edge, contains_edge, update_edge}
use Rattle.walker.specs.declared.Walker.{Walker}
use Rattle.walker.specs.Steps.{begin, incoming_step, step}
use Rattle.walker.specs.Sums.{present, sum_around}
use Rattle.sound.specs.declared.Fault.TheVariants.{Refused}
use Rattle.sound.specs.Check.{Walked, way, verdict, checked, is_sound, told_checked}
use Rattle.sound.proofs.Literal.{right, only}
use Rattle.links.specs.declared.Located.{Located}
use Rattle.removal.specs.Removal.{Gone, on_place, place_of, bypassed, last_moved, gone, taken_out, remove_edge}
use Rattle.closing.specs.Closing.{closed_if_room, remove_node}
use Rattle.closing.proofs.NodeOuts as NodeOuts
use Rattle.layout.specs.Layout.{version, head_bytes, image_length, marked, version_in, nodes_in, edges_in}
use Rattle.imagerows.specs.Image.{image_of, loaded}
use Rattle.loading.specs.Loading.{vacated, settled, read_one}
use Rattle.loading.proofs.Vacated.{loaded-vacated}
use Rattle.image.specs.Calls.{image_write, image_read}
use Rattle.image.proofs.RoundTrip as RoundTrip
use Rattle.text.specs.Lines.{lines}
use Rattle.commands.specs.Commands.{Replied}
use Rattle.letters.specs.Letters.{among}
use Rattle.dispatch.specs.Step.{State}
use Rattle.script.specs.Script.{most_bytes, text_of, answers, Each, Ran, ran, printed, begun, run}
use Rattle.script.proofs.Sayings.{run-told}
use Rattle.demands.specs.Demand1.{ServedOr, served, refused_by, Refuses, Tells, step_refusal, load_refusal, lines_that_fit, first_lines, run_refusal, Demand1}

-- a number that is found in a list stands in it
pub in_list : (x : ℕ) (xs : List ℕ) → among x xs ≡ true → In x xs
in_list x [] h = absurd (let z : ◌≡◌ {A = ℕ} 0 1 = cc in omega arith)
in_list x (y ∷ ys) h = go (eqb x y) refl (λ k. in_list x ys k) h
  where
    go : (b : Bool) → eqb x y ≡ b → (among x ys ≡ true → In x ys) → cond b true (among x ys) ≡ true → (x ≡ y) ⊎ In x ys
    go true e later k = inl (eqb-true x y e)
    go false e later k = inr (later k)

module _ {X : Type 0} {number : X → ℕ} {numbers : List ℕ} {refusal : ℕ → X} where
  pub by_number : (why : ℕ) → among why numbers ≡ true → ServedOr number numbers refusal (refusal why)
  by_number why h = refused_by why (in_list why numbers h) refl

  -- a test fails or passes
  pub passing : (b : Bool) {x y : X} → ServedOr number numbers refusal x → (b ≡ true → ServedOr number numbers refusal y) → ServedOr number numbers refusal (unless b x y)
  passing true p q = q refl
  passing false p q = p

  pub passes_or : (b : Bool) {x y : X} → ServedOr number numbers refusal x → ServedOr number numbers refusal y → ServedOr number numbers refusal (unless b x y)
  passes_or b p q = passing b p (λ t. q)

  -- a test with its refusal
  pub if_not : (b : Bool) (why : ℕ) {rest : X} → among why numbers ≡ true → ServedOr number numbers refusal rest
      → ServedOr number numbers refusal (unless b (refusal why) rest)
  if_not b why h p = passes_or b (by_number why h) p

-- an edge is added by `add_edge` and by `update_edge`, which has more numbers
adding : {numbers : List ℕ} (g : Net) (a b w : ℕ) → among 1 numbers ≡ true → among 2 numbers ≡ true → among 3 numbers ≡ true → Refuses numbers 0 g (add_edge g a b w)
unfolding add_edge
adding g a b w one two three =
    if_not (fits g) 1 one (if_not (ltb g.m (length g.registers)) 2 two (if_not (ltb a g.n && ltb b g.n) 3 three (served refl)))

-- items are given, or 7
giving : {numbers : List ℕ} (items table : List ℕ) → among 7 numbers ≡ true → Refuses numbers 0 table (give items table)
giving items table h = if_not (leb (length items) (length table)) 7 h (served refl)

-- a walk settles its lists before
walking : {S : Type 0} (g : Net) (a : ℕ) (table : S) (given : Out ℕ S) → Refuses (1 ∷ 6 ∷ 7 ∷ []) 0 table given → Refuses (1 ∷ 6 ∷ 7 ∷ []) 0 table (walked g a table given)
walking g a table given p =
    if_not (fits g) 1 refl (passes_or (ltb a g.n) (served refl) (if_not (not (broken g 0 a) && not (broken g 1 a)) 6 refl p))

-- what a search comes to
seeking : {X : Type 0} {number : X → ℕ} {numbers : List ℕ} {refusal : ℕ → X} (s : Sought) (found : ℕ → X) (missing endless : X)
    → ((e : ℕ) → number (found e) ≡ 0) → ServedOr number numbers refusal missing → ServedOr number numbers refusal endless
    → ServedOr number numbers refusal (on s found missing endless)
seeking (Ok (Some row)) found missing endless p q r = served (p row.0.0)
seeking (Ok None) found missing endless p q r = q
seeking (Err why) found missing endless p q r = r

-- a step along the incoming list
incoming_step_lem : (g : Net) (w : Walker) (xs : List ℕ)
    → ServedOr (λ o. o.answer.number) (1 ∷ 6 ∷ 5 ∷ []) (step_refusal g w) (incoming_step g w xs (stop_from g.links g.m 1 w.incoming.0))
incoming_step_lem g w (e ∷ es) = served refl
incoming_step_lem g w [] = passes_or (ltb (stop_from g.links g.m 1 w.incoming.0) g.m) (by_number 5 refl) (by_number 6 refl)

-- what the check tells
checked-told : (b : Bool) (w v : Walked)
    → let told = told_checked (unless b (Err (Refused Tables)) (verdict w v)) in
    Tells (1 ∷ []) (0, 0, 0) told ⊎ ((d : EdgeDirection) × (a : ℕ) × (told ≡ refused Broken (0, number_of d, a)))
checked-told false w v = inl (by_number 1 refl)
checked-told true (Err a) v = inr (Outgoing, a.0, refl)
checked-told true (Ok q) (Err a) = inr (Incoming, a.0, refl)
checked-told true (Ok q) (Ok r) = inl (served refl)

-- what the searches for an edge come to
locating : {g : Net} {numbers : List ℕ} (place : Option Located) (found : Spot → Spot → ℕ → Gone) → among 6 numbers ≡ true
    → ((s t : Spot) (rows : ℕ) → Refuses numbers (0, 0, 0) g (found s t rows)) → Refuses numbers (0, 0, 0) g (on_place place found (out (refused Broken (0, 0, 0)) g))
locating (Some place) found h p = p place.outgoing place.incoming place.rows
locating None found h p = by_number 6 h

-- an edge that is in use is taken out, or 6
pub taking_out : {numbers : List ℕ} (g : Net) (e : ℕ) → among 6 numbers ≡ true → Refuses numbers (0, 0, 0) g (taken_out g e)
unfolding taken_out gone last_moved
taking_out g e h =
    locating (place_of g e) _ h (λ s t rows.
    passes_or (eqb e (g.m - 1)) (locating (place_of (bypassed g e s t) (g.m - 1)) _ h (λ u v more. served refl)) (served refl))

-- a load that is refused 6 has written its rows, and empties all
load_broken : (g : Net) (bytes : List ℕ) → fits g ≡ true → leb (nodes_in bytes) (length g.weights) && leb (edges_in bytes) (length g.registers) ≡ true
    → ServedOr (λ o. o.answer.number) (1 ∷ 8 ∷ 9 ∷ 2 ∷ 6 ∷ []) (load_refusal g) (out (refused Broken tt) (vacated (loaded g bytes (nodes_in bytes) (edges_in bytes))))
load_broken g bytes f t =
    let n = nodes_in bytes in
    let m = edges_in bytes in
    let rows = both (leb n (length g.weights)) (leb m (length g.registers)) t in
    refused_by 6 (in_list 6 (1 ∷ 8 ∷ 9 ∷ 2 ∷ 6 ∷ []) refl)
    (ap (out (refused Broken tt)) (loaded-vacated g bytes n m f (leb-true _ _ rows.0) (leb-true _ _ rows.1)))

-- a run that prints its answer lines behind what is written: all of them, or those that fit, each whole
module _ (limit : ℕ) where
  abbrev stopped_at : List ℕ → List (List ℕ) → ℕ → Ran
  stopped_at before texts why = ran why (cond (eqb why 1) [] (before ++ first_lines (lines_that_fit (limit - length before) texts) texts))

  abbrev Prints : List ℕ → List (List ℕ) → Ran → Type 0
  Prints before texts = ServedOr (λ r. r.number) (1 ∷ 7 ∷ []) (stopped_at before texts)

  -- the first line written: those that fit behind it follow
  after_first : (before text : List ℕ) (others : List (List ℕ)) → length before + length text ≤ limit → (r : Ran) → Prints (before ++ text) others r → Prints before (text ∷ others) r
  after_first before text others h r p =
      let left : limit - length (before ++ text) ≡ limit - length before - length text = rw (length-append before text) (omega arith) in
      let bytes : (before ++ text) ++ first_lines (lines_that_fit (limit - length (before ++ text)) others) others
      ≡ before ++ first_lines (lines_that_fit (limit - length before) (text ∷ others)) (text ∷ others) =
      rw (left, le-leb (length text) (limit - length before) (omega arith)) (append_assoc before text _) in
      subst (λ (written : List ℕ). ServedOr (λ r. r.number) (1 ∷ 7 ∷ []) (λ why. ran why (cond (eqb why 1) [] written)) r) bytes p

  printing : (before : List ℕ) (texts : List (List ℕ)) → length before ≤ limit → Prints before texts (printed limit before texts)
  unfolding printed
  printing before [] h = served refl
  printing before (text ∷ others) h =
      elim (dec_lt limit (length before + length text)) [
        | yes l ↦ rw (lt-leb (length before + length text) limit l)
            (refused_by 7 (in_list 7 (1 ∷ 7 ∷ []) refl) (rw (lt-leb (length text) (limit - length before) (omega arith)) (ap (ran 7) (sym (append-nil before)))))
        | no l ↦ rw (le-leb (length before + length text) limit (omega arith))
            (after_first before text others (omega arith) _ (printing (before ++ text) others (rw (length-append before text) (omega arith))))
      ]

running : (script : List ℕ) (room : ℕ) → ServedOr (λ r. r.number) (1 ∷ 7 ∷ []) (run_refusal script room) (run script room)
unfolding run
running script room =
    let limit = min room most_bytes in
    let texts = map text_of (answers (lines script) begun) in
    let Stopped : ℕ → Type 0 =
    λ left. ServedOr (λ r. r.number) (1 ∷ 7 ∷ []) (λ why. ran why (cond (eqb why 1) [] (first_lines (lines_that_fit left texts) texts))) (printed limit [] texts) in
    passes_or (leb (length script) most_bytes) (by_number 1 refl) (subst Stopped (sub-zero limit) (printing limit [] texts (omega arith)))

-- the number of each answer is in the list
each-listed : (os : List (Replied State)) → Each (λ o. among o.reply.number (0 ∷ 2 ∷ 3 ∷ 4 ∷ 5 ∷ 10 ∷ []) ≡ true) os
    → Each (λ o. In o.reply.number (0 ∷ 2 ∷ 3 ∷ 4 ∷ 5 ∷ 10 ∷ [])) os
each-listed [] h = tt
each-listed (o ∷ others) h = (in_list o.reply.number (0 ∷ 2 ∷ 3 ∷ 4 ∷ 5 ∷ 10 ∷ []) h.0, each-listed others h.1)

pub demand_1 : Demand1
unfolding node_weight edge_weight edge_endpoints first_edge next_edge set_node_weight set_edge_weight add_node all_edge_weights clear_edges clear neighbors
    edge_weights edges_between edges_mut edges find_edge contains_edge update_edge begin step sum_around checked remove_edge
    remove_node closed_if_room image_write image_read read_one settled
demand_1 =
    record {
      node-weight = λ g a. if_not (fits g) 1 refl (if_not (ltb a g.n) 3 refl (served refl));
      edge-weight = λ g e. if_not (fits g) 1 refl (if_not (ltb e g.m) 4 refl (served refl));
      edge_endpoints_lem = λ g e. if_not (fits g) 1 refl (if_not (ltb e g.m) 4 refl (served refl));
      first_edge_lem =
          λ g a d.
          if_not (fits g) 1 refl
          (if_not (ltb a g.n) 3 refl (if_not (not (is_end (get_or g.heads (node_cell a (number_of d)) 0))) 5 refl (served refl)));
      next_edge_lem =
          λ g e d.
          if_not (fits g) 1 refl
          (if_not (ltb e g.m) 4 refl (if_not (not (is_end (get_or g.links (edge_cell e (number_of d)) 0))) 5 refl (served refl)));
      set-node_weight = λ g a w. if_not (fits g) 1 refl (if_not (ltb a g.n) 3 refl (served refl));
      set-edge_weight = λ g e w. if_not (fits g) 1 refl (if_not (ltb e g.m) 4 refl (served refl));
      add_node_lem = λ g w. if_not (fits g) 1 refl (if_not (ltb g.n (length g.weights)) 2 refl (served refl));
      add_edge_lem = λ g a b w. adding g a b w refl refl refl;
      all_edge_weights_lem = λ g items. if_not (fits g) 1 refl (giving (take g.m g.registers) items refl);
      clear-edges = λ g. if_not (fits g) 1 refl (served refl);
      clear-all = λ g. if_not (fits g) 1 refl (served refl);
      neighbors_of = λ g a items. walking g a items _ (giving (around g Far a) items refl);
      edge-weights = λ g a items. walking g a items _ (giving (around g Weight a) items refl);
      edges_between_lem =
          λ g a b items.
          walking g a items _ (giving (picks g 0 (To (record { 0 = b })) a ++ picks g 1 (ToNot (record { 0 = b }) (record { 0 = a })) a) items refl);
      edges_mut_lem = λ g a items. walking g a items _ (giving (picks g 1 Every a ++ picks g 0 Every a) items refl);
      edges_of = λ g a t. walking g a t _ (if_not (room_for (length (around g Number a)) t) 7 refl (served refl));
      find-edge =
          λ g a b.
          if_not (fits g) 1 refl
          (if_not (ltb a g.n) 3 refl (seeking (sought g a b) _ _ _ (λ e. refl) (by_number 5 refl) (by_number 6 refl)));
      contains_edge_lem =
          λ g a b.
          if_not (fits g) 1 refl
          (passes_or (ltb a g.n) (served refl) (seeking (sought g a b) _ _ _ (λ e. refl) (served refl) (by_number 6 refl)));
      update_edge_lem =
          λ g a b w.
          if_not (fits g) 1 refl
          (passes_or (ltb a g.n) (adding g a b w refl refl refl) (seeking (sought g a b) _ _ _ (λ e. refl) (adding g a b w refl refl refl) (by_number 6 refl)));
      walker_new = λ g a. if_not (fits g) 1 refl (served refl);
      walker_step =
          λ g w.
          if_not (fits g) 1 refl
          (passes_or (ltb w.outgoing.0 g.m) (incoming_step_lem g w (taken_from g.links g.ends g.m 1 (NotTo w.start) w.incoming.0)) (served refl));
      sum-around =
          λ g a.
          if_not (fits g) 1 refl
          (if_not (ltb a g.n) 3 refl
          (if_not (not (broken g 0 a) && not (broken g 1 a) && present g.n (around g Far a)) 6 refl (served refl)));
      check = λ g. checked-told (fits g) (way g 0) (way g 1);
      check_right = right;
      check_only = only;
      remove-edge = λ g e. if_not (fits g) 1 refl (if_not (ltb e g.m) 4 refl (taking_out g e refl));
      remove-node =
          λ g a items.
          if_not (fits g) 1 refl
          (if_not (ltb a g.n) 3 refl
          (if_not (is_sound g) 6 refl
          (if_not (leb (length (around g Weight a)) (length items)) 7 refl (served refl))));
      remove_node_6 =
          λ g a items f l.
          record {
            unsound_told = λ h. NodeOuts.unsound_6 g a items f l (λ (ls, S). h ls S);
            told-unsound = λ h ls S. NodeOuts.six_unsound g a items f l h (ls, S);
          };
      image_write_6 =
          λ g bytes f.
          record {
            unsound_told = λ h. ap (λ (o : Out ℕ (List ℕ)). o.answer.number) (RoundTrip.unsound_6 g bytes f h);
            told-unsound = λ h ls S. RoundTrip.six_unsound g bytes ls S h;
          };
      image_write_lem = λ g bytes. if_not (fits g) 1 refl (if_not (is_sound g) 6 refl (giving (image_of g) bytes refl));
      image_read_lem =
          λ g bytes.
          let n = nodes_in bytes in
          let m = edges_in bytes in
          passing (fits g) (by_number 1 refl) (λ f.
          if_not (leb head_bytes (length bytes) && marked bytes) 8 refl
          (if_not (eqb (version_in bytes) version) 9 refl
          (passing (leb n (length g.weights) && leb m (length g.registers)) (by_number 2 refl) (λ t.
          if_not (eqb (length bytes) (image_length n m)) 8 refl
          (passes_or (is_sound (loaded g bytes n m)) (load_broken g bytes f t) (served refl))))));
      net-run = running;
      line_told = λ script. each-listed (answers (lines script) begun) (run-told script);
    }
