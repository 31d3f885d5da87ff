-- One turn of the stripping: the head of node a's list of direction k is taken out.
use Prim.Native.Nat.{ℕ, zero, suc, ◌+◌, ◌*◌, ◌-◌, ◌≤◌, ◌<◌}
use mathlib.Core.Path.{◌≡◌, refl, sym, ap, ◌∙◌, subst}
use mathlib.Core.Bool.{Bool, true, false}
use mathlib.Core.List.{List, [], ◌∷◌, ◌++◌, append_assoc, append-nil}
use native.Mathlib.Nat.{not-suc-le-zero, le_of_suc-le-suc}
use native.Mathlib.Numerals.{add-one}
use native.Mathlib.Omega.{arith}
use borrow.Author.Tests.{eq-eqb}
use lib.IntN.{ℤ}
use lib.ListN.{length, get_or, set, drop, length-append, length-set}
use Rattle.std.specs.Prelude.{Result, Ok, Err}
use Rattle.index.specs.declared.Refusal.{Refusal}
use Rattle.index.specs.declared.EdgeDirection.TheVariants.{Outgoing, Incoming}
use Rattle.index.specs.Index.{END, is_end, number_of}
use Rattle.index.specs.Refusals.{refusal_no}
use Rattle.index.proofs.Laws.{not_zero}
use Rattle.tables.specs.Net.{net, fits, node_cell}
use Rattle.tables.specs.Answers.{out, done}
use Rattle.lists.specs.declared.Spot.TheVariants.{Head}
use Rattle.lists.specs.Walk.{link_in}
use Rattle.sound.specs.Sound.{Sound}
use Rattle.sound.proofs.Kept.{fit_of}
use Rattle.removal.specs.declared.removed.RemovedEdge.{RemovedEdge}
use Rattle.removal.specs.Lists.{less_edge}
use Rattle.removal.specs.Parts.{Removable}
use Rattle.removal.specs.Removal.{Gone, moved_no, told_edge_removed, taken_out}
use Rattle.removal.proofs.EdgeOuts.{taken_out_lem}
use Rattle.stripping.specs.Heads.{strip, head_out, emptied}
use Rattle.stripping.proofs.Turns.{emptied-on, head-out}

-- the head as the code reads it: the node's number, and the direction's
pub head-is : (H L : List ℕ) {i j x a k : ℕ} → i ≡ a → j ≡ x → x ≡ k → get_or H (node_cell i j) 0 ≡ link_in H L k (Head a)
head-is H L p q r = rw (p, q, r)

-- a head read, and found to be no end
pub head-goes : (H L : List ℕ) {i j x a k : ℕ} {r : Bool} → i ≡ a → j ≡ x → x ≡ k → r ≡ is_end (get_or H (node_cell i j) 0) → r ≡ false
    → is_end (link_in H L k (Head a)) ≡ false
head-goes H L p q r e h = ap is_end (sym (head-is H L p q r)) ∙ sym e ∙ h

pub number_of-all : (k : ℕ) → k < 2 → number_of (get_or (Outgoing ∷ Incoming ∷ []) k Outgoing) ≡ k
number_of-all zero h = refl
number_of-all (suc zero) h = refl
number_of-all (suc (suc k)) h = absurd (omega arith)

-- a head that is no end
pub no_end : (x : ℕ) → is_end x ≡ false → x ≡ END → ⊥
no_end x z q =
    let b : true ≡ false = sym (eq-eqb x END q) ∙ z in
    let t : ◌≡◌ {A = ℕ} 0 1 = cc in
    omega arith

-- a table whose front holds ws, and one more stored behind it
store_behind : (ws l : List ℕ) (w : ℕ) → 0 < length l → set (ws ++ l) (length ws) w ≡ (ws ++ (w ∷ [])) ++ drop 1 l
store_behind [] [] w h = absurd (not-suc-le-zero h)
store_behind [] (y ∷ l) w h = refl
store_behind (x ∷ ws) l w h = ap (λ (r : List ℕ). x ∷ r) (store_behind ws l w h)

drop-behind : (c : ℕ) (l : List ℕ) → c < length l → (0 < length (drop c l)) × (drop 1 (drop c l) ≡ drop (suc c) l)
drop-behind zero [] h = absurd (not-suc-le-zero h)
drop-behind zero (x ∷ l) h = (omega arith, refl)
drop-behind (suc c) [] h = absurd (not-suc-le-zero h)
drop-behind (suc c) (x ∷ l) h = drop-behind c l (le_of_suc-le-suc h)

room_behind : (c : ℕ) (l : List ℕ) → 0 < length (drop c l) → c < length l
room_behind zero l h = h
room_behind (suc c) [] h = absurd (not-suc-le-zero h)
room_behind (suc c) (x ∷ l) h = omega (arith, room_behind c l h)

store_next : (ws l : List ℕ) (c w : ℕ) → length ws ≡ c → c < length (ws ++ drop c l) → set (ws ++ drop c l) c w ≡ (ws ++ (w ∷ [])) ++ drop (c + 1) l
store_next ws l c w q h =
    let d = drop-behind c l (room_behind c l (omega (arith, length-append ws (drop c l)))) in
    rw (add-one c) (ap (λ i. set (ws ++ drop c l) i w) (sym q) ∙ store_behind ws (drop c l) w d.0 ∙ ap (λ r. (ws ++ (w ∷ [])) ++ r) d.1)

-- with some node weights the columns are a sound network
pub record Alive (n : ℕ) (H R L E : List ℕ) (m : ℕ) : Type 0 where
  pub totals : List ℤ
  pub lists : ℕ → ℕ → List ℕ
  pub fit : fits (net totals H R L E n m) ≡ true
  pub sound : Sound (net totals H R L E n m) lists

-- its node a has a cell for either direction, and it has few edges
pub head-cell : {n : ℕ} {H R L E : List ℕ} {m : ℕ} → Alive n H R L E m → (a : ℕ) → a < n → (node_cell a 1 < length H) × (a < 16384) × (m ≤ 65536)
head-cell {n} {H} {R} {L} {E} {m} A a l =
    let f = fit_of (net A.totals H R L E n m) A.fit in
    (omega (arith, f.heads_agree, f.n_within), omega (arith, f.nodes_most, f.n_within), omega (arith, f.edges_most, f.m_within))

-- from the columns H₀ .. on, edges have been taken out from the head of node a's list of direction k; their weights are `new`
pub record Turned (n k a : ℕ) (H₀ R₀ L₀ E₀ : List ℕ) (m₀ : ℕ) (I₀ : List ℕ) (rows₀ count₀ : ℕ) (H R L E : List ℕ) (m : ℕ) (I : List ℕ) (rows count : ℕ) : Type 0 where
  pub alive : Alive n H R L E m
  pub heads_long : length H ≡ length H₀
  pub registers_long : length R ≡ length R₀
  pub links_long : length L ≡ length L₀
  pub ends_long : length E ≡ length E₀
  pub items_long : length I ≡ length I₀
  pub fewer : m ≤ m₀
  pub each : count + m ≡ count₀ + m₀
  pub few : rows + 4294967296 * m ≤ rows₀ + 4294967296 * m₀
  pub new : List ℕ
  pub many : count₀ + length new ≡ count
  pub goes_on : (F : ℕ) (ws : List ℕ) (T : List ℤ) → m₀ ≤ F
      → emptied (F - (m₀ - m)) k a (strip (net T H R L E n m) (ws ++ new) rows) ≡ emptied F k a (strip (net T H₀ R₀ L₀ E₀ n m₀) ws rows₀)
  pub stored : (ws J : List ℕ) → length ws ≡ count₀ → I₀ ≡ ws ++ drop count₀ J → I ≡ (ws ++ new) ++ drop count J

module _ (n k a : ℕ) (H₀ R₀ L₀ E₀ : List ℕ) (m₀ : ℕ) (I₀ : List ℕ) (rows₀ count₀ : ℕ) where
  pub turned_begins : Alive n H₀ R₀ L₀ E₀ m₀ → Turned n k a H₀ R₀ L₀ E₀ m₀ I₀ rows₀ count₀ H₀ R₀ L₀ E₀ m₀ I₀ rows₀ count₀
  turned_begins A =
      record {
        alive = A;
        heads_long = refl;
        registers_long = refl;
        links_long = refl;
        ends_long = refl;
        items_long = refl;
        fewer = omega arith;
        each = refl;
        few = omega arith;
        new = [];
        many = omega arith;
        goes_on = λ F ws T l. (let z : F - (m₀ - m₀) ≡ F = omega arith in rw (z, append-nil ws));
        stored = λ ws J q is. is ∙ ap (λ r. r ++ drop count₀ J) (sym (append-nil ws));
      }

  -- one more edge, as `take_out` leaves the columns
  module _ (H R L E : List ℕ) (m : ℕ) (I : List ℕ) (rows count : ℕ) (t : Turned n k a H₀ R₀ L₀ E₀ m₀ I₀ rows₀ count₀ H R L E m I rows count)
      (direction : k < 2) (node : a < n) (goes : is_end (link_in H L k (Head a)) ≡ false) (H' R' L' E' : List ℕ) (m' : ℕ) where
    edge : link_in H L k (Head a) < m
    edge = (head-out (net t.alive.totals H R L E n m) t.alive.lists k a t.alive.fit t.alive.sound direction node (no_end _ goes)).0

    -- the edge can be taken out, and is not refused
    pub removable_so : (e : ℕ) → e ≡ link_in H L k (Head a) → Removable (length H) (length R) (length L) (length E) n m e
    removable_so e q =
        let f = fit_of (net t.alive.totals H R L E n m) t.alive.fit in
        record {
          within =
              record {
                heads_hold = omega (arith, f.heads_agree, f.n_within);
                links_hold = omega (arith, f.links_agree, f.m_within);
                ends_hold = omega (arith, f.ends_agree, f.m_within);
                edges_most = omega (arith, f.edges_most, f.m_within);
                edge = rw q edge;
              };
          registers_hold = f.m_within;
        }

    pub served_so : (r : Result RemovedEdge Refusal) (why : Refusal) (e : ℕ) → r ≡ Err why → e ≡ link_in H L k (Head a)
        → out (told_edge_removed r) (net t.alive.totals H' R' L' E' n m') ≡ taken_out (net t.alive.totals H R L E n m) e → ⊥
    served_so r why e p q is =
        let z : refusal_no why ≡ 0 =
        ap (λ x. (told_edge_removed x).number) (sym p)
        ∙ ap (λ (x : Gone). x.answer.number) is
        ∙ ap (λ x. (taken_out (net t.alive.totals H R L E n m) x).answer.number) q
        ∙ ap (λ x. x.number) (taken_out_lem (net t.alive.totals H R L E n m) t.alive.lists (link_in H L k (Head a)) t.alive.fit t.alive.sound edge).served in
        not_zero why z

    module _ (w moved read : ℕ)
        (is : (T : List ℤ) → out (done (w, moved, read)) (net T H' R' L' E' n m') ≡ taken_out (net T H R L E n m) (link_in H L k (Head a))) where
      fewer_by_one : m' ≡ m - 1
      fewer_by_one =
          ap (λ (x : Gone). x.after.m) (is t.alive.totals)
          ∙ (taken_out_lem (net t.alive.totals H R L E n m) t.alive.lists (link_in H L k (Head a)) t.alive.fit t.alive.sound edge).edges

      still_alive : Alive n H' R' L' E' m'
      still_alive =
          let T = t.alive.totals in
          let o = taken_out_lem (net T H R L E n m) t.alive.lists (link_in H L k (Head a)) t.alive.fit t.alive.sound edge in
          let z : net T H' R' L' E' n m' ≡ (taken_out (net T H R L E n m) (link_in H L k (Head a))).after = ap (λ (x : Gone). x.after) (is T) in
          record {
            totals = T;
            lists = less_edge (m - 1) (link_in H L k (Head a)) t.alive.lists;
            fit = subst (λ g. fits g ≡ true) (sym z) o.fit;
            sound = subst (λ g. Sound g (less_edge (m - 1) (link_in H L k (Head a)) t.alive.lists)) (sym z) o.sound;
          }

      one_out : (ws : List ℕ) (T : List ℤ) → head_out k a (strip (net T H R L E n m) (ws ++ t.new) rows) ≡ strip (net T H' R' L' E' n m') (ws ++ (t.new ++ (w ∷ []))) (rows + read)
      one_out ws T = rw (← is T, append_assoc ws t.new (w ∷ []))

      goes_on_so : (F : ℕ) (ws : List ℕ) (T : List ℤ) → m₀ ≤ F
          → emptied (F - (m₀ - m')) k a (strip (net T H' R' L' E' n m') (ws ++ (t.new ++ (w ∷ []))) (rows + read))
          ≡ emptied F k a (strip (net T H₀ R₀ L₀ E₀ n m₀) ws rows₀)
      goes_on_so F ws T l =
          let z : F - (m₀ - m) ≡ suc (F - (m₀ - m')) = omega (arith, fewer_by_one, edge, t.fewer) in
          ap (emptied (F - (m₀ - m')) k a) (sym (one_out ws T))
          ∙ sym (emptied-on (F - (m₀ - m')) k a (strip (net T H R L E n m) (ws ++ t.new) rows) (no_end _ goes))
          ∙ ap (λ f. emptied f k a (strip (net T H R L E n m) (ws ++ t.new) rows)) (sym z)
          ∙ t.goes_on F ws T l

      stored_so : count < length I → (ws J : List ℕ) → length ws ≡ count₀ → I₀ ≡ ws ++ drop count₀ J → set I count w ≡ (ws ++ (t.new ++ (w ∷ []))) ++ drop (count + 1) J
      stored_so room ws J c b =
          let z = t.stored ws J c b in
          ap (λ l. set l count w) z
          ∙ store_next (ws ++ t.new) J count w (omega (arith, c, t.many, length-append ws t.new)) (subst (λ l. count < length l) z room)
          ∙ ap (λ l. l ++ drop (count + 1) J) (append_assoc ws t.new (w ∷ []))

      turned_more : length H' ≡ length H → length R' ≡ length R → length L' ≡ length L → length E' ≡ length E → read < 4294967296 → count < length I
          → Turned n k a H₀ R₀ L₀ E₀ m₀ I₀ rows₀ count₀ H' R' L' E' m' (set I count w) (rows + read) (count + 1)
      turned_more p q r s small room =
          record {
            alive = still_alive;
            heads_long = p ∙ t.heads_long;
            registers_long = q ∙ t.registers_long;
            links_long = r ∙ t.links_long;
            ends_long = s ∙ t.ends_long;
            items_long = length-set I count w ∙ t.items_long;
            fewer = omega (arith, fewer_by_one, t.fewer);
            each = omega (arith, fewer_by_one, edge, t.each);
            few = omega (arith, fewer_by_one, edge, t.few);
            new = t.new ++ (w ∷ []);
            many = omega (arith, t.many, length-append t.new (w ∷ []));
            goes_on = goes_on_so;
            stored = stored_so room;
          }

    pub turned_by : (r : Result RemovedEdge Refusal) (x : RemovedEdge) (e : ℕ) → r ≡ Ok x → e ≡ link_in H L k (Head a)
        → ((T : List ℤ) → out (told_edge_removed r) (net T H' R' L' E' n m') ≡ taken_out (net T H R L E n m) e)
        → length H' ≡ length H → length R' ≡ length R → length L' ≡ length L → length E' ≡ length E → x.rows < 4294967296 → count < length I
        → (m' < m) × Turned n k a H₀ R₀ L₀ E₀ m₀ I₀ rows₀ count₀ H' R' L' E' m' (set I count x.weight) (rows + x.rows) (count + 1)
    turned_by r x e p q is =
        let moved = moved_no x.moved in
        let is' : (T : List ℤ) → out (done (x.weight, moved, x.rows)) (net T H' R' L' E' n m') ≡ taken_out (net T H R L E n m) (link_in H L k (Head a)) =
        λ T. ap (λ y. out (told_edge_removed y) (net T H' R' L' E' n m')) (sym p) ∙ is T ∙ ap (taken_out (net T H R L E n m)) q in
        λ a b c d s h. (omega (arith, fewer_by_one x.weight moved x.rows is', edge), turned_more x.weight moved x.rows is' a b c d s h)
