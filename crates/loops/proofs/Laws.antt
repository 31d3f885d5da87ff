-- One call more, and the items of a walk: what moves every loop on.
use Rattle.std.proofs.Common.{◌≡◌, ℕ, ◌+◌, ◌<◌, ◌≤◌, Bool, true, false, cond, not, ◌&&◌, ltb, leb, List, []}
use Rattle.std.proofs.Common.{length, get_or, take, drop, sym, ap, ◌∙◌, subst, add-one, arith, length-append}
use Rattle.std.proofs.Common.{◌*◌, zero, suc, slice_index, refl, Result, Ok, Err}
use Rattle.std.proofs.Math.Nat.{mul-suc}
use Rattle.std.proofs.lemmas.List.Sums.{sum_by_more}
use Rattle.std.proofs.lemmas.List.{get_or-take, get_or-drop}
use Rattle.std.specs.Simd.{first_chunks}
use Rattle.tables.specs.Net.{Net, fits}
use Rattle.index.specs.declared.Refusal.{Refusal}
use Rattle.tables.specs.Answers.{Out, out, give, told_as}
use Rattle.removal.specs.declared.removed.RemovedEdge.{RemovedEdge}
use Rattle.removal.specs.Removal.{told_edge_removed, weight_told}
use Rattle.lists.specs.declared.Item.TheVariants.{Far}
use Rattle.lists.specs.Walk.{broken, around}
use Rattle.walks.specs.Walks.{neighbors}
use Rattle.loops.specs.Loops.{Sums, sums, adds, in64, calls, total}

-- one call more
pub calls-more : {S : Type 0} {s : S} {sum x r : ℕ} {o : Out ℕ S} (call : ℕ → S → Out ℕ S) (s₀ : S) (i : ℕ)
    → sums sum s ≡ calls call s₀ i → o ≡ call i s → x ≡ adds o.answer → r ≡ in64 (sum + x)
    → sums r o.after ≡ calls call s₀ (i + 1)
unfolding calls
calls-more {S} {sum = sum} {o = o} call s₀ i e p q w =
    ap (λ (y : ℕ). sums y o.after) (w ∙ ap (λ (y : ℕ). in64 (sum + y)) q)
    ∙ ap (λ (u : Out ℕ S). sums (in64 (sum + adds u.answer)) u.after) p
    ∙ ap (λ (b : Sums S). sums (in64 (b.sum + adds (call i b.after).answer)) (call i b.after).after) e
    ∙ ap (λ (k : ℕ). calls call s₀ k) (sym (add-one i))

-- cell j of row i, where a table's cells are taken as rows of n
pub row_cell : (n k i j at : ℕ) (cells : List ℕ) → i < k → j < n → at ≡ n * i + j → get_or (get_or (first_chunks n k cells) i []) j 0 ≡ slice_index cells at
row_cell n zero i j at cells h l e = absurd (omega arith)
row_cell n (suc k) zero j at cells h l e = let z : j ≡ at = omega arith in get_or-take n cells j 0 l ∙ ap (λ (x : ℕ). get_or cells x 0) z
row_cell n (suc k) (suc i) j at cells h l e =
    let z : n + (n * i + j) ≡ at = omega (arith, mul-suc n i) in
    row_cell n k i j (n * i + j) (drop n cells) (omega arith) l refl ∙ get_or-drop n cells (n * i + j) 0 ∙ ap (λ (x : ℕ). get_or cells x 0) z

-- of a removal the edge's weight is told
pub weight_adds : (r : Result RemovedEdge Refusal) → told_as (λ (x : RemovedEdge). x.weight) 0 r ≡ weight_told (told_edge_removed r)
weight_adds (Ok x) = refl
weight_adds (Err why) = refl

-- what is added may be kept in 64 bits too
pub in64_twice : (sum x : ℕ) → in64 (sum + in64 x) ≡ in64 (sum + x)
in64_twice sum x = omega arith

-- one item more
pub total_more : (xs : List ℕ) (i s : ℕ) → i < length xs → s ≡ in64 (total (take i xs)) → in64 (s + get_or xs i 0) ≡ in64 (total (take (i + 1) xs))
total_more xs i s l e = rw (sum_by_more (λ x. x) xs i 0 l) (omega (arith, e))

-- a walk gives no more items than its table holds
pub record Held (o : Out ℕ (List ℕ)) : Type 0 where
  pub few : o.answer.values ≤ length o.after

held_either : (b : Bool) {x y : Out ℕ (List ℕ)} → Held x → Held y → Held (cond b x y)
held_either true p q = p
held_either false p q = q

none : {number : ℕ} {table : List ℕ} → Held (out (record { number = number; values = 0 }) table)
none = record { few = omega arith }

give_held : (items table : List ℕ) → Held (give items table)
give_held items table =
    held_either (leb (length items) (length table)) (record { few = rw (length-append items (drop (length items) table)) (omega arith) }) none

neighbors-held : (g : Net) (a : ℕ) (table : List ℕ) → Held (neighbors g a table)
unfolding neighbors
neighbors-held g a table =
    held_either (fits g) (held_either (ltb a g.n) (held_either (not (broken g 0 a) && not (broken g 1 a)) (give_held (around g Far a) table) none) none) none

pub neighbors-given : {o : Out ℕ (List ℕ)} (g : Net) (a : ℕ) (table : List ℕ) → o ≡ neighbors g a table → Held o
neighbors-given g a table e = subst Held (sym e) (neighbors-held g a table)
