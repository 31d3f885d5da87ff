-- Two legs into one table, over plain lists.
use Rattle.std.specs.Prelude.{min, Option, Some, None, Result, Ok, Err}
use Prim.Native.Nat.{ℕ, ◌+◌, ◌-◌, ◌≤◌, ◌<◌}
use mathlib.Core.Path.{◌≡◌, refl, sym, ap, ap₂, ◌∙◌}
use mathlib.Core.Bool.{Bool, true, false, ◌&&◌}
use mathlib.Core.List.{List, [], ◌++◌, append_assoc, append-nil}
use borrow.Author.Tests.{le-leb, lt-leb, leb-true, leb-false}
use borrow.Rule.Slice.PartMut.{put_mid, mid_len}
use native.Mathlib.Omega.{arith}
use lib.Dec.{leb}
use lib.ListN.{length, take, drop, length-append, length-map, length-drop, drop_of_length-le}
use lib.Seq.{take_all, take_at, drop_at, drop-drop}
use Rattle.index.specs.declared.Refusal.{Refusal}
use Rattle.index.specs.declared.Refusal.TheVariants.{Broken, Short}
use Rattle.tables.specs.Answers.{Out, out, done, refused, unless, onto}
use Rattle.lists.specs.declared.Item.{Item}
use Rattle.lists.specs.declared.Item.TheVariants.{Number, Near, Far}
use Rattle.lists.specs.Walk.{cell, picked, rows_from, stop_from, item_of}
use Rattle.lists.specs.Parts.{extents_of, written}
use Rattle.lists.proofs.Counts.{filter-length, extents_broken, extents_rows}
use Rattle.lists.proofs.Gives.{walk-length}
use Rattle.legs.specs.declared.parts.Leg.{Leg}
use Rattle.legs.specs.declared.parts.Prepared.{Prepared}
use Rattle.legs.specs.Legs.{leg_takes, leg_gives, legs_give, leg_ends, legs_told, settled, prepared, Tables3, tables3, room_for, edges_told, Legs, Ready}

module _ (links ends : List ℕ) (m : ℕ) (leg : Leg) where
  -- a leg takes no more items than its list has rows, and there are at most m
  pub items_few : length (leg_takes links ends m leg) ≤ length (rows_from links m leg.k leg.link)
  items_few = filter-length (λ x. picked leg.pick (cell ends (1 - leg.k) x)) (rows_from links m leg.k leg.link)

  pub leg_few : length (leg_takes links ends m leg) ≤ m
  leg_few = omega (arith, items_few, walk-length (cell links leg.k) m m leg.link)

-- both lists end, and have so many rows
pub record Both (links : List ℕ) (m : ℕ) (first second : Leg) (rows others : ℕ) : Type 0 where
  pub both_end : (leg_ends links m first && leg_ends links m second) ≡ true
  pub first_rows : length (rows_from links m first.k first.link) ≡ rows
  pub second_rows : length (rows_from links m second.k second.link) ≡ others

-- what the extents of their lists say of two legs
abbrev extents_at : List ℕ → ℕ → Leg → Leg → Option (ℕ × ℕ)
extents_at links m first second =
    extents_of (rows_from links m first.k first.link) (stop_from links m first.k first.link)
    (rows_from links m second.k second.link) (stop_from links m second.k second.link) m

pub both-known : {links : List ℕ} {m : ℕ} (first second : Leg) {r : Option (ℕ × ℕ)} {rows others : ℕ} → r ≡ extents_at links m first second → r ≡ Some (rows, others)
    → Both links m first second rows others
both-known first second e h =
    let b = extents_rows _ _ _ _ _ (sym e ∙ h) in
    record { both_end = b.0; first_rows = b.1; second_rows = b.2 }

module _ (links ends : List ℕ) (m : ℕ) (first second : Leg) where
  pub none-settled : {r : Option (ℕ × ℕ)} → r ≡ extents_at links m first second → r ≡ None → None ≡ settled links ends m first second
  none-settled e h = rw (extents_broken _ _ _ _ _ (sym e ∙ h))

  pub both-settled : {rows others mid more : ℕ} → Both links m first second rows others → mid ≡ length (leg_takes links ends m first) → more ≡ length (leg_takes links ends m second)
      → Some (record { rows = rows; taken = mid; others = others; count = mid + more }) ≡ settled links ends m first second
  both-settled b p q = rw (b.both_end, b.first_rows, b.second_rows, p, q)

module _ (links ends : List ℕ) (m : ℕ) (first second : Leg) (room : ℕ) where
  pub one_broken : {r : Option (ℕ × ℕ)} → r ≡ extents_at links m first second → r ≡ None → Err Broken ≡ prepared links ends m first second room
  unfolding prepared
  one_broken e h = rw (extents_broken _ _ _ _ _ (sym e ∙ h))

  module _ {rows others : ℕ} (b : Both links m first second rows others) where
    pub room_for_items : length (leg_takes links ends m first) + length (leg_takes links ends m second) ≤ room
        → Ok (record { rows = rows; others = others }) ≡ prepared links ends m first second room
    unfolding prepared
    room_for_items l = rw (b.both_end, le-leb _ _ l, b.first_rows, b.second_rows)

    pub room_for-rows : rows + others ≤ room → Ok (record { rows = rows; others = others }) ≡ prepared links ends m first second room
    room_for-rows l = room_for_items (omega (arith, items_few links ends m first, items_few links ends m second, b.first_rows, b.second_rows))

    pub no_room : room < length (leg_takes links ends m first) + length (leg_takes links ends m second) → Err Short ≡ prepared links ends m first second room
    unfolding prepared
    no_room l = rw (b.both_end, lt-leb _ _ l)

-- what two prepared legs have
pub record Fitting (links ends : List ℕ) (m : ℕ) (first second : Leg) (room rows others : ℕ) : Type 0 where
  pub first_rows : length (rows_from links m first.k first.link) ≡ rows
  pub second_rows : length (rows_from links m second.k second.link) ≡ others
  pub holds : length (leg_takes links ends m first) + length (leg_takes links ends m second) ≤ room

pub both-fit : (links ends : List ℕ) (m : ℕ) (first second : Leg) (room : ℕ) {p : Prepared} → prepared links ends m first second room ≡ Ok p
    → Fitting links ends m first second room p.rows p.others
unfolding prepared
both-fit links ends m first second room {p} =
    go (leg_ends links m first && leg_ends links m second) (leb (length (leg_takes links ends m first) + length (leg_takes links ends m second)) room) refl
  where
    go : (b d : Bool) → leb (length (leg_takes links ends m first) + length (leg_takes links ends m second)) room ≡ d
        → ◌≡◌ {A = Result Prepared Refusal} (unless b (Err Broken)
        (unless d (Err Short) (Ok (record { rows = length (rows_from links m first.k first.link); others = length (rows_from links m second.k second.link) }))))
        (Ok p)
        → Fitting links ends m first second room p.rows p.others
    go true true q h = record { first_rows = cc; second_rows = cc; holds = leb-true _ _ q }
    go true false q h = absurd (let z : ◌≡◌ {A = ℕ} 0 1 = cc in omega arith)
    go false d q h = absurd (let z : ◌≡◌ {A = ℕ} 0 1 = cc in omega arith)

-- the first items stand at the front, the second behind them
joined : (xs ys items : List ℕ) → let l = onto xs items in
    put_mid (length xs) (length l - length xs) l (onto ys (take (length l - length xs) (drop (length xs) l))) ≡ onto (xs ++ ys) items
joined xs ys items =
    let n = length xs in
    let l = onto xs items in
    let d : drop n l ≡ drop n items = drop_at xs (drop n items) n refl in
    let t : take (length l - n) (drop n l) ≡ drop n l = take_all (length l - n) (drop n l) (omega (arith, length-drop n l)) in
    let z : drop (length l - n) (drop n l) ≡ [] = drop_of_length-le (drop n l) {i = length l - n} (omega (arith, length-drop n l)) in
    rw (t, z, d, take_at xs (drop n items) n refl, drop-drop (length ys) n items, append-nil, length-append xs ys, append_assoc xs ys (drop (length xs + length ys) items))

pub both-written : (xs ys items l part : List ℕ) {mid more : ℕ} → out (done mid) l ≡ written xs items → out (done more) part ≡ written ys (take (length l - mid) (drop mid l))
    → out (done (mid + more)) (put_mid mid (length l - mid) l part) ≡ written (xs ++ ys) items
unfolding written
both-written xs ys items l part {mid} {more} p q =
    let a : mid ≡ length xs = ap (λ o. o.answer.values) p in
    let b : l ≡ onto xs items = ap (λ o. o.after) p in
    let u : more ≡ length ys = ap (λ o. o.answer.values) q in
    let v : part ≡ onto ys (take (length l - mid) (drop mid l)) = ap (λ o. o.after) q in
    rw (v, u, b, a, joined xs ys items, length-append xs ys)

-- a leg gives an item for each row that it takes
pub gives-length : (registers links ends : List ℕ) (m : ℕ) (item : Item) (leg : Leg) → length (leg_gives registers links ends m item leg) ≡ length (leg_takes links ends m leg)
gives-length registers links ends m item leg = length-map (leg_takes links ends m leg) (item_of registers ends item leg.k)

-- items written to a table: how many, and how long the table is then
pub written-many : (xs items l : List ℕ) {r : ℕ} → out (done r) l ≡ written xs items → r ≡ length xs
unfolding written
written-many xs items l p = ap (λ o. o.answer.values) p

pub written-long : (xs items l : List ℕ) {r : ℕ} → out (done r) l ≡ written xs items → length xs ≤ length items → length l ≡ length items
unfolding written
written-long xs items l p h = ap (λ o. length o.after) p ∙ length-append xs (drop (length xs) items) ∙ omega (arith, length-drop (length xs) items)

-- so the items that a leg gives to a table that has room for them
pub leg_given : (registers links ends : List ℕ) (m : ℕ) (item : Item) (leg : Leg) (items l : List ℕ) {r : ℕ}
    → out (done r) l ≡ written (leg_gives registers links ends m item leg) items → length (leg_takes links ends m leg) ≤ length items
    → (r ≡ length (leg_takes links ends m leg)) × (length l ≡ length items)
leg_given registers links ends m item leg items l p h =
    let n = gives-length registers links ends m item leg in
    (written-many _ items l p ∙ n, written-long _ items l p (omega arith))

-- the part behind them has room for the others
pub room_behind : (l : List ℕ) (mid n : ℕ) → mid + n ≤ length l → n ≤ length (take (length l - mid) (drop mid l))
room_behind l mid n h = rw (mid_len mid (length l) l (omega arith)) (omega arith)

module _ (registers links ends : List ℕ) (m : ℕ) (item : Item) (first second : Leg) where
  pub items_length : length (legs_give registers links ends m item first second) ≡ length (leg_takes links ends m first) + length (leg_takes links ends m second)
  items_length =
      length-append (leg_gives registers links ends m item first) (leg_gives registers links ends m item second)
      ∙ ap₂ ◌+◌ (gives-length registers links ends m item first) (gives-length registers links ends m item second)

  pub items_few_both : length (legs_give registers links ends m item first second) ≤ m + m
  items_few_both = omega (arith, items_length, leg_few links ends m first, leg_few links ends m second)

-- what a walk tells, by how its legs were prepared
abbrev pub by : {S : Type 0} → Result Prepared Refusal → Out ℕ S → S → Out ℕ S
by (Ok both) given table = given
by (Err why) given table = out (refused why 0) table

-- the tests of a walk, with whether there is room
abbrev tests : {S : Type 0} → List ℕ → ℕ → Leg → Leg → Bool → Out ℕ S → S → Out ℕ S
tests links m first second enough given table =
    unless (leg_ends links m first && leg_ends links m second) (out (refused Broken 0) table) (unless enough (out (refused Short 0) table) given)

by_tests : {S : Type 0} (links ends : List ℕ) (m : ℕ) (first second : Leg) (room : ℕ) (given : Out ℕ S) (table : S)
    → by (prepared links ends m first second room) given table
    ≡ tests links m first second (leb (length (leg_takes links ends m first) + length (leg_takes links ends m second)) room) given table
unfolding prepared
by_tests links ends m first second room given table =
    go (leg_ends links m first && leg_ends links m second) (leb (length (leg_takes links ends m first) + length (leg_takes links ends m second)) room) _
  where
    go : (b d : Bool) (both : Prepared) → by (unless b (Err Broken) (unless d (Err Short) (Ok both))) given table
        ≡ unless b (out (refused Broken 0) table) (unless d (out (refused Short 0) table) given)
    go true true both = refl
    go true false both = refl
    go false d both = refl

pub legs_by : (registers links ends : List ℕ) (m : ℕ) (item : Item) (first second : Leg) (table : List ℕ)
    → by (prepared links ends m first second (length table)) (written (legs_give registers links ends m item first second) table) table
    ≡ legs_told registers links ends m item first second table
unfolding written
legs_by registers links ends m item first second table =
    let given = written (legs_give registers links ends m item first second) table in
    by_tests links ends m first second (length table) given table
    ∙ ap (λ n. tests links m first second (leb n (length table)) given table) (sym (items_length registers links ends m item first second))

-- the same by what the legs' preparation was found to be
pub told_by : (registers links ends : List ℕ) (m : ℕ) (item : Item) (first second : Leg) (table : List ℕ) {r v : Result Prepared Refusal}
    → r ≡ prepared links ends m first second (length table) → r ≡ v
    → by v (written (legs_give registers links ends m item first second) table) table ≡ legs_told registers links ends m item first second table
told_by registers links ends m item first second table p e = rw (← e, p) (legs_by registers links ends m item first second table)

-- three tables have room where the shortest has it
leb-min : (n a b : ℕ) → leb n (min a b) ≡ (leb n a && leb n b)
leb-min n a b = go (leb n a) refl (leb n b) refl
  where
    go : (x : Bool) → leb n a ≡ x → (y : Bool) → leb n b ≡ y → leb n (min a b) ≡ (x && y)
    go true p true q = le-leb n (min a b) (omega (arith, leb-true n a p, leb-true n b q))
    go true p false q = lt-leb n (min a b) (omega (arith, leb-false n b q))
    go false p y q = lt-leb n (min a b) (omega (arith, leb-false n a p))

-- the cells of the shortest of three tables
abbrev pub least_room : Tables3 → ℕ
least_room t = min (min (length t.numbers) (length t.sources)) (length t.targets)

room_least : (n : ℕ) (t : Tables3) → leb n (least_room t) ≡ room_for n t
room_least n t =
    leb-min n (min (length t.numbers) (length t.sources)) (length t.targets)
    ∙ ap (λ b. b && leb n (length t.targets)) (leb-min n (length t.numbers) (length t.sources))

pub edges_by : (registers links ends : List ℕ) (m : ℕ) (first second : Leg) (t : Tables3)
    → let items : Item → List ℕ = λ item. legs_give registers links ends m item first second in
    by (prepared links ends m first second (least_room t))
    (out (done (length (items Number))) (tables3 (onto (items Number) t.numbers) (onto (items Near) t.sources) (onto (items Far) t.targets)))
    t
    ≡ edges_told registers links ends m first second t
edges_by registers links ends m first second t =
    let room = least_room t in
    let items : Item → List ℕ = λ item. legs_give registers links ends m item first second in
    let given = out (done (length (items Number))) (tables3 (onto (items Number) t.numbers) (onto (items Near) t.sources) (onto (items Far) t.targets)) in
    by_tests links ends m first second room given t
    ∙ ap (λ d. tests links m first second d given t) (room_least _ t ∙ ap (λ n. room_for n t) (sym (items_length registers links ends m Number first second)))

pub edges_told_by : (registers links ends : List ℕ) (m : ℕ) (first second : Leg) (t : Tables3) {l : ℕ} {r v : Result Prepared Refusal}
    → l ≡ least_room t → r ≡ prepared links ends m first second l → r ≡ v
    → let items : Item → List ℕ = λ item. legs_give registers links ends m item first second in
    by v (out (done (length (items Number))) (tables3 (onto (items Number) t.numbers) (onto (items Near) t.sources) (onto (items Far) t.targets))) t
    ≡ edges_told registers links ends m first second t
edges_told_by registers links ends m first second t u p e = rw (← e, p, u) (edges_by registers links ends m first second t)

-- both legs may be given to a table that is no shorter than the shortest
pub ready : {registers links ends : List ℕ} {m : ℕ} {first second : Leg} {room items : ℕ} {r : Result Prepared Refusal} {both : Prepared}
    → Legs (length registers) (length links) (length ends) m first second → r ≡ prepared links ends m first second room → r ≡ Ok both
    → room ≤ items → Ready registers links ends m first both.rows second both.others items
ready l p e h =
    let f = both-fit _ _ _ _ _ _ (sym p ∙ e) in
    record { legs = l; first_rows = f.first_rows; second_rows = f.second_rows; room = omega (arith, f.holds, h) }

pub as_many : (registers links ends : List ℕ) (m : ℕ) (item other : Item) (first second : Leg)
    → length (legs_give registers links ends m item first second) ≡ length (legs_give registers links ends m other first second)
as_many registers links ends m item other first second =
    items_length registers links ends m item first second ∙ sym (items_length registers links ends m other first second)

pub three_written : (xs ys zs : List ℕ) (t : Tables3) (numbers sources targets : List ℕ) {r q p : ℕ} → length zs ≡ length xs → out (done r) numbers ≡ written xs t.numbers
    → out (done q) sources ≡ written ys t.sources → out (done p) targets ≡ written zs t.targets
    → out (done p) (tables3 numbers sources targets) ≡ out (done (length xs)) (tables3 (onto xs t.numbers) (onto ys t.sources) (onto zs t.targets))
unfolding written
three_written xs ys zs t numbers sources targets n a b c =
    rw (ap (λ o. o.after) a, ap (λ o. o.after) b, ap (λ o. o.after) c, ap (λ o. o.answer.values) c, n)
