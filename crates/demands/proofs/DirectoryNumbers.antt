-- Demand 1 of the calls with a directory, `demand_1_filed`: what the call without one refuses, then what the directory has against it.
use Prim.{Unit, tt}
use Prim.Native.Nat.{ℕ, ◌+◌, ◌-◌, ◌<◌}
use mathlib.Core.Path.{◌≡◌, refl, sym, ap, ◌∙◌}
use mathlib.Core.Logic.{◌⊎◌, inr, ⊎_elim}
use mathlib.Core.Bool.{Bool, true, false, not, ◌&&◌}
use mathlib.Core.List.{List, [], ◌∷◌}
use native.Mathlib.Omega.{arith}
use borrow.Author.Tests.{eq-eqb, ne_eqb, ltb-true, lt-ltb}
use lib.Dec.{eqb, ltb}
use lib.IntN.{pos}
use lib.ListN.{length}
use Rattle.index.specs.declared.EdgeDirection.{EdgeDirection}
use Rattle.index.specs.declared.EdgeDirection.TheVariants.{Incoming}
use Rattle.index.specs.declared.Refusal.TheVariants.{Broken}
use Rattle.index.specs.Index.{END, is_end, number_of}
use Rattle.index.specs.Refusals.{refusal_no}
use Rattle.tables.specs.Net.{Net, fits}
use Rattle.tables.specs.Answers.{Told, Out, refused}
use Rattle.tables.proofs.Laws.{both, tested}
use Rattle.lists.specs.Chain.{In}
use Rattle.find.specs.Find.{update_edge}
use Rattle.std.proofs.Common.{Ok, Err}
use Rattle.sound.specs.declared.Fault.TheVariants.{At, Refused}
use Rattle.sound.specs.Check.{Checked, checked, told_checked}
use Rattle.sound.proofs.Exactly.{small}
use Rattle.removal.specs.Removal.{taken_out, remove_edge}
use Rattle.closing.specs.Closing.{Closed, remove_node}
use Rattle.letters.specs.Letters.{among}
use Rattle.directory.specs.Directory.{entry, directory_of, bears, named, Filed, filed, register_of, beside, is_right_for}
use Rattle.directory.proofs.Laws.{right_is}
use Rattle.dirsound.specs.Check.{also_right, checked_filed, is_sound_filed}
use Rattle.dirrows.specs.Calls.{entered, reweighed, add_edge_filed, set_edge_weight_filed, clear_edges_filed, clear_filed}
use Rattle.dirfind.specs.Find.{update_edge_filed}
use Rattle.dirremoval.specs.Removal.{remove_edge_filed}
use Rattle.bynumber.specs.Numbers.{find_number, remove_number}
use Rattle.dirclosing.specs.Closing.{refiled, remove_node_filed}
use Rattle.dirclosing.proofs.Kept.{sound_so}
use Rattle.dirimage.specs.Calls.{image_write_filed, image_read_filed}
use Rattle.dirimage.specs.Load.{load_left, LoadEnds, stays, goes}
use Rattle.dirimage.proofs.Load.{load_ends}
use Rattle.demands.specs.Demand1.{ServedOr, served, refused_by, refusal, Refuses, Tells}
use Rattle.demands.specs.Wish1.{Demand1Filed}
use Rattle.demands.proofs.Demand1.{in_list, by_number, passing, passes_or, if_not, taking_out, demand_1}
use Rattle.demands.proofs.Judged.{judged_ways, reweigh_ways}

-- each of some numbers is among others, and none is 0
abbrev within : List ℕ → List ℕ → Bool
within [] others = true
within (x ∷ xs) others = not (eqb x 0) && among x others && within xs others

found_within : (xs others : List ℕ) → within xs others ≡ true → (x : ℕ) → In x xs → (In x others) × (x ≡ 0 → ⊥)
found_within [] others h x i = absurd i
found_within (y ∷ ys) others h x i =
    let a = both (not (eqb y 0) && among y others) (within ys others) h in
    let b = both (not (eqb y 0)) (among y others) a.0 in
    ⊎_elim
    (λ q. (in_list x others (rw q b.1), λ z. not_so y (sym q ∙ z) b.0))
    (λ j. found_within ys others a.1 x j)
    i
  where
    not_so : (y : ℕ) → y ≡ 0 → not (eqb y 0) ≡ true → ⊥
    not_so y z h = let k = rw (eq-eqb y 0 z) at h in absurd (let z : ◌≡◌ {A = ℕ} 0 1 = cc in omega arith)

-- what refuses a call without a directory, then the rest
refused_beside : {A : Type 0} {xs others : List ℕ} {zeros : A} (f : Filed) (o : Out A Net) (rest : Out A Filed) → within xs others ≡ true
    → Refuses xs zeros f.net o → (o.answer.number ≡ 0 → Refuses others zeros f rest) → Refuses others zeros f (beside f o rest)
refused_beside {xs = xs} {others = others} f o rest h (served z) r = rw (eq-eqb o.answer.number 0 z) (r z)
refused_beside {xs = xs} {others = others} f o rest h (refused_by why i e) r =
    let w = found_within xs others h why i in
    refused_by why w.0 (rw (e, ne_eqb why 0 w.1))

-- a new row is entered: 12, 11; a row gets another number: 6, 12, 11
module _ {numbers : List ℕ} (beyond : among 12 numbers ≡ true) (taken : among 11 numbers ≡ true) (f : Filed) (w : ℕ) where
  entering : (o : Out ℕ Net) → o.answer.number ≡ 0 → Refuses numbers 0 f (entered f w o)
  entering o z = judged_ways f 0 END w _ (Refuses numbers 0 f) (served z) (by_number 12 beyond) (by_number 11 taken)

  reweighing : {A : Type 0} (zeros : A) (e : ℕ) (o : Out A Net) → among 6 numbers ≡ true → o.answer.number ≡ 0 → Refuses numbers zeros f (reweighed f zeros e w o)
  reweighing zeros e o six z =
      reweigh_ways f zeros e w o (Refuses numbers zeros f) (served z) (by_number 6 six) (by_number 12 beyond) (by_number 11 taken)

-- what the check tells: a fault of the directory is the last
checked-told : (c : Checked) (right : Bool) (n : ℕ)
    → Tells (1 ∷ []) (0, 0, 0) (told_checked c) ⊎ ((d : EdgeDirection) × (a : ℕ) × (told_checked c ≡ refused Broken (0, number_of d, a)))
    → let told = told_checked (also_right c right n) in
    Tells (1 ∷ []) (0, 0, 0) told ⊎ ((d : EdgeDirection) × (a : ℕ) × (told ≡ refused Broken (0, number_of d, a)))
checked-told (Ok rows) true n h = h
checked-told (Ok rows) false n h = inr (Incoming, n + 1, refl)
checked-told (Err (At d a)) right n h = h
checked-told (Err (Refused why)) right n h = h

finding : (f : Filed) (r : ℕ) → Tells (1 ∷ 12 ∷ 5 ∷ 6 ∷ []) 0 (find_number f r)
unfolding find_number
finding f r =
    let e = entry f.directory r in
    if_not (fits f.net) 1 refl
    (if_not (ltb r (length f.directory)) 12 refl
    (if_not (not (is_end e)) 5 refl (if_not (bears (register_of f.net) f.net.m e r) 6 refl (served refl))))

-- a row that a number is found in is in use
found_below : (f : Filed) (r : ℕ) → (find_number f r).number ≡ 0 → (fits f.net ≡ true) × ((find_number f r).values < f.net.m)
unfolding find_number
found_below f r =
    let e = entry f.directory r in
    let P : Told ℕ → Type 0 = λ t. t.number ≡ 0 → (fits f.net ≡ true) × (t.values < f.net.m) in
    tested P (fits f.net) _ _ (λ z. absurd (omega arith)) (λ t.
    tested P (ltb r (length f.directory)) _ _ (λ z. absurd (omega arith)) (λ l.
    tested P (not (is_end e)) _ _ (λ z. absurd (omega arith)) (λ n.
    tested P (bears (register_of f.net) f.net.m e r) _ _ (λ z. absurd (omega arith)) (λ b z.
    (t, ltb-true e f.net.m (both (ltb e f.net.m) (eqb (register_of f.net e) r) b).0)))))

-- an edge in use is taken out, or 6
removing : {numbers : List ℕ} (f : Filed) (e : ℕ) → among 6 numbers ≡ true → within (6 ∷ []) numbers ≡ true → fits f.net ≡ true → e < f.net.m
    → Refuses numbers (0, 0, 0) f (remove_edge_filed f e)
unfolding remove_edge_filed remove_edge
removing f e six h t l =
    rw (t, lt-ltb e f.net.m l)
    (refused_beside {xs = 6 ∷ []} f (taken_out f.net e) _ h (taking_out f.net e refl) (λ z. if_not (named f e && named f (f.net.m - 1)) 6 six (served z)))

-- the edge that bears a number; what refuses the lookup refuses the removal
removing_number : (f : Filed) (r : ℕ) → Tells (1 ∷ 12 ∷ 5 ∷ 6 ∷ []) 0 (find_number f r) → Refuses (1 ∷ 12 ∷ 5 ∷ 6 ∷ []) (0, 0, 0) f (remove_number f r)
unfolding remove_number
removing_number f r (served z) =
    let b = found_below f r z in
    rw (eq-eqb (find_number f r).number 0 z) (removing f (find_number f r).values refl refl b.0 b.1)
removing_number f r (refused_by why i e) = rw (e, ne_eqb why 0 (found_within (1 ∷ 12 ∷ 5 ∷ 6 ∷ []) (1 ∷ 12 ∷ 5 ∷ 6 ∷ []) refl why i).1) (refused_by why i refl)

-- a load, by how it ends
loading : (f : Filed) (o : Out Unit Filed) → LoadEnds f o
    → ServedOr (λ o. o.answer.number) (1 ∷ 8 ∷ 9 ∷ 2 ∷ 6 ∷ 12 ∷ 11 ∷ []) (λ why. refusal tt (load_left f why) why) o
loading f o (stays z s) = served (ap (λ (t : Told Unit). t.number) z)
loading f o (goes why i e) = refused_by (refusal_no why) i e

-- a node's removal that is refused leaves a right directory as it was
removing_node : (f : Filed) (a : ℕ) (items : List ℕ) → Refuses (1 ∷ 3 ∷ 6 ∷ 7 ∷ []) (pos 0, 0, 0) (f, items) (remove_node_filed f a items)
unfolding remove_node_filed
removing_node f a items =
    let g = f.net in
    if_not (fits g) 1 refl
    (if_not (ltb a g.n) 3 refl
    (passing (is_sound_filed f) (by_number 6 refl) (λ s.
    let S = sound_so f s in
    go (remove_node g a items) (demand_1.remove-node g a items) (right_is (register_of g) g.m f.directory S.2 (small g S.0)))))
  where
    go : (o : Closed) → Refuses (1 ∷ 3 ∷ 6 ∷ 7 ∷ []) (pos 0, 0, 0) (f.net, items) o
        → f.directory ≡ directory_of (length f.directory) (register_of f.net) f.net.m
        → Refuses (1 ∷ 3 ∷ 6 ∷ 7 ∷ []) (pos 0, 0, 0) (f, items) (refiled (length f.directory) o)
    go o (served z) d = served z
    go o (refused_by why i e) d =
        refused_by why i (rw e (ap (λ c. refusal (pos 0, 0, 0) (filed f.net c, items) why) (sym d)))

pub demand_1_filed : (f : Filed) → Demand1Filed f
unfolding add_edge_filed update_edge_filed set_edge_weight_filed remove_edge_filed clear_edges_filed clear_filed checked_filed image_write_filed
demand_1_filed f =
    let g = f.net in
    record {
      add_edge_lem = λ a b w. refused_beside f _ _ refl (demand_1.add_edge_lem g a b w) (entering refl refl f w _);
      update_edge_lem =
          λ a b w.
          let o = update_edge g a b w in
          refused_beside f o _ refl (demand_1.update_edge_lem g a b w) (λ z.
          passes_or (ltb o.answer.values g.m) (entering refl refl f w o z) (reweighing refl refl f w 0 o.answer.values o refl z));
      set-edge_weight = λ e w. refused_beside f _ _ refl (demand_1.set-edge_weight g e w) (reweighing refl refl f w tt e _ refl);
      remove-edge = λ e. refused_beside f _ _ refl (demand_1.remove-edge g e) (λ z. if_not (named f e && named f (g.m - 1)) 6 refl (served z));
      remove-node = removing_node f;
      clear-edges = refused_beside f _ _ refl (demand_1.clear-edges g) (λ z. served z);
      clear-all = refused_beside f _ _ refl (demand_1.clear-all g) (λ z. served z);
      find-number = finding f;
      remove-number = λ r. removing_number f r (finding f r);
      check = checked-told (checked g) (is_right_for f) g.n (demand_1.check g);
      image_write_lem = λ bytes. if_not (fits g) 1 refl (if_not (is_right_for f) 6 refl (demand_1.image_write_lem g bytes));
      image_read_lem = λ bytes. loading f (image_read_filed f bytes) (load_ends f bytes);
    }
