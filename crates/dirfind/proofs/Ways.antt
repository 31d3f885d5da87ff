-- The ways in which an update ends: by what the search told, `update_ways`; with a directory, by the claim of an edge that was found, or as an add.
use Prim.Native.Nat.{ℕ, ◌<◌}
use mathlib.Core.Path.{◌≡◌, refl, sym, ap, ◌∙◌}
use mathlib.Core.Logic.{◌⊎◌, inl, inr, ⊎_elim}
use mathlib.Core.Bool.{Bool, true, false, cond}
use mathlib.Core.List.{List}
use native.Mathlib.Omega.{arith}
use borrow.Author.Tests.{ne_eqb, lt-ltb, le-ltb}
use lib.Dec.{ltb}
use lib.IntN.{ℤ}
use lib.ListN.{set}
use Prim.{Unit}
use Rattle.std.specs.Prelude.{Some, None, Result, Ok, Err}
use Rattle.index.specs.declared.Refusal.{Refusal}
use Rattle.index.specs.declared.Refusal.TheVariants.{Tables, NoNode, Nothing, Broken}
use Rattle.index.specs.Refusals.{refusal_no}
use Rattle.index.proofs.Laws.{not_zero, untold_refusal}
use Rattle.tables.specs.Net.{Net, Lent, net, fits, with_edges}
use Rattle.tables.specs.Answers.{Told, Out, out, done, refused, unless}
use Rattle.rows.specs.Calls.{add_edge}
use Rattle.find.specs.Parts.{Sought}
use Rattle.find.specs.Find.{on, sought, find_edge, update_edge}
use Rattle.find.proofs.Laws.{sought-below}
use Rattle.directory.specs.Directory.{Filed, filed}
use Rattle.directory.proofs.Beside.{beside-refused, beside-served}
use Rattle.dirrows.specs.Calls.{entered, reweighed, add_edge_filed}
use Rattle.dirrows.specs.Parts.{Reweighs}
use Rattle.dirrows.proofs.Ways.{add_ends, granted, reweighed_so}
use Rattle.dirfind.specs.Find.{update_edge_filed}

unfit_add : (g : Net) (a b w : ℕ) → fits g ≡ false → add_edge g a b w ≡ out (refused Tables 0) g
unfolding add_edge
unfit_add g a b w p = rw p

-- 6 is told of broken links alone
broken_only : (why : Refusal) → refusal_no why ≡ 6 → why ≡ Broken
broken_only why h = sym (rw h at (untold_refusal Broken (λ w. w) why))

-- without a directory: an edge in use is found and gets the weight; the search never ends; or it is an add
module _ (g : Net) (a b w : ℕ) where
  abbrev again : ℕ → Out ℕ Net
  again e = out (done e) (with_edges g (set g.registers e w) g.links g.ends)

  abbrev Ends : Told ℕ → Out ℕ Net → Type 0
  Ends t o =
      ((e : ℕ) × (t ≡ done e) × (again e ≡ o) × (e < g.m) × (fits g ≡ true))
      ⊎ (((t ≡ refused Broken 0) × (out (refused Broken 0) g ≡ o)) ⊎ ((why : Refusal) × (t ≡ refused why 0) × (refusal_no why ≡ 6 → ⊥) × (add_edge g a b w ≡ o)))

  by_search : fits g ≡ true → (v : Sought) → sought g a b ≡ v
      → Ends (on v (λ e. done e) (refused Nothing 0) (refused Broken 0)) (on v again (add_edge g a b w) (out (refused Broken 0) g))
  by_search t (Ok (Some (e, k))) q = inl (e.0, refl, refl, sought-below g.heads g.links g.ends g.m a b q, t)
  by_search t (Ok None) q = inr (inr (Nothing, refl, λ z. omega arith, refl))
  by_search t (Err why) q = inr (inl (refl, refl))

  pub update_ways : Ends (find_edge g a b) (update_edge g a b w)
  unfolding find_edge update_edge
  update_ways = go (fits g) (ltb a g.n) refl
    where
      go : (i j : Bool) → fits g ≡ i
          → Ends (unless i (refused Tables 0) (unless j (refused NoNode 0) (on (sought g a b) (λ e. done e) (refused Nothing 0) (refused Broken 0))))
          (unless i (out (refused Tables 0) g) (unless j (add_edge g a b w) (on (sought g a b) again (add_edge g a b w) (out (refused Broken 0) g))))
      go true true p = by_search p (sought g a b) refl
      go true false p = inr (inr (NoNode, refl, λ z. omega arith, refl))
      go false j p = inr (inr (Tables, refl, λ z. omega arith, unfit_add g a b w p))

  -- so by what the search told
  number_of : {t u : Told ℕ} → t ≡ u → t.number ≡ u.number
  number_of p = ap (λ (x : Told ℕ). x.number) p

  pub found_so : (e : ℕ) → done e ≡ find_edge g a b → (again e ≡ update_edge g a b w) × (e < g.m) × (fits g ≡ true)
  found_so e p =
      ⊎_elim
      (λ z. let q : e ≡ z.0 = ap (λ (x : Told ℕ). x.values) (p ∙ z.1) in rw q (z.2, z.3, z.4))
      (λ y. ⊎_elim (λ z. absurd (let q : ◌≡◌ {A = ℕ} 0 6 = number_of (p ∙ z.0) in omega arith)) (λ z. absurd (not_zero z.0 (sym (number_of (p ∙ z.1))))) y)
      update_ways

  pub endless_so : (why : Refusal) → why ≡ Broken → refused why 0 ≡ find_edge g a b → out (refused why 0) g ≡ update_edge g a b w
  endless_so why n p =
      ⊎_elim
      (λ z. absurd (not_zero why (number_of (p ∙ z.1))))
      (λ y. ⊎_elim (λ z. rw n z.1) (λ z. absurd (z.2 (sym (number_of (p ∙ z.1)) ∙ ap refusal_no n))) y)
      update_ways

  pub missing_so : (why : Refusal) → (why ≡ Broken → ⊥) → refused why 0 ≡ find_edge g a b → add_edge g a b w ≡ update_edge g a b w
  missing_so why n p =
      ⊎_elim
      (λ z. absurd (not_zero why (number_of (p ∙ z.1))))
      (λ y. ⊎_elim (λ z. absurd (n (broken_only why (number_of (p ∙ z.0))))) (λ z. z.3) y)
      update_ways

module _ (f : Filed) (a b w : ℕ) where
  -- refused as without a directory
  pub update_refused : (why : Refusal) → out (refused why 0) f.net ≡ update_edge f.net a b w → out (refused why 0) f ≡ update_edge_filed f a b w
  unfolding update_edge_filed
  update_refused why p = beside-refused f (update_edge f.net a b w) _ why 0 f.net p

  -- where no edge is found it is an add
  pub as_add : add_edge f.net a b w ≡ update_edge f.net a b w → add_edge_filed f a b w ≡ update_edge_filed f a b w
  unfolding update_edge_filed add_edge_filed
  as_add q =
      rw (← q)
      (⊎_elim
      (λ z. rw (z.1, ne_eqb (refusal_no z.0) 0 (not_zero z.0)))
      (λ z. rw (z.0, le-ltb f.net.m f.net.m (omega arith)))
      (add_ends f.net a b w))

-- edge e is found: its claim decides
pub update_told : (weights : List ℤ) (heads : List ℕ) (registers : Lent ℕ) (links ends : List ℕ) (n m : ℕ) (directory : Lent ℕ) (a b w e : ℕ) (c : Result Unit Refusal)
    → done e ≡ find_edge (net weights heads registers.old links ends n m) a b → Reweighs registers directory e w c
    → out (granted e 0 c) (filed (net weights heads registers.new links ends n m) directory.new)
    ≡ update_edge_filed (filed (net weights heads registers.old links ends n m) directory.old) a b w
unfolding update_edge_filed
update_told weights heads registers links ends n m directory a b w e c p q =
    let f = filed (net weights heads registers.old links ends n m) directory.old in
    let o = update_edge f.net a b w in
    let z = found_so f.net a b w e p in
    beside-served f o (cond (ltb o.answer.values m) (reweighed f 0 o.answer.values w o) (entered f w o)) e _ _ z.0
    (rw (← z.0, lt-ltb e m z.1) (reweighed_so weights heads registers links ends n m directory e w 0 e _ c refl q))
