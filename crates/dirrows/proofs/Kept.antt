-- Whatever is answered, a right directory is left right, and keeps its length: by an add, `added_right`, a set weight, `reweighted_right`, and the clears,
-- `cleared_edges_right`, `cleared_right`. What refuses a number, and only that: `claim_ways`.
use Prim.{Unit, tt}
use Prim.Native.Nat.{ℕ, ◌≤◌, ◌<◌}
use mathlib.Core.Path.{◌≡◌, refl, sym, ◌∙◌}
use mathlib.Core.Logic.{◌⊎◌, inl, inr, ⊎_elim}
use mathlib.Core.Bool.{true}
use mathlib.Core.List.{List}
use native.Mathlib.Decide.{ℕ_discrete, dec_lt}
use native.Mathlib.Omega.{arith}
use borrow.Author.Tests.{eq-eqb, ne_eqb, ltb-true}
use lib.Dec.{ltb}
use lib.ListN.{length, set, length-set, length-replicate}
use lib.Seq.{get_or-set_same, get_or-set_other}
use Rattle.std.specs.Prelude.{Result, Ok, Err}
use Rattle.index.specs.declared.Refusal.{Refusal}
use Rattle.index.specs.declared.Refusal.TheVariants.{Broken, Taken, Beyond}
use Rattle.index.specs.Index.{END}
use Rattle.index.specs.Refusals.{refusal_no}
use Rattle.index.proofs.Laws.{not_zero}
use Rattle.tables.specs.Net.{Net, fits, with_edges}
use Rattle.tables.specs.Rows.{with_edge}
use Rattle.tables.specs.Answers.{Out, out, done}
use Rattle.tables.proofs.Guards.{FitOf}
use Rattle.tables.proofs.Laws.{tested, fit-says}
use Rattle.lookups.specs.Lookups.{set_edge_weight}
use Rattle.rows.specs.Calls.{linked, add_edge, clear_edges, clear}
use Rattle.directory.specs.Directory.{entry, none, row_named, RightFor, Filed, filed, register_of, beside}
use Rattle.directory.proofs.Laws.{right_more, right_again, right_none}
use Rattle.directory.proofs.Beside.{beside-length}
use Rattle.dirrows.specs.Calls.{claimed, if_free, entered, reclaimed, reentered, reweighed, all_out}
use Rattle.dirrows.specs.Calls.{add_edge_filed, set_edge_weight_filed, clear_edges_filed, clear_filed}
use Rattle.dirrows.proofs.Ways.{claim_beyond, claim_none, claim_own, claim_taken, add_ends}

-- a number is refused 12 where it is not below the length, 11 where its entry names another row, and else it is free
pub claim_ways : (d : List ℕ) (w e : ℕ)
    → ((claimed d w e ≡ Err Beyond) × (length d ≤ w))
    ⊎ (((claimed d w e ≡ Err Taken) × (w < length d) × (entry d w ≡ END → ⊥) × (entry d w ≡ e → ⊥))
    ⊎ ((claimed d w e ≡ Ok tt) × (w < length d) × ((entry d w ≡ END) ⊎ (entry d w ≡ e))))
claim_ways d w e =
    elim (dec_lt w (length d)) [
      | no h ↦ inl (sym (claim_beyond d w e (omega arith)), omega arith)
      | yes h ↦
          elim (ℕ_discrete (entry d w) END) [
            | yes q ↦ inr (inr (sym (claim_none d w e h refl (eq-eqb (entry d w) END q)), h, inl q))
            | no q ↦
                elim (ℕ_discrete (entry d w) e) [
                  | yes z ↦ inr (inr (sym (claim_own d w e h refl (ne_eqb (entry d w) END q) z), h, inr z))
                  | no z ↦ inr (inl (sym (claim_taken d w e h refl (ne_eqb (entry d w) END q) z), h, q, z))
                ]
          ]
    ]

-- what holds where a number is refused, and where it is free
by_claim : (P : Result Unit Refusal → Type 0) (d : List ℕ) (w e : ℕ) → P (Err Beyond) → P (Err Taken)
    → (w < length d → (entry d w ≡ END) ⊎ (entry d w ≡ e) → P (Ok tt)) → P (claimed d w e)
by_claim P d w e p q r =
    ⊎_elim (λ x. rw x.0 p) (λ y. ⊎_elim (λ x. rw x.0 q) (λ x. rw x.0 (r x.1 x.2)) y) (claim_ways d w e)

module _ (f : Filed) (t : fits f.net ≡ true) (R : RightFor f) where
  abbrev g : Net
  g = f.net

  abbrev d : List ℕ
  d = f.directory

  fit : FitOf g
  fit = fit-says (length g.weights) (length g.heads) (length g.registers) (length g.links) (length g.ends) g.n g.m t

  -- the rows are far fewer than `END`
  few : g.m < END
  few = let b = fit in omega (arith, b.edges_most, b.m_within)

  -- the number of a new row, and of the others
  linked-right : (a b w : ℕ) → g.m < length g.registers → w < length d → entry d w ≡ END → RightFor (filed (linked g a b w) (set d w g.m))
  unfolding linked with_edge
  linked-right a b w l h free =
      right_more (register_of g) g.m d R (omega (arith, few)) (register_of (linked g a b w)) w few h free
      (get_or-set_same g.registers g.m w 0 l)
      (λ x i. get_or-set_other g.registers g.m x w 0 (λ z. omega arith))

  pub added_right : (a b w : ℕ) → RightFor (add_edge_filed f a b w).after
  unfolding add_edge_filed
  added_right a b w =
      ⊎_elim
      (λ z. rw (z.1, ne_eqb (refusal_no z.0) 0 (not_zero z.0)) R)
      (λ z. rw z.0
      (by_claim (λ c. RightFor (if_free f 0 c (out (done g.m) (filed (linked g a b w) (set d w g.m)))).after) d w END R R (λ h q.
      linked-right a b w z.1.row h (⊎_elim (λ y. y) (λ y. y) q))))
      (add_ends g a b w)

  -- row e's number is changed in the network and in its entry alike
  pub reweighed-right : {A : Type 0} (zeros values : A) (e w : ℕ) → e < g.m
      → RightFor (reweighed f zeros e w (out (done values) (with_edges g (set g.registers e w) g.links g.ends))).after
  reweighed-right zeros values e w l =
      let b = fit in
      let h = with_edges g (set g.registers e w) g.links g.ends in
      let P : Result Unit Refusal → Type 0 = λ c. RightFor (if_free f zeros c (out (done values) (filed h (reentered (register_of g) d e w)))).after in
      tested P (row_named (register_of g) d e) (Err Broken) (claimed d w e) R (λ n.
      by_claim P d w e R R (λ i q.
      right_again (register_of g) g.m d R (omega (arith, few)) (register_of h) e w l i q
      (get_or-set_same g.registers e w 0 (omega (arith, b.m_within)))
      (λ x j k. get_or-set_other g.registers e x w 0 k)))

  pub reweighted_right : (e w : ℕ) → RightFor (set_edge_weight_filed f e w).after
  unfolding set_edge_weight_filed set_edge_weight
  reweighted_right e w =
      let P : Out Unit Net → Type 0 = λ o. RightFor (beside f o (reweighed f tt e w o)).after in
      tested P (fits g) _ _ R (λ u. tested P (ltb e g.m) _ _ R (λ l. reweighed-right tt tt e w (ltb-true e g.m l)))

-- no edges, and no entries
module _ (f : Filed) (R : RightFor f) where
  pub cleared_edges_right : RightFor (clear_edges_filed f).after
  unfolding clear_edges_filed clear_edges
  cleared_edges_right = tested (λ (o : Out Unit Net). RightFor (all_out f o).after) (fits f.net) _ _ R (λ t. right_none _ (length f.directory))

  pub cleared_right : RightFor (clear_filed f).after
  unfolding clear_filed clear
  cleared_right = tested (λ (o : Out Unit Net). RightFor (all_out f o).after) (fits f.net) _ _ R (λ t. right_none _ (length f.directory))

-- the directory's length is the caller's: no call changes it
free_length : {A : Type 0} (f : Filed) (zeros : A) (c : Result Unit Refusal) (rest : Out A Filed) → length rest.after.directory ≡ length f.directory
    → length (if_free f zeros c rest).after.directory ≡ length f.directory
free_length f zeros (Ok u) rest p = p
free_length f zeros (Err why) rest p = refl

module _ (f : Filed) where
  pub entered-length : (w : ℕ) (o : Out ℕ Net) → length (entered f w o).after.directory ≡ length f.directory
  entered-length w o = free_length f 0 (claimed f.directory w END) _ (length-set f.directory w o.answer.values)

  pub reweighed-length : {A : Type 0} (zeros : A) (e w : ℕ) (o : Out A Net) → length (reweighed f zeros e w o).after.directory ≡ length f.directory
  reweighed-length zeros e w o =
      let r = register_of f.net e in
      free_length f zeros (reclaimed (register_of f.net) f.directory e w) (out o.answer (filed o.after (reentered (register_of f.net) f.directory e w)))
      (length-set (set f.directory r END) w e ∙ length-set f.directory r END)

  pub add_keeps_length : (a b w : ℕ) → length (add_edge_filed f a b w).after.directory ≡ length f.directory
  unfolding add_edge_filed
  add_keeps_length a b w = let o = add_edge f.net a b w in beside-length f o (entered f w o) (entered-length w o)

  pub set_weight_keeps_length : (e w : ℕ) → length (set_edge_weight_filed f e w).after.directory ≡ length f.directory
  unfolding set_edge_weight_filed
  set_weight_keeps_length e w = let o = set_edge_weight f.net e w in beside-length f o (reweighed f tt e w o) (reweighed-length tt e w o)

  all_out-length : (o : Out Unit Net) → length (all_out f o).after.directory ≡ length f.directory
  all_out-length o = beside-length f o (out o.answer (filed o.after (none f.directory))) (length-replicate (length f.directory) END)

  pub clear_edges_keeps_length : length (clear_edges_filed f).after.directory ≡ length f.directory
  unfolding clear_edges_filed
  clear_edges_keeps_length = all_out-length (clear_edges f.net)

  pub clear_keeps_length : length (clear_filed f).after.directory ≡ length f.directory
  unfolding clear_filed
  clear_keeps_length = all_out-length (clear f.net)
