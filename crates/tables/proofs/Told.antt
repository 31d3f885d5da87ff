-- No two answers are told alike: number and values give the answer back.
use Prim.{Unit, tt}
use Prim.Native.Nat.{ℕ}
use mathlib.Core.Path.{◌≡◌, refl, sym, ap, ◌∙◌}
use lib.IntN.{ℤ, pos}
use Rattle.std.proofs.Common.{Result, Ok, Err}
use Rattle.index.specs.declared.NodeIndex.{NodeIndex}
use Rattle.index.specs.declared.EdgeIndex.{EdgeIndex}
use Rattle.index.specs.declared.Refusal.{Refusal}
use Rattle.index.proofs.Laws.{untold, untold_refusal}
use Rattle.tables.specs.Answers.{Told, told_as, told_node, told_edge, told_node_weight, told_edge_weight, told_ends, told_change, told_items}

-- an answer that can be told back is told by no other
pub told-once : {T R : Type 0} (told : R → T) (back : T → R) → ((r : R) → back (told r) ≡ r) → (r s : R) → told r ≡ told s → r ≡ s
told-once told back is r s e = sym (is r) ∙ ap back e ∙ is s

-- so is a `Result`, where its value can be
module _ {A B : Type 0} (value : A → B) (zeros : B) (back : B → A) (is : (x : A) → back (value x) ≡ x) where
  abbrev answer_back : Told B → Result A Refusal
  answer_back t = untold (Ok (back t.values)) Err t.number

  answer_is : (r : Result A Refusal) → answer_back (told_as value zeros r) ≡ r
  answer_is (Ok x) = ap Ok (is x)
  answer_is (Err why) = untold_refusal (Ok (back zeros)) Err why

  pub told_as_once : (r s : Result A Refusal) → told_as value zeros r ≡ told_as value zeros s → r ≡ s
  told_as_once = told-once (told_as value zeros) answer_back answer_is

pub node_told_once : (r s : Result NodeIndex Refusal) → told_node r ≡ told_node s → r ≡ s
node_told_once = told_as_once (λ (a : NodeIndex). a.0) 0 (λ x. record { 0 = x }) (λ a. refl)

pub edge_told_once : (r s : Result EdgeIndex Refusal) → told_edge r ≡ told_edge s → r ≡ s
edge_told_once = told_as_once (λ (e : EdgeIndex). e.0) 0 (λ x. record { 0 = x }) (λ e. refl)

pub node_weight_told_once : (r s : Result ℤ Refusal) → told_node_weight r ≡ told_node_weight s → r ≡ s
node_weight_told_once = told_as_once (λ (w : ℤ). w) (pos 0) (λ w. w) (λ w. refl)

pub edge_weight_told_once : (r s : Result ℕ Refusal) → told_edge_weight r ≡ told_edge_weight s → r ≡ s
edge_weight_told_once = told_as_once (λ (w : ℕ). w) 0 (λ w. w) (λ w. refl)

pub ends_told_once : (r s : Result (NodeIndex × NodeIndex) Refusal) → told_ends r ≡ told_ends s → r ≡ s
ends_told_once =
    told_as_once (λ (ends : NodeIndex × NodeIndex). (ends.0.0, ends.1.0)) (0, 0) (λ x. (record { 0 = x.0 }, record { 0 = x.1 })) (λ ends. refl)

pub change_told_once : (r s : Result Unit Refusal) → told_change r ≡ told_change s → r ≡ s
change_told_once = told_as_once (λ (u : Unit). tt) tt (λ u. u) (λ u. refl)

pub items_told_once : (r s : Result ℕ Refusal) → told_items r ≡ told_items s → r ≡ s
items_told_once = told_as_once (λ (c : ℕ). c) 0 (λ c. c) (λ c. refl)
