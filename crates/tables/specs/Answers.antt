-- What an answer tells: the order's number for it, and its values. A refusal tells its number and zeros.
use Prim.{Unit, tt}
use Rattle.std.specs.Prelude.{ℕ, Bool, cond, List, ◌++◌, leb, ℤ, pos, length, drop, Result, Ok, Err}
use Rattle.index.specs.declared.NodeIndex.{NodeIndex}
use Rattle.index.specs.declared.EdgeIndex.{EdgeIndex}
use Rattle.index.specs.declared.Refusal.{Refusal}
use Rattle.index.specs.declared.Refusal.TheVariants.{Short}
use Rattle.index.specs.Refusals.{refusal_no}

pub record Told (A : Type 0) : Type 0 where
  pub number : ℕ
  pub values : A

abbrev pub done : {A : Type 0} → A → Told A
done values = record { number = 0; values = values }

abbrev pub refused : {A : Type 0} → Refusal → A → Told A
refused why zeros = record { number = refusal_no why; values = zeros }

-- an answer, and what the call may have changed: the network, an output table
pub record Out (A S : Type 0) : Type 0 where
  pub answer : Told A
  pub after : S

abbrev pub out : {A S : Type 0} → Told A → S → Out A S
out answer after = record { answer = answer; after = after }

-- a call's refusals stand one below the other, in the order's sequence
abbrev pub unless : {A : Type 0} → Bool → A → A → A
unless holds otherwise rest = cond holds rest otherwise

-- items at the front of an output table, whose other cells keep their values
abbrev pub onto : List ℕ → List ℕ → List ℕ
onto items table = items ++ drop (length items) table

-- they are given where the table has room for them; else 7
abbrev pub give : List ℕ → List ℕ → Out ℕ (List ℕ)
give items table =
    unless (leb (length items) (length table)) (out (refused Short 0) table)
    (out (done (length items)) (onto items table))

-- what a call answers, told: its value as the order has it, or zeros
abbrev pub told_as : {A B : Type 0} → (A → B) → B → Result A Refusal → Told B
told_as value zeros (Ok x) = done (value x)
told_as value zeros (Err why) = refused why zeros

-- the values of each kind of answer
abbrev pub told_node : Result NodeIndex Refusal → Told ℕ
told_node = told_as (λ (a : NodeIndex). a.0) 0

abbrev pub told_edge : Result EdgeIndex Refusal → Told ℕ
told_edge = told_as (λ (e : EdgeIndex). e.0) 0

abbrev pub told_node_weight : Result ℤ Refusal → Told ℤ
told_node_weight = told_as (λ (w : ℤ). w) (pos 0)

abbrev pub told_edge_weight : Result ℕ Refusal → Told ℕ
told_edge_weight = told_as (λ (w : ℕ). w) 0

-- source, then target
abbrev pub told_ends : Result (NodeIndex × NodeIndex) Refusal → Told (ℕ × ℕ)
told_ends = told_as (λ (ends : NodeIndex × NodeIndex). (ends.0.0, ends.1.0)) (0, 0)

abbrev pub told_change : Result Unit Refusal → Told Unit
told_change = told_as (λ (u : Unit). tt) tt

-- how many items were given
abbrev pub told_items : Result ℕ Refusal → Told ℕ
told_items = told_as (λ (c : ℕ). c) 0
