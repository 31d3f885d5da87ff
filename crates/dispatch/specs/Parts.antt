-- What stays on a desk; and the letters by what their commands do: the parts of the dispatch ask which theirs is not.
use Rattle.std.specs.Borrow.{MutBor}
use Rattle.std.specs.Prelude.{ℕ, ◌≡◌}
use Rattle.dispatch.specs.declared.Desk.{Desk}

-- a reference to the same table: the same borrow, at the same place
pub record SameTable {A : Type 0} (before after : MutBor A) : Type 0 where
  pub name : before.ghost_name ≡ after.ghost_name
  pub place : before.ref_ptr ≡ after.ref_ptr

-- two moments of a desk: the same columns and tables lie on it, whatever they hold
pub record SameTables (before after : Desk) : Type 0 where
  pub weights_stay : SameTable before.weights after.weights
  pub heads_stay : SameTable before.heads after.heads
  pub registers_stay : SameTable before.registers after.registers
  pub links_stay : SameTable before.links after.links
  pub ends_stay : SameTable before.ends after.ends
  pub items_stay : SameTable before.items after.items
  pub sources_stay : SameTable before.sources after.sources
  pub targets_stay : SameTable before.targets after.targets

-- no command that adds
pub record NotAdding (letter : ℕ) : Type 0 where
  pub not_N : letter ≡ 78 → ⊥
  pub not_E : letter ≡ 69 → ⊥
  pub not_U : letter ≡ 85 → ⊥

-- nor one that takes out
pub record NotChanging (letter : ℕ) : Type 0 where
  pub not_adding : NotAdding letter
  pub not_X : letter ≡ 88 → ⊥
  pub not_D : letter ≡ 68 → ⊥
  pub not_C : letter ≡ 67 → ⊥
  pub not_Z : letter ≡ 90 → ⊥

-- no command that leaves the network as it is
pub record NotTelling (letter : ℕ) : Type 0 where
  pub not_F : letter ≡ 70 → ⊥
  pub not_W : letter ≡ 87 → ⊥
  pub not_G : letter ≡ 71 → ⊥
  pub not_M : letter ≡ 77 → ⊥
  pub not_B : letter ≡ 66 → ⊥
  pub not_A : letter ≡ 65 → ⊥
  pub not_S : letter ≡ 83 → ⊥
