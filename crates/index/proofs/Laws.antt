-- The two directions are numbered 0 and 1, and each refusal has a number of its own.
use Prim.Native.Nat.{ℕ, ◌<◌}
use mathlib.Core.Path.{◌≡◌, refl}
use mathlib.Core.List.{[], ◌∷◌, map}
use lib.ListN.{get_or}
use native.Mathlib.Omega.{arith}
use Rattle.index.specs.declared.EdgeDirection.{EdgeDirection}
use Rattle.index.specs.declared.EdgeDirection.TheVariants.{Outgoing, Incoming}
use Rattle.index.specs.declared.Refusal.{Refusal}
use Rattle.index.specs.declared.Refusal.TheVariants.{Tables, Full, NoNode, NoEdge, Nothing, Broken, Short, NotImage, Version, NotCommand}
use Rattle.index.specs.declared.Refusal.TheVariants.{Taken, Beyond, NotBare, NoRanking, Outside, TooDeep, Fell, Overflow}
use Rattle.index.specs.Index.{number_of, direction_of}
use Rattle.index.specs.Refusals.{refusal_no}

pub number-below : (d : EdgeDirection) → number_of d < 2
number-below Outgoing = omega arith
number-below Incoming = omega arith

pub direction_number : (d : EdgeDirection) → direction_of (number_of d) ≡ d
direction_number Outgoing = refl
direction_number Incoming = refl

-- what a number tells: 0 the one thing, each other number the refusal that has it
abbrev pub untold : {A : Type 0} → A → (Refusal → A) → ℕ → A
untold served refused x =
    let later = Taken ∷ Beyond ∷ NotBare ∷ NoRanking ∷ Outside ∷ TooDeep ∷ Fell ∷ Overflow ∷ [] in
    let refusals = Tables ∷ Full ∷ NoNode ∷ NoEdge ∷ Nothing ∷ Broken ∷ Short ∷ NotImage ∷ Version ∷ NotCommand ∷ later in
    get_or (served ∷ map refused refusals) x served

-- so no two refusals have the same number, and none has 0
pub untold_refusal : {A : Type 0} (served : A) (refused : Refusal → A) (why : Refusal) → untold served refused (refusal_no why) ≡ refused why
untold_refusal served refused Tables = refl
untold_refusal served refused Full = refl
untold_refusal served refused NoNode = refl
untold_refusal served refused NoEdge = refl
untold_refusal served refused Nothing = refl
untold_refusal served refused Broken = refl
untold_refusal served refused Short = refl
untold_refusal served refused NotImage = refl
untold_refusal served refused Version = refl
untold_refusal served refused NotCommand = refl
untold_refusal served refused Taken = refl
untold_refusal served refused Beyond = refl
untold_refusal served refused NotBare = refl
untold_refusal served refused NoRanking = refl
untold_refusal served refused Outside = refl
untold_refusal served refused TooDeep = refl
untold_refusal served refused Fell = refl
untold_refusal served refused Overflow = refl

pub not_zero : (why : Refusal) → refusal_no why ≡ 0 → ⊥
not_zero why h =
    let z : ◌≡◌ {A = ℕ} 0 1 = rw h at (untold_refusal {A = ℕ} 0 (λ w. 1) why) in
    omega arith
