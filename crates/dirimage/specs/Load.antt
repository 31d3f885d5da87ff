-- What the theorems on a load speak of.
use Prim.{Unit, tt}
use Rattle.std.specs.Prelude.{ℕ, ◌≤◌, ◌<◌, ◌≡◌, cond, ◌||◌, List, [], ◌∷◌, ◌↔◌, eqb, length}
use Rattle.index.specs.declared.Refusal.{Refusal}
use Rattle.index.specs.Refusals.{refusal_no}
use Rattle.tables.specs.Answers.{Out, out, done, refused}
use Rattle.lists.specs.Chain.{In}
use Rattle.loading.specs.Loading.{vacated}
use Rattle.image.specs.Calls.{image_read}
use Rattle.directory.specs.Directory.{none, Filed, filed, register_of}
use Rattle.dirsound.specs.Check.{Follows}
use Rattle.dirimage.specs.Calls.{image_read_filed}

-- of m rows: one bears a number that has no cell; each number has one; two rows bear one number
abbrev pub SomeBeyond : (ℕ → ℕ) → (m cells : ℕ) → Type 0
SomeBeyond number m cells = (e : ℕ) × (e < m) × (cells ≤ number e)

abbrev pub AllBelow : (ℕ → ℕ) → (m cells : ℕ) → Type 0
AllBelow number m cells = (e : ℕ) → e < m → number e < cells

abbrev pub BorneTwice : (ℕ → ℕ) → ℕ → Type 0
BorneTwice number m = (e : ℕ) × (x : ℕ) × (e < m) × (x < m) × (e ≡ x → ⊥) × (number e ≡ number x)

-- what a refused load leaves: after 6, 12, 11 no row is in use, all rows lent are vacant and every entry is none; else all is as it was
abbrev pub load_left : Filed → ℕ → Filed
load_left f number = cond (eqb number 6 || eqb number 12 || eqb number 11) (filed (vacated f.net) (none f.directory)) f

-- a load is served, and the directory is that of the rows that it has brought, which are sound; or it is refused by one of these numbers
pub data LoadEnds (f : Filed) (o : Out Unit Filed) : Type 0 where
  stays : o.answer ≡ done tt → Follows f o.after → LoadEnds f o
  goes : (why : Refusal) → In (refusal_no why) (1 ∷ 8 ∷ 9 ∷ 2 ∷ 6 ∷ 12 ∷ 11 ∷ []) → o ≡ out (refused why tt) (load_left f (refusal_no why)) → LoadEnds f o

-- a load brings rows where it is served without a directory; of these rows, and of the cells of the directory, something holds
abbrev pub Brings : Filed → List ℕ → ((number : ℕ → ℕ) → (m cells : ℕ) → Type 0) → Type 0
Brings f bytes Of =
    let o = image_read f.net bytes in
    (o.answer.number ≡ 0) × Of (register_of o.after) o.after.m (length f.directory)

-- 12 exactly where the number of a row has no cell; 11 exactly where each has one and two rows bear the same
pub record LoadTells (f : Filed) (bytes : List ℕ) : Type 0 where
  pub beyond_told : (image_read_filed f bytes).answer.number ≡ 12 ↔ Brings f bytes SomeBeyond
  pub taken_told : (image_read_filed f bytes).answer.number ≡ 11 ↔ Brings f bytes (λ number m cells. AllBelow number m cells × BorneTwice number m)
