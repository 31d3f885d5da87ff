-- The lookup by register number, in the document's order, on every network and directory.
use Prim.Native.Nat.{ℕ, ◌≤◌, ◌<◌}
use mathlib.Core.Path.{◌≡◌, refl}
use mathlib.Core.Logic.{◌⊎◌, ⊎_elim}
use mathlib.Core.Bool.{Bool, true, false}
use native.Mathlib.Omega.{arith}
use borrow.Author.Tests.{eq-eqb, ne_eqb, lt-ltb, le-ltb}
use lib.Dec.{eqb, ltb}
use lib.ListN.{length}
use Rattle.index.specs.Index.{END}
use Rattle.tables.specs.Net.{fits}
use Rattle.tables.specs.Answers.{done}
use Rattle.sound.proofs.Exactly.{small}
use Rattle.directory.specs.Directory.{entry, bears, Filed, register_of}
use Rattle.directory.proofs.Laws.{inside}
use Rattle.dirremoval.specs.Removal.{remove_edge_filed}
use Rattle.bynumber.specs.Numbers.{find_number, remove_number}
use Rattle.demands.proofs.Judged.{second_false}

module _ (f : Filed) (r : ℕ) where
  abbrev row : ℕ
  row = entry f.directory r

  pub number-tables : (fits f.net ≡ true → ⊥) → (find_number f r).number ≡ 1
  unfolding find_number
  number-tables n = rw (other (fits f.net) n)
    where
      other : (b : Bool) → (b ≡ true → ⊥) → b ≡ false
      other true h = absurd (h refl)
      other false h = refl

  pub number-beyond : fits f.net ≡ true → length f.directory ≤ r → (find_number f r).number ≡ 12
  unfolding find_number
  number-beyond t h = rw (t, le-ltb r (length f.directory) h)

  pub number-none : fits f.net ≡ true → r < length f.directory → row ≡ END → (find_number f r).number ≡ 5
  unfolding find_number
  number-none t l q = rw (t, lt-ltb r (length f.directory) l, eq-eqb row END q)

  no_bearer : (f.net.m ≤ row) ⊎ (register_of f.net row ≡ r → ⊥) → bears (register_of f.net) f.net.m row r ≡ false
  no_bearer h =
      ⊎_elim
      (λ l. rw (le-ltb row f.net.m l))
      (λ n. second_false (ltb row f.net.m) (eqb (register_of f.net row) r) (ne_eqb (register_of f.net row) r n))
      h

  pub number-other : fits f.net ≡ true → r < length f.directory → (row ≡ END → ⊥)
      → (f.net.m ≤ row) ⊎ (register_of f.net row ≡ r → ⊥) → (find_number f r).number ≡ 6
  unfolding find_number
  number-other t l n h = rw (t, lt-ltb r (length f.directory) l, ne_eqb row END n, no_bearer h)

  pub number-found : fits f.net ≡ true → row < f.net.m → register_of f.net row ≡ r → find_number f r ≡ done row
  unfolding find_number
  number-found t l q =
      let n : row ≡ END → ⊥ = λ z. omega (arith, small f.net t) in
      rw (t, lt-ltb r (length f.directory) (inside f.directory r n), ne_eqb row END n, lt-ltb row f.net.m l, eq-eqb (register_of f.net row) r q)

  -- the edge that is found is taken out
  pub removed_found : (e : ℕ) → find_number f r ≡ done e → remove_number f r ≡ remove_edge_filed f e
  unfolding remove_number
  removed_found e p = rw p
