-- The lookup beside a right directory: it tells the row that bears the number, `bears-found`, `found-bears`, and 5 where none does, `none-bears`,
-- `bears-none`. The removal by number is that of the edge, `number_same`, or changes nothing, `number-refused`; the directory stays right,
-- `number_out_right`, and keeps its length, `number-length`; a refusal of either changes nothing, `number_unchanged`.
use Prim.Native.Nat.{ℕ, ◌≤◌, ◌<◌}
use mathlib.Core.Path.{◌≡◌, refl, sym, ap, ◌∙◌}
use mathlib.Core.Bool.{true, not}
use mathlib.Core.List.{List}
use native.Mathlib.Decide.{ℕ_discrete, dec_lt}
use native.Mathlib.Omega.{arith}
use borrow.Author.Tests.{eq-eqb, ne_eqb, lt-ltb, le-ltb, ltb-true, eqb-true}
use lib.Dec.{eqb, ltb}
use lib.ListN.{length}
use Rattle.index.specs.declared.Refusal.TheVariants.{Nothing, Beyond}
use Rattle.index.specs.Index.{END, is_end}
use Rattle.tables.specs.Net.{fits}
use Rattle.tables.specs.Answers.{Told, Out, out, done, refused}
use Rattle.tables.proofs.Laws.{both, tested}
use Rattle.sound.specs.Sound.{Sound}
use Rattle.sound.proofs.Exactly.{small}
use Rattle.removal.specs.Removal.{remove_edge}
use Rattle.directory.specs.Directory.{entry, bears, Filed, register_of, RightFor}
use Rattle.directory.proofs.Laws.{has_cell_lem}
use Rattle.dirremoval.specs.Removal.{remove_edge_filed}
use Rattle.dirremoval.proofs.Kept.{edge_unchanged, edge-length, edge_same, edge_out_right}
use Rattle.bynumber.specs.Numbers.{find_number, remove_number}

-- no row bears number r
abbrev pub NoneBears : Filed → ℕ → Type 0
NoneBears f r = (e : ℕ) → e < f.net.m → register_of f.net e ≡ r → ⊥

-- whatever the directory holds, a row that is told is in use and bears the number
pub found-bears : (f : Filed) (r e : ℕ) → find_number f r ≡ done e → (e < f.net.m) × (register_of f.net e ≡ r)
unfolding find_number
found-bears f r e =
    let P : Told ℕ → Type 0 = λ o. o ≡ done e → (e < f.net.m) × (register_of f.net e ≡ r) in
    let x = entry f.directory r in
    let other : (v : Told ℕ) → (v.number ≡ 0 → ⊥) → P v = λ v n z. absurd (n (ap (λ (u : Told ℕ). u.number) z)) in
    tested P (fits f.net) _ _ (other _ (λ z. omega (arith, z))) (λ t.
    tested P (ltb r (length f.directory)) _ _ (other _ (λ z. omega (arith, z))) (λ l.
    tested P (not (is_end x)) _ _ (other _ (λ z. omega (arith, z))) (λ s.
    tested P (bears (register_of f.net) f.net.m x r) _ _ (other _ (λ z. omega (arith, z))) (λ b z.
    let q = ap (λ (u : Told ℕ). u.values) z in
    let c = both (ltb x f.net.m) (eqb (register_of f.net x) r) b in
    (rw q at (ltb-true x f.net.m c.0), rw q at (eqb-true (register_of f.net x) r c.1))))))

module _ (f : Filed) (t : fits f.net ≡ true) (R : RightFor f) where
  pub bears-found : (r e : ℕ) → e < f.net.m → register_of f.net e ≡ r → find_number f r ≡ done e
  unfolding find_number
  bears-found r e l q =
      let s = small f.net t in
      let c : r < length f.directory = rw q at (has_cell_lem (register_of f.net) f.net.m f.directory R s e l) in
      let z : entry f.directory r ≡ e = rw q at (R.named e l) in
      rw (t, lt-ltb r (length f.directory) c, z, ne_eqb e END (λ y. omega (arith, y, s)), lt-ltb e f.net.m l, eq-eqb (register_of f.net e) r q)

  -- 12 where the directory is too short
  pub beyond_length : (r : ℕ) → length f.directory ≤ r → find_number f r ≡ refused Beyond 0
  unfolding find_number
  beyond_length r l = rw (t, le-ltb r (length f.directory) l)

  -- 5 exactly where no row bears a number below the directory's length
  pub none-bears : (r : ℕ) → find_number f r ≡ refused Nothing 0 → (r < length f.directory) × NoneBears f r
  none-bears r z =
      let number : (v : Told ℕ) → find_number f r ≡ v → 5 ≡ v.number = λ v y. ap (λ (u : Told ℕ). u.number) (sym z ∙ y) in (
        elim (dec_lt r (length f.directory)) [
          | yes l ↦ l
          | no l ↦ absurd (omega (arith, number (refused Beyond 0) (beyond_length r (omega arith))))
        ],
        λ e l q. omega (arith, number (done e) (bears-found r e l q)),
      )

  pub bears-none : (r : ℕ) → r < length f.directory → NoneBears f r → find_number f r ≡ refused Nothing 0
  unfolding find_number
  bears-none r l n =
      elim (ℕ_discrete (entry f.directory r) END) [
        | yes q ↦ rw (t, lt-ltb r (length f.directory) l, eq-eqb (entry f.directory r) END q)
        | no q ↦ (let b = R.borne r q in absurd (n (entry f.directory r) b.0 b.1))
      ]

-- what refuses the lookup refuses the removal, and nothing changes
pub number-refused : (f : Filed) (r : ℕ) → ((find_number f r).number ≡ 0 → ⊥)
    → remove_number f r ≡ out (record { number = (find_number f r).number; values = (0, 0, 0) }) f
unfolding remove_number
number-refused f r n = rw (ne_eqb (find_number f r).number 0 n)

pub number_unchanged : (f : Filed) (r : ℕ) → ((remove_number f r).answer.number ≡ 0 → ⊥) → (remove_number f r).after ≡ f
unfolding remove_number
number_unchanged f r =
    let P : Out (ℕ × ℕ × ℕ) Filed → Type 0 = λ o. (o.answer.number ≡ 0 → ⊥) → o.after ≡ f in
    tested P (eqb (find_number f r).number 0) _ _ (λ n. refl) (λ z. edge_unchanged f (find_number f r).values)

pub number-length : (f : Filed) (r : ℕ) → length (remove_number f r).after.directory ≡ length f.directory
unfolding remove_number
number-length f r =
    let P : Out (ℕ × ℕ × ℕ) Filed → Type 0 = λ o. length o.after.directory ≡ length f.directory in
    tested P (eqb (find_number f r).number 0) _ _ refl (λ z. edge-length f (find_number f r).values)

module _ (f : Filed) (ls : ℕ → ℕ → List ℕ) (t : fits f.net ≡ true) (S : Sound f.net ls) (R : RightFor f) where
  -- the edge that bears the number is taken out
  pub number_is : (r e : ℕ) → e < f.net.m → register_of f.net e ≡ r → remove_number f r ≡ remove_edge_filed f e
  unfolding remove_number
  number_is r e l q = rw (bears-found f t R r e l q)

  pub number_same : (r e : ℕ) → e < f.net.m → register_of f.net e ≡ r
      → ((remove_number f r).answer ≡ (remove_edge f.net e).answer) × ((remove_number f r).after.net ≡ (remove_edge f.net e).after)
  number_same r e l q = rw (number_is r e l q) (edge_same f ls e t S R)

  pub number_out_right : (r : ℕ) → RightFor (remove_number f r).after
  unfolding remove_number
  number_out_right r =
      let P : Out (ℕ × ℕ × ℕ) Filed → Type 0 = λ o. RightFor o.after in
      tested P (eqb (find_number f r).number 0) _ _ R (λ z. edge_out_right f ls (find_number f r).values t S R)
