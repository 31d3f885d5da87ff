-- A right directory, by its cells: it stays right where a row is added, gets another number, or goes and the last row takes its place:
-- `right_more`, `right_again`, `right_less`. It is the directory of its rows, `right_is`, so there is no other: `right_only`.
use Prim.Native.Nat.{ℕ, zero, suc, ◌+◌, ◌-◌, ◌≤◌, ◌<◌}
use mathlib.Core.Path.{◌≡◌, refl, sym, ap, ◌∙◌}
use mathlib.Core.Logic.{◌⊎◌, inl, inr, ⊎_elim}
use mathlib.Core.Bool.{cond}
use mathlib.Core.List.{List}
use native.Mathlib.Nat.{not-suc-le-zero}
use native.Mathlib.Numerals.{add-one}
use native.Mathlib.Decide.{ℕ_discrete, dec_lt}
use native.Mathlib.Omega.{arith}
use borrow.Author.Tests.{lt-ltb, le-ltb}
use lib.Dec.{ltb}
use lib.ListN.{length, set, replicate, length-set, length-replicate, get_or-eq_default}
use lib.Seq.{get_or-set_same, get_or-set_other, ext_get_or}
use Rattle.index.specs.Index.{END}
use Rattle.directory.specs.Directory.{entry, Right, directory_of, followed}

-- an entry that is not none has a cell
pub inside : (d : List ℕ) (r : ℕ) → (entry d r ≡ END → ⊥) → r < length d
inside d r n =
    elim (dec_lt r (length d)) [
      | yes h ↦ h
      | no h ↦ absurd (n (get_or-eq_default d END (omega arith)))
    ]

none_anywhere : (cells r : ℕ) → entry (replicate cells END) r ≡ END
none_anywhere zero r = refl
none_anywhere (suc cells) zero = refl
none_anywhere (suc cells) (suc r) = none_anywhere cells r

pub directory_length : (cells : ℕ) (number : ℕ → ℕ) (e : ℕ) → length (directory_of cells number e) ≡ cells
unfolding directory_of
directory_length cells number zero = length-replicate cells END
directory_length cells number (suc e) = length-set (directory_of cells number e) (number e) e ∙ directory_length cells number e

module _ (number : ℕ → ℕ) (m : ℕ) (d : List ℕ) (R : Right number m d) (small : m ≤ END) where
  -- each row has a cell, and no two rows bear one number
  pub has_cell_lem : (e : ℕ) → e < m → number e < length d
  has_cell_lem e h = inside d (number e) (λ z. omega (arith, R.named e h))

  pub apart : (e x : ℕ) → e < m → x < m → number e ≡ number x → e ≡ x
  apart e x h l q = sym (R.named e h) ∙ ap (entry d) q ∙ R.named x l

  -- the row that a number stands in is the one that bears it
  pub names_only : (e r : ℕ) → e < m → entry d r ≡ e → number e ≡ r
  names_only e r h q = rw q at (R.borne r (λ z. omega (arith, q))).1

  -- a row more, with a number that stands in none
  pub right_more : (now : ℕ → ℕ) (w : ℕ) → m < END → w < length d → entry d w ≡ END → now m ≡ w → ((x : ℕ) → x < m → now x ≡ number x)
      → Right now (m + 1) (set d w m)
  right_more now w most l free is same =
      record {
        named =
            λ e h.
            elim (ℕ_discrete e m) [
              | yes q ↦ rw (q, is) (get_or-set_same d w m END l)
              | no q ↦
                  (let b : e < m = omega arith in
                  rw (same e b)
                  (get_or-set_other d w (number e) m END (λ z. omega (arith, R.named e b, ap (entry d) z)) ∙ R.named e b))
            ];
        borne =
            λ r n.
            elim (ℕ_discrete r w) [
              | yes q ↦
                  (let z : entry (set d w m) r ≡ m = ap (entry (set d w m)) q ∙ get_or-set_same d w m END l in
                  (omega (arith, z), ap now z ∙ is ∙ sym q))
              | no q ↦
                  (let z : entry (set d w m) r ≡ entry d r = get_or-set_other d w r m END q in
                  let b = R.borne r (λ y. n (z ∙ y)) in
                  (omega (arith, z, b.0), ap now z ∙ same (entry d r) b.0 ∙ b.1))
            ];
      }

  -- row e with another number, which stood in none or in this row
  pub right_again : (now : ℕ → ℕ) (e w : ℕ) → e < m → w < length d → (entry d w ≡ END) ⊎ (entry d w ≡ e) → now e ≡ w
      → ((x : ℕ) → x < m → (x ≡ e → ⊥) → now x ≡ number x)
      → Right now m (set (set d (number e) END) w e)
  right_again now e w h l free is same =
      let c = set d (number e) END in
      let lc : w < length c = omega (arith, length-set d (number e) END) in
      let cleared : entry c (number e) ≡ END = get_or-set_same d (number e) END END (has_cell_lem e h) in
      record {
        named =
            λ x b.
            elim (ℕ_discrete x e) [
              | yes q ↦ rw (q, is) (get_or-set_same c w e END lc)
              | no q ↦
                  (let y : number x ≡ w → ⊥ =
                  λ z. ⊎_elim (λ f. omega (arith, R.named x b, ap (entry d) z, f)) (λ f. q (sym (R.named x b) ∙ ap (entry d) z ∙ f)) free in
                  rw (same x b q)
                  (get_or-set_other c w (number x) e END y
                  ∙ get_or-set_other d (number e) (number x) END END (λ z. q (apart x e b h z))
                  ∙ R.named x b))
            ];
        borne =
            λ r n.
            elim (ℕ_discrete r w) [
              | yes q ↦
                  (let z : entry (set c w e) r ≡ e = ap (entry (set c w e)) q ∙ get_or-set_same c w e END lc in
                  (omega (arith, z), ap now z ∙ is ∙ sym q))
              | no q ↦
                  (let z : entry (set c w e) r ≡ entry c r = get_or-set_other c w r e END q in
                  let k : r ≡ number e → ⊥ = λ y. n (z ∙ ap (entry c) y ∙ cleared) in
                  let y : entry c r ≡ entry d r = get_or-set_other d (number e) r END END k in
                  let b = R.borne r (λ o. n (z ∙ y ∙ o)) in
                  let a : entry d r ≡ e → ⊥ = λ o. k (sym (names_only e r h o)) in
                  (omega (arith, z, y, b.0), ap now (z ∙ y) ∙ same (entry d r) b.0 a ∙ b.1))
            ];
      }

  -- row e is out, and the last row, if it is another, has become row e
  module _ (now : ℕ → ℕ) (e : ℕ) (h : e < m) (same : (x : ℕ) → x < m - 1 → (x ≡ e → ⊥) → now x ≡ number x) (last : e < m - 1 → now e ≡ number (m - 1)) where
    abbrev cut : List ℕ
    cut = set d (number e) END

    cut_none : entry cut (number e) ≡ END
    cut_none = get_or-set_same d (number e) END END (has_cell_lem e h)

    cut_other : (r : ℕ) → (r ≡ number e → ⊥) → entry cut r ≡ entry d r
    cut_other r n = get_or-set_other d (number e) r END END n

    cut_named : (x : ℕ) → x < m → (x ≡ e → ⊥) → entry cut (number x) ≡ x
    cut_named x b n = cut_other (number x) (λ z. n (apart x e b h z)) ∙ R.named x b

    -- what an entry that is left names
    cut_borne : (r : ℕ) → (entry cut r ≡ END → ⊥) → (entry cut r < m) × (number (entry cut r) ≡ r) × (entry cut r ≡ e → ⊥)
    cut_borne r n =
        let k : r ≡ number e → ⊥ = λ z. n (ap (entry cut) z ∙ cut_none) in
        let y = cut_other r k in
        let b = R.borne r (λ z. n (y ∙ z)) in
        (omega (arith, y, b.0), ap number y ∙ b.1, λ z. k (sym (names_only e r h (sym y ∙ z))))

    -- it was the last
    right_gone : m - 1 ≤ e → Right now (m - 1) cut
    right_gone l =
        record {
          named = λ x b. (let n : x ≡ e → ⊥ = λ z. omega arith in rw (same x b n) (cut_named x (omega arith) n));
          borne =
              λ r n.
              (let b = cut_borne r n in
              let i : entry cut r < m - 1 = ⊎_elim (λ z. absurd (b.2 z)) (λ z. z) (below_or (entry cut r) e (m - 1) (omega (arith, b.0)) (omega arith)) in
              (i, same (entry cut r) i b.2 ∙ b.1));
        }
      where
        below_or : (x y z : ℕ) → x < z + 1 → y ≡ z → (x ≡ y) ⊎ (x < z)
        below_or x y z p q =
            elim (ℕ_discrete x y) [
              | yes o ↦ inl o
              | no o ↦ inr (omega arith)
            ]

    -- it was not
    right_moved : e < m - 1 → Right now (m - 1) (set cut (now e) e)
    right_moved l =
        let lc : now e < length cut = omega (arith, last l, has_cell_lem (m - 1) (omega arith), length-set d (number e) END) in
        let not_last : (x : ℕ) → x < m - 1 → number x ≡ now e → ⊥ = λ x b z. omega (arith, apart x (m - 1) (omega arith) (omega arith) (z ∙ last l)) in
        record {
          named =
              λ x b.
              elim (ℕ_discrete x e) [
                | yes q ↦ rw q (get_or-set_same cut (now e) e END lc)
                | no q ↦ rw (same x b q) (get_or-set_other cut (now e) (number x) e END (not_last x b) ∙ cut_named x (omega arith) q)
              ];
          borne =
              λ r n.
              elim (ℕ_discrete r (now e)) [
                | yes q ↦
                    (let z : entry (set cut (now e) e) r ≡ e = ap (entry (set cut (now e) e)) q ∙ get_or-set_same cut (now e) e END lc in
                    (omega (arith, z), ap now z ∙ sym q))
                | no q ↦
                    (let z : entry (set cut (now e) e) r ≡ entry cut r = get_or-set_other cut (now e) r e END q in
                    let b = cut_borne r (λ y. n (z ∙ y)) in
                    let o : entry cut r ≡ m - 1 → ⊥ = λ y. q (sym b.1 ∙ ap number y ∙ sym (last l)) in
                    let i : entry cut r < m - 1 = omega (arith, b.0) in
                    (omega (arith, z), ap now z ∙ same (entry cut r) i b.2 ∙ b.1))
              ];
        }

    pub right_less : Right now (m - 1) (followed now (m - 1) (number e) e d)
    unfolding followed
    right_less =
        elim (dec_lt e (m - 1)) [
          | yes l ↦ rw (lt-ltb e (m - 1) l) (right_moved l)
          | no l ↦ rw (le-ltb e (m - 1) (omega arith)) (right_gone (omega arith))
        ]

  -- a right directory is the directory of its rows
  built : (e : ℕ) → e ≤ m → (r : ℕ) → entry (directory_of (length d) number e) r ≡ cond (ltb (entry d r) e) (entry d r) END
  unfolding directory_of
  built zero b r = rw (le-ltb (entry d r) 0 (omega arith)) (none_anywhere (length d) r)
  built (suc e) b r =
      let c = directory_of (length d) number e in
      elim (ℕ_discrete r (number e)) [
        | yes q ↦
            (let z : entry d r ≡ e = ap (entry d) q ∙ R.named e (omega arith) in
            rw (lt-ltb (entry d r) (suc e) (omega arith))
            (ap (entry (set c (number e) e)) q ∙ get_or-set_same c (number e) e END (rw (directory_length (length d) number e) (has_cell_lem e (omega arith))) ∙ sym z))
        | no q ↦
            (let n : entry d r ≡ e → ⊥ = λ z. q (sym (names_only e r (omega arith) z)) in
            get_or-set_other c (number e) r e END q ∙ built e (omega arith) r
            ∙ elim (dec_lt (entry d r) e) [
              | yes l ↦ rw (lt-ltb (entry d r) e l, lt-ltb (entry d r) (suc e) (omega arith))
              | no l ↦ rw (le-ltb (entry d r) e (omega arith), le-ltb (entry d r) (suc e) (omega arith))
            ])
      ]

  pub right_is : d ≡ directory_of (length d) number m
  right_is =
      ext_get_or END d (directory_of (length d) number m) (sym (directory_length (length d) number m)) (λ r i.
      sym (built m (omega arith) r ∙ elim (ℕ_discrete (entry d r) END) [
        | yes q ↦ rw (le-ltb (entry d r) m (omega arith)) (sym q)
        | no q ↦ rw (lt-ltb (entry d r) m (R.borne r q).0)
      ]))

-- so there is no other of that length
pub right_only : (number : ℕ → ℕ) (m : ℕ) (c d : List ℕ) → m ≤ END → length c ≡ length d → Right number m c → Right number m d → c ≡ d
right_only number m c d s q P R =
    right_is number m c P s ∙ ap (λ l. directory_of l number m) q ∙ sym (right_is number m d R s)

-- an empty network has a directory of nones
pub right_none : (number : ℕ → ℕ) (cells : ℕ) → Right number 0 (replicate cells END)
right_none number cells = record { named = λ e h. absurd (not-suc-le-zero h); borne = λ r n. absurd (n (none_anywhere cells r)) }

-- rows that are entered in turn, each where none stands
pub right_built : (number : ℕ → ℕ) (cells m : ℕ) → m ≤ END → ((e : ℕ) → e < m → number e < cells)
    → ((e : ℕ) → e < m → entry (directory_of cells number e) (number e) ≡ END) → Right number m (directory_of cells number m)
unfolding directory_of
right_built number cells zero s b f = right_none number cells
right_built number cells (suc m) s b f =
    let c = directory_of cells number m in
    let P = right_built number cells m (omega arith) (λ e h. b e (omega arith)) (λ e h. f e (omega arith)) in
    rw (← add-one m)
    (right_more number m c P (omega arith) number (number m) (omega arith) (rw (directory_length cells number m) (b m (omega arith))) (f m (omega arith))
    refl (λ x h. refl))
