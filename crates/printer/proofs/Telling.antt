-- A loop that writes a number from the left to a writer: what was written so far, and the k digits of x that are to come, are all of x.
use Rattle.std.proofs.Common.{ℕ, zero, suc, ◌≡◌, ◌-◌, ◌/◌, ◌%◌, ◌^◌, ◌<◌, List, [], ◌∷◌, ◌++◌, sym, ap, ◌∙◌, subst, append_assoc, append-nil, length, arith}
use Rattle.std.specs.declared.option.Option.{Option}
use Rattle.std.specs.Io.KnownBytes.{Appends}
use Rattle.std.proofs.KnownBytes.{Appends-nil, Appends-trans}
use Rattle.printing.specs.Bytes.{glyph}
use Rattle.printing.specs.Digits.{digits, from_left}
use Rattle.printing.proofs.FromLeft.{from_left_lem, Coming, all_coming, some_coming, none_coming, first_coming, others_coming}

-- `done` was written, and k digits are to come
pub record Told (old now : Option (List ℕ)) (x rest power k : ℕ) (done : List ℕ) : Type 0 where
  pub coming : Coming x rest power k
  pub written : Appends old now done
  pub whole : done ++ from_left k x ≡ digits x

pub start : (old : Option (List ℕ)) (x power : ℕ) → power ≡ 10 ^ (length (digits x) - 1) → Told old old x x power (length (digits x)) []
start old x power e =
    record {
      coming = all_coming x power e;
      written = Appends-nil old;
      whole = sym (from_left_lem x);
    }

module _ {old now : Option (List ℕ)} {x rest power : ℕ} {done : List ℕ} where
  pub turn : (after : Option (List ℕ)) (k : ℕ) → Told old now x rest power k done → 0 < power → Appends now after (glyph (rest / power) ∷ [])
      → (j : ℕ) × Told old after x (rest % power) (power / 10) j (done ++ (glyph (rest / power) ∷ []))
  unfolding from_left
  turn after zero i h a = absurd (omega (arith, some_coming 0 i.coming h))
  turn after (suc j) i h a = (
    j,
    record {
      coming = others_coming j i.coming;
      written = Appends-trans old now after done _ i.written a;
      whole = append_assoc done _ _ ∙ ap (λ d. done ++ (glyph d ∷ from_left j x)) (first_coming j i.coming) ∙ i.whole;
    },
  )

  pub all_told : (k : ℕ) → Told old now x rest power k done → power ≡ 0 → Appends old now (digits x)
  unfolding from_left
  all_told zero i z = subst (Appends old now) (sym (append-nil done) ∙ i.whole) i.written
  all_told (suc j) i z = absurd (omega (arith, none_coming (suc j) i.coming z))
