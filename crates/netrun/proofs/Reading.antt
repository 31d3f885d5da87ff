-- Bytes read into a table behind those that it has.
use Rattle.std.proofs.Common.{◌≡◌, ℕ, ◌+◌, ◌-◌, ◌≤◌, List, ◌++◌, arith, length, take, slice_range, sym, ap, ◌∙◌, le_refl, drop_at, length-take-le}
use Rattle.std.proofs.lemmas.Slice.{take-put_mid_below}
use Rattle.std.specs.declared.option.Option.{Option}
use Rattle.std.specs.Io.KnownBytes.{Consumes}
use borrow.Rule.Slice.PartMut.{put_mid, post_of}
use lib.Seq.{take-add, take-append-le}

-- what was read so far stands in front, and all of it was the reader's
pub record Read (before now : Option (List ℕ)) (table₀ table : List ℕ) (at : ℕ) : Type 0 where
  pub long : length table ≡ length table₀
  pub within : at ≤ length table
  pub bytes : Consumes before now (take at table)

take_split : (a b : ℕ) (old new : List ℕ) → a ≤ b → take a new ≡ take a old → take a old ++ slice_range new a b ≡ take b new
take_split a b old new h front =
    let same : a + (b - a) ≡ b = omega arith in
    ap (λ l. l ++ slice_range new a b) (sym front) ∙ sym (take-add a (b - a) new) ∙ ap (λ n. take n new) same

range_put : (a k n : ℕ) (xs ys : List ℕ) → a ≤ length xs → n ≤ length ys → slice_range (put_mid a k xs ys) a (a + n) ≡ take n ys
range_put a k n xs ys within fits =
    let same : (a + n) - a ≡ n = omega arith in
    let after = post_of a k xs in
    ap (take ((a + n) - a)) (drop_at (take a xs) (ys ++ after) a (length-take-le a xs within)) ∙ ap (λ m. take m (ys ++ after)) same ∙ take-append-le n ys after fits

-- the bytes that a read put behind them
pub joined : (at k n : ℕ) (table ys : List ℕ) → at ≤ length table → n ≤ length ys → take at table ++ take n ys ≡ take (at + n) (put_mid at k table ys)
joined at k n table ys within fits =
    ap (λ l. take at table ++ l) (sym (range_put at k n table ys within fits))
    ∙ take_split at (at + n) table (put_mid at k table ys) (omega arith) (take-put_mid_below _ _ _ _ _ (le_refl _) within)
