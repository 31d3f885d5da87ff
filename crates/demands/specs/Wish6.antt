-- Wish 6: decimal printing, written again. A field for each thing that its sentences ask of the bytes. That no scratch array is filled is read in the two
-- functions that print digits: `printing::parts::write_number`, whose contract is the one that it had, and `printer::print_number`.
use Rattle.std.specs.Prelude.{ℕ, ◌≡◌, [], ◌∷◌, map, length}
use Rattle.io.specs.Digits as kit
use Rattle.printing.specs.Digits.{digits, from_left}
use Rattle.demands.specs.Starred.{bytes}

pub record Wish6 : Type 0 where
  -- 'digits come out from the left': the digits of a number, defined from the right, are those that come out from the left
  pub from_left_lem : (x : ℕ) → from_left (length (digits x)) x ≡ digits x
  -- 'Every line of every program stays the same byte for byte': what programs printed before, by the contract of the kit's `decimal`, were the same digits
  pub same_bytes : (x k : ℕ) → kit.IsDigitCount 10 1 x k → kit.last_digits 10 k x ≡ digits x
  -- worked out by hand: one digit, a zero last and a zero within, and the highest number of 32 bits and of 64
  pub by_hand :
      map digits (0 ∷ 7 ∷ 10 ∷ 345 ∷ 9060 ∷ 4294967295 ∷ 18446744073709551615 ∷ [])
      ≡ map bytes ("0" ∷ "7" ∷ "10" ∷ "345" ∷ "9060" ∷ "4294967295" ∷ "18446744073709551615" ∷ [])
