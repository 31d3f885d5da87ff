-- Numbers as bytes, the lowest first, and signed numbers as two's complement.
use Rattle.std.specs.Prelude.{ℕ, zero, suc, ◌+◌, ◌*◌, ◌-◌, ◌/◌, ◌%◌, ◌<◌, cond, List, [], ◌∷◌, ◌++◌, ltb, ℤ, pos, negsuc, length, get_or, take, drop}

-- x in k bytes, little-endian
unfoldable pub le : ℕ → ℕ → List ℕ
le zero x = []
le (suc k) x = x % 256 ∷ le k (x / 256)

-- the number that little-endian bytes have
unfoldable pub number : List ℕ → ℕ
number [] = 0
number (b ∷ bs) = b + 256 * number bs

-- the number of the k bytes at a place
unfoldable pub number_at : ℕ → List ℕ → ℕ → ℕ
number_at k bytes at = number (take k (drop at bytes))

abbrev pub word_at : List ℕ → ℕ → ℕ
word_at = number_at 4

-- a signed number in 32 bits, as two's complement: a negative one is 2 ^ 32 more
unfoldable pub bits : ℤ → ℕ
bits (pos x) = x
bits (negsuc x) = 4294967296 - suc x

-- the signed number that 32 bits have
unfoldable pub signed : ℕ → ℤ
signed x = cond (ltb x 2147483648) (pos x) (negsuc (4294967296 - suc x))

-- bytes put in at a place; all others keep their values
unfoldable pub placed : ℕ → List ℕ → List ℕ → List ℕ
placed at xs bytes = take at bytes ++ (xs ++ drop (at + length xs) bytes)

-- what a column of u8 always has: every cell is below 256
abbrev pub Bytes : List ℕ → Type 0
Bytes l = (i : ℕ) → get_or l i 0 < 256
