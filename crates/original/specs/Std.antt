-- What graph.rs takes from its language: a run that may panic, `Option`, vectors, arrays of two.
use Rattle.std.specs.Prelude.{ℕ, zero, suc, ◌-◌, ◌%◌, Bool, cond, List, [], ◌∷◌, ◌++◌, leb, length, set, take}
use Rattle.std.proofs.Math.Option.{Option, none, some}

-- what a call comes to. A loop has a number of turns to make; `endless` is a loop that has made them and would go on
pub data Run (A : Type 0) : Type 0 where
  returns : A → Run A
  panics : Run A
  endless : Run A

-- one statement after the other
infixl 20 ◌>>=◌
abbrev pub ◌>>=◌ : {A B : Type 0} → Run A → (A → Run B) → Run B
returns x >>= f = f x
panics >>= f = panics
endless >>= f = endless

-- `assert!`, and `debug_assert!` of a debug build; in a release build the latter is passed over
abbrev pub assert : {A : Type 0} → Bool → Run A → Run A
assert holds rest = cond holds rest panics

-- `match` on an option; `?`, `map`, `expect` and `if let` are such matches
abbrev pub on_option : {A B : Type 0} → Option A → B → (A → B) → B
on_option none nothing something = nothing
on_option (some x) nothing something = something x

abbrev pub expect : {A : Type 0} → Option A → Run A
expect o = on_option o panics (λ x. returns x)

-- `v.get(i)`, and `v[i]`, which panics
abbrev pub get : {A : Type 0} → List A → ℕ → Option A
get [] i = none
get (x ∷ xs) zero = some x
get (x ∷ xs) (suc i) = get xs i

abbrev pub index : {A : Type 0} → List A → ℕ → Run A
index xs i = expect (get xs i)

-- `v.push(x)`
abbrev pub push : {A : Type 0} → List A → A → List A
push xs x = xs ++ (x ∷ [])

-- `v.swap_remove(i)`: what stood at i, and the vector with its last row there and one row shorter
abbrev pub swap_remove : {A : Type 0} → List A → ℕ → Run (A × List A)
swap_remove xs i =
    index xs i >>= λ x.
    index xs (length xs - 1) >>= λ last.
    returns (x, take (length xs - 1) (set xs i last))

-- `[T; 2]` of numbers: `pair[k]`, and `pair[k] = x`
abbrev pub Two : Type 0
Two = ℕ × ℕ

infixl 60 ◌!◌
abbrev pub ◌!◌ : Two → ℕ → ℕ
pair ! zero = pair.0
pair ! (suc k) = pair.1

abbrev pub put : Two → ℕ → ℕ → Two
put pair zero x = (x, pair.1)
put pair (suc k) x = (pair.0, x)

-- `max(a, b)`, and `n as u32`
abbrev pub max : ℕ → ℕ → ℕ
max a b = cond (leb a b) b a

abbrev pub as_u32 : ℕ → ℕ
as_u32 n = n % 4294967296
