-- The bytes that mean something in a script and in its answers.
use Rattle.std.specs.Prelude.{ℕ, ◌+◌}

abbrev pub newline : ℕ
newline = 10

abbrev pub space : ℕ
space = 32

abbrev pub minus : ℕ
minus = 45

-- the digit d; `0` is 48
abbrev pub glyph : ℕ → ℕ
glyph d = 48 + d
