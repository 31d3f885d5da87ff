-- A line of a script: its letter, the numbers behind it, and what it comes to.
use Rattle.std.specs.Prelude.{ℕ, cond, List, [], ◌∷◌, eqb, ℤ, pos, get_or}
use Rattle.std.proofs.Math.Option.{Option, none, some}
use Rattle.text.specs.Numbers.{operands, weight_operand}
use Rattle.commands.specs.Commands.{Replied}
use Rattle.letters.specs.Letters.{operands_of}
use Rattle.dispatch.specs.declared.Numbers.{Numbers}
use Rattle.dispatch.specs.Step.{State, no_command, step}

-- the numbers of a command: a node weight, or up to three others; those that it has not are 0
abbrev pub weight_alone : Option ℤ → Option Numbers
weight_alone none = none
weight_alone (some w) = some (record { w = w; a = 0; b = 0; c = 0 })

abbrev pub up_to_three : Option (List ℕ) → Option Numbers
up_to_three none = none
up_to_three (some xs) = some (record { w = pos 0; a = get_or xs 0 0; b = get_or xs 1 0; c = get_or xs 2 0 })

-- behind `N` stands a node weight, behind any other letter as many numbers as its command has
unfoldable pub numbers_behind : ℕ → List ℕ → Option Numbers
numbers_behind letter text =
    cond (eqb letter 78) (weight_alone (weight_operand text)) (up_to_three (operands (operands_of letter) text))

-- a letter with its numbers does what its command does; without them the line is no command
abbrev pub obeyed : ℕ → Option Numbers → State → Replied State
obeyed letter none s = no_command s
obeyed letter (some o) s = step letter o s

-- a line is one letter and its numbers: its answer, and the state that it leaves
unfoldable pub line_answer : List ℕ → State → Replied State
line_answer [] s = no_command s
line_answer (letter ∷ text) s = obeyed letter (numbers_behind letter text) s
