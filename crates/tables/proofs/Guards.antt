-- A call that is refused by its first failing test: `search guards` finds each test's fact in the record of the place. Assumes nothing.
use mathlib.Core.Path.{◌≡◌}
use mathlib.Core.Bool.{Bool, true, false, ◌&&◌}
use borrow.Author.Tests.{lt-ltb, le-ltb, le-leb, lt-leb, eq-eqb, ne_eqb}
use lib.ListN.{length}
use Rattle.tables.specs.Net.{Net}
use Rattle.tables.specs.Answers.{unless}
use Rattle.tables.proofs.Laws.{Fit, misfit, fitted}

-- what the test for answer 1 says of a network
abbrev pub FitOf : Net → Type 0
FitOf g = Fit (length g.weights) (length g.heads) (length g.registers) (length g.links) (length g.ends) g.n g.m

pub passed : {X : Type 0} (b : Bool) (x refusal rest : X) → b ≡ true → x ≡ rest → x ≡ unless b refusal rest
passed b x refusal rest p q = rw p q

pub stopped : {X : Type 0} (b : Bool) (x refusal rest : X) → b ≡ false → x ≡ refusal → x ≡ unless b refusal rest
stopped b x refusal rest p q = rw p q

pub and_both : (a b : Bool) → a ≡ true → b ≡ true → (a && b) ≡ true
and_both a b p q = rw (p, q)

pub and_first : (a b : Bool) → a ≡ false → (a && b) ≡ false
and_first a b p = rw p

pub and_second : (a b : Bool) → a ≡ true → b ≡ false → (a && b) ≡ false
and_second a b p q = rw (p, q)

pub ruleset guards = (stopped, passed, and_both, and_first, and_second, misfit, fitted, lt-ltb, le-ltb, le-leb, lt-leb, eq-eqb, ne_eqb)
