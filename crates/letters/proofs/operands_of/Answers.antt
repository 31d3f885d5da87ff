-- Each arm by the letters that lead there. M, N and W, X are told from their neighbours by size.
use mathlib.Core.Logic.{inl, inr, ⊎_elim}
use native.Mathlib.Omega.{arith}
use Rattle.std.proofs.Common.{ap}
use Rattle.letters.specs.Letters.{command_has}
use Rattle.letters.proofs.Counts.{pair, has_3, has_2, has_1, has_1_too, has_0, has_4}
use Rattle.letters.proofs.operands_of.Goals as goal

pub returns-in-69 : goal.returns-in-69
returns-in-69 c = ap command_has (has_3 _ c.in-69.is)

pub returns-in-70 : goal.returns-in-70
returns-in-70 c = ap command_has (has_2 _ c.in-70.is)

pub returns-in-83 : goal.returns-in-83
returns-in-83 c = ap command_has (has_0 _ c.in-83.is)

pub returns-in_default : goal.returns-in_default
returns-in_default c = ap command_has (has_4 _ (search) (search) (search) (search) (λ h. omega arith) (λ h. omega arith) (λ h. omega arith) (λ h. omega arith))

pub returns-in_default-2 : goal.returns-in_default-2
returns-in_default-2 c = ap command_has (has_4 _ (search) (search) (search) (search) (λ h. omega arith) (λ h. omega arith) (λ h. omega arith) (λ h. omega arith))

pub returns-in_default-3 : goal.returns-in_default-3
returns-in_default-3 c = ap command_has (has_4 _ (search) (search) (search) (search) (λ h. omega arith) (λ h. omega arith) (λ h. omega arith) (λ h. omega arith))

pub returns-in-78 : goal.returns-in-78
returns-in-78 c = ap command_has (has_1 _ c.in-78.is)

pub returns-in-78-2 : goal.returns-in-78-2
returns-in-78-2 c = ap command_has (has_1_too _ (⊎_elim (λ h. inl h) (λ h. inr (inl h)) (pair c.args.letter 77 (omega arith) (omega arith))))

pub returns-in-78-3 : goal.returns-in-78-3
returns-in-78-3 c = ap command_has (has_1_too _ (inr (inr (pair c.args.letter 87 (omega arith) (omega arith)))))
