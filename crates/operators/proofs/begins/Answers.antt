use Rattle.std.proofs.Common.{sym}
use native.Mathlib.Omega.{arith}
use Rattle.operators.proofs.Turns.{short-begins}
use Rattle.operators.proofs.begins.Goals as goal

pub returns-then-value-operand : goal.returns-then-value-operand
returns-then-value-operand c = sym (short-begins _ _ _ (omega arith))
