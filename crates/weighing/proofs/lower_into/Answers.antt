use mathlib.Core.Path.{refl, ◌∙◌}
use native.Mathlib.Omega.{arith}
use Rattle.weighing.proofs.Steps.{lower-more, lower-end}
use Rattle.weighing.proofs.lower_into.Goals as goal

pub loop-i-init : goal.loop-i-init
loop-i-init c = (refl, refl)

pub loop-i-preserved : goal.loop-i-preserved
loop-i-preserved c = (c.put.auto.s ∙ c.loop-i.invariant.0, lower-more _ _ _ _ c.loop-i.invariant.1 _ _ (omega arith) c.lower.ensures c.put.ensures)

pub returns : goal.returns
returns c = lower-end _ _ _ _ c.loop-i.invariant.1 (omega arith)
