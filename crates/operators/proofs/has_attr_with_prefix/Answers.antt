use mathlib.Core.Path.{◌∙◌}
use Rattle.operators.specs.Operators.{prefix_holds}
use Rattle.operators.proofs.Turns.{empty-is}
use Rattle.operators.proofs.has_attr_with_prefix.Goals as goal

pub returns-then-not-is_empty : goal.returns-then-not-is_empty
unfolding prefix_holds
returns-then-not-is_empty c = let e = c.is_empty.ensures ∙ empty-is c.args.value.now in rw (← e, c.if-not-is_empty.true) c.begins.ensures

pub returns-else-not-is_empty : goal.returns-else-not-is_empty
unfolding prefix_holds
returns-else-not-is_empty c = let e = c.is_empty.ensures ∙ empty-is c.args.value.now in rw (← e, c.if-not-is_empty.false)
