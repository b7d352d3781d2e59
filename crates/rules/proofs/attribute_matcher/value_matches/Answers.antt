use Rattle.std.proofs.Common.{sym, ◌∙◌}
use Rattle.operators.specs.Operators.{value_holds}
use Rattle.rules.proofs.OutlineTurns.{found-is}
use Rattle.rules.proofs.attribute_matcher.value_matches.Goals as goal

pub returns-in-Some : goal.returns-in-Some
unfolding value_holds
returns-in-Some c = c.compare.ensures ∙ rw (sym (found-is _ _ _ _ _ c.find.ensures c.in-Some.is), c.part_of.ensures)

pub returns-in-None : goal.returns-in-None
unfolding value_holds
returns-in-None c = rw (sym (found-is _ _ _ _ _ c.find.ensures c.in-None.is))
