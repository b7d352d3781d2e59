use Rattle.rules.proofs.OutlineTurns.{there-is}
use Rattle.rules.proofs.attribute_matcher.has_attribute.Goals as goal

pub returns : goal.returns
returns c = there-is _ _ _ _ _ c.find.ensures c.is_some.ensures
