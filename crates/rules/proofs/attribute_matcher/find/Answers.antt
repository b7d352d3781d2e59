use Rattle.std.proofs.Common.{◌∙◌}
use Rattle.rules.proofs.OutlineTurns.{found-here, found-next, short-found}
use Rattle.rules.proofs.attribute_matcher.find.Goals as goal

pub returns-then-same : goal.returns-then-same
returns-then-same c = found-here _ _ _ c.loop-rest.rest.now _ _ c.in-len4-up.len_at_least c.part_of-candidate.ensures c.same.ensures c.if-same.true ∙ c.loop-rest.invariant

pub loop-rest-preserved : goal.loop-rest-preserved
loop-rest-preserved c = found-next _ _ _ c.loop-rest.rest.now _ _ c.in-len4-up.len_at_least c.part_of-candidate.ensures c.same.ensures c.if-same.false ∙ c.loop-rest.invariant

pub returns : goal.returns
returns c = short-found _ _ _ c.in_default.len_below ∙ c.loop-rest.invariant
