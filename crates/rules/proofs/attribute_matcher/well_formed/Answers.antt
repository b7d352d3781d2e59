use Rattle.std.proofs.Common.{sym, ◌∙◌}
use Rattle.rules.proofs.OutlineTurns.{formed-turn, formed-next, short-formed}
use Rattle.rules.proofs.attribute_matcher.well_formed.Goals as goal

pub returns-then-not-lies_within : goal.returns-then-not-lies_within
returns-then-not-lies_within c = sym (rw (← c.lies_within.ensures, c.if-not-lies_within.true) at (formed-turn c.args.size c.loop-rest.rest.now c.in-len4-up.len_at_least)) ∙ c.loop-rest.invariant

pub returns-then-not-lies_within-2 : goal.returns-then-not-lies_within-2
returns-then-not-lies_within-2 c = sym (rw (← c.lies_within.ensures, c.if-not-lies_within.false, ← c.lies_within-in-len4-up.ensures, c.if-not-lies_within-2.true) at (formed-turn c.args.size c.loop-rest.rest.now c.in-len4-up.len_at_least)) ∙ c.loop-rest.invariant

pub loop-rest-preserved : goal.loop-rest-preserved
loop-rest-preserved c = formed-next c.args.size c.loop-rest.rest.now _ _ c.in-len4-up.len_at_least c.lies_within.ensures c.if-not-lies_within.false c.lies_within-in-len4-up.ensures c.if-not-lies_within-2.false ∙ c.loop-rest.invariant

pub returns : goal.returns
returns c = c.is_empty.ensures ∙ short-formed _ _ c.in_default.len_below ∙ c.loop-rest.invariant
