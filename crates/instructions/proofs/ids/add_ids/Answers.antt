use Rattle.std.proofs.Common.{◌∙◌, arith}
use Rattle.instructions.proofs.IdTurns.{ids-none, ids_more}
use Rattle.instructions.proofs.ids.add_ids.Goals as goal

pub loop-id-preserved : goal.loop-id-preserved
loop-id-preserved c = record { size = omega arith; same = ids_more _ _ c.loop-id.id-index _ c.add_id.ensures c.loop-id-test.true ∙ c.loop-id.invariant.same }

pub returns : goal.returns
returns c = ids-none _ _ c.loop-id.id-index c.loop-id-test.false ∙ c.loop-id.invariant.same
