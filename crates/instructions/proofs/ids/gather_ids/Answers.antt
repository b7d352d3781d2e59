use Rattle.std.proofs.Common.{◌∙◌, arith}
use Rattle.instructions.proofs.IdTurns.{found_none, found-more}
use Rattle.instructions.proofs.ids.gather_ids.Goals as goal

pub loop-a-preserved : goal.loop-a-preserved
loop-a-preserved c = record { size = omega arith; same = found-more _ _ _ _ c.loop-a.a-index _ _ _ _ c.number_at-place.ensures.0 c.number_at-count.ensures.0 c.part_of.ensures c.add_ids.ensures c.loop-a-test.true ∙ c.loop-a.invariant.same }

pub returns : goal.returns
returns c = found_none _ _ _ _ c.loop-a.a-index c.loop-a-test.false ∙ c.loop-a.invariant.same
