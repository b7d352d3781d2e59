use Rattle.instructions.specs.Instructions.{asks}
use Rattle.instructions.proofs.instruction.asks_attributes.Goals as goal

pub returns : goal.returns
unfolding asks
returns c = rw (← c.number_at-counts.ensures.0)
