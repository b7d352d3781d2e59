use Rattle.cells.specs.Stretches.{cells_or}
use Rattle.stack.specs.Stores.{fresh_rows}
use Rattle.waiting.proofs.fresh_rows.Goals as goal

pub returns : goal.returns
unfolding fresh_rows cells_or
returns c = c.copy.ensures
