use Rattle.cells.specs.Stretches.{written}
use Rattle.waiting.proofs.release.Goals as goal

pub returns : goal.returns
unfolding written
returns c = c.put.ensures
