use Rattle.shapes.specs.Shapes.{types_counted}
use Rattle.shapes.proofs.counts_types.Goals as goal

pub returns : goal.returns
unfolding types_counted
returns c = rw c.get.ensures
