use Rattle.shapes.specs.Shapes.{esi_on}
use Rattle.shapes.proofs.is_esi_on.Goals as goal

pub returns : goal.returns
unfolding esi_on
returns c = rw c.get.ensures
