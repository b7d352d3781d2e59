use Rattle.id_sets.proofs.IdSteps.{with-is}
use Rattle.id_sets.proofs.add_id.Goals as goal

pub returns : goal.returns
returns c = with-is _ _ _ _ c.get-word.ensures c.put.ensures
