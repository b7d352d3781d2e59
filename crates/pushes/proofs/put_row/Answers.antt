use Rattle.pushes.proofs.Pushes.{row-law}
use Rattle.pushes.proofs.put_row.Goals as goal

pub returns : goal.returns
returns c = row-law _ _ _ _ _ _ _ _ _ _ c.get.ensures c.get-2.ensures c.get-3.ensures c.copy.ensures c.copy-2.ensures
