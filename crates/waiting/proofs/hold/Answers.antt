use Rattle.waiting.proofs.Waits.{hold-law}
use Rattle.waiting.proofs.hold.Goals as goal

pub returns : goal.returns
returns c = hold-law _ _ _ _ _ _ _ _ _ _ _ _ _ c.copy.ensures c.copy-2.ensures c.copy-3.ensures
