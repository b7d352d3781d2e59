use Rattle.waiting.proofs.Waits.{copied-law}
use Rattle.waiting.proofs.held_name.Goals as goal

pub returns : goal.returns
returns c = copied-law _ _ _ _ _ _ c.number_at-n.ensures.0 c.copy.ensures
