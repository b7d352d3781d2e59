use Rattle.std.proofs.Common.{refl, ◌∙◌}
use Rattle.records.proofs.Laws.{copied_to_front}
use Rattle.records.proofs.keep.Goals as goal

pub returns : goal.returns
returns c = (refl, c.copy_within.ensures.after ∙ copied_to_front _ _ _ c.requires.0 c.requires.1)
