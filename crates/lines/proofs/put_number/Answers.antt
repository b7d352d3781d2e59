use Rattle.lines.proofs.Laws.{number_put}
use Rattle.lines.proofs.put_number.Goals as goal

pub returns-clause-wrote : goal.returns-clause-wrote
returns-clause-wrote c = number_put _ _ _ _ _ _ _ _ _ _ c.put_text-next.ensures.0 c.put_text-next.ensures.1 c.put_decimal-next.ensures.0.0 c.put_decimal-next.ensures.0.1 c.put_text.ensures.0 c.put_text.ensures.1
