use Rattle.lines.proofs.Laws.{sheet-put}
use Rattle.lines.proofs.put_sheet_refused.Goals as goal

pub returns-clause-wrote : goal.returns-clause-wrote
returns-clause-wrote c = sheet-put _ _ _ _ _ _ _ _ _ _ c.put_text-next.ensures.0 c.put_text-next.ensures.1 c.put_decimal-next.ensures.0.0 c.put_decimal-next.ensures.0.1 c.put_number.ensures.wrote.0 c.put_number.ensures.wrote.1
