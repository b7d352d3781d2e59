use Rattle.items.proofs.Pushes.{pop-none, pop-some}
use Rattle.items.proofs.pop_items.Goals as goal

pub returns-then-n-eq0 : goal.returns-then-n-eq0
returns-then-n-eq0 c = pop-none _ _ _ _ _ _ c.number_at.ensures.0 c.copy.ensures c.if-n-eq0.true

pub returns : goal.returns
returns c = pop-some _ _ _ _ _ _ c.number_at.ensures.0 c.copy.ensures c.if-n-eq0.false _ _ _ _ c.get.ensures c.get-2.ensures c.get-3.ensures c.copy-2.ensures
