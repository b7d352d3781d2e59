use Rattle.ends.proofs.Calling.{popping-short, popping-done}
use Rattle.ends.proofs.end_lowered.Goals as goal

pub returns-then-out-n : goal.returns-then-out-n
returns-then-out-n c = popping-short _ _ _ _ _ _ c.count_popped-n.ensures.0 c.if-out-n.true

pub returns : goal.returns
returns c = popping-done _ _ _ _ _ _ c.count_popped-n.ensures.0 _ _ c.if-out-n.false c.pop_items.ensures
