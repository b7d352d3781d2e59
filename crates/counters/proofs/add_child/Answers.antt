use Rattle.std.proofs.Common.{◌∙◌}
use Rattle.counters.proofs.Counts.{counted-types, counted-children}
use Rattle.counters.proofs.add_child.Goals.{then-types, else-types}
use Rattle.counters.proofs.add_child.Goals as goal

pub returns : goal.returns
returns c = elim c.if-types.branch [
  | then-types w ↦ counted-types _ _ _ _ _ _ _ c.number_at.ensures.0 c.get.ensures c.inc-n.ensures w.if-types.true _ _ _ (w.rows-is ∙ w.count_name.ensures.0) (w.names-is ∙ w.count_name.ensures.1) c.put.ensures
  | else-types w ↦ counted-children _ _ _ _ _ _ _ c.number_at.ensures.0 c.get.ensures c.inc-n.ensures w.if-types.false _ _ w.names-is (rw w.rows-is at c.put.ensures)
]
