use native.Mathlib.Omega.{arith}
use Rattle.accepting.proofs.Laws.{accept-pushed, accept-counted, push-room, push-parents, push-ancestors}
use Rattle.accepting.proofs.accept.Goals as goal

pub push_item-requires : goal.push_item-requires
push_item-requires c = let p = c.requires in (push-room _ _ _ _ _ c.add_child.ensures.0 _ _ _ _ p.unrefused c.if-content.true, push-parents _ _ _ _ _ c.add_child.ensures.0 p.limited.1, push-ancestors _ _ _ _ _ c.add_child.ensures.0 p.limited.2, p.limited.3, omega arith, p.found_few)

pub returns-then-content-clause-answered : goal.returns-then-content-clause-answered
returns-then-content-clause-answered c = accept-pushed _ _ _ _ _ _ _ _ _ _ _ _ _ c.gather_ids.ensures c.counts_types-types.ensures c.add_child.ensures _ _ c.if-content.true c.u16_at-limit.ensures c.push_item.ensures.pushed

pub returns-else-content-clause-answered : goal.returns-else-content-clause-answered
returns-else-content-clause-answered c = accept-counted _ _ _ _ _ _ _ _ _ _ _ _ _ c.gather_ids.ensures c.counts_types-types.ensures c.add_child.ensures c.if-content.false
