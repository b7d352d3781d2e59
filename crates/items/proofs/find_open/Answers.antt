use Rattle.std.proofs.Common.{sym, ap, arith}
use Rattle.stack.specs.Stores.{nearest}
use Rattle.items.proofs.Pushes.{open-here, open-later, open_none}
use Rattle.items.proofs.find_open.Goals as goal

pub loop-k-init : goal.loop-k-init
loop-k-init c = (omega arith, ap (nearest c.args.rows.now c.args.names.now c.args.name.now) (sym c.number_at-k.ensures.0))

pub returns-then-holds_name-clause-found : goal.returns-then-holds_name-clause-found
returns-then-holds_name-clause-found c = open-here _ _ _ _ _ c.loop-k.invariant.1 (omega arith) _ _ c.number_at.ensures.0 c.holds_name.ensures c.if-holds_name.true

pub loop-k-preserved : goal.loop-k-preserved
loop-k-preserved c = (omega arith, open-later _ _ _ _ _ c.loop-k.invariant.1 (omega arith) _ _ c.number_at.ensures.0 c.holds_name.ensures c.if-holds_name.false)

pub returns-clause-found : goal.returns-clause-found
returns-clause-found c = open_none _ _ _ _ _ c.loop-k.invariant.1 (omega arith)
