use native.Mathlib.Omega.{arith}
use Rattle.stack.specs.Lent.{contents}
use Rattle.pushes.proofs.Pushes.{push-law, room-law}
use Rattle.pushes.proofs.push_item.Goals as goal

pub put_row-requires : goal.put_row-requires
put_row-requires c = room-law _ _ _ _ _ _ _ _ _ _ _ c.put_kept-parents.ensures.1 c.put_kept-ancestors.ensures.1 c.requires.3 (omega (arith, c.requires, c.number_at-k.ensures.0)) (omega (arith, c.requires, c.number_at-first.ensures.0)) (omega (arith, c.requires, c.number_at-old.ensures.0)) c.requires.5

pub returns-clause-pushed : goal.returns-clause-pushed
returns-clause-pushed c = push-law _ _ (contents c.args.machine.now) _ _ _ _ _ _ _ _ _ _ _ _ _ c.number_at-k.ensures.0 c.number_at-first.ensures.0 c.number_at-old.ensures.0 c.put_kept-ancestors.ensures.0 c.put_kept-ancestors.ensures.1 c.put_kept-parents.ensures.0 c.put_kept-parents.ensures.1 c.copy.ensures c.copy-2.ensures c.put_row.ensures
