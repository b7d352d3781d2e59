use native.Mathlib.Omega.{arith}
use mathlib.Core.Path.{refl, sym, ◌∙◌}
use native.Mathlib.Nat.{add-zero}
use Rattle.text.proofs.Laws.{text-more, text-all}
use Rattle.text.proofs.put_text.Goals as goal

pub loop-i-init : goal.loop-i-init
loop-i-init c = (refl, rw add-zero)

pub loop-i-preserved : goal.loop-i-preserved
loop-i-preserved c = (omega arith, c.loop-i.invariant.1 ∙ text-more c.loop-i.out _ c.args.text.now c.args.at c.loop-i.i (omega arith) c.put.ensures)

pub returns : goal.returns
returns c = (refl, sym (c.loop-i.invariant.1 ∙ text-all _ c.args.text.now c.args.at c.loop-i.i (omega arith)))
