use Rattle.std.proofs.Common.{refl}
use Rattle.cells.specs.Stretches.{cells_or, written}
use Rattle.stack.proofs.Loops.{written-more}
use Rattle.stack.proofs.copies.copy.Goals as goal

pub loop-i-init : goal.loop-i-init
unfolding written cells_or
loop-i-init g c = refl

pub loop-i-preserved : goal.loop-i-preserved
loop-i-preserved g c = let more = written-more g.T.Cell.empty c.args.to.now c.args.from.now c.args.at c.args.start c.loop-i.i in cc
