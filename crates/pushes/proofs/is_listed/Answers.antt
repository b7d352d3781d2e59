use Rattle.pushes.proofs.Nodes.{look-start, look_hit, look-on, look-end}
use Rattle.pushes.proofs.is_listed.Goals as goal

pub loop-j-init : goal.loop-j-init
loop-j-init c = look-start _ _ _ _

pub returns-then-node-get : goal.returns-then-node-get
returns-then-node-get c = look_hit _ _ _ _ _ c.loop-j.invariant _ c.loop-j-test.true c.get.ensures c.if-node-get.true

pub loop-j-preserved : goal.loop-j-preserved
loop-j-preserved c = look-on _ _ _ _ _ c.loop-j.invariant _ c.loop-j-test.true c.get.ensures c.if-node-get.false

pub returns : goal.returns
returns c = look-end _ _ _ _ _ c.loop-j.invariant c.loop-j-test.false
