use Rattle.counters.proofs.Loops.{name-long, name-start, name-differs, name-again, name-over}
use Rattle.counters.proofs.holds_name.Goals as goal

pub returns-then-n-name : goal.returns-then-n-name
returns-then-n-name c = name-long _ _ _ _ c.if-n-name.true

pub loop-i-init : goal.loop-i-init
loop-i-init c = name-start _ _ _ _ c.if-n-name.false

pub returns-then-b-get : goal.returns-then-b-get
returns-then-b-get c = name-differs _ _ _ _ _ c.loop-i.invariant c.loop-i-test.true _ c.get.ensures c.if-b-get.true

pub loop-i-preserved : goal.loop-i-preserved
loop-i-preserved c = name-again _ _ _ _ _ c.loop-i.invariant c.loop-i-test.true _ c.get.ensures c.if-b-get.false

pub returns : goal.returns
returns c = name-over _ _ _ _ _ c.loop-i.invariant c.loop-i-test.false
