use Rattle.std.proofs.Common.{rules, arith}
use Rattle.streams.proofs.Taken.{Consumes-more, Consumes-nil, ConsumesFront-kept, OnErr-always}
use Rattle.streams.proofs.read_full.Goals as goal

pub loop-done-init : goal.loop-done-init
loop-done-init g c = (search rules, omega arith, Consumes-nil _)

pub loop-done-preserved : goal.loop-done-preserved
loop-done-preserved g c = (
  search rules,
  c.in_ok-n.ensures.fits,
  Consumes-more _ _ _ c.loop-done.room _ _ _ c.in_ok-n.ensures.front c.loop-done.invariant.2 c.in_ok-n.ensures.ok,
)

pub returns-in_err-n-clause-failed : goal.returns-in_err-n-clause-failed
returns-in_err-n-clause-failed g c =
    let r = c.in_err-n.ensures in
    OnErr-always c.from_residual.result (ConsumesFront-kept _ (g.R.Read.remaining c.loop-done.reader) _ c.loop-done.room c.read_behind.new.room c.loop-done.done r.front c.loop-done.invariant.2 r.err)
