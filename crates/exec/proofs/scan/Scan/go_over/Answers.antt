use Rattle.std.proofs.Common.{arith}
use Rattle.exec.proofs.ScanTurns.{reached-at, reached-over, goes_on, goes-found, goes-out, goes-stuck, scan-over, scan-fails, scan-stops, scan-finds}
use Rattle.exec.proofs.scan.Scan.go_over.Goals as goal

pub overflow_cast-a : goal.overflow_cast-a
overflow_cast-a g c = let r = reached-at _ _ _ _ _ _ _ _ _ _ _ _ c.next.ensures c.in-Some.is in let z = r.below in omega arith

pub loop-d-smaller-in-Fails : goal.loop-d-smaller-in-Fails
loop-d-smaller-in-Fails g c = (reached-at _ _ _ _ _ _ _ _ _ _ _ _ c.next.ensures c.in-Some.is).less

pub loop-d-preserved-in-Fails : goal.loop-d-preserved-in-Fails
loop-d-preserved-in-Fails g c = let r = reached-at _ _ _ _ _ _ _ _ _ _ _ _ c.next.ensures c.in-Some.is in let z = r.less in let i = c.loop-d.invariant in record {
  room = let y = i.room in omega (arith, z, y);
  size = i.size;
  going = λ p q j. goes_on _ _ _ _ _ _ (i.going p q j) _ (scan-fails _ _ _ _ _ p q _ j c.loop-d.c _ _ c.in-Some.d _ _ r _ c.verdict.ensures _ c.next-c.ensures c.in-Fails.is);
}

pub loop-d-smaller : goal.loop-d-smaller
loop-d-smaller g c = (reached-at _ _ _ _ _ _ _ _ _ _ _ _ c.next.ensures c.in-Some.is).less

pub loop-d-preserved : goal.loop-d-preserved
loop-d-preserved g c = let r = reached-at _ _ _ _ _ _ _ _ _ _ _ _ c.next.ensures c.in-Some.is in let z = r.less in let i = c.loop-d.invariant in record {
  room = let y = i.room in omega (arith, z, y);
  size = let y = i.size in omega (arith, y);
  going = λ p q j. goes-found _ _ _ _ _ _ (i.going p q j) _ _ _ (scan-finds _ _ _ _ _ p q _ j c.loop-d.c _ _ c.in-Some.d _ _ r _ c.verdict.ensures _ c.next-c.ensures c.in-Matches.is) c.put.ensures;
}

pub returns-in-Asks : goal.returns-in-Asks
returns-in-Asks g c = let r = reached-at _ _ _ _ _ _ _ _ _ _ _ _ c.next.ensures c.in-Some.is in let z = r.less in λ p q j. goes-stuck _ _ _ _ _ _ (c.loop-d.invariant.going p q j) _ (scan-stops _ _ _ _ _ p q _ j c.loop-d.c _ _ c.in-Some.d _ _ r _ c.verdict.ensures _ c.next-c.ensures c.in-Asks.is)

pub returns : goal.returns
returns g c = λ p q j. goes-out _ _ _ _ _ _ (c.loop-d.invariant.going p q j) (scan-over _ _ _ _ _ p q _ j _ _ _ (reached-over _ _ _ _ _ _ _ _ _ c.next.ensures c.in_default.is))
