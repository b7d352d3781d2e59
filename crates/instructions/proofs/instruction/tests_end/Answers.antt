use Rattle.std.proofs.Common.{◌≡◌, ◌∙◌, ◌+◌, ◌-◌, arith}
use Rattle.instructions.proofs.TestTurns.{end_none, end_more}
use Rattle.instructions.proofs.instruction.tests_end.Goals as goal

pub test_end-at-requires : goal.test_end-at-requires
test_end-at-requires c = let r = c.loop-done.invariant.room in omega (arith, r)

pub loop-done-init : goal.loop-done-init
loop-done-init c = let e : c.args.count - 0 ≡ c.args.count = omega arith in record { low = omega arith; room = omega arith; same = rw e }

pub loop-done-preserved : goal.loop-done-preserved
loop-done-preserved c = let i = c.loop-done.invariant in record {
  low = let z = i.low in omega (arith, z);
  room = let z = i.room in omega (arith, z);
  same = end_more _ _ _ (c.args.count - (c.loop-done._done + 1)) _ c.test_end-at.ensures.0 (omega arith) ∙ i.same;
}

pub returns : goal.returns
returns c = let i = c.loop-done.invariant in let z = i.room in let l = i.low in (end_none _ _ _ (omega arith) ∙ i.same, (omega (arith, l), omega (arith, z)))
