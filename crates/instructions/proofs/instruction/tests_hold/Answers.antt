use Rattle.std.proofs.Common.{◌≡◌, ◌∙◌, ◌+◌, ◌-◌, arith, rules}
use Rattle.instructions.proofs.TestTurns.{hold-none, hold-fail, hold-more}
use Rattle.instructions.proofs.instruction.tests_hold.Goals as goal

pub test_end-end-requires : goal.test_end-end-requires
test_end-end-requires g c = let r = c.loop-done.invariant.room in omega (arith, r)

pub loop-done-init : goal.loop-done-init
loop-done-init g c = let e : c.args.count - 0 ≡ c.args.count = omega arith in record { room = omega arith; same = λ p a. rw e }

pub returns-then-not-passes : goal.returns-then-not-passes
returns-then-not-passes g c = λ p a. hold-fail p _ _ _ (c.args.count - (c.loop-done._done + 1)) _ _ _ c.test_end-end.ensures.0 c.part_of.ensures (a _ _ (search rules)) (omega arith) c.if-not-passes.true ∙ c.loop-done.invariant.same p a

pub loop-done-preserved : goal.loop-done-preserved
loop-done-preserved g c = let i = c.loop-done.invariant in record {
  room = let z = i.room in omega (arith, z);
  same = λ p a. hold-more p _ _ _ (c.args.count - (c.loop-done._done + 1)) _ _ _ c.test_end-end.ensures.0 c.part_of.ensures (a _ _ (search rules)) (omega arith) c.if-not-passes.false ∙ i.same p a;
}

pub returns : goal.returns
returns g c = λ p a. hold-none p _ _ _ (omega arith) ∙ c.loop-done.invariant.same p a
