use Rattle.std.proofs.Common.{sym, ◌∙◌, ◌-◌, ◌+◌, arith}
use Rattle.program.proofs.TestLaws.{tests-first, any_none, any_found, any-more}
use Rattle.program.proofs.any_of_type.Goals as goal

pub overflow_add-next : goal.overflow_add-next
overflow_add-next c = let t = tests-first c.args.s.now c.args.end (c.args.count - (c.loop.counter + 1)) c.loop.here (omega arith) c.loop.invariant.inside in omega arith

pub overflow_add-next-in-loop : goal.overflow_add-next-in-loop
overflow_add-next-in-loop c = let t = tests-first c.args.s.now c.args.end (c.args.count - (c.loop.counter + 1)) c.loop.here (omega arith) c.loop.invariant.inside in omega arith

pub overflow_add-here : goal.overflow_add-here
overflow_add-here c = let t = tests-first c.args.s.now c.args.end (c.args.count - (c.loop.counter + 1)) c.loop.here (omega arith) c.loop.invariant.inside in omega arith

pub returns-then-is_of_type : goal.returns-then-is_of_type
returns-then-is_of_type c = sym (c.loop.invariant.same ∙ any_found c.args.s.now _ _ _ c.is_of_type.ensures (c.args.count - (c.loop.counter + 1)) c.loop.here (omega arith) c.u16_at.ensures.0 c.part_of.ensures c.if-is_of_type.true)

pub loop-preserved : goal.loop-preserved
loop-preserved c =
    let t = tests-first c.args.s.now c.args.end (c.args.count - (c.loop.counter + 1)) c.loop.here (omega arith) c.loop.invariant.inside in
    record {
      inside = rw c.u16_at.ensures.0 t.1.1;
      same = c.loop.invariant.same ∙ any-more c.args.s.now _ _ _ c.is_of_type.ensures (c.args.count - (c.loop.counter + 1)) c.loop.here (omega arith) c.u16_at.ensures.0 c.part_of.ensures c.if-is_of_type.false;
    }

pub returns : goal.returns
returns c = sym (c.loop.invariant.same ∙ any_none c.args.s.now (c.args.count - c.loop.counter) c.loop.here (omega arith))
