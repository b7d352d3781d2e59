use native.Mathlib.Omega.{arith}
use mathlib.Core.Path.{refl, sym, ap, ◌∙◌}
use Prim.Native.Nat.{ℕ, ◌+◌, ◌-◌}
use Rattle.compiler.specs.Placing.{records_use}
use Rattle.compiler.proofs.RecordLaws.{records-first, records-none, records-found, records-more, tags-inside}
use Rattle.compiler.proofs.uses_nth_of_type.Goals as goal

pub overflow_add-end : goal.overflow_add-end
overflow_add-end c = let t = records-first c.args.s.now (c.args.count - (c.loop.counter + 1)) c.loop.here (omega arith) c.loop.invariant.inside in let te = t.0.ends in let tn = t.0.numbers in omega arith

pub overflow_add-end-in-loop : goal.overflow_add-end-in-loop
overflow_add-end-in-loop c = let t = records-first c.args.s.now (c.args.count - (c.loop.counter + 1)) c.loop.here (omega arith) c.loop.invariant.inside in let te = t.0.ends in let tn = t.0.numbers in omega arith

pub overflow_add-counts : goal.overflow_add-counts
overflow_add-counts c = let t = records-first c.args.s.now (c.args.count - (c.loop.counter + 1)) c.loop.here (omega arith) c.loop.invariant.inside in let te = t.0.ends in let tn = t.0.numbers in omega arith

pub overflow_add-here : goal.overflow_add-here
overflow_add-here c = let t = records-first c.args.s.now (c.args.count - (c.loop.counter + 1)) c.loop.here (omega arith) c.loop.invariant.inside in let te = t.0.ends in let tn = t.0.numbers in omega arith

pub overflow_add-counts-in-loop : goal.overflow_add-counts-in-loop
overflow_add-counts-in-loop c = let t = records-first c.args.s.now (c.args.count - (c.loop.counter + 1)) c.loop.here (omega arith) c.loop.invariant.inside in let te = t.0.ends in let tn = t.0.numbers in omega arith

pub overflow_add-counts-in-loop-2 : goal.overflow_add-counts-in-loop-2
overflow_add-counts-in-loop-2 c = let t = records-first c.args.s.now (c.args.count - (c.loop.counter + 1)) c.loop.here (omega arith) c.loop.invariant.inside in let te = t.0.ends in let tn = t.0.numbers in omega arith

pub any_of_type-requires : goal.any_of_type-requires
any_of_type-requires c = let t = records-first c.args.s.now (c.args.count - (c.loop.counter + 1)) c.loop.here (omega arith) c.loop.invariant.inside in let te = t.0.ends in let tn = t.0.numbers in ((omega arith), tags-inside c.args.s.now c.loop.here t.0 c.u16_at.ensures.0 c.number_at.ensures.0 c.number_at-in-loop.ensures.0)

pub returns-then-any_of_type : goal.returns-then-any_of_type
returns-then-any_of_type c = sym (c.loop.invariant.same ∙ records-found c.args.s.now c.loop.here c.number_at.ensures.0 c.number_at-in-loop.ensures.0 c.any_of_type.ensures (c.args.count - (c.loop.counter + 1)) (omega arith) c.if-any_of_type.true)

pub loop-preserved : goal.loop-preserved
loop-preserved c = record { inside = (let t = records-first c.args.s.now (c.args.count - (c.loop.counter + 1)) c.loop.here (omega arith) c.loop.invariant.inside in let te = t.0.ends in let tn = t.0.numbers in rw c.u16_at.ensures.0 t.1); same = c.loop.invariant.same ∙ records-more c.args.s.now c.loop.here c.number_at.ensures.0 c.number_at-in-loop.ensures.0 c.any_of_type.ensures (c.args.count - (c.loop.counter + 1)) (omega arith) c.if-any_of_type.false ∙ ap (λ (x : ℕ). records_use c.args.s.now (c.args.count - (c.loop.counter + 1)) (c.loop.here + 2 + x)) (sym c.u16_at.ensures.0) }

pub returns : goal.returns
returns c = sym (c.loop.invariant.same ∙ records-none c.args.s.now (c.args.count - c.loop.counter) c.loop.here (omega arith))
