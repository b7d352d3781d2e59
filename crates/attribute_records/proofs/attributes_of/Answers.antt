use native.Mathlib.Omega.{arith}
use mathlib.Core.Path.{◌≡◌, sym, ◌∙◌, ap}
use Prim.Native.Nat.{◌+◌, ◌-◌, ◌*◌}
use Rattle.std.specs.Prelude.{Option}
use Rattle.attribute_records.specs.AttributeRecords.{read}
use Rattle.attribute_records.specs.declared.Record.{Record}
use Rattle.attribute_records.proofs.Laws.{given-all, all-faulty, all_more, all-over, all_end}
use Rattle.attribute_records.proofs.attributes_of.Goals as goal

pub loop-i-preserved : goal.loop-i-preserved
loop-i-preserved c =
    let l = c.loop-i in
    let n = c.number_at-count.result in
    let e : n - (l.i + 1) ≡ n - l.i - 1 = omega arith in
    let f : 4 * (l.i + 1) ≡ 4 * l.i + 4 = omega arith in
    rw (e, f) (l.invariant ∙ all_more _ _ (n - l.i) (4 * l.i) _ _ _ _ _ (omega arith) c.read_attribute.ensures c.in_ok-at.was)

pub returns-in_err-at-clause-outlines_after : goal.returns-in_err-at-clause-outlines_after
returns-in_err-at-clause-outlines_after c =
    given-all _ _ (omega arith) (omega arith) _ c.number_at-mark.ensures.0 c.if-mark-gt1.false _ c.number_at-count.ensures.0 _
    (ap (λ (r : Option Record). read r c.read_attribute.new.outlines) c.from_residual.ensures ∙ all-faulty _ _ _ _ _ _ _ _ (omega arith) c.read_attribute.ensures c.in_err-at.was ∙ sym c.loop-i.invariant)

pub returns-then-at-body-clause-outlines_after : goal.returns-then-at-body-clause-outlines_after
returns-then-at-body-clause-outlines_after c = given-all _ _ (omega arith) (omega arith) _ c.number_at-mark.ensures.0 c.if-mark-gt1.false _ c.number_at-count.ensures.0 _ (all-over _ _ _ _ _ _ (omega arith) c.if-at-body.true ∙ sym c.loop-i.invariant)

pub returns-clause-outlines_after : goal.returns-clause-outlines_after
returns-clause-outlines_after c = let e : 4 * c.number_at-count.result ≡ 4 * c.loop-i.i = let l = c.loop-i in omega arith in
    given-all _ _ (omega arith) (omega arith) _ c.number_at-mark.ensures.0 c.if-mark-gt1.false _ c.number_at-count.ensures.0 _ (rw e (all_end _ _ _ _ _ _ (omega arith) c.if-at-body.false ∙ sym c.loop-i.invariant))
