use Rattle.std.proofs.Common.{not, ap, ◌∙◌}
use Rattle.refusals.specs.Numbers.{judged}
use Rattle.std.specs.Prelude.{Err}
use Rattle.making.specs.declared.Unmade.{Unmade}
use Rattle.making.specs.Making.{made_of, fresh}
use Rattle.making.proofs.Calling.{handed_on, fresh-unsized, fresh-refused, fresh-made}
use Rattle.making.proofs.fresh_machine.Goals as goal

pub returns-then-not-is_sized : goal.returns-then-not-is_sized
returns-then-not-is_sized c = ap (λ (u : Unmade). fresh (made_of (Err u)) c.args.program.now c.args.rows.now) c.into.ensures ∙ fresh-unsized _ _ _ _ _ c.is_sized.ensures (ap not c.if-not-is_sized.true)

pub returns-in_err-types : goal.returns-in_err-types
returns-in_err-types c =
    ap (λ m. fresh m c.compile.new.store c.args.rows.now) (handed_on c.from_residual.result c.in_err-types.field-0.0 c.from_residual.ensures.1) ∙ fresh-refused _ _ _ _ _ c.is_sized.ensures (ap not c.if-not-is_sized.false) _ c.compile.ensures.value _ c.compile.ensures.store_after _ _ (ap judged c.in_err-types.was)

pub returns : goal.returns
returns c = fresh-made _ _ _ _ _ c.is_sized.ensures (ap not c.if-not-is_sized.false) _ c.compile.ensures.value _ c.compile.ensures.store_after _ _ _ _ (ap judged c.in_ok-types.was) c.cell_of.ensures c.flags_of.ensures c.fresh_rows.ensures
