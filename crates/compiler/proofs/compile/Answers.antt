use Rattle.std.proofs.Common.{sym, ap, ◌∙◌, arith}
use Rattle.refusals.specs.Numbers.{judged}
use Rattle.refusals.proofs.Passing.{passed_on}
use Rattle.compiler.proofs.MakeLaws.{refused, no_room, room, records, made}
use Rattle.compiler.proofs.compile.Goals as goal

pub returns-in_err-check_sheet : goal.returns-in_err-check_sheet
returns-in_err-check_sheet c =
    let (a, b) = refused _ _ _ c.args.store.now (ap judged (sym c.in_err-check_sheet.was) ∙ c.check_sheet.ensures) in
    record { value = passed_on c.from_residual.result c.in_err-check_sheet.field-0.0 c.from_residual.ensures.1 ∙ a; store_after = b }

pub returns-then-store-nodes : goal.returns-then-store-nodes
returns-then-store-nodes c =
    let (a, b) = no_room _ (ap judged (sym c.in_ok-check_sheet.was) ∙ c.check_sheet.ensures) c.args.store.now c.u16_at-nodes.ensures.0 (omega arith) in
    record { value = rw c.at.ensures a; store_after = b }

pub compile_nodes-requires : goal.compile_nodes-requires
compile_nodes-requires c = let (a, b) = room _ (ap judged (sym c.in_ok-check_sheet.was) ∙ c.check_sheet.ensures) c.u16_at-roots.ensures.0 in record { s_len_bound = a; room = b }

pub uses_nth_of_type-requires : goal.uses_nth_of_type-requires
uses_nth_of_type-requires c = records _ (ap judged (sym c.in_ok-check_sheet.was) ∙ c.check_sheet.ensures) c.u16_at-nodes.ensures.0

pub returns : goal.returns
returns c =
    let (a, b) = made _ (ap judged (sym c.in_ok-check_sheet.was) ∙ c.check_sheet.ensures) c.args.store.now c.compile_nodes.new.store c.u16_at-nodes.ensures.0 c.u16_at-roots.ensures.0 (omega arith) c.compile_nodes.ensures.store_after c.uses_nth_of_type.ensures in
    record { value = a; store_after = b }
