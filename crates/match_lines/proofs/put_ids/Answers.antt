use native.Mathlib.Omega.{arith}
use mathlib.Core.Path.{refl, sym, ◌∙◌}
use Rattle.match_lines.proofs.Laws.{ids-start, ids_more, ids-none}
use Rattle.match_lines.proofs.put_ids.Goals as goal

pub loop-id-init : goal.loop-id-init
loop-id-init c = let e = ids-start c.args.words.now in record { long = refl; below_all = omega arith; below_words = omega arith; room = omega arith; place = rw e; text = rw e }

pub overflow_add-from : goal.overflow_add-from
overflow_add-from c = let m = ids_more c.loop-id.out _ _ c.args.words.now c.loop-id.next c.loop-id.from _ _ (omega arith) (sym c.in-Some.is ∙ c.next_id.ensures) c.put.ensures c.put_decimal-next.ensures.0.0 c.put_decimal-next.ensures.0.1 in omega arith

pub loop-id-smaller : goal.loop-id-smaller
loop-id-smaller c = let m = ids_more c.loop-id.out _ _ c.args.words.now c.loop-id.next c.loop-id.from _ _ (omega arith) (sym c.in-Some.is ∙ c.next_id.ensures) c.put.ensures c.put_decimal-next.ensures.0.0 c.put_decimal-next.ensures.0.1 in omega arith

pub loop-id-preserved : goal.loop-id-preserved
loop-id-preserved c =
    let m = ids_more c.loop-id.out _ _ c.args.words.now c.loop-id.next c.loop-id.from _ _ (omega arith) (sym c.in-Some.is ∙ c.next_id.ensures) c.put.ensures c.put_decimal-next.ensures.0.0 c.put_decimal-next.ensures.0.1 in
    record { long = omega arith; below_all = omega arith; below_words = omega arith; room = omega arith; place = c.loop-id.invariant.place ∙ m.0; text = c.loop-id.invariant.text ∙ m.1 }

pub returns-clause-wrote : goal.returns-clause-wrote
returns-clause-wrote c =
    let m = ids-none c.loop-id.out c.args.words.now c.loop-id.next c.loop-id.from (sym c.in_default.is ∙ c.next_id.ensures) in
    (sym (c.loop-id.invariant.place ∙ m.0), sym (c.loop-id.invariant.text ∙ m.1))
