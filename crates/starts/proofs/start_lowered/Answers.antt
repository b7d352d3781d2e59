use mathlib.Core.Path.{refl}
use native.Mathlib.Omega.{arith}
use Rattle.course.specs.CourseLaws.{begin-few, count-is, part-few}
use Rattle.starts.proofs.Laws.{lowered-full, lowered-begun}
use Rattle.starts.proofs.start_lowered.Goals as goal

pub returns-then-are_pairs_full-clause-answered : goal.returns-then-are_pairs_full-clause-answered
returns-then-are_pairs_full-clause-answered c = lowered-full _ _ _ _ _ _ c.are_pairs_full.ensures _ c.if-are_pairs_full.true refl

pub slice_bounds-start_found-end : goal.slice_bounds-start_found-end
slice_bounds-start_found-end c = let m = c.args.machine.now in let n = begin-few m.sheet.now m.program.now m.rows.now m.names.now m.nodes.now c.args.name.now c.args.kind in let k = count-is _ _ c.begin_scan-scanned.ensures.0 in omega (arith, n, k, c.requires.nodes_few)

pub start_found-requires : goal.start_found-requires
start_found-requires c = let m = c.args.machine.now in let n = begin-few m.sheet.now m.program.now m.rows.now m.names.now m.nodes.now c.args.name.now c.args.kind in let k = count-is _ _ c.begin_scan-scanned.ensures.0 in record { limited = c.requires.limited; found_few = part-few _ c.begin_scan-scanned.result.count 1024 (omega (arith, n, k, c.requires.nodes_few)) }

pub returns-clause-answered : goal.returns-clause-answered
returns-clause-answered c = let m = c.args.machine.now in let n = begin-few m.sheet.now m.program.now m.rows.now m.names.now m.nodes.now c.args.name.now c.args.kind in lowered-begun _ _ _ _ _ _ c.are_pairs_full.ensures _ _ _ _ c.if-are_pairs_full.false c.begin_scan-scanned.ensures (omega (arith, n, c.requires.nodes_few)) c.start_found.ensures.answered
