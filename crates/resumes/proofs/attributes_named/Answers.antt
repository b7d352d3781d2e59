use native.Mathlib.Omega.{arith}
use Rattle.course.specs.CourseLaws.{resumed-few, part-few}
use Rattle.resumes.proofs.Laws.{given_is}
use Rattle.resumes.proofs.attributes_named.Goals as goal

pub slice_bounds-finish_held-end : goal.slice_bounds-finish_held-end
slice_bounds-finish_held-end c = let a = c.args in let m = a.machine.now in let p = c.requires in let n = resumed-few m.sheet.now m.program.now m.rows.now m.names.now m.nodes.now a.name.now a.input.now a.outlines.now p.held_few in omega (arith, n, c.resume_scan-n.ensures.0, p.nodes_few)

pub finish_held-requires : goal.finish_held-requires
finish_held-requires c = let a = c.args in let m = a.machine.now in let p = c.requires in let n = resumed-few m.sheet.now m.program.now m.rows.now m.names.now m.nodes.now a.name.now a.input.now a.outlines.now p.held_few in record { limited = p.limited; found_few = part-few _ c.resume_scan-n.result 1024 (omega (arith, n, c.resume_scan-n.ensures.0, p.nodes_few)) }

pub returns-clause-answered : goal.returns-clause-answered
returns-clause-answered c = let a = c.args in let m = a.machine.now in let p = c.requires in let n = resumed-few m.sheet.now m.program.now m.rows.now m.names.now m.nodes.now a.name.now a.input.now a.outlines.now p.held_few in given_is _ _ _ _ _ _ _ _ _ _ _ _ _ c.resume_scan-n.ensures (omega (arith, n, p.nodes_few)) c.get.ensures c.has_content-content.ensures c.finish_held.ensures.answered
