use Rattle.course.proofs.Scanning.{resume-is}
use Rattle.course.proofs.resume_scan.Goals as goal

pub returns : goal.returns
returns c = resume-is _ _ _ _ _ _ _ _ _ _ _ _ _ _ _ _ _ _ _ _ _ c.held_found-count.ensures c.scan_of-scan.ensures.ranges c.scan_of-scan.ensures.child c.scan_of-scan.ensures.of_type c.scan_of-scan.ensures.key c.get.ensures c.is_html-html.ensures c.held_cursor-from.ensures c.u16_at.ensures (rw (c.scan_of-scan.ensures.sheet, c.scan_of-scan.ensures.program, c.scan_of-scan.ensures.nodes, c.scan_of-scan.ensures.name, c.new-attributes.ensures.input, c.new-attributes.ensures.outlines, c.new-attributes.ensures.html) at c.with_attributes.ensures)
