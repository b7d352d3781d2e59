use mathlib.Core.Path.{ap}
use mathlib.Core.Bool.{not}
use Rattle.course.proofs.Scanning.{begin-waits, begin-scans}
use Rattle.course.proofs.begin_scan.Goals as goal

pub returns-then-not-is_html : goal.returns-then-not-is_html
returns-then-not-is_html c = begin-waits _ _ _ _ _ _ _ _ _ c.first_live-from.ensures _ c.is_html.ensures (ap not c.if-not-is_html.true)

pub returns : goal.returns
returns c = begin-scans _ _ _ _ _ _ _ _ _ c.first_live-from.ensures _ c.is_html.ensures _ _ _ _ _ _ _ (ap not c.if-not-is_html.false) c.scan_of-scan.ensures.ranges c.scan_of-scan.ensures.child c.scan_of-scan.ensures.of_type c.scan_of-scan.ensures.key c.u16_at.ensures (rw (c.scan_of-scan.ensures.sheet, c.scan_of-scan.ensures.program, c.scan_of-scan.ensures.nodes, c.scan_of-scan.ensures.name) at c.by_tag.ensures)
