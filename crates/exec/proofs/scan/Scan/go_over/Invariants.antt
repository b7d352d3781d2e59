use Rattle.std.proofs.Common.{◌≡◌, Bool, ℕ, ◌+◌, ◌≤◌, length}
use Rattle.exec.specs.Scans.{seek, live}
use Rattle.exec.specs.Searching.{Judges}
use Rattle.exec.proofs.ScanTurns.{Going}
use Rattle.exec.proofs.scan.Scan.go_over.Given as goal

abbrev pub invariant-loop-d : goal.invariant-loop-d
invariant-loop-d g l = record {
  room : l.all + l.left ≤ l.count + l.budget;
  size : length l.found ≡ length l.initial.found;
  going : (passes asking : ℕ → Bool) → Judges l.self.live.program.now l.self.key passes asking (λ a v. goal.F-post g l.verdict a v) → Going l.count l.initial.found (seek passes asking (live l.self.sheet.now l.self.live.program.now l.self.live.nodes.now l.self.live.ranges l.self.key l.initial.c l.budget (length l.self.sheet.now))) l.found l.all (seek passes asking (live l.self.sheet.now l.self.live.program.now l.self.live.nodes.now l.self.live.ranges l.self.key l.c l.left l.bytes));
}

abbrev pub decreases-loop-d : goal.decreases-loop-d
decreases-loop-d g l = l.left
