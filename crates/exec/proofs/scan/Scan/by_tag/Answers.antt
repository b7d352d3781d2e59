use Rattle.std.proofs.Common.{rules}
use Rattle.instructions.specs.Instructions.{tag_passes, asks}
use Rattle.exec.specs.Scans.{tag_scan}
use Rattle.exec.specs.Searching.{Judges}
use Rattle.exec.proofs.ScanTurns.{no_key, keyed}
use Rattle.exec.proofs.scan.Scan.by_tag.Goals as goal

pub returns : goal.returns
unfolding tag_scan Judges
returns c = let a = c.args in let t = a.self.now.tag in
    c.go_over.ensures (tag_passes a.self.now.sheet.now a.self.now.live.program.now t.name.now a.self.now.key t.child t.of_type) (asks a.self.now.live.program.now)
    (no_key a.self.now.sheet.now a.self.now.live.program.now t.name.now a.self.now.key t.child t.of_type, λ n v h k p. keyed a.self.now.sheet.now a.self.now.live.program.now t.name.now a.self.now.key t.child t.of_type n v k (search rules))
