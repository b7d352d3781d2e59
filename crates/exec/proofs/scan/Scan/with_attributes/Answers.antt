use Rattle.std.proofs.Common.{rules, false}
use Rattle.rules.specs.Attributes.{attributes_of}
use Rattle.exec.specs.Scans.{all_pass, attribute_scan}
use Rattle.exec.specs.Searching.{Judges}
use Rattle.exec.proofs.ScanTurns.{no-key-all, keyed-all, seek-all, all-found}
use Rattle.exec.proofs.scan.Scan.with_attributes.Goals as goal

pub returns : goal.returns
unfolding attribute_scan Judges
returns c = let a = c.args in let t = a.self.now.tag in let s = attributes_of a.attributes.input.now a.attributes.outlines.now in
    all-found _ _ _ _ _ _
    (c.go_over.ensures (all_pass a.self.now.sheet.now a.self.now.live.program.now t.name.now a.self.now.key t.child t.of_type a.attributes.html s) (λ n. false)
    (no-key-all a.self.now.sheet.now a.self.now.live.program.now t.name.now a.self.now.key t.child t.of_type a.attributes.html s, λ n v h k p. keyed-all a.self.now.sheet.now a.self.now.live.program.now t.name.now a.self.now.key t.child t.of_type a.attributes.html s n v k (search rules)))
    (seek-all _ _)
