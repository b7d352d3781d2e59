use Rattle.std.proofs.Common.{◌≡◌, ◌-◌}
use Rattle.node_records.specs.Checks.{check_tests}
use Rattle.node_records.proofs.Record.check_tests.Given as goal

abbrev pub invariant-loop : goal.invariant-loop
invariant-loop l = check_tests l.self.sheet.now l.self.at l.self.end l.attributes l.count l.at ≡ check_tests l.self.sheet.now l.self.at l.self.end l.attributes (l.count - l.counter) l.here
