use Rattle.std.proofs.Common.{◌≡◌, ◌-◌, map}
use Rattle.node_tests.specs.Tests.{read_tag_test}
use Rattle.node_records.specs.Records.{tests_from}
use Rattle.sheet.specs.Spelling.{TestsInside}
use Rattle.program.specs.Program.{any_of_type}
use Rattle.program.proofs.any_of_type.Given as goal

abbrev pub invariant-loop : goal.invariant-loop
invariant-loop l = record {
  inside : TestsInside l.s l.end (l.count - l.counter) l.here;
  same : any_of_type (map read_tag_test (tests_from l.s l.count l.at)) ≡ any_of_type (map read_tag_test (tests_from l.s (l.count - l.counter) l.here));
}
