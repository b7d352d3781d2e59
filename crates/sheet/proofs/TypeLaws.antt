-- E3 in a sheet's tests: where a tag test looks at the position by name, that is W3C's by type and one more for each earlier sibling of the name in another namespace.
use Rattle.std.specs.Prelude.{◌≡◌, List, ◌+◌}
use Rattle.std.proofs.Common.{ap}
use Rattle.rules.specs.Attributes.{Attribute}
use Rattle.node_tests.specs.Tests.{Negatable, TagTest, tag_test_holds}
use Rattle.meaning.specs.Document.{position}
use Rattle.meaning.specs.Elements.{Placed, name_of}
use Rattle.meaning.specs.Tests.{on_tag, simple}
use Rattle.meaning.specs.Standard.{position_of_own_type, siblings_elsewhere}
use Rattle.meaning.proofs.Types.{type-law}
use Rattle.sheet.specs.Meaning.{sheet_tests}

pub by-type-law : (test : Negatable TagTest) (s : Placed (List Attribute))
    → simple sheet_tests (on_tag test) s ≡ tag_test_holds (name_of s) (position s.at) (position_of_own_type s.element.tag s.at + siblings_elsewhere s.element.tag s.at) test
by-type-law test s = ap (λ n. tag_test_holds (name_of s) (position s.at) n test) (type-law s.element.tag s.at)
