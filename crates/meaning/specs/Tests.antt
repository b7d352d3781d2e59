-- The tests of a selector node (01, section 1), which are the simple selectors of its compound selector (Selectors 4).
use Rattle.std.specs.Prelude.{◌≡◌, List, ◌++◌, map, Bool, false, ℕ}
use Rattle.meaning.specs.Lists.{some, every}
use Rattle.meaning.specs.Document.{position}
use Rattle.meaning.specs.Selectors.{all_hold}
use Rattle.meaning.specs.Elements.{Tag, Where, Placed, name_of, position_of_name}

-- What a node says: its ids and its tests; and when a test holds. A tag test may look at both positions, an attribute test at the tag too.
pub record Tests (A : Type 0) : Type 1 where
  pub D : Type 0
  pub TagTest : Type 0
  pub AttributeTest : Type 0
  pub ids : D → List ℕ
  pub tag_tests : D → List TagTest
  pub attribute_tests : D → List AttributeTest
  pub tag_test : TagTest → (position position_of_name : ℕ) → Tag → Bool
  pub attribute_test : AttributeTest → Tag → A → Bool
  pub of_type : TagTest → Bool  -- nth-of-type: only these look at the position among those of the name
  pub not_of_type : (x : TagTest) → of_type x ≡ false → (i j k : ℕ) (t : Tag) → tag_test x i j t ≡ tag_test x i k t

module _ {A : Type 0} (Q : Tests A) where
  -- A simple selector is a tag test or an attribute test.
  pub data Simple : Type 0 where
    on_tag : Q.TagTest → Simple
    on_attributes : Q.AttributeTest → Simple

  -- When it holds for an element.
  abbrev pub simple : Simple → Placed A → Bool
  simple (on_tag x) s = Q.tag_test x (position s.at) (position_of_name (name_of s) s.at) s.element.tag
  simple (on_attributes x) s = Q.attribute_test x s.element.tag s.element.given.attributes

  -- The compound selector of a node is all its tests.
  abbrev pub compound : Q.D → List Simple
  compound d = map on_tag (Q.tag_tests d) ++ map on_attributes (Q.attribute_tests d)

  -- All tests of a node hold for an element.
  abbrev pub holds : Q.D → Placed A → Bool
  holds d s = all_hold simple (compound d) s

  -- All its tag tests hold for a tag at a place.
  abbrev pub tag_holds : Q.D → Where A → Tag → Bool
  tag_holds d c t = every (λ x. Q.tag_test x (position c) (position_of_name t.name c) t) (Q.tag_tests d)

  -- Some test of a node is nth-of-type.
  abbrev pub of_type_tested : Q.D → Bool
  of_type_tested d = some Q.of_type (Q.tag_tests d)
