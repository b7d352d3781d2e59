-- The tests of a sheet: what their bytes say (01, section 1), and when they hold for a tag (01, sections 3 and 4).
use Rattle.std.specs.Prelude.{Bool, true, false, not, cond, List, [], ◌∷◌, ℕ, ◌+◌, eqb, ltb, ℤ, pos, length, get_or}
use Rattle.cells.specs.Numbers.{part, i32_at}
use Rattle.letters.specs.Bytes.{fold}
use Rattle.names.specs.Names.{same_name}
use Rattle.nth.specs.Nth.{nth_holds}
use Rattle.rules.specs.Attributes.{Attribute, lookup, is_there}
use Rattle.operators.specs.Operators.{value_holds}
use Rattle.operators.specs.declared.Operator.{Operator}
use Rattle.operators.specs.declared.Operator.TheVariants.{Equal, Includes, Dash, Prefix, Suffix, Substring}

-- Tests of a tag: its name and its positions among its siblings.
pub data TagTest : Type 0 where
  any unmatchable : TagTest
  local_name : (name : List ℕ) → TagTest
  nth_child nth_of_type : (step offset : ℤ) → TagTest

-- Tests of a tag's attributes.
pub data AttributeTest : Type 0 where
  id_is has_class : (value : List ℕ) → AttributeTest
  exists : (name : List ℕ) → AttributeTest
  unencodable : AttributeTest
  compares : Operator → (case : ℕ) (name value : List ℕ) → AttributeTest

-- A test, or its opposite.
pub record Negatable (A : Type 0) : Type 0 where
  pub negated : Bool
  pub test : A

-- ---- what the bytes say

-- Kinds 1 to 5; any other number, which no good sheet has here, selects nothing.
unfoldable pub tag_kind : ℕ → List ℕ → TagTest
tag_kind kind body =
    cond (eqb kind 1) any
    (cond (eqb kind 3) (local_name body)
    (cond (eqb kind 4) (nth_child (i32_at body 0) (i32_at body 4))
    (cond (eqb kind 5) (nth_of_type (i32_at body 0) (i32_at body 4))
    unmatchable)))

-- Kinds 20 to 25.
unfoldable pub operator_of : ℕ → Operator
operator_of kind =
    cond (eqb kind 20) Equal
    (cond (eqb kind 21) Includes
    (cond (eqb kind 22) Dash
    (cond (eqb kind 23) Prefix
    (cond (eqb kind 24) Suffix
    Substring))))

-- A comparison's body: case byte, length of the name, name, value.
unfoldable pub comparison : Operator → List ℕ → AttributeTest
comparison operator body =
    compares operator (get_or body 0 0) (part body 2 (2 + get_or body 1 0)) (part body (2 + get_or body 1 0) (length body))

-- Kinds 16 to 25; any other number, which no good sheet has here, selects nothing.
unfoldable pub attribute_kind : ℕ → List ℕ → AttributeTest
attribute_kind kind body =
    cond (eqb kind 16) (id_is body)
    (cond (eqb kind 17) (has_class body)
    (cond (eqb kind 18) (exists body)
    (cond (ltb kind 20) unencodable
    (cond (ltb 25 kind) unencodable
    (comparison (operator_of kind) body)))))

abbrev pub is_negated : List ℕ → Bool
is_negated bytes = not (eqb (get_or bytes 1 0) 0)

-- A test's bytes after their length: kind, negation, body.
unfoldable pub read_tag_test : List ℕ → Negatable TagTest
read_tag_test bytes = record { negated = is_negated bytes; test = tag_kind (get_or bytes 0 0) (part bytes 2 (length bytes)) }

unfoldable pub read_attribute_test : List ℕ → Negatable AttributeTest
read_attribute_test bytes = record { negated = is_negated bytes; test = attribute_kind (get_or bytes 0 0) (part bytes 2 (length bytes)) }

-- ---- when they hold

-- A tag test holds for a name, a position among siblings and one among siblings of that name, both from 1.
unfoldable pub tag_holds : List ℕ → ℕ → ℕ → TagTest → Bool
tag_holds name child of_type any = true
tag_holds name child of_type unmatchable = false
tag_holds name child of_type (local_name wanted) = same_name name wanted
tag_holds name child of_type (nth_child step offset) = nth_holds step offset (pos child)
tag_holds name child of_type (nth_of_type step offset) = nth_holds step offset (pos of_type)

-- Case 0 and 1 are exact, 2 ignores ASCII case, 3 ignores it only in namespace HTML.
unfoldable pub ignores_case : ℕ → Bool → Bool
ignores_case case html = cond (eqb case 2) true (cond (eqb case 3) html false)

-- The names of the attributes that id and class tests look at.
unfoldable pub id_name : List ℕ
id_name = 105 ∷ (100 ∷ [])  -- id

unfoldable pub class_name : List ℕ
class_name = 99 ∷ (108 ∷ (97 ∷ (115 ∷ (115 ∷ []))))  -- class

-- An attribute test holds for a namespace (HTML or not) and the tag's attributes. Id and class are exact (E9); a comparison's name is lower-cased, an exists name is not (E4).
unfoldable pub attribute_holds : Bool → List Attribute → AttributeTest → Bool
attribute_holds html attributes (id_is value) = value_holds Equal false value (lookup id_name attributes)
attribute_holds html attributes (has_class value) = value_holds Includes false value (lookup class_name attributes)
attribute_holds html attributes (exists name) = is_there (lookup name attributes)
attribute_holds html attributes unencodable = false
attribute_holds html attributes (compares operator case name value) = value_holds operator (ignores_case case html) value (lookup (fold true name) attributes)

-- A negated test is the opposite of its test, for unmatchable and unencodable too.
unfoldable pub opposite : Bool → Bool → Bool
opposite negated holds = cond negated (not holds) holds

unfoldable pub tag_test_holds : List ℕ → ℕ → ℕ → Negatable TagTest → Bool
tag_test_holds name child of_type t = opposite t.negated (tag_holds name child of_type t.test)

unfoldable pub attribute_test_holds : Bool → List Attribute → Negatable AttributeTest → Bool
attribute_test_holds html attributes t = opposite t.negated (attribute_holds html attributes t.test)
