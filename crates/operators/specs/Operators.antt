-- The attribute operators of Selectors 4, computed with 01's exceptions; `Standard` says what W3C means, `OperatorLaws` where these differ.
-- The first argument is the case rule: true ignores ASCII case. Then the attribute's value, then the operand.
use Rattle.std.specs.Prelude.{Bool, true, false, not, cond, ◌&&◌, ◌||◌, List, [], ◌∷◌, ◌++◌, ℕ, ◌-◌, eqb, length, take, drop, get_or}
use Rattle.std.proofs.Math.Option.{Option, none, some}
use Rattle.letters.specs.Bytes.{same_bytes, space_byte}
use Rattle.operators.specs.declared.Operator.{Operator}
use Rattle.operators.specs.declared.Operator.TheVariants.{Equal, Includes, Dash, Prefix, Suffix, Substring}

unfoldable pub empty_bytes : List ℕ → Bool
empty_bytes [] = true
empty_bytes (x ∷ xs) = false

-- [att=val]
abbrev pub equal_holds : Bool → List ℕ → List ℕ → Bool
equal_holds f value operand = same_bytes f f value operand

-- The value begins with the operand.
unfoldable pub begins_with : Bool → List ℕ → List ℕ → Bool
begins_with f value operand = same_bytes f f (take (length operand) value) operand

-- [att^=val]; E1: an empty operand matches any value that is not empty.
unfoldable pub prefix_holds : Bool → List ℕ → List ℕ → Bool
prefix_holds f value operand = not (empty_bytes value) && begins_with f value operand

-- [att$=val]; E1
unfoldable pub suffix_holds : Bool → List ℕ → List ℕ → Bool
suffix_holds f value operand = not (empty_bytes value) && same_bytes f f (drop (length value - length operand) value) operand

-- [att|=val]: equal, or begins with the operand and a dash after it.
unfoldable pub dash_holds : Bool → List ℕ → List ℕ → Bool
dash_holds f value operand = same_bytes f f value operand || (begins_with f value operand && eqb (get_or value (length operand) 0) 45)

-- The operand stands in the value, here or further on.
unfoldable pub contains_bytes : Bool → List ℕ → List ℕ → Bool
contains_bytes f [] operand = begins_with f [] operand
contains_bytes f (x ∷ xs) operand = begins_with f (x ∷ xs) operand || contains_bytes f xs operand

-- [att*=val]: an empty operand matches nothing.
unfoldable pub substring_holds : Bool → List ℕ → List ℕ → Bool
substring_holds f value operand = not (empty_bytes operand) && contains_bytes f value operand

-- The parts between white space, the first grown by what is so far: no byte at all is one empty part.
unfoldable pub parts : List ℕ → List ℕ → List (List ℕ)
parts so [] = so ∷ []
parts so (x ∷ xs) = cond (space_byte x) (so ∷ parts [] xs) (parts (so ++ (x ∷ [])) xs)

unfoldable pub split : List ℕ → List (List ℕ)
split value = parts [] value

-- Some part is the operand.
unfoldable pub some_part : Bool → List ℕ → List (List ℕ) → Bool
some_part f operand [] = false
some_part f operand (p ∷ ps) = same_bytes f f p operand || some_part f operand ps

-- [att~=val]; E2: some part of the split is the operand, the empty one too.
unfoldable pub includes_holds : Bool → List ℕ → List ℕ → Bool
includes_holds f value operand = some_part f operand (split value)

-- A value against an operand.
unfoldable pub operator_holds : Operator → Bool → List ℕ → List ℕ → Bool
operator_holds Equal f value operand = equal_holds f value operand
operator_holds Includes f value operand = includes_holds f value operand
operator_holds Dash f value operand = dash_holds f value operand
operator_holds Prefix f value operand = prefix_holds f value operand
operator_holds Suffix f value operand = suffix_holds f value operand
operator_holds Substring f value operand = substring_holds f value operand

-- An attribute that is missing passes no test; one that is there passes by its value.
unfoldable pub value_holds : Operator → Bool → List ℕ → Option (List ℕ) → Bool
value_holds operator f operand none = false
value_holds operator f operand (some value) = operator_holds operator f value operand
