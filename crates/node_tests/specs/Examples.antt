-- The marked examples P1 to P9 of document 01, section 6, as one list of expected results; and E11 by an example.
use Rattle.std.specs.Prelude.{◌≡◌, refl, Bool, true, false, List, [], ◌∷◌, ℕ, T, get_or, pos, negsuc}
use Rattle.std.proofs.Common.{sym, ap, ◌∙◌, ⊎_elim, arith}
use mathlib.Core.List.Memᴰ
use Rattle.nth.specs.Nth.{nth_holds}
use Rattle.letters.specs.Bytes.{same_bytes}
use Rattle.letters.specs.BytesLaws.{fold-false}
use Rattle.operators.specs.Operators.{empty_bytes, begins_with, prefix_holds, suffix_holds, dash_holds, contains_bytes, substring_holds, parts, split, some_part, includes_holds}
use Rattle.node_tests.specs.Tests.{ignores_case, exists, attribute_holds}
use Rattle.rules.specs.Attributes.{Attribute, lookup, is_there}
use Rattle.rules.specs.Standard.{HasAttribute}

unfoldable pub computed : List Bool
computed =
    nth_holds (pos 2) (pos 1) (pos 1) ∷  -- P1: step 2 offset 1 at 1
    nth_holds (pos 2) (pos 1) (pos 3) ∷  -- P1: step 2 offset 1 at 3
    nth_holds (pos 2) (pos 1) (pos 5) ∷  -- P1: step 2 offset 1 at 5
    nth_holds (pos 2) (pos 1) (pos 2) ∷  -- P1: step 2 offset 1 at 2
    nth_holds (negsuc 0) (pos 3) (pos 1) ∷  -- P2: step -1 offset 3 at 1
    nth_holds (negsuc 0) (pos 3) (pos 3) ∷  -- P2: step -1 offset 3 at 3
    nth_holds (negsuc 0) (pos 3) (pos 4) ∷  -- P2: step -1 offset 3 at 4
    nth_holds (pos 0) (pos 0) (pos 1) ∷  -- P3: step 0 offset 0 at 1
    nth_holds (pos 1) (negsuc 2147483647) (pos 1) ∷  -- P4: step 1 offset -2147483648 at 1
    prefix_holds false (97 ∷ []) [] ∷  -- P5: prefix `` on `a`
    prefix_holds false [] [] ∷  -- P5: prefix `` on ``
    includes_holds false (97 ∷ 32 ∷ 32 ∷ 98 ∷ []) [] ∷  -- P6: includes `` on `a  b`
    includes_holds false [] [] ∷  -- P6: includes `` on ``
    includes_holds false (97 ∷ 32 ∷ 98 ∷ []) [] ∷  -- P6: includes `` on `a b`
    dash_holds false (101 ∷ 110 ∷ []) (101 ∷ 110 ∷ []) ∷  -- P7: dash `en` on `en`
    dash_holds false (101 ∷ 110 ∷ 45 ∷ 85 ∷ 83 ∷ []) (101 ∷ 110 ∷ []) ∷  -- P7: dash `en` on `en-US`
    dash_holds false (101 ∷ 110 ∷ 103 ∷ 108 ∷ 105 ∷ 115 ∷ 104 ∷ []) (101 ∷ 110 ∷ []) ∷  -- P7: dash `en` on `english`
    substring_holds false (97 ∷ []) [] ∷  -- P8: substring `` on `a`
    suffix_holds (ignores_case 2 true) (120 ∷ 46 ∷ 104 ∷ 116 ∷ 109 ∷ 108 ∷ []) (46 ∷ 72 ∷ 84 ∷ 77 ∷ 76 ∷ []) ∷  -- P9: suffix `.HTML` on `x.html`, case 2
    suffix_holds (ignores_case 0 true) (120 ∷ 46 ∷ 104 ∷ 116 ∷ 109 ∷ 108 ∷ []) (46 ∷ 72 ∷ 84 ∷ 77 ∷ 76 ∷ []) ∷  -- P9: suffix `.HTML` on `x.html`, case 0
    []

unfoldable pub expected : List Bool
expected =
    true ∷ true ∷ true ∷ false ∷  -- P1
    true ∷ true ∷ false ∷  -- P2
    false ∷  -- P3
    true ∷  -- P4
    true ∷ false ∷  -- P5
    true ∷ true ∷ false ∷  -- P6
    true ∷ true ∷ false ∷  -- P7
    false ∷  -- P8
    true ∷ false ∷  -- P9
    []

pub examples : computed ≡ expected
unfolding nth_holds computed expected same_bytes empty_bytes begins_with prefix_holds suffix_holds dash_holds contains_bytes substring_holds parts split some_part includes_holds ignores_case
examples = refl

-- ---- E11: an SVG attribute `a_b` passes the test `exists` of `ab`, where W3C's [ab] does not hold.

abbrev upper : Attribute
upper = record { name = 97 ∷ 66 ∷ []; value = [] }

pub svg-holds : T (attribute_holds false (upper ∷ []) (exists (97 ∷ 98 ∷ [])))
unfolding attribute_holds lookup is_there same_bytes
svg-holds = tt

pub svg-standard-not : HasAttribute false (97 ∷ 98 ∷ []) (upper ∷ []) → ⊥
unfolding HasAttribute
svg-standard-not (a, (m, e)) =
    ⊎_elim
    (λ q. let z = sym (ap (λ (x : Attribute). get_or x.name 1 0) q) ∙ ap (λ (l : List ℕ). get_or l 1 0) (sym (fold-false a.name) ∙ e) in let y : 66 ≡ 98 = sym (sym z) in omega arith)
    (λ n. Memᴰ.not-nil n)
    (Memᴰ.cases_cons m)
