-- What a call looks at before anything is written, once the state is not refused: the call's own refusals of 01, section 2, in their order. A refusal is its number; 0 is none.
use Rattle.std.specs.Prelude.{Bool, true, false, cond, not, List, ℕ, ◌+◌, eqb, ltb, leb, length}
use Rattle.rules.specs.Attributes.{good_outlines}
use Rattle.sheet.specs.Parser.{node_count}
use Rattle.shapes.specs.Shapes.{types_counted}
use Rattle.stack.specs.Stores.{open_limit, pair_limit, parent_limit, name_limit, opens, parents_top, pairs_top, children, known, waits, child_block, bearers}

-- 20: a name of 0 or over 63 bytes.
unfoldable pub is_bad_name : List ℕ → Bool
is_bad_name name = cond (eqb (length name) 0) true (ltb name_limit (length name))

-- Start tag, before its name is looked for: 22, 20, 21, 25.
unfoldable pub tag_refusal : (rows : List ℕ) → (namespace : ℕ) → (name : List ℕ) → ℕ
tag_refusal rows namespace name =
    cond (not (eqb (waits rows) 0)) 22
    (cond (is_bad_name name) 20
    (cond (ltb 2 namespace) 21
    (cond (leb 2147483647 (children rows)) 25 0)))

-- 26: types are counted, no pair is free, and the lower-cased name is new at the open level.
unfoldable pub pairs_full : (rows names name : List ℕ) → Bool
pairs_full rows names name =
    cond (not (types_counted rows)) false
    (cond (ltb (pairs_top rows) pair_limit) false
    (not (known rows names name)))

-- A tag that is whole: 27, 28, if it would be pushed.
unfoldable pub push_refusal : (sheet program rows : List ℕ) → (content : Bool) → (found : List ℕ) → ℕ
push_refusal sheet program rows content found =
    cond (not content) 0
    (cond (leb open_limit (opens rows)) 27
    (cond (ltb parent_limit (parents_top rows + length (bearers program (node_count sheet) child_block found))) 28 0))

-- Attributes: 23, 24.
unfoldable pub attributes_refusal : (rows input outlines : List ℕ) → ℕ
attributes_refusal rows input outlines =
    cond (eqb (waits rows) 0) 23
    (cond (not (good_outlines input outlines)) 24 0)

-- End tag, before its name is looked for: 22, 20.
unfoldable pub end_refusal : (rows name : List ℕ) → ℕ
end_refusal rows name =
    cond (not (eqb (waits rows) 0)) 22
    (cond (is_bad_name name) 20 0)
