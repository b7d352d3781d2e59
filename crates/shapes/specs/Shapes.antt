-- What a call looks at first, in the stores lent with it: what the header says, sizes and shape (01, section 2: 31 and 30). A refusal is its number; 0 is none.
use Rattle.std.specs.Prelude.{Bool, false, cond, not, List, ℕ, ◌*◌, ◌/◌, ◌%◌, eqb, ltb, leb, length, get_or}
use Rattle.sheet.specs.Parser.{node_count}
use Rattle.stack.specs.Stores.{Stores, open_limit, pair_limit, parent_limit, ancestor_limit, name_limit, rows_size, names_size, ids_size, nodes_size, opens, parents_top, ancestors_top, pairs_top, waits}

-- ---- What the header says of the machine: words 12 to 14.

-- The mark of a store in which a machine was made.
abbrev pub made_mark : ℕ
made_mark = 1383429737

-- ESI is on; nth-of-type is in use.
unfoldable pub esi_on : List ℕ → Bool
esi_on rows = eqb (get_or rows 14 0 % 2) 1

unfoldable pub types_counted : List ℕ → Bool
types_counted rows = eqb (get_or rows 14 0 / 2 % 2) 1

-- ---- 31: every store has at least its size (docs/SHAPE.md).
unfoldable pub sized : Stores → Bool
sized s =
    cond (ltb (length s.rows) rows_size) false
    (cond (ltb (length s.names) names_size) false
    (cond (ltb (length s.ids) ids_size) false
    (leb nodes_size (length s.nodes))))

-- ---- 30: the shape rules (docs/SHAPE.md). The sheet and the instructions are those lent with the call.
unfoldable pub header_shaped : (rows : List ℕ) → (nodes : ℕ) → Bool
header_shaped rows nodes =
    cond (ltb open_limit (opens rows)) false
    (cond (ltb parent_limit (parents_top rows)) false
    (cond (ltb ancestor_limit (ancestors_top rows)) false
    (cond (ltb pair_limit (pairs_top rows)) false
    (cond (ltb 1 (waits rows)) false
    (cond (ltb name_limit (get_or rows 5 0)) false
    (cond (ltb nodes (get_or rows 7 0)) false
    (leb (get_or rows 14 0) 3)))))))

unfoldable pub shaped : (sheet program rows : List ℕ) → Bool
shaped sheet program rows =
    cond (not (eqb (get_or rows 12 0) made_mark)) false
    (cond (not (eqb (get_or rows 13 0) (length sheet))) false
    (cond (ltb 1024 (node_count sheet)) false
    (cond (ltb (length program) (node_count sheet * 8)) false
    (header_shaped rows (node_count sheet)))))

-- 31 before 30, in every call with a state.
unfoldable pub state_refusal : (sheet program : List ℕ) → Stores → ℕ
state_refusal sheet program s = cond (not (sized s)) 31 (cond (not (shaped sheet program s.rows)) 30 0)
