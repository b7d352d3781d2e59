-- What a start tag is, and what it matches, for any stores (01, sections 3 and 4).
use Rattle.std.specs.Prelude.{Bool, cond, not, List, [], ◌++◌, ℕ, ◌+◌, ◌-◌, ◌/◌, ◌%◌, eqb, length, get_or}
use Rattle.names.specs.Names.{name_key}
use Rattle.rules.specs.Attributes.{attributes_of}
use Rattle.sheet.specs.Parser.{node_count, root_count}
use Rattle.stack.specs.Stores.{ancestors_from, opens, parents_top, ancestors_top, row_word, children, one_more, times_in, held_kind, held_found}
use Rattle.cursors.specs.Cursors.{cursor_of, first_cursor}
use Rattle.exec.specs.Scans.{Sought, stopped, tag_scan, attribute_scan}
use Rattle.cursors.specs.declared.Cursor.{Cursor}
use Rattle.cursors.specs.declared.Ranges.{Ranges}
use Rattle.shapes.specs.Shapes.{types_counted}

-- ---- The kind of a tag: its namespace, and whether its name is void.

unfoldable pub kind_of : (namespace : ℕ) → Bool → ℕ
kind_of namespace void = cond void (namespace + 4) namespace

unfoldable pub is_html : ℕ → Bool
is_html kind = eqb (kind % 4) 0

-- HTML has content unless its name is void, whatever the self-closing mark; SVG and MathML have it unless self-closing (01, section 4).
unfoldable pub has_content : (kind : ℕ) → (self_closing : Bool) → Bool
has_content kind self_closing = cond (is_html kind) (not (eqb (kind / 4 % 2) 1)) (not self_closing)

-- ---- What a tag that comes now would be, and what is live.

-- Its positions among its siblings, and among those of its name, from 1.
unfoldable pub child_position : List ℕ → ℕ
child_position rows = one_more (children rows)

unfoldable pub type_position : (rows names name : List ℕ) → ℕ
type_position rows names name = cond (types_counted rows) (one_more (times_in rows names name)) 1

-- The live ranges: child ranges of the top element, descendant ranges of all open elements.
abbrev pub live_ranges : (sheet rows : List ℕ) → Ranges
live_ranges sheet rows = record { parents_top = parents_top rows; ancestors_from = ancestors_from; ancestors_top = ancestors_from + ancestors_top rows; limit = node_count sheet }

-- The cursor before the first live instruction: the roots come first.
abbrev pub first_live : (sheet rows : List ℕ) → Cursor
first_live sheet rows = first_cursor (row_word rows (opens rows) 2) (root_count sheet)

-- Where the waiting tag's scan goes on.
abbrev pub held_cursor : List ℕ → Cursor
held_cursor rows = cursor_of (get_or rows 8 0) (get_or rows 9 0) (get_or rows 10 0) (get_or rows 11 0)

-- ---- What is found. The sheet and its instructions are those lent with the call.

module _ (sheet program : List ℕ) where
  -- HTML is scanned with the tag alone; SVG and MathML wait before the first instruction.
  unfoldable pub begin : (rows names nodes name : List ℕ) → (kind : ℕ) → Sought
  begin rows names nodes name kind =
      cond (is_html kind)
      (tag_scan sheet program nodes (live_ranges sheet rows) name (name_key name) (child_position rows) (type_position rows names name) (first_live sheet rows) (node_count sheet) (length sheet))
      (stopped [] (first_live sheet rows))

  -- All nodes that the waiting tag, by its name, matches with the attributes at hand: those found before it waited, and those from its cursor on.
  unfoldable pub resumed : (rows names nodes name input outlines : List ℕ) → List ℕ
  resumed rows names nodes name input outlines =
      held_found rows nodes
      ++ attribute_scan sheet program nodes (live_ranges sheet rows) name (name_key name) (child_position rows) (type_position rows names name) (is_html (held_kind rows))
      (attributes_of input outlines) (held_cursor rows) (node_count sheet - get_or rows 7 0) (length sheet)
