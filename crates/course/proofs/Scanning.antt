-- The scan of a start tag and that of a waiting tag, with what the small readings come to.
use mathlib.Core.Path.{◌≡◌, refl, ap, ◌∙◌}
use mathlib.Core.Bool.{Bool, true, false, not}
use mathlib.Core.List.{List}
use Prim.Native.Nat.{ℕ, ◌+◌, ◌-◌, ◌^◌, ◌<◌}
use native.Mathlib.Nat.{zero-add}
use borrow.Author.Tests.{not-true, not-false}
use lib.ListN.{length, get_or, length-append}
use Rattle.std.specs.Prelude.{Some}
use Rattle.cells.specs.Stretches.{written, length-cells}
use Rattle.names.specs.Names.{name_key}
use Rattle.rules.specs.Attributes.{attributes_of}
use Rattle.sheet.specs.Parser.{node_count}
use Rattle.stack.specs.Stores.{held_kind, held_found, found_from}
use Rattle.stack.specs.Laws.{written-cat}
use Rattle.exec.specs.Scans.{Sought, found_in, answer_from, tag_scan, attribute_scan}
use Rattle.cursors.specs.declared.Cursor.{Cursor}
use Rattle.cursors.specs.declared.Ranges.{Ranges}
use Rattle.exec.specs.declared.scan.Scanned.{Scanned}
use Rattle.course.specs.Course.{is_html, child_position, type_position, live_ranges, first_live, held_cursor, begin, resumed}

-- ---- the scan of a start tag

module _ (sheet program rows names nodes name : List ℕ) (kind : ℕ) (found : List ℕ) (from : Cursor) (f : from ≡ first_live sheet rows) (html : Bool) (g : html ≡ is_html kind) where
  pub begin-waits : not html ≡ true → (record { count = 0; stopped_at = Some from } ≡ answer_from 0 (begin sheet program rows names nodes name kind)) × (found ≡ written found 0 (found_in (begin sheet program rows names nodes name kind)))
  unfolding begin answer_from found_in written
  begin-waits h = rw (← g, not-true html h) ((λ i. record { count = 0; stopped_at = Some (f i) }), refl)

  pub begin-scans : (ranges : Ranges) (key child of_type budget : ℕ) (r : Scanned) (last : List ℕ) → not html ≡ false
      → ranges ≡ live_ranges sheet rows → child ≡ child_position rows → of_type ≡ type_position rows names name → key ≡ name_key name → (budget ≡ node_count sheet) × (budget < 2 ^ 16)
      → (r ≡ answer_from 0 (tag_scan sheet program nodes ranges name key child of_type from budget (length sheet))) × (last ≡ written found 0 (found_in (tag_scan sheet program nodes ranges name key child of_type from budget (length sheet))))
      → (r ≡ answer_from 0 (begin sheet program rows names nodes name kind)) × (last ≡ written found 0 (found_in (begin sheet program rows names nodes name kind)))
  unfolding begin
  begin-scans ranges key child of_type budget r last h a b c d e p =
      let q : tag_scan sheet program nodes ranges name key child of_type from budget (length sheet) ≡ tag_scan sheet program nodes (live_ranges sheet rows) name (name_key name) (child_position rows) (type_position rows names name) (first_live sheet rows) (node_count sheet) (length sheet)
      = λ i. tag_scan sheet program nodes (a i) name (d i) (b i) (c i) (f i) (e.0 i) (length sheet) in
      rw (← g, not-false html h) (p.0 ∙ ap (answer_from 0) q, p.1 ∙ ap (λ (s : Sought). written found 0 (found_in s)) q)

-- ---- the scan of a waiting tag that goes on

module _ (sheet program rows names nodes name input outlines found first last : List ℕ) (count kind budget r : ℕ) (ranges : Ranges) (key child of_type : ℕ) (html : Bool) (from : Cursor) where
  pub resume-is : (count ≡ get_or rows 7 0) × (first ≡ written found 0 (held_found rows nodes))
      → ranges ≡ live_ranges sheet rows → child ≡ child_position rows → of_type ≡ type_position rows names name → key ≡ name_key name → kind ≡ get_or rows 6 0 → html ≡ is_html kind → from ≡ held_cursor rows → (budget ≡ node_count sheet) × (budget < 2 ^ 16)
      → (r ≡ count + length (attribute_scan sheet program nodes ranges name key child of_type html (attributes_of input outlines) from (budget - count) (length sheet))) × (last ≡ written first count (attribute_scan sheet program nodes ranges name key child of_type html (attributes_of input outlines) from (budget - count) (length sheet)))
      → (r ≡ length (resumed sheet program rows names nodes name input outlines)) × (last ≡ written found 0 (resumed sheet program rows names nodes name input outlines))
  unfolding resumed
  resume-is h a b c d k g f e p =
      let q : attribute_scan sheet program nodes ranges name key child of_type html (attributes_of input outlines) from (budget - count) (length sheet)
      ≡ attribute_scan sheet program nodes (live_ranges sheet rows) name (name_key name) (child_position rows) (type_position rows names name) (is_html (held_kind rows)) (attributes_of input outlines) (held_cursor rows) (node_count sheet - get_or rows 7 0) (length sheet)
      = λ i. attribute_scan sheet program nodes (a i) name (d i) (b i) (c i) ((g ∙ ap is_html k) i) (attributes_of input outlines) (f i) (e.0 i - h.0 i) (length sheet) in
      let l = length-cells nodes found_from (get_or rows 7 0) in (
        p.0 ∙ rw (q, h.0, length-append, l),
        p.1 ∙ rw (q, h.1, h.0, written-cat, l, zero-add (get_or rows 7 0)),
      )
