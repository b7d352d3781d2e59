-- What a scan finds is no longer than its budget.
use Rattle.std.specs.Prelude.{◌≡◌, refl, Bool, true, false, cond, List, [], ◌∷◌, ℕ, suc, ◌-◌, ◌≤◌, ltb, length, get_or, take, drop}
use Rattle.std.proofs.Common.{ap, ◌∙◌, zero-add, arith, length-append, length-take}
use Rattle.cells.specs.Stretches.{length-cells}
use Rattle.names.specs.Names.{name_key}
use Rattle.rules.specs.Attributes.{Attribute, attributes_of}
use Rattle.sheet.specs.Parser.{node_count}
use Rattle.stack.specs.Stores.{held_kind, found_from}
use Rattle.cursors.specs.Cursors.{rest, ats}
use Rattle.instructions.specs.Instructions.{tag_passes, asks}
use Rattle.exec.specs.Scans.{Sought, over, stopped, keep, seek, with_found, found_in, answer_from, tests_taken, within_tests, live, tag_scan, attribute_scan, all_pass}
use Rattle.exec.specs.ScanLaws.{length-ats}
use Rattle.cursors.specs.declared.Cursor.{Cursor}
use Rattle.cursors.specs.declared.Ranges.{Ranges}
use Rattle.exec.specs.declared.scan.Scanned.{Scanned}
use Rattle.course.specs.Course.{is_html, child_position, type_position, live_ranges, first_live, held_cursor, begin, resumed}

length-too : (a : ℕ) (s : Sought) → length (found_in (with_found a s)) ≡ suc (length (found_in s))
unfolding found_in with_found
length-too a (over found) = refl
length-too a (stopped found c) = refl

seek-few : (passes asking : ℕ → Bool) (cs : List Cursor) → length (found_in (seek passes asking cs)) ≤ length cs
unfolding seek found_in
seek-few passes asking [] = omega arith
seek-few passes asking (c ∷ cs) = go (passes c.at) (asking c.at) (seek-few passes asking cs)
  where
    go : (p q : Bool) → length (found_in (seek passes asking cs)) ≤ length cs → length (found_in (cond p (cond q (stopped [] c) (with_found c.at (seek passes asking cs))) (seek passes asking cs))) ≤ suc (length cs)
    go false q h = omega arith
    go true true h = omega arith
    go true false h = let e = length-too c.at (seek passes asking cs) in omega (arith, e, h)

keep-few : (p : ℕ → Bool) (xs : List ℕ) → length (keep p xs) ≤ length xs
unfolding keep
keep-few p [] = omega arith
keep-few p (x ∷ xs) = go (p x) (keep-few p xs)
  where
    go : (b : Bool) → length (keep p xs) ≤ length xs → length (cond b (x ∷ keep p xs) (keep p xs)) ≤ suc (length xs)
    go true h = omega arith
    go false h = omega arith

take-few : {A : Type 0} (n : ℕ) (xs : List A) → length (take n xs) ≤ n
take-few n xs = let e = length-take n xs in omega (arith, e)

pub part-few : (xs : List ℕ) (n m : ℕ) → n ≤ m → length (take (n - 0) (drop 0 xs)) ≤ m
part-few xs n m h = let a = take-few (n - 0) (drop 0 xs) in omega (arith, a, h)

within-few : (sheet program : List ℕ) (key bytes : ℕ) (cs : List Cursor) → length (within_tests sheet program key bytes cs) ≤ length cs
unfolding within_tests
within-few sheet program key bytes [] = omega arith
within-few sheet program key bytes (c ∷ cs) = go (ltb bytes (tests_taken sheet program key c.at)) (within-few sheet program key (bytes - tests_taken sheet program key c.at) cs)
  where
    go : (b : Bool) → length (within_tests sheet program key (bytes - tests_taken sheet program key c.at) cs) ≤ length cs → length (cond b [] (c ∷ within_tests sheet program key (bytes - tests_taken sheet program key c.at) cs)) ≤ suc (length cs)
    go true h = omega arith
    go false h = omega arith

live-few : (sheet program nodes : List ℕ) (ranges : Ranges) (key : ℕ) (from : Cursor) (budget bytes : ℕ) → length (live sheet program nodes ranges key from budget bytes) ≤ budget
unfolding live
live-few sheet program nodes ranges key from budget bytes =
    let a = within-few sheet program key bytes (take budget (rest program nodes ranges from)) in
    let b = take-few budget (rest program nodes ranges from) in
    omega (arith, a, b)

module _ (sheet program nodes : List ℕ) (ranges : Ranges) (name : List ℕ) (key child of_type : ℕ) (from : Cursor) (budget bytes : ℕ) where
  tag-few : length (found_in (tag_scan sheet program nodes ranges name key child of_type from budget bytes)) ≤ budget
  unfolding tag_scan
  tag-few =
      let a = seek-few (tag_passes sheet program name key child of_type) (asks program) (live sheet program nodes ranges key from budget bytes) in
      let b = live-few sheet program nodes ranges key from budget bytes in
      omega (arith, a, b)

  attribute-few : (html : Bool) (attributes : List Attribute) → length (attribute_scan sheet program nodes ranges name key child of_type html attributes from budget bytes) ≤ budget
  unfolding attribute_scan
  attribute-few html attributes =
      let a = keep-few (all_pass sheet program name key child of_type html attributes) (ats (live sheet program nodes ranges key from budget bytes)) in
      let b = length-ats (live sheet program nodes ranges key from budget bytes) in
      let c = live-few sheet program nodes ranges key from budget bytes in
      omega (arith, a, b, c)

pub begin-few : (sheet program rows names nodes name : List ℕ) (kind : ℕ) → length (found_in (begin sheet program rows names nodes name kind)) ≤ node_count sheet
unfolding begin found_in
begin-few sheet program rows names nodes name kind = go (is_html kind)
  where
    go : (b : Bool) → length (found_in (cond b (tag_scan sheet program nodes (live_ranges sheet rows) name (name_key name) (child_position rows) (type_position rows names name) (first_live sheet rows) (node_count sheet) (length sheet)) (stopped [] (first_live sheet rows)))) ≤ node_count sheet
    go true = tag-few sheet program nodes (live_ranges sheet rows) name (name_key name) (child_position rows) (type_position rows names name) (first_live sheet rows) (node_count sheet) (length sheet)
    go false = omega arith

pub resumed-few : (sheet program rows names nodes name input outlines : List ℕ) → get_or rows 7 0 ≤ node_count sheet → length (resumed sheet program rows names nodes name input outlines) ≤ node_count sheet
unfolding resumed
resumed-few sheet program rows names nodes name input outlines h =
    let a = attribute-few sheet program nodes (live_ranges sheet rows) name (name_key name) (child_position rows) (type_position rows names name) (held_cursor rows) (node_count sheet - get_or rows 7 0) (length sheet) (is_html (held_kind rows)) (attributes_of input outlines) in
    let b = length-cells nodes found_from (get_or rows 7 0) in
    rw length-append (omega (arith, a, b, h))

pub count-is : (s : Sought) (r : Scanned) → r ≡ answer_from 0 s → r.count ≡ length (found_in s)
unfolding answer_from found_in
count-is (over found) r e = ap (λ (x : Scanned). x.count) e ∙ zero-add (length found)
count-is (stopped found c) r e = ap (λ (x : Scanned). x.count) e ∙ zero-add (length found)
