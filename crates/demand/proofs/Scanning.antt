-- The scans over the live instructions are those of the machine that the stores stand for.
use Rattle.std.specs.Prelude.{◌≡◌, Bool, cond, ◌&&◌, ℕ, zero, suc, ◌+◌, ◌-◌, ◌/◌, ◌%◌, ◌<◌, ◌≤◌, leb}
use Rattle.std.proofs.Math.Path.{refl, ap}
use Rattle.std.proofs.Common.{sym, ◌∙◌, subst, leb-true}
use Rattle.std.proofs.Math.Bool.{true, false}
use mathlib.Core.List.{List, [], ◌∷◌, ◌++◌}
use native.Mathlib.Omega.{arith}
use Rattle.std.proofs.Math.Numerals.{add-one}
use Rattle.std.proofs.Math.ListN.{length}
use Rattle.std.proofs.Math.Dec.{eqb}
use Rattle.names.specs.Names.{name_key}
use Rattle.rules.specs.Attributes.{attributes_of}
use Rattle.sheet.specs.Parser.{node_count, root_count}
use Rattle.cursors.specs.declared.Cursor.{Cursor}
use Rattle.cursors.specs.declared.Ranges.{Ranges}
use Rattle.cursors.specs.Cursors.{cursor_of, first_cursor, range_at, left_in, ride, in_range, rides, later, rest, ats}
use Rattle.cursors.specs.CursorLaws.{Own, own_first}
use Rattle.instructions.specs.Instructions.{key_fits, tag_passes, attribute_passes, asks}
use Rattle.exec.specs.Scans as scans
use Rattle.exec.specs.Scans.{Sought, over, stopped, with_found, seek, tests_taken, tag_scan, all_pass}
use Rattle.exec.specs.ScanLaws.{tests_in, length-ats, forget, seek-scan, tag-scan-all, attribute-scan-all}
use Rattle.stack.specs.Stores as stack
use Rattle.stack.specs.Stores.{Stores, row_word, count_limit, one_more, held_found, held_name, held_kind}
use Rattle.stack.specs.Laws.{one_more_lem}
use Rattle.shapes.specs.Shapes.{esi_on, types_counted}
use Rattle.course.specs.Course as course
use Rattle.course.specs.Course.{live_ranges, first_live, held_cursor, is_html, child_position, type_position, begin, resumed}
use Rattle.making.specs.Making.{flags_of}
use Rattle.meaning.specs.Lists.{keep, put_if}
use Rattle.meaning.specs.Elements.{Tag}
use Rattle.meaning.specs.Machine.{Scan, done, stuck, found_too, visit, scan, times_of, live_at, number, number_of_name, passes, scan_if}
use Rattle.meaning.specs.Machine as meaning
use Rattle.demand.specs.Rows.{bytes_at, test_bytes, Compiled, rows_program}
use Rattle.demand.specs.Decode.{hd, view, pairs_at, level_at, stack_of, held_tag, rest_of, tidy-km, tidy-pm}
use Rattle.demand.proofs.Reading.{times-top, live_all}
use Rattle.demand.proofs.Counting.{Good}
use Rattle.demand.proofs.Moving.{Header}

tests-light : (sheet program : List ℕ) (key : ℕ) (cs : List Cursor) → tests_in sheet program key cs ≤ test_bytes sheet program (ats cs)
unfolding tests_in tests_taken
tests-light sheet program key [] = omega arith
tests-light sheet program key (c ∷ cs) = go (key_fits program key c.at) (tests-light sheet program key cs)
  where
    go : (b : Bool) → tests_in sheet program key cs ≤ test_bytes sheet program (ats cs) → cond b (bytes_at sheet program c.at) 0 + tests_in sheet program key cs ≤ bytes_at sheet program c.at + test_bytes sheet program (ats cs)
    go true h = omega arith
    go false h = omega arith

-- ---- the numbers of a cursor fit their cells
abbrev pub Small : Cursor → Type 0
Small c = (c.slot < 4294967296) × (c.at < 4294967296) × (c.stop < 4294967296)

abbrev AllSmall : List Cursor → Type 0
AllSmall [] = Unit
AllSmall (c ∷ cs) = Small c × AllSmall cs

all_cat : (xs ys : List Cursor) → AllSmall xs → AllSmall ys → AllSmall (xs ++ ys)
all_cat [] ys a b = b
all_cat (x ∷ xs) ys (a, as') b = (a, all_cat xs ys as' b)

all-ride : (stage slot stop at n : ℕ) → slot < 4294967296 → stop < 4294967296 → n ≡ stop - at → AllSmall (ride stage slot stop at n)
unfolding ride
all-ride stage slot stop at zero h k e = tt
all-ride stage slot stop at (suc n) h k e = ((h, omega arith, k), all-ride stage slot stop (at + 1) n h k (omega arith))

all-range : (limit : ℕ) (c : Cursor) → limit ≤ 1024 → c.slot < 4294967296 → AllSmall (in_range limit c)
unfolding left_in ride
all-range limit c h k = go (leb c.stop limit) refl
  where
    go : (b : Bool) → leb c.stop limit ≡ b → AllSmall (ride c.stage c.slot c.stop c.at (cond b (c.stop - c.at) 0))
    go true e = let z = leb-true c.stop limit e in all-ride c.stage c.slot c.stop c.at (c.stop - c.at) k (omega arith) refl
    go false e = tt

all-rides : (program nodes : List ℕ) (limit w stage slot n : ℕ) → limit ≤ 1024 → slot + n < 4294967296 → AllSmall (rides program nodes limit w stage slot n)
unfolding rides range_at
all-rides program nodes limit w stage slot zero h k = tt
all-rides program nodes limit w stage slot (suc n) h k =
    all_cat (in_range limit (range_at program nodes w stage slot)) (rides program nodes limit w stage (slot + 1) n)
    (all-range limit (range_at program nodes w stage slot) h (omega arith)) (all-rides program nodes limit w stage (slot + 1) n h (omega arith))

all_first : (program nodes : List ℕ) (m : Ranges) (slot roots : ℕ) → m.limit ≤ 1024 → slot ≤ m.parents_top → m.ancestors_from ≤ m.ancestors_top → m.parents_top < 4294967296 → m.ancestors_top < 4294967296
    → AllSmall (rest program nodes m (first_cursor slot roots))
unfolding rest later first_cursor
all_first program nodes m slot roots h a b c d =
    all_cat (in_range m.limit (cursor_of 0 slot 0 roots)) _ (all-range m.limit (cursor_of 0 slot 0 roots) h (omega arith))
    (all_cat (rides program nodes m.limit 3 0 slot (m.parents_top - slot)) _ (all-rides program nodes m.limit 3 0 slot (m.parents_top - slot) h (omega arith))
    (all-rides program nodes m.limit 5 1 m.ancestors_from (m.ancestors_top - m.ancestors_from) h (omega arith)))

-- ---- where a scan stops: a small cursor; what was found and what is left are at most what was live, and so are the bytes of its tests
module _ (sheet program nodes : List ℕ) (m : Ranges) where
  unfoldable pub Stop : ℕ → ℕ → Sought → Type 0
  Stop n b (over found) = length found ≤ n
  Stop n b (stopped found c) = Small c × (length found + length (rest program nodes m c) ≤ n) × (test_bytes sheet program (ats (rest program nodes m c)) ≤ b)

  pub stop-more : (n k a b : ℕ) (s : Sought) → n ≤ k → a ≤ b → Stop n a s → Stop k b s
  unfolding Stop
  stop-more n k a b (over found) l r h = omega arith
  stop-more n k a b (stopped found c) l r (x, h, y) = (x, omega arith, omega arith)

  pub stop-either : (n b : ℕ) (c : Bool) (x y : Sought) → Stop n b x → Stop n b y → Stop n b (cond c x y)
  stop-either n b true x y h k = h
  stop-either n b false x y h k = k

  stop-found : (n b a : ℕ) (s : Sought) → Stop n b s → Stop (suc n) b (with_found a s)
  unfolding with_found Stop
  stop-found n b a (over found) h = omega arith
  stop-found n b a (stopped found c) (x, h, y) = (x, omega arith, y)

  pub seek_stop : (p q : ℕ → Bool) (cs : List Cursor) → Own program nodes m cs → AllSmall cs → Stop (length cs) (test_bytes sheet program (ats cs)) (seek p q cs)
  unfolding seek Stop
  seek_stop p q [] o a = omega arith
  seek_stop p q (c ∷ cs) (e, o) (a, as') = go (p c.at) (q c.at) (seek_stop p q cs o as')
    where
      go : (x y : Bool) → Stop (length cs) (test_bytes sheet program (ats cs)) (seek p q cs)
          → Stop (suc (length cs)) (bytes_at sheet program c.at + test_bytes sheet program (ats cs)) (cond x (cond y (stopped [] c) (with_found c.at (seek p q cs))) (seek p q cs))
      go true true h = let k = ap length e in let l = ap (λ z. test_bytes sheet program (ats z)) e in (a, omega arith, omega arith)
      go true false h =
          stop-more (suc (length cs)) (suc (length cs)) (test_bytes sheet program (ats cs)) (bytes_at sheet program c.at + test_bytes sheet program (ats cs)) (with_found c.at (seek p q cs)) (omega arith) (omega arith)
          (stop-found (length cs) (test_bytes sheet program (ats cs)) c.at (seek p q cs) h)
      go false y h = stop-more (length cs) (suc (length cs)) (test_bytes sheet program (ats cs)) (bytes_at sheet program c.at + test_bytes sheet program (ats cs)) (seek p q cs) (omega arith) (omega arith) h

keeps : (p : ℕ → Bool) (xs : List ℕ) → scans.keep p xs ≡ keep p xs
unfolding scans.keep
keeps p [] = refl
keeps p (x ∷ xs) = go (p x) (keeps p xs)
  where
    go : (b : Bool) → scans.keep p xs ≡ keep p xs → cond b (x ∷ scans.keep p xs) (scans.keep p xs) ≡ put_if b x (keep p xs)
    go true h = ap (λ l. x ∷ l) h
    go false h = h

scan-more : (p q : ℕ → Bool) (a : ℕ) (as' : List ℕ) → scan p q (a ∷ as') ≡ cond (p a) (cond (q a) (stuck [] (a ∷ as')) (found_too a (scan p q as'))) (scan p q as')
scan-more p q a as' = go (p a) (q a)
  where
    go : (x y : Bool) → visit p q x y a as' (scan p q as') ≡ cond x (cond y (stuck [] (a ∷ as')) (found_too a (scan p q as'))) (scan p q as')
    go true true = refl
    go true false = refl
    go false y = refl

module _ (C : Compiled) (esi : Bool) (s : Stores) (g : Good C.types s) (h : Header C esi s) where
  open C use {sheet, program, types}

  -- ---- the flags
  pub esi-is : esi_on s.rows ≡ esi
  unfolding esi_on
  esi-is = rw h.flags (go esi types)
    where
      go : (a b : Bool) → eqb (flags_of a b % 2) 1 ≡ a
      go true true = refl
      go true false = refl
      go false true = refl
      go false false = refl

  pub types-is : types_counted s.rows ≡ types
  unfolding types_counted
  types-is = rw h.flags (go esi types)
    where
      go : (a b : Bool) → eqb (flags_of a b / 2 % 2) 1 ≡ b
      go true true = refl
      go true false = refl
      go false true = refl
      go false false = refl

  -- ---- the positions
  module _ (few : (stack_of s).top.children < count_limit) where
    pub child-position : child_position s.rows ≡ number (rows_program C) (stack_of s)
    unfolding child_position stack.children level_at
    child-position = one_more_lem (row_word s.rows (hd s 0) 1) few ∙ add-one (row_word s.rows (hd s 0) 1)

    pub type-position : (x : List ℕ) → times_of x (stack_of s).top.types < count_limit → type_position s.rows s.names x ≡ number_of_name (rows_program C) (stack_of s) x
    unfolding type_position level_at pairs_at
    type-position x rare =
        let p = tidy-pm (view s) (hd s 0) (hd s 1) (hd s 2) (hd s 3) g.tidy in
        let e = times-top s p x in
        rw (types-is, e) (go types refl)
      where
        none : types ≡ false → times_of x (stack_of s).top.types ≡ 0
        none t = let p = tidy-pm (view s) (hd s 0) (hd s 1) (hd s 2) (hd s 3) g.tidy in let q = g.plain t in let z : hd s 3 - row_word s.rows (hd s 0) 4 ≡ 0 = omega arith in rw z

        go : (b : Bool) → types ≡ b → cond b (one_more (times_of x (stack_of s).top.types)) 1 ≡ suc (times_of x (stack_of s).top.types)
        go true t = one_more_lem (times_of x (stack_of s).top.types) rare ∙ add-one (times_of x (stack_of s).top.types)
        go false t = rw (none t)

  -- ---- the first scan

  -- A tag by its lower-cased name and its kind.
  abbrev pub tag_at : List ℕ → ℕ → Tag
  tag_at x kind = record { name = x; namespace = kind % 4; void = eqb (kind / 4 % 2) 1 }

  -- What a scan found and what is left, as addresses.
  abbrev pub forgotten : Sought → Scan
  forgotten f = forget program s.nodes (live_ranges sheet s.rows) done stuck found_too (λ a found. refl) (λ a found left. refl) f

  abbrev first : Cursor
  first = first_live sheet s.rows

  -- What a scan charges for tests is at most what they take.
  tests-few : (key : ℕ) (cs : List Cursor) → test_bytes sheet program (ats cs) ≤ length sheet → tests_in sheet program key cs ≤ length sheet
  tests-few key cs h = let l = tests-light sheet program key cs in omega (arith, l, h)

  module _ (fits : length (live_at (rows_program C) (stack_of s)) ≤ node_count sheet) (light : test_bytes sheet program (live_at (rows_program C) (stack_of s)) ≤ length sheet) where
    slot-low : row_word s.rows (hd s 0) 2 ≤ hd s 1
    slot-low = tidy-km (view s) (hd s 0) (hd s 1) (hd s 2) (hd s 3) g.tidy

    own : Own program s.nodes (live_ranges sheet s.rows) (rest_of sheet program s first)
    own = own_first program s.nodes (live_ranges sheet s.rows) (row_word s.rows (hd s 0) 2) (root_count sheet) slot-low (omega arith)

    all_small : AllSmall (rest_of sheet program s first)
    all_small = all_first program s.nodes (live_ranges sheet s.rows) (row_word s.rows (hd s 0) 2) (root_count sheet) C.few slot-low (omega arith) (omega (arith, g.kt)) (omega (arith, g.at))

    rest-fits : length (rest_of sheet program s first) ≤ node_count sheet
    rest-fits = let e = length-ats (rest_of sheet program s first) in let k = ap length (live_all C s g.tidy) in omega arith

    rest-light : test_bytes sheet program (ats (rest_of sheet program s first)) ≤ length sheet
    rest-light = let k = ap (test_bytes sheet program) (live_all C s g.tidy) in omega arith

    stop-first : Stop sheet program s.nodes (live_ranges sheet s.rows) (node_count sheet) (length sheet) (stopped [] first)
    unfolding Stop first_cursor
    stop-first = let r = rest-fits in let y = rest-light in let l = slot-low in let a = C.roots_fit in let b = C.few in let c = g.kt in ((omega arith, omega arith, omega arith), omega arith, y)

    module _ (x : List ℕ) (kind : ℕ) where
      scan-all : tag_scan sheet program s.nodes (live_ranges sheet s.rows) x (name_key x) (child_position s.rows) (type_position s.rows s.names x) first (node_count sheet) (length sheet)
          ≡ seek (tag_passes sheet program x (name_key x) (child_position s.rows) (type_position s.rows s.names x)) (asks program) (rest_of sheet program s first)
      scan-all = tag-scan-all sheet program s.nodes (live_ranges sheet s.rows) x (name_key x) (child_position s.rows) (type_position s.rows s.names x) true [] first (node_count sheet) (length sheet) rest-fits (tests-few (name_key x) (rest_of sheet program s first) rest-light)

      -- The first scan stops in good order.
      pub begin-stop : Stop sheet program s.nodes (live_ranges sheet s.rows) (node_count sheet) (length sheet) (course.begin sheet program s.rows s.names s.nodes x kind)
      unfolding begin first_cursor
      begin-stop =
          let p = tag_passes sheet program x (name_key x) (child_position s.rows) (type_position s.rows s.names x) in
          stop-either sheet program s.nodes (live_ranges sheet s.rows) (node_count sheet) (length sheet) (is_html kind) _ _
          (subst (Stop sheet program s.nodes (live_ranges sheet s.rows) (node_count sheet) (length sheet)) (sym scan-all)
          (stop-more sheet program s.nodes (live_ranges sheet s.rows) (length (rest_of sheet program s first)) (node_count sheet) (test_bytes sheet program (ats (rest_of sheet program s first))) (length sheet) (seek p (asks program) (rest_of sheet program s first)) rest-fits rest-light
          (seek_stop sheet program s.nodes (live_ranges sheet s.rows) p (asks program) (rest_of sheet program s first) own all_small)))
          stop-first

      module _ (few : (stack_of s).top.children < count_limit) (rare : times_of x (stack_of s).top.types < count_limit) where
        -- It is the machine's.
        pub begin-right : forgotten (course.begin sheet program s.rows s.names s.nodes x kind) ≡ meaning.begin (rows_program C) (stack_of s) (tag_at x kind)
        unfolding begin is_html
        begin-right = go (eqb (kind % 4) 0)
          where
            go : (b : Bool) → forgotten (cond b (tag_scan sheet program s.nodes (live_ranges sheet s.rows) x (name_key x) (child_position s.rows) (type_position s.rows s.names x) first (node_count sheet) (length sheet)) (stopped [] first))
                ≡ scan_if (rows_program C) b (stack_of s) (tag_at x kind)
            go true =
                let p = tag_passes sheet program x (name_key x) (child_position s.rows) (type_position s.rows s.names x) in
                ap forgotten scan-all
                ∙ seek-scan program s.nodes (live_ranges sheet s.rows) done stuck found_too (λ a found. refl) (λ a found left. refl) p (asks program) (scan p (asks program)) refl (scan-more p (asks program)) (rest_of sheet program s first) own
                ∙ (λ i. scan (λ n. tag_passes sheet program x (name_key x) (child-position few i) (type-position few x rare i) n) (asks program) (live_all C s g.tidy i))
            go false = ap (stuck []) (live_all C s g.tidy)

  -- ---- going on
  module _ (few : (stack_of s).top.children < count_limit) (rare : times_of (held_tag s).name (stack_of s).top.types < count_limit) (budget : length (rest_of sheet program s (held_cursor s.rows)) ≤ node_count sheet - hd s 7) (light : test_bytes sheet program (ats (rest_of sheet program s (held_cursor s.rows))) ≤ length sheet) (input outlines : List ℕ) where
    -- What is found with the attributes is what the machine finds.
    pub resume-right : resumed sheet program s.rows s.names s.nodes (held_name s.rows s.names) input outlines
        ≡ held_found s.rows s.nodes ++ keep (passes (rows_program C) (stack_of s) (held_tag s) (record { input = input; outlines = outlines })) (ats (rest_of sheet program s (held_cursor s.rows)))
    unfolding resumed is_html all_pass
    resume-right =
        let x = held_name s.rows s.names in
        let p = all_pass sheet program x (name_key x) (child_position s.rows) (type_position s.rows s.names x) (is_html (held_kind s.rows)) (attributes_of input outlines) in
        ap (λ l. held_found s.rows s.nodes ++ l)
        (attribute-scan-all sheet program s.nodes (live_ranges sheet s.rows) x (name_key x) (child_position s.rows) (type_position s.rows s.names x) (is_html (held_kind s.rows)) (attributes_of input outlines) (held_cursor s.rows) (node_count sheet - hd s 7) (length sheet) budget (tests-few (name_key x) (rest_of sheet program s (held_cursor s.rows)) light)
        ∙ keeps p (ats (rest_of sheet program s (held_cursor s.rows)))
        ∙ (λ i. keep (λ n. tag_passes sheet program x (name_key x) (child-position few i) (type-position few x rare i) n && attribute_passes sheet program (is_html (held_kind s.rows)) (attributes_of input outlines) n) (ats (rest_of sheet program s (held_cursor s.rows)))))
