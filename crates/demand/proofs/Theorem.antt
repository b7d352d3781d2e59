-- Demand 3 on bytes is proved.
use Rattle.std.specs.Prelude.{◌≡◌, refl, Bool, true, false, cond, not, ◌&&◌, ℕ, ◌+◌, ◌*◌, ◌%◌, ◌<◌, ◌≤◌, get_or, ltb, leb}
use Rattle.std.proofs.Common.{sym, ◌∙◌, subst}
use Rattle.std.proofs.Math.Path.{ap}
use Rattle.std.proofs.lemmas.Bool.{false≢true}
use mathlib.Core.List.{List, map}
use native.Mathlib.Omega.{arith}
use Rattle.std.proofs.Math.ListN.{length}
use Rattle.std.proofs.lemmas.List.Edits.{sets}
use borrow.Author.Tests.{le-ltb, ltb-false, leb-true}
use Rattle.rules.specs.Attributes.{good_outlines}
use Rattle.node_records.specs.Records.{NodeRecord}
use Rattle.sheet.specs.Parser.{Parsed, parse_sheet, node_count}
use Rattle.sheet.specs.Spelling.{Sheet}
use Rattle.sheet.proofs.SpellingLaws.{good-sheet}
use Rattle.program.specs.Program.{rows, uses_nth_of_type}
use Rattle.compiler.specs.Compiler.{places, compiled_of, store_of}
use Rattle.stack.specs.Stores.{Stores, stores, rows_size, names_size, ids_size, nodes_size, fresh_rows}
use Rattle.shapes.specs.Shapes.{made_mark, sized}
use Rattle.making.specs.Making.{Made, Fresh, fresh, flags_of, fresh_of, fresh_call}
use Rattle.meaning.specs.Lists.{◌∈◌, here, there, Distinct}
use Rattle.meaning.specs.Document.{start}
use Rattle.meaning.specs.Trees.{Forest, size}
use Rattle.meaning.specs.Layout.{layout}
use Rattle.meaning.specs.Match.{Way}
use Rattle.meaning.specs.Elements.{Where, Name, Tag, Given, Element, element, has_content}
use Rattle.meaning.specs.Limits.{section_2, bad_name}
use Rattle.meaning.specs.Calls.{Load, Call, Answer, matched, attributes_wanted, popped, top_ids, nothing_open, refused}
use Rattle.meaning.specs.Machine.{Machine, empty, run}
use Rattle.meaning.specs.Demand.{Moment, idle, Comes, refused_push, accepted, Does, start_refused, start_waits, start_whole, start_early, attributes_unasked, attributes_refused, attributes_whole, end_early, end_refused, end_pops, asked_top, asked_none, Goes, over, goes}
use Rattle.meaning.proofs.Answering.{at_rest}
use Rattle.meaning.proofs.Shape.{way-below}
use Rattle.meaning.proofs.Reading.{reads-shaped, reads-carries}
use Rattle.meaning.proofs.Theorem.{demand-3}
use Rattle.demand.specs.Sheets.{Lent, lent_tests, sheet_program}
use Rattle.demand.specs.Statement.{refusing, HostCall, call_of, answers, made_in, Demand3OnBytes}
use Rattle.demand.specs.Rows.{test_bytes, Compiled, rows_program, roots_of, hung_of}
use Rattle.demand.specs.Decode.{decode}
use Rattle.demand.proofs.Moving as moving
use Rattle.demand.proofs.Bridging as bridging
use Rattle.demand.proofs.Fitting.{rooms}
use Rattle.demand.proofs.Compiling.{made, made_reads}
use Rattle.demand.proofs.Weighing.{few_bytes}
use Rattle.demand.proofs.Turning.{goes-turn}

-- ---- no refusal is 30 or more
abbrev refusal_of : {A : Type 0} → Answer A → ℕ
refusal_of (refused n) = n
refusal_of (matched ids content) = 0
refusal_of attributes_wanted = 0
refusal_of (popped ls) = 0
refusal_of (top_ids ids) = 0
refusal_of nothing_open = 0

start-low : (a b c d : Bool) → cond a 20 (cond b 21 (cond c 25 (cond d 26 0))) < 30
start-low true b c d = omega arith
start-low false true c d = omega arith
start-low false false true d = omega arith
start-low false false false true = omega arith
start-low false false false false = omega arith

two-low : (m n : ℕ) → m < 30 → n < 30 → (a b : Bool) → cond a m (cond b n 0) < 30
two-low m n h k true b = h
two-low m n h k false true = k
two-low m n h k false false = omega arith

one-low : (a : Bool) → cond a 24 0 < 30
one-low true = omega arith
one-low false = omega arith

start-refusal-low : (w : Load) (t : Tag) → refusing.at_start w t < 30
start-refusal-low w t = start-low (bad_name section_2 t.name) (ltb 2 t.namespace) (leb 2147483647 w.children) (w.new_pair && leb 512 w.pairs)

push-refusal-low : (w : Load) (content : Bool) (givers : ℕ) → refusing.at_push w content givers < 30
push-refusal-low w content givers = two-low 27 28 (omega arith) (omega arith) (content && leb 256 w.opens) (content && ltb 4096 (w.givers + givers))

attributes-refusal-low : (g : Lent) → refusing.at_attributes g < 30
attributes-refusal-low g = one-low (not (good_outlines g.input g.outlines))

end-refusal-low : (x : Name) (room n : ℕ) → refusing.at_end x room n < 30
end-refusal-low x room n = two-low 20 29 (omega arith) (omega arith) (bad_name section_2 x) (ltb room (n * 2))

module _ (f : Forest NodeRecord) (ghost : Where Lent → Tag → Given Lent) where
  comes-low : (old : Moment Lent) (c : Where Lent) (e : Element Lent) (a : Answer (List ℕ)) (m : Moment Lent) → Comes lent_tests f (sheet_program f) refusing ghost old c e a m → refusal_of a < 30
  comes-low old c e a m (refused_push (w, g, l, h, z)) = subst (λ (n : ℕ). n < 30) z (push-refusal-low w (has_content e) g)
  comes-low old c e a m (accepted h l) = omega arith

  does-low : (m : Moment Lent) (x : Call Lent) (a : Answer (List ℕ)) (k : Moment Lent) → Does lent_tests f (sheet_program f) refusing ghost m x a k → refusal_of a < 30
  does-low m x a k (start_refused {t = t} (w, l, z)) = subst (λ (n : ℕ). n < 30) z (start-refusal-low w t)
  does-low m x a k (start_waits h w) = omega arith
  does-low m x a k (start_whole {c = c} {t = t} h w e) = comes-low m c (element t (ghost c t)) a k e
  does-low m x a k start_early = omega arith
  does-low m x a k attributes_unasked = omega arith
  does-low m x a k (attributes_refused {g = g} z) = subst (λ (n : ℕ). n < 30) z (attributes-refusal-low g.attributes)
  does-low m x a k (attributes_whole {c = c} {t = t} {g = g} h e) = comes-low m c (element t g) a k e
  does-low m x a k end_early = omega arith
  does-low m x a k (end_refused {x = y} {room = room} {ss = ss} h z) = subst (λ (n : ℕ). n < 30) z (end-refusal-low y room (length ss))
  does-low m x a k (end_pops h e l) = omega arith
  does-low m x a k (asked_top h l) = omega arith
  does-low m x a k (asked_none h) = omega arith

  goes-low : (m : Moment Lent) (xs : List (Call Lent)) (as' : List (Answer (List ℕ))) → Goes lent_tests f (sheet_program f) refusing ghost m xs as' → (r : ℕ) → refused r ∈ as' → r < 30
  goes-low m xs as' over r h = elim h [ ]
  goes-low m xs as' (goes {k = k} {x = x} {a = a} d g) r (here e) = subst (λ (n : ℕ). n < 30) (sym (ap refusal_of e)) (does-low m x a k d)
  goes-low m xs as' (goes {k = k} {xs = ys} {as' = bs} d g) r (there h) = goes-low k ys bs g r h

-- ---- sizes
sizes : (s : Stores) → sized s ≡ true → (rows_size ≤ length s.rows) × (names_size ≤ length s.names) × (ids_size ≤ length s.ids) × (nodes_size ≤ length s.nodes)
unfolding sized
sizes s e = go (ltb (length s.rows) rows_size) refl (ltb (length s.names) names_size) refl (ltb (length s.ids) ids_size) refl e
  where
    go : (a : Bool) → ltb (length s.rows) rows_size ≡ a → (b : Bool) → ltb (length s.names) names_size ≡ b → (c : Bool) → ltb (length s.ids) ids_size ≡ c → cond a false (cond b false (cond c false (leb nodes_size (length s.nodes)))) ≡ true
        → (rows_size ≤ length s.rows) × (names_size ≤ length s.names) × (ids_size ≤ length s.ids) × (nodes_size ≤ length s.nodes)
    go true p b q c r e = absurd (false≢true e)
    go false p true q c r e = absurd (false≢true e)
    go false p false q true r e = absurd (false≢true e)
    go false p false q false r e = (ltb-false _ _ p, ltb-false _ _ q, ltb-false _ _ r, leb-true _ _ e)

module _ (sheet : List ℕ) (bytes : (i : ℕ) → get_or sheet i 0 < 256) (f : Forest NodeRecord) (next : ℕ) (parsed : parse_sheet sheet ≡ Parsed.read f next) (esi : Bool) (program : List ℕ) (s : Stores) (room : size f ≤ places program) (big : sized s ≡ true) where
  good : Sheet sheet f
  good = good-sheet sheet f next parsed

  abbrev C : Compiled
  C = made sheet program bytes f good room

  abbrev after : Stores
  after = stores (fresh_rows s.rows made_mark (length sheet) (flags_of esi (uses_nth_of_type f))) s.names s.ids s.nodes

  -- A fresh machine is made.
  fresh-is : fresh_call sheet esi program s ≡ fresh Made.Ready (sets program 0 (rows (layout 0 f))) (fresh_rows s.rows made_mark (length sheet) (flags_of esi (uses_nth_of_type f)))
  unfolding fresh_call fresh_of compiled_of store_of
  fresh-is =
      let h = good.short in
      let z : length sheet % 4294967296 ≡ length sheet = omega arith in
      rw (big, parsed, le-ltb (places program) (size f) room, z, parsed, le-ltb (places program) (size f) room)

  module _ (ghost : Where Lent → Tag → Given Lent) (xs : List HostCall) where
    answered : answers sheet (sets program 0 (rows (layout 0 f))) after xs ≡ run (rows_program C) refusing (Machine.ready empty) (map (call_of esi) xs)
    unfolding uses_nth_of_type fresh_rows
    answered =
        let (fr, fn, fi, fk) = sizes s big in
        let g = moving.fresh-good C esi s fr fn fi fk in
        let h = moving.fresh-header C esi s fr fn fi fk in
        let z = moving.fresh-flag C esi s fr fn fi fk in
        let d : decode sheet (sets program 0 (rows (layout 0 f))) after ≡ Machine.ready empty = bridging.at_rest C esi after z ∙ ap Machine.ready (moving.fresh-stack C esi s fr fn fi fk) in
        let reads = made_reads sheet program bytes f good room in
        let below : (a : ℕ) → Way (roots_of C.sheet C.program) (hung_of C.sheet C.program) a → a < node_count sheet = λ a way. let k = way-below f (rows_program C).roots (rows_program C).hung reads.roots reads.hung a way in let n = good.nodes in omega arith in
        let light : (xs : List ℕ) → Distinct xs → ((x : ℕ) → x ∈ xs → x < node_count sheet) → test_bytes sheet C.program xs ≤ length sheet = λ xs d h. few_bytes sheet program bytes f good room xs d (λ x m. let k = h x m in let n = good.nodes in omega arith) in
        let fits = rooms C esi (reads-shaped lent_tests f (rows_program C) reads) below light ghost (Machine.ready empty) (idle start) (at_rest start) (map (call_of esi) xs) in
        bridging.run-met C esi after (bridging.rest-fine C esi after g h z) xs (subst (λ m. bridging.Rooms C esi m (map (call_of esi) xs)) (sym d) fits)
        ∙ ap (λ m. run (rows_program C) refusing m (map (call_of esi) xs)) d

    goes_on : Goes lent_tests f (sheet_program f) refusing ghost (idle start) (map (call_of esi) xs) (answers sheet (sets program 0 (rows (layout 0 f))) after xs)
    goes_on =
        let reads = made_reads sheet program bytes f good room in
        goes-turn C f reads ghost (idle start) (map (call_of esi) xs) (answers sheet (sets program 0 (rows (layout 0 f))) after xs)
        (subst (λ l. Goes lent_tests f (rows_program C) refusing ghost (idle start) (map (call_of esi) xs) l) (sym answered)
        (demand-3 Lent lent_tests f (rows_program C) (reads-carries lent_tests f (rows_program C) reads) refusing ghost (map (call_of esi) xs)))

    holds : (m : Fresh) → m ≡ fresh Made.Ready (sets program 0 (rows (layout 0 f))) after.rows
        → (m.made ≡ Made.Ready) × Goes lent_tests f (sheet_program f) refusing ghost (idle start) (map (call_of esi) xs) (answers sheet m.program (made_in s m) xs) × ((r : ℕ) → refused r ∈ answers sheet m.program (made_in s m) xs → r < 30)
    holds m e =
        subst (λ (k : Fresh). (k.made ≡ Made.Ready) × Goes lent_tests f (sheet_program f) refusing ghost (idle start) (map (call_of esi) xs) (answers sheet k.program (made_in s k) xs) × ((r : ℕ) → refused r ∈ answers sheet k.program (made_in s k) xs → r < 30)) (sym e)
        (refl, goes_on, goes-low f ghost (idle start) (map (call_of esi) xs) (answers sheet (sets program 0 (rows (layout 0 f))) after xs) goes_on)

-- DEMAND 3 ON BYTES.
pub demand-3-on-bytes : Demand3OnBytes
demand-3-on-bytes sheet bytes f next parsed esi program s room big ghost xs = holds sheet bytes f next parsed esi program s room big ghost xs (fresh_call sheet esi program s) (fresh-is sheet bytes f next parsed esi program s room big)
