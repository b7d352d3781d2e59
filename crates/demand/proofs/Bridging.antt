-- THE BRIDGE: a call on stores is a step of the machine that the stores stand for.
use Rattle.std.proofs.Math.Path.{◌≡◌, refl, ap, subst}
use Rattle.std.proofs.Common.{sym, ◌∙◌, ap₂}
use Rattle.std.specs.Prelude.{Bool, ◌&&◌, ◌||◌, List, [], ◌∷◌, ◌++◌, map, reverse, get_or, take, eqb, ltb}
use Rattle.std.proofs.Math.Bool.{true, false, cond, not}
use Rattle.std.proofs.lemmas.Bool.{false≢true}
use Prim.Native.Nat.{ℕ, zero, suc, ◌+◌, ◌-◌, ◌*◌, ◌/◌, ◌%◌, ◌<◌, ◌≤◌}
use native.Mathlib.Omega.{arith}
use Rattle.std.proofs.Math.ListN.{length}
use Rattle.std.proofs.lemmas.List.{length-map}
use Rattle.std.proofs.Math.Dec.{leb}
use borrow.Author.Tests.{le-ltb, lt-leb, le-leb, ltb-true, ltb-false, leb-false, eqb-true, eqb-false, eq-eqb, ne_eqb}
use Rattle.cells.specs.Stretches.{cells_or, cells_from, written, length-cells, get_in}
use Rattle.letters.specs.Bytes.{lower_of}
use Rattle.names.specs.Names.{void_name}
use Rattle.rules.specs.Attributes.{good_outlines}
use Rattle.sheet.specs.Parser.{node_count}
use Rattle.cursors.specs.declared.Cursor.{Cursor}
use Rattle.cursors.specs.Cursors.{ats}
use Rattle.exec.specs.Scans.{Sought, over, stopped}
use Rattle.stack.specs.Stores as stack
use Rattle.stack.specs.Stores.{Stores, stores, open_limit, pair_limit, parent_limit, ancestor_limit, found_limit, name_limit, id_words, rows_size, names_size, ids_size, nodes_size, ids_at, row_word, counted, pushed, popped_count, popped_rows, popped_ids, ids_of_top, back_to, held, released, held_name, held_found}
use Rattle.shapes.specs.Shapes.{made_mark, sized, header_shaped, shaped, state_refusal}
use Rattle.weighing.specs.Weighing.{is_bad_name, tag_refusal, pairs_full, push_refusal, attributes_refusal, end_refusal}
use Rattle.course.specs.Course as course
use Rattle.tags.specs.Tags as tags
use Rattle.ends.specs.Ends as ends
use Rattle.weighing.specs.Words.{cell, no_ids}
use Rattle.accepting.specs.Accepting as accepting
use Rattle.accepting.specs.Accepting.{Outcome, accepted}
use Rattle.tags.specs.Tags.{whole, lowered, given}
use Rattle.making.specs.Making.{flags_of}
use Rattle.ends.specs.Ends.{Popped, Top, Ended, top_reply, popping, end_call, id_set_call}
use Rattle.starts.specs.Starts.{start_call}
use Rattle.resumes.specs.Resumes.{attributes_call}
use Rattle.course.specs.Course.{live_ranges, kind_of, is_html, has_content, held_cursor}
use Rattle.meaning.specs.Lists.{keep, minus}
use Rattle.meaning.specs.Document.{child, descendant}
use Rattle.meaning.specs.Elements.{Name, Tag, content}
use Rattle.meaning.specs.Limits.{section_2, bad_name}
use Rattle.meaning.specs.Calls.{Program, Call, start_tag, attributes, end_tag, ids_asked, Answer, matched, attributes_wanted, popped, top_ids, refused}
use Rattle.meaning.specs.Machine as machine
use Rattle.meaning.specs.Machine.{Stack, Machine, Scan, done, stuck, known, times_of, bearing, nearest, first, ancestors_of, carried, live_at, accept, passes, pairs_of, weigh, top_of, refusal_of_push, answer_if, begin_if, close_if, end_if, step, run}
use Rattle.demand.specs.Sheets.{Lent}
use Rattle.demand.specs.Statement.{refusing, HostCall, host_start_tag, host_attributes, host_end_tag, host_ids_asked, call_of, words_from, top_answer, tag_answered, end_answered, called, answers}
use Rattle.demand.specs.Rows.{test_bytes, Compiled, rows_program, roots_of, hung_of}
use Rattle.demand.specs.Decode.{hd, view, level_at, items_at, stack_of, held_tag, rest_of, decode, tidy-pm}
use Rattle.demand.proofs.Reading.{bearing-child, ancestors-all, ancestors-new, open-all, parents-total, pairs-total, times-top, known-top, popped-top, popped-few, popped-words}
use Rattle.demand.proofs.Counting.{Good}
use Rattle.demand.proofs.Moving.{Header, header-kept, new_parents, unite, Roomy, Settled, settled, released-off, released-flag, released-same, wait-low, wait-high, wait-new, wait-same, wait-name, wait-rest, wait-decode, back-stack, back-good, back-rest}
use Rattle.demand.proofs.Scanning.{Small, Stop, esi-is, types-is, tag_at, forgotten, begin-stop, begin-right, resume-right}

or-cond : (a b : Bool) → cond a true b ≡ a || b
or-cond true b = refl
or-cond false b = refl

full_is : (u k : Bool) (p : ℕ) → cond (not u) false (cond (ltb p pair_limit) false (not k)) ≡ (u && not k) && leb pair_limit p
full_is false k p = refl
full_is true k p = go (ltb p pair_limit) refl k
  where
    go : (b : Bool) → ltb p pair_limit ≡ b → (k : Bool) → cond b false (not k) ≡ not k && leb pair_limit p
    go true e true = refl
    go true e false = sym (lt-leb pair_limit p (ltb-true _ _ e))
    go false e true = refl
    go false e false = sym (le-leb pair_limit p (ltb-false _ _ e))

door-is : (c a b : Bool) → ◌≡◌ {A = ℕ} (cond (not c) 0 (cond a 27 (cond b 28 0))) (cond (c && a) 27 (cond (c && b) 28 0))
door-is true a b = refl
door-is false a b = refl

door-chain : (a b : Bool) → ◌≡◌ {A = ℕ} (cond a 27 (cond b 28 0)) 0 → (a ≡ false) × (b ≡ false)
door-chain true b e = absurd (let q : ⊥ = omega arith in q)
door-chain false true e = absurd (let q : ⊥ = omega arith in q)
door-chain false false e = (refl, refl)

gate-chain : (a b c d : Bool) → ◌≡◌ {A = ℕ} (cond a 20 (cond b 21 (cond c 25 (cond d 26 0)))) 0 → (a ≡ false) × (b ≡ false) × (c ≡ false) × (d ≡ false)
gate-chain true b c d e = absurd (let q : ⊥ = omega arith in q)
gate-chain false true c d e = absurd (let q : ⊥ = omega arith in q)
gate-chain false false true d e = absurd (let q : ⊥ = omega arith in q)
gate-chain false false false true e = absurd (let q : ⊥ = omega arith in q)
gate-chain false false false false e = (refl, refl, refl, refl)

full-of : (u k : Bool) (p : ℕ) → (u && not k) && leb pair_limit p ≡ false → u ≡ true → k ≡ false → p < pair_limit
full-of true true p e a b = absurd (false≢true (sym b))
full-of true false p e a b = leb-false pair_limit p e
full-of false k p e a b = absurd (false≢true a)

name-fits : (x : List ℕ) → is_bad_name x ≡ false → length x ≤ name_limit
unfolding is_bad_name
name-fits x e = go (eqb (length x) 0) e
  where
    go : (b : Bool) → cond b true (ltb name_limit (length x)) ≡ false → length x ≤ name_limit
    go true e = absurd (false≢true (sym e))
    go false e = ltb-false name_limit (length x) e

kind-back : (n : ℕ) (v : Bool) → n ≤ 2 → (kind_of n v % 4 ≡ n) × (eqb (kind_of n v / 4 % 2) 1 ≡ v)
unfolding kind_of
kind-back zero true h = (refl, refl)
kind-back zero false h = (refl, refl)
kind-back (suc zero) true h = (refl, refl)
kind-back (suc zero) false h = (refl, refl)
kind-back (suc (suc zero)) true h = (refl, refl)
kind-back (suc (suc zero)) false h = (refl, refl)
kind-back (suc (suc (suc n))) v h = absurd (let q : ⊥ = omega arith in q)

bad-same : (name : List ℕ) → is_bad_name name ≡ bad_name section_2 (map lower_of name)
unfolding is_bad_name
bad-same name = rw (length-map name lower_of) (or-cond (eqb (length name) 0) (ltb name_limit (length name)))

-- ---- the id words that go out
get-cells : (xs : List ℕ) (a m j : ℕ) → j < m → get_or (cells_from xs a m) j 0 ≡ get_or xs (a + j) 0
unfolding cells_or
get-cells xs a zero j h = absurd (let q : ⊥ = omega arith in q)
get-cells xs a (suc m) zero h = let e : a + 0 ≡ a = omega arith in rw e
get-cells xs a (suc m) (suc j) h = let e : a + suc j ≡ a + 1 + j = omega arith in rw e (get-cells xs (a + 1) m j (omega arith))

words_same : (xs ys : List ℕ) (a b n : ℕ) → ((j : ℕ) → j < n * id_words → get_or ys (b * id_words + j) 0 ≡ get_or xs (a * id_words + j) 0) → words_from ys b n ≡ words_from xs a n
unfolding words_from cells_or
words_same xs ys a b zero h = refl
words_same xs ys a b (suc n) h =
    let y : b * id_words + 0 ≡ b * id_words = omega arith in
    let y' : a * id_words + 0 ≡ a * id_words = omega arith in
    let h0 : get_or ys (b * id_words) 0 ≡ get_or xs (a * id_words) 0 = ap (λ (i : ℕ). get_or ys i 0) (sym y) ∙ h 0 (omega arith) ∙ ap (λ (i : ℕ). get_or xs i 0) y' in
    let h1 = h 1 (omega arith) in
    let more = words_same xs ys (a + 1) (b + 1) n (λ j l.
    let e : (b + 1) * id_words + j ≡ b * id_words + (2 + j) = omega arith in
    let e' : (a + 1) * id_words + j ≡ a * id_words + (2 + j) = omega arith in
    ap (λ (i : ℕ). get_or ys i 0) e ∙ h (2 + j) (omega arith) ∙ ap (λ (i : ℕ). get_or xs i 0) (sym e')) in
    λ i. (h0 i ∷ h1 i ∷ []) ∷ more i

buffer-words : (out ids : List ℕ) (k n : ℕ) → n * id_words ≤ length out → words_from (written out 0 (cells_from ids (ids_at k) (n * id_words))) 0 n ≡ words_from ids k n
buffer-words out ids k n h =
    let l = length-cells ids (ids_at k) (n * id_words) in
    words_same ids (written out 0 (cells_from ids (ids_at k) (n * id_words))) k 0 n (λ j p. get_in out 0 (cells_from ids (ids_at k) (n * id_words)) j (omega arith) (omega arith) ∙ get-cells ids (ids_at k) (n * id_words) j p)

two-written : (ids : List ℕ) (a : ℕ) → written (0 ∷ 0 ∷ []) 0 (cells_from ids a 2) ≡ cells_from ids a 2
unfolding written cells_or
two-written ids a = refl

module _ (C : Compiled) (esi : Bool) where
  open C use {sheet, program, types}

  abbrev pub P : Program Lent
  P = rows_program C

  -- ---- stores that stand for a machine

  -- A new name has room.
  abbrev pub Spare : Stack (List ℕ) → ℕ → Name → Type 0
  Spare k p x = types ≡ true → known x k.top.types ≡ false → p < pair_limit

  -- What was weighed when the waiting tag came still holds; what is left of its scan fits the budget.
  pub record Waiting (s : Stores) : Type 0 where
    pub children : (stack_of s).top.children < 2147483647
    pub spare : Spare (stack_of s) (hd s 3) (held_tag s).name
    pub budget : length (rest_of sheet program s (held_cursor s.rows)) ≤ node_count sheet - hd s 7
    pub light : test_bytes sheet program (ats (rest_of sheet program s (held_cursor s.rows))) ≤ length sheet

  pub record Fine (s : Stores) : Type 0 where
    pub good : Good types s
    pub header : Header C esi s
    pub wait : (hd s 4 ≡ 0 → ⊥) → Waiting s

  -- Room for what is found, a theorem of the machine: each node is live once, and no name is counted more often than the children.
  abbrev pub Fit : Stack (List ℕ) → List ℕ → Type 0
  Fit k found = (length found ≤ node_count sheet) × (length (ancestors_of P k.items) + length (minus (bearing (roots_of sheet program) (hung_of sheet program) descendant found) (carried P k descendant)) ≤ ancestor_limit)

  abbrev pub FitScan : Stack (List ℕ) → Scan → Type 0
  FitScan k (done found) = Fit k found
  FitScan k (stuck found rest) = Unit

  abbrev pub Times : Stack (List ℕ) → Type 0
  Times k = (x : Name) → times_of x k.top.types ≤ k.top.children

  abbrev pub Room : Machine (List ℕ) → Call Lent → Type 0
  Room (Machine.ready k) (start_tag t) = Times k × (length (live_at P k) ≤ node_count sheet) × (test_bytes sheet program (live_at P k) ≤ length sheet) × FitScan k (machine.begin P k t)
  Room (Machine.ready k) (attributes g) = Unit
  Room (Machine.ready k) (end_tag x r) = Unit
  Room (Machine.ready k) ids_asked = Unit
  Room (Machine.waits k t found rest) (start_tag u) = Unit
  Room (Machine.waits k t found rest) (attributes g) = Times k × Fit k (found ++ keep (passes P k t g.attributes) rest)
  Room (Machine.waits k t found rest) (end_tag x r) = Unit
  Room (Machine.waits k t found rest) ids_asked = Unit

  -- The same answer, the machine stepped, the stores fine.
  pub record Met (r : Answer (List ℕ) × Stores) (m : Answer (List ℕ) × Machine (List ℕ)) : Type 0 where
    pub answer : r.0 ≡ m.0
    pub machine : decode sheet program r.1 ≡ m.1
    pub fine : Fine r.1

  pub at_rest : (s : Stores) → hd s 4 ≡ 0 → decode sheet program s ≡ Machine.ready (stack_of s)
  unfolding decode
  at_rest s z = rw z

  pub rest-fine : (s : Stores) → Good types s → Header C esi s → hd s 4 ≡ 0 → Fine s
  rest-fine s g h z = record { good = g; header = h; wait = λ n. absurd (n z) }

  -- ---- 30 and 31 never come
  flags-low : (a b : Bool) → flags_of a b ≤ 3
  flags-low true true = omega arith
  flags-low true false = omega arith
  flags-low false true = omega arith
  flags-low false false = omega arith

  pub never-30 : (s : Stores) → Good types s → Header C esi s → state_refusal sheet program s ≡ 0
  unfolding state_refusal sized shaped header_shaped
  never-30 s g h =
      let f : hd s 14 ≤ 3 = rw h.flags (flags-low esi types) in
      rw (
        le-ltb (length s.rows) rows_size g.rows,
        le-ltb (length s.names) names_size g.names,
        le-ltb (length s.ids) ids_size g.ids,
        le-leb nodes_size (length s.nodes) g.nodes,
        eq-eqb (hd s 12) made_mark h.mark,
        eq-eqb (hd s 13) (length sheet) h.size,
        le-ltb 1024 (node_count sheet) C.few,
        le-ltb (length program) (node_count sheet * 8) C.room,
        le-ltb open_limit (hd s 0) g.deep,
        le-ltb parent_limit (hd s 1) g.kt,
        le-ltb ancestor_limit (hd s 2) g.at,
        le-ltb pair_limit (hd s 3) g.pt,
        le-ltb 1 (hd s 4) h.flag,
        le-ltb name_limit (hd s 5) h.name,
        le-ltb (node_count sheet) (hd s 7) h.found,
        le-leb (hd s 14) 3 f,
      )

  -- ---- refusals before the push
  door-right : (s : Stores) → Good types s → (t : Tag) (content : Bool) (found : List ℕ) → push_refusal sheet program s.rows content found ≡ refusal_of_push P refusing (stack_of s) t content found
  unfolding push_refusal
  door-right s g t content found =
      let a = open-all (view s) (hd s 0) (hd s 1) (hd s 2) in
      let b = parents-total s (hd s 0) (hd s 1) (hd s 2) (hd s 3) g.tidy in
      (λ i. cond (not content) 0 (cond (leb open_limit (sym a i)) 27 (cond (ltb parent_limit (sym b i + length (bearing-child C found i))) 28 0)))
      ∙ door-is content (leb open_limit (length (stack_of s).items)) (ltb parent_limit ((weigh P (stack_of s) t).givers + length (bearing (roots_of sheet program) (hung_of sheet program) child found)))

  abbrev whole_if : ℕ → (old s : Stores) → List ℕ → Bool → List ℕ → Outcome
  whole_if zero old s x content found = accepted sheet program s x content found
  whole_if (suc r) old s x content found = accepting.refusing (suc r) old

  whole_is : (old s : Stores) (x : List ℕ) (content : Bool) (found : List ℕ) → whole sheet program old s x content found ≡ whole_if (push_refusal sheet program s.rows content found) old s x content found
  unfolding whole
  whole_is old s x content found = go (push_refusal sheet program s.rows content found)
    where
      go : (n : ℕ) → cond (not (eqb n 0)) (accepting.refusing n old) (accepted sheet program s x content found) ≡ whole_if n old s x content found
      go zero = refl
      go (suc r) = rw (ne_eqb (suc r) 0 (λ z. omega arith))

  -- ---- a tag that is whole
  module _ (old : Stores) (was : Machine (List ℕ)) (od : decode sheet program old ≡ was) (of : Fine old) (s : Stores) (g : Good types s) (h : Header C esi s) (z : hd s 4 ≡ 0) (t : Tag) (content : Bool) (found : List ℕ)
      (hx : length t.name ≤ name_limit) (few : (stack_of s).top.children < 2147483647) (times : Times (stack_of s)) (spare : Spare (stack_of s) (hd s 3) t.name) (fit : Fit (stack_of s) found) where
    abbrev after : Bool → Stores
    after b = cond content (pushed program (node_count sheet) (counted b s t.name) t.name (unite C found) found) (counted b s t.name)

    roomy : push_refusal sheet program s.rows content found ≡ 0 → content ≡ true → Roomy C s found
    unfolding push_refusal
    roomy e u =
        let e' : ◌≡◌ {A = ℕ} (cond (leb open_limit (hd s 0)) 27 (cond (ltb parent_limit (hd s 1 + length (new_parents C found))) 28 0)) 0 = rw u at e in
        let (p, q) = door-chain (leb open_limit (hd s 0)) (ltb parent_limit (hd s 1 + length (new_parents C found))) e' in
        let l = ap length (ancestors-all C s (hd s 0) (hd s 1) (hd s 2) (hd s 3) g.tidy) ∙ length-cells s.nodes parent_limit (hd s 2) in
        let k = ap length (ancestors-new C s g.tidy found) in
        let r = fit.1 in
        record { open' = leb-false open_limit (hd s 0) p; parents = ltb-false parent_limit (hd s 1 + length (new_parents C found)) q; ancestors = omega arith }

    is-settled : push_refusal sheet program s.rows content found ≡ 0 → Settled C s (after types) content t found
    unfolding level_at
    is-settled e =
        let p = tidy-pm (view s) (hd s 0) (hd s 1) (hd s 2) (hd s 3) g.tidy in
        let q = times-top s p t.name in
        let r = times t.name in
        settled C s g content t found hx (omega arith) (omega arith) (λ u k. spare u (sym (known-top s p t.name) ∙ k)) (roomy e)

    give-met : (n : ℕ) → push_refusal sheet program s.rows content found ≡ n → Met (tag_answered (whole_if n old s t.name content found)) (answer_if P refusing n was (stack_of s) t content found)
    unfolding accepted
    give-met zero e =
        let a = is-settled e in
        let f : hd (after types) 4 ≡ 0 = a.header 4 (omega arith) (omega arith) ∙ z in
        subst (λ b. Met (matched (unite C found) content, after b) (matched (unite C found) content, Machine.ready (accept P content (stack_of s) t found))) (sym (types-is C esi s g h))
        (record { answer = refl; machine = at_rest (after types) f ∙ ap Machine.ready a.stack; fine = rest-fine (after types) a.good (header-kept C esi s (after types) h a.header) f })
    give-met (suc r) e = record { answer = refl; machine = od; fine = of }

    pub gave : Met (tag_answered (whole sheet program old s t.name content found)) (answer_if P refusing (refusal_of_push P refusing (stack_of s) t content found) was (stack_of s) t content found)
    gave = subst (λ n. Met (tag_answered (whole sheet program old s t.name content found)) (answer_if P refusing n was (stack_of s) t content found)) (door-right s g t content found)
        (subst (λ o. Met (tag_answered o) (answer_if P refusing (push_refusal sheet program s.rows content found) was (stack_of s) t content found)) (sym (whole_is old s t.name content found)) (give-met (push_refusal sheet program s.rows content found) refl))

  -- ---- a tag that waits
  spare-same : (k k' : Stack (List ℕ)) (p p' : ℕ) (x x' : Name) → k' ≡ k → p' ≡ p → x' ≡ x → Spare k p x → Spare k' p' x'
  spare-same k k' p p' x x' a b c h = rw (a, b, c) h

  module _ (s : Stores) (g : Good types s) (h : Header C esi s) (x : List ℕ) (kind : ℕ) (hx : length x ≤ name_limit) (few : (stack_of s).top.children < 2147483647) (spare : Spare (stack_of s) (hd s 3) x) where
    waited : (found : List ℕ) (c : Cursor) → Small c → length found + length (rest_of sheet program s c) ≤ node_count sheet → test_bytes sheet program (ats (rest_of sheet program s c)) ≤ length sheet
        → Met (attributes_wanted, held s x kind found c.stage (cell c.slot) (cell c.at) (cell c.stop)) (attributes_wanted, Machine.waits (stack_of s) (tag_at C esi s g h x kind) found (ats (rest_of sheet program s c)))
    waited found c (c1, c2, c3) fit light =
        let m = C.few in
        let hm : length found ≤ found_limit = omega arith in
        let st = c.stage in
        let sl = cell c.slot in
        let a = cell c.at in
        let so = cell c.stop in
        let e2 : cell c.slot ≡ c.slot = omega arith in
        let e3 : cell c.at ≡ c.at = omega arith in
        let e4 : cell c.stop ≡ c.stop = omega arith in
        let w = wait-same types s g x kind found st sl a so hx hm in
        let n = wait-new types s g x kind found st sl a so hx hm in
        let u = wait-high types s g x kind found st sl a so hx hm in
        record {
          answer = refl;
          machine = wait-decode types s g x kind found st sl a so hx hm sheet program c refl e2 e3 e4 (tag_at C esi s g h x kind) refl refl refl;
          fine = record {
            good = w.good;
            header = record {
              flag = rw (n 0 (omega arith)) (omega arith);
              name = rw (n 1 (omega arith)) hx;
              found = rw (n 3 (omega arith)) (omega arith);
              mark = u 12 (omega arith) ∙ h.mark;
              size = u 13 (omega arith) ∙ h.size;
              flags = u 14 (omega arith) ∙ h.flags;
            };
            wait = λ _. record {
              children = subst (λ (k : Stack (List ℕ)). k.top.children < 2147483647) (sym w.stack) few;
              spare = spare-same (stack_of s) _ (hd s 3) _ x _ w.stack (wait-low types s g x kind found st sl a so hx hm 3 (omega arith)) (wait-name types s g x kind found st sl a so hx hm) spare;
              budget = rw (wait-rest types s g x kind found st sl a so hx hm sheet program c refl e2 e3 e4, n 3 (omega arith)) (omega arith);
              light = rw (wait-rest types s g x kind found st sl a so hx hm sheet program c refl e2 e3 e4) light;
            };
          };
        }

  -- ---- a start tag while none waits
  abbrev tag_of : ℕ → List ℕ → Tag
  tag_of n name = record { name = map lower_of name; namespace = n; void = void_name esi name }

  -- What refuses a start tag while none waits: first what its name and namespace and the children do, then 26.
  abbrev gate : Stores → ℕ → List ℕ → ℕ
  gate s n name = cond (not (eqb (tag_refusal s.rows n name) 0)) (tag_refusal s.rows n name) (cond (pairs_full s.rows s.names (map lower_of name)) 26 0)

  pairs-full : (s : Stores) → Fine s → (x : List ℕ) → pairs_full s.rows s.names x ≡ (types && not (known x (stack_of s).top.types)) && leb pair_limit (pairs_of P (stack_of s))
  unfolding pairs_full
  pairs-full s f x =
      let p = tidy-pm (view s) (hd s 0) (hd s 1) (hd s 2) (hd s 3) f.good.tidy in
      let q = pairs-total C s (hd s 0) (hd s 1) (hd s 2) (hd s 3) f.good.tidy in
      (λ i. cond (not (types-is C esi s f.good f.header i)) false (cond (ltb (hd s 3) pair_limit) false (not (known-top s p x i))))
      ∙ full_is types (known x (stack_of s).top.types) (hd s 3)
      ∙ (λ i. (types && not (known x (stack_of s).top.types)) && leb pair_limit (sym q i))

  -- It is section 2's.
  gate-right : (s : Stores) → Fine s → hd s 4 ≡ 0 → (n : ℕ) (name : List ℕ) → gate s n name ≡ refusing.at_start (weigh P (stack_of s) (tag_of n name)) (tag_of n name)
  unfolding tag_refusal stack.children level_at
  gate-right s f z n name =
      rw z (go (is_bad_name name) (ltb 2 n) (leb 2147483647 (row_word s.rows (hd s 0) 1)) (pairs_full s.rows s.names (map lower_of name)))
      ∙ (λ i. cond (bad-same name i) 20 (cond (ltb 2 n) 21 (cond (leb 2147483647 (row_word s.rows (hd s 0) 1)) 25 (cond (pairs-full s f (map lower_of name) i) 26 0))))
    where
      go : (a b c d : Bool) → ◌≡◌ {A = ℕ} (cond (not (eqb (cond a 20 (cond b 21 (cond c 25 0))) 0)) (cond a 20 (cond b 21 (cond c 25 0))) (cond d 26 0)) (cond a 20 (cond b 21 (cond c 25 (cond d 26 0))))
      go true b c d = refl
      go false true c d = refl
      go false false true d = refl
      go false false false d = refl

  abbrev start_if : ℕ → Stores → List ℕ → ℕ → Outcome
  start_if zero s x kind = tags.begun sheet program s x kind (course.begin sheet program s.rows s.names s.nodes x kind)
  start_if (suc r) s x kind = accepting.refusing (suc r) s

  start_is : (s : Stores) → Fine s → hd s 4 ≡ 0 → (n : ℕ) (name : List ℕ) → start_call sheet program s n name ≡ start_if (gate s n name) s (map lower_of name) (kind_of n (void_name esi name))
  unfolding start_call lowered
  start_is s f z n name = rw (never-30 s f.good f.header, esi-is C esi s f.good f.header) (go (tag_refusal s.rows n name) (pairs_full s.rows s.names (map lower_of name)))
    where
      go : (r : ℕ) (d : Bool) → cond (not (eqb r 0)) (accepting.refusing r s) (cond d (accepting.refusing 26 s) (start_if 0 s (map lower_of name) (kind_of n (void_name esi name)))) ≡ start_if (cond (not (eqb r 0)) r (cond d 26 0)) s (map lower_of name) (kind_of n (void_name esi name))
      go zero true = refl
      go zero false = refl
      go (suc r) d = rw (ne_eqb (suc r) 0 (λ z. omega arith))

  module _ (s : Stores) (f : Fine s) (z : hd s 4 ≡ 0) where
    g : Good types s
    g = f.good

    h : Header C esi s
    h = f.header

    module _ (x : List ℕ) (kind : ℕ) (hx : length x ≤ name_limit) (few : (stack_of s).top.children < 2147483647) (times : Times (stack_of s)) (spare : Spare (stack_of s) (hd s 3) x) where
      begun-met : (so : Sought) → Stop sheet program s.nodes (live_ranges sheet s.rows) (node_count sheet) (length sheet) so → FitScan (stack_of s) (forgotten C esi s g h so)
          → Met (tag_answered (tags.begun sheet program s x kind so)) (machine.begun P refusing (stack_of s) (tag_at C esi s g h x kind) (forgotten C esi s g h so))
      unfolding tags.begun has_content is_html Stop
      begun-met (over found) st fit = gave s (Machine.ready (stack_of s)) (at_rest s z) f s g h z (tag_at C esi s g h x kind) (content (tag_at C esi s g h x kind) false) found hx few times spare fit
      begun-met (stopped found c) (sm, l, y) fit = waited s g h x kind hx few spare found c sm l y

    opened : (n : ℕ) (name : List ℕ) → Room (Machine.ready (stack_of s)) (start_tag (tag_of n name)) → (r : ℕ) → gate s n name ≡ r
        → Met (tag_answered (start_if r s (map lower_of name) (kind_of n (void_name esi name)))) (begin_if P refusing r (stack_of s) (tag_of n name))
    opened n name room zero e =
        let x = map lower_of name in
        let kind = kind_of n (void_name esi name) in
        let (e1, e2, e3, e4) = gate-chain (bad_name section_2 x) (ltb 2 n) (leb 2147483647 (stack_of s).top.children) ((types && not (known x (stack_of s).top.types)) && leb pair_limit (pairs_of P (stack_of s))) (sym (gate-right s f z n name) ∙ e) in
        let l = name-fits name (bad-same name ∙ e1) in
        let m = length-map name lower_of in
        let few = leb-false 2147483647 (stack_of s).top.children e3 in
        let q = pairs-total C s (hd s 0) (hd s 1) (hd s 2) (hd s 3) g.tidy in
        let spare : Spare (stack_of s) (hd s 3) x = λ u k. subst (λ (p : ℕ). p < pair_limit) q (full-of types (known x (stack_of s).top.types) (pairs_of P (stack_of s)) e4 u k) in
        let (times, live, light, fit) = room in
        let t = times x in
        let (a, b) = kind-back n (void_name esi name) (ltb-false 2 n e2) in
        let tag : tag_at C esi s g h x kind ≡ tag_of n name = λ i. record { name = x; namespace = a i; void = b i } in
        let w = begin-right C esi s g h live light x kind (omega arith) (omega arith) in
        subst (λ u. Met (tag_answered (start_if 0 s x kind)) (machine.begun P refusing (stack_of s) u (machine.begin P (stack_of s) u))) tag
        (subst (λ sc. Met (tag_answered (start_if 0 s x kind)) (machine.begun P refusing (stack_of s) (tag_at C esi s g h x kind) sc)) w
        (begun-met x kind (omega arith) few times spare (course.begin sheet program s.rows s.names s.nodes x kind) (begin-stop C esi s g h live light x kind)
        (subst (FitScan (stack_of s)) (sym w) (subst (λ u. FitScan (stack_of s) (machine.begin P (stack_of s) u)) (sym tag) fit))))
    opened n name room (suc r) e = record { answer = refl; machine = at_rest s z; fine = f }

    -- ---- an end tag
    abbrev ended_if : ℕ → ℕ → List ℕ → Ended
    ended_if zero n out = ends.ended (Popped.Elements n) (popped_rows s.rows n) (popped_ids s.rows s.ids out n)
    ended_if (suc r) n out = ends.ended (Popped.Refused (suc r)) s.rows out

    end_is : (name out : List ℕ) → end_call sheet program s name out ≡ ended_if (cond (is_bad_name name) 20 (cond (ltb (length out) (popped_count s.rows s.names (map lower_of name) * id_words)) 29 0)) (popped_count s.rows s.names (map lower_of name)) out
    unfolding end_call end_refusal popping
    end_is name out = rw (never-30 s g h, z) (go (is_bad_name name) (ltb (length out) (popped_count s.rows s.names (map lower_of name) * id_words)))
      where
        go : (a b : Bool) → cond (not (eqb (cond a 20 0) 0)) (ends.ended (Popped.Refused (cond a 20 0)) s.rows out) (cond b (ends.ended (Popped.Refused 29) s.rows out) (ended_if 0 (popped_count s.rows s.names (map lower_of name)) out)) ≡ ended_if (cond a 20 (cond b 29 0)) (popped_count s.rows s.names (map lower_of name)) out
        go true b = refl
        go false true = refl
        go false false = refl

    gone : (n q d : ℕ) → d ≡ suc n + q → words_from s.ids (d - suc n + 1) (suc n) ≡ reverse (take (suc n) (map (λ f. f.ids) (items_at (view s) d (hd s 1) (hd s 2))))
    gone n q d e = let y : suc n + q - suc n + 1 ≡ suc q = omega arith in rw (e, y) (sym (popped-words s (suc n) q (hd s 1) (hd s 2)))

    closed : (out : List ℕ) (r n : ℕ) → n ≤ hd s 0 → (r ≡ 0 → n * id_words ≤ length out) → Met (end_answered s (ended_if r n out)) (close_if P refusing r (stack_of s) n)
    unfolding popped_rows popped_ids words_from
    closed out zero zero l k = record { answer = refl; machine = at_rest s z; fine = f }
    closed out zero (suc n) l k =
        let q = hd s 0 - suc n in
        let e : hd s 0 ≡ suc (n + q) = omega arith in
        let y : hd s 0 ≡ suc n + q = omega arith in
        let b = back-rest C types s g n q e in
        let w : hd (stores (back_to s.rows q) s.names s.ids s.nodes) 4 ≡ 0 = b 4 (omega arith) (omega arith) ∙ z in
        let v : popped_rows s.rows (suc n) ≡ back_to s.rows (hd s 0 - suc n) = rw (ne_eqb (suc n) 0 (λ u. omega arith)) in
        record {
          answer = ap popped (buffer-words out s.ids (hd s 0 - suc n + 1) (suc n) (k refl) ∙ gone n q (hd s 0) y);
          machine = ap (λ r. decode sheet program (stores r s.names s.ids s.nodes)) v ∙ at_rest (stores (back_to s.rows q) s.names s.ids s.nodes) w ∙ ap Machine.ready (back-stack C types s g n q e);
          fine = subst (λ r. Fine (stores r s.names s.ids s.nodes)) (sym v) (rest-fine (stores (back_to s.rows q) s.names s.ids s.nodes) (back-good C types s g n q e) (header-kept C esi s (stores (back_to s.rows q) s.names s.ids s.nodes) h b) w);
        }
    closed out (suc r) n l k = record { answer = refl; machine = at_rest s z; fine = f }

    end-room : (a b : Bool) (n : ℕ) (out : List ℕ) → b ≡ ltb (length out) (n * id_words) → ◌≡◌ {A = ℕ} (cond a 20 (cond b 29 0)) 0 → n * id_words ≤ length out
    end-room true b n out e q = absurd (let y : ⊥ = omega arith in y)
    end-room false true n out e q = absurd (let y : ⊥ = omega arith in y)
    end-room false false n out e q = ltb-false (length out) (n * id_words) (sym e)

    end-met : (name out : List ℕ) → Met (end_answered s (end_call sheet program s name out)) (end_if P refusing (stack_of s) (map lower_of name) (length out) (nearest (map lower_of name) (map (λ f. f.name) (stack_of s).items)))
    end-met name out =
        let x = map lower_of name in
        let n = popped_count s.rows s.names x in
        let r : ℕ = cond (is_bad_name name) 20 (cond (ltb (length out) (n * id_words)) 29 0) in
        let e : r ≡ refusing.at_end x (length out) n = λ i. cond (bad-same name i) 20 (cond (ltb (length out) (n * id_words)) 29 0) in
        subst (λ m. Met (end_answered s (end_call sheet program s name out)) (end_if P refusing (stack_of s) x (length out) m)) (popped-top s x)
        (subst (λ o. Met (end_answered s o) (close_if P refusing (refusing.at_end x (length out) n) (stack_of s) n)) (sym (end_is name out))
        (subst (λ k. Met (end_answered s (ended_if r n out)) (close_if P refusing k (stack_of s) n)) e
        (closed out r n (popped-few s x) (λ q. end-room (is_bad_name name) (ltb (length out) (n * id_words)) n out refl q))))

    attributes-early : (b : Bool) (input outlines : List ℕ) → attributes_call sheet program s b input outlines ≡ accepting.refusing 23 s
    unfolding attributes_call attributes_refusal
    attributes-early b input outlines = rw (never-30 s g h, z)

  -- ---- the id set asked
  asked_is : (s : Stores) → Fine s → top_answer (id_set_call sheet program s).top (id_set_call sheet program s).ids ≡ top_of P (stack_of s).items
  unfolding id_set_call ids_of_top items_at
  asked_is s f = rw (never-30 s f.good f.header) (go (hd s 0))
    where
      go : (d : ℕ) → top_answer (cond (eqb d 0) (top_reply Top.NothingOpen no_ids) (top_reply Top.Ids (cond (eqb d 0) no_ids (written no_ids 0 (cells_from s.ids (ids_at d) id_words))))).top (cond (eqb d 0) (top_reply Top.NothingOpen no_ids) (top_reply Top.Ids (cond (eqb d 0) no_ids (written no_ids 0 (cells_from s.ids (ids_at d) id_words))))).ids ≡ top_of P (items_at (view s) d (hd s 1) (hd s 2))
      go zero = refl
      go (suc k) = rw (ne_eqb (suc k) 0 (λ u. omega arith)) (ap top_ids (two-written s.ids (ids_at (suc k))))

  module _ (s : Stores) (f : Fine s) (z : hd s 4 ≡ 0) where
    ready-met : (x : HostCall) → Room (Machine.ready (stack_of s)) (call_of esi x) → Met (called sheet program s x) (step P refusing (Machine.ready (stack_of s)) (call_of esi x))
    ready-met (host_start_tag n name) room =
        subst (λ r. Met (tag_answered (start_call sheet program s n name)) (begin_if P refusing r (stack_of s) (tag_of n name))) (gate-right s f z n name)
        (subst (λ o. Met (tag_answered o) (begin_if P refusing (gate s n name) (stack_of s) (tag_of n name))) (sym (start_is s f z n name)) (opened s f z n name room (gate s n name) refl))
    ready-met (host_attributes b input outlines) room = subst (λ o. Met (tag_answered o) (refused 23, Machine.ready (stack_of s))) (sym (attributes-early s f z b input outlines)) (record { answer = refl; machine = at_rest s z; fine = f })
    ready-met (host_end_tag name out) room = end-met s f z name out
    ready-met host_ids_asked room = record { answer = asked_is s f; machine = at_rest s z; fine = f }

  -- ---- calls while a tag waits
  module _ (s : Stores) (f : Fine s) (n : hd s 4 ≡ 0 → ⊥) where
    abbrev rest₀ : List ℕ
    rest₀ = ats (rest_of sheet program s (held_cursor s.rows))

    abbrev held₀ : Machine (List ℕ)
    held₀ = Machine.waits (stack_of s) (held_tag s) (held_found s.rows s.nodes) rest₀

    waiting : decode sheet program s ≡ held₀
    unfolding decode
    waiting = rw (ne_eqb (hd s 4) 0 n)

    start_early : (m : ℕ) (name : List ℕ) → start_call sheet program s m name ≡ accepting.refusing 22 s
    unfolding start_call tag_refusal
    start_early m name = rw (never-30 s f.good f.header, ne_eqb (hd s 4) 0 n)

    end_early : (name out : List ℕ) → end_call sheet program s name out ≡ ends.ended (Popped.Refused 22) s.rows out
    unfolding end_call end_refusal
    end_early name out = rw (never-30 s f.good f.header, ne_eqb (hd s 4) 0 n)

    abbrev given_if : ℕ → Bool → List ℕ → List ℕ → Outcome
    given_if zero b input outlines = given sheet program s (held_name s.rows s.names) b input outlines
    given_if (suc r) b input outlines = accepting.refusing (suc r) s

    attributes-is : (b : Bool) (input outlines : List ℕ) → attributes_call sheet program s b input outlines ≡ given_if (cond (not (good_outlines input outlines)) 24 0) b input outlines
    unfolding attributes_call attributes_refusal
    attributes-is b input outlines = rw (never-30 s f.good f.header, ne_eqb (hd s 4) 0 n) (go (not (good_outlines input outlines)))
      where
        go : (a : Bool) → cond (not (eqb (cond a 24 0) 0)) (accepting.refusing (cond a 24 0) s) (given_if 0 b input outlines) ≡ given_if (cond a 24 0) b input outlines
        go true = refl
        go false = refl

    module _ (b : Bool) (input outlines : List ℕ) (room : Room held₀ (attributes (record { self_closing = b; attributes = record { input = input; outlines = outlines } }))) where
      abbrev lent : Lent
      lent = record { input = input; outlines = outlines }

      abbrev found₀ : List ℕ
      found₀ = held_found s.rows s.nodes ++ keep (passes P (stack_of s) (held_tag s) lent) rest₀

      free-header : Header C esi (released s)
      free-header =
          let off = released-off types s f.good in
          let h = f.header in
          record {
            flag = rw (released-flag types s f.good) (omega arith);
            name = rw (off 5 (λ e. omega arith)) h.name;
            found = rw (off 7 (λ e. omega arith)) h.found;
            mark = off 12 (λ e. omega arith) ∙ h.mark;
            size = off 13 (λ e. omega arith) ∙ h.size;
            flags = off 14 (λ e. omega arith) ∙ h.flags;
          }

      whole-met : Met (tag_answered (given sheet program s (held_name s.rows s.names) b input outlines)) (answer_if P refusing (refusal_of_push P refusing (stack_of s) (held_tag s) (content (held_tag s) b) found₀) held₀ (stack_of s) (held_tag s) (content (held_tag s) b) found₀)
      unfolding given has_content is_html
      whole-met =
          let c = released-same types s f.good in
          let w = f.wait n in
          let t = held_tag s in
          let (times, fit) = room in
          let few = w.children in
          let rare = times t.name in
          let l = length-cells s.names 0 (hd s 5) in
          let k = f.header.name in
          let hx : length t.name ≤ name_limit = omega arith in
          let r = resume-right C esi s f.good f.header (omega arith) (omega arith) w.budget w.light input outlines in
          subst (λ found. Met (tag_answered (whole sheet program s (released s) t.name (content t b) found)) (answer_if P refusing (refusal_of_push P refusing (stack_of s) t (content t b) found₀) held₀ (stack_of s) t (content t b) found₀)) (sym r)
          (subst (λ y. Met (tag_answered (whole sheet program s (released s) t.name (content t b) found₀)) (answer_if P refusing (refusal_of_push P refusing y t (content t b) found₀) held₀ y t (content t b) found₀)) c.stack
          (gave s held₀ waiting f (released s) c.good free-header (released-flag types s f.good) t (content t b) found₀ hx
          (subst (λ (y : Stack (List ℕ)). y.top.children < 2147483647) (sym c.stack) few)
          (subst Times (sym c.stack) times)
          (spare-same (stack_of s) (stack_of (released s)) (hd s 3) (hd (released s) 3) t.name t.name c.stack (released-off types s f.good 3 (λ e. omega arith)) refl w.spare)
          (subst (λ y. Fit y found₀) (sym c.stack) fit)))

      resumed-met : (a : Bool) → Met (tag_answered (given_if (cond a 24 0) b input outlines)) (answer_if P refusing (first (cond a 24 0) (refusal_of_push P refusing (stack_of s) (held_tag s) (content (held_tag s) b) found₀)) held₀ (stack_of s) (held_tag s) (content (held_tag s) b) found₀)
      resumed-met true = record { answer = refl; machine = waiting; fine = f }
      resumed-met false = whole-met

    waiting-met : (x : HostCall) → Room held₀ (call_of esi x) → Met (called sheet program s x) (step P refusing held₀ (call_of esi x))
    waiting-met (host_start_tag m name) room = subst (λ o. Met (tag_answered o) (refused 22, held₀)) (sym (start_early m name)) (record { answer = refl; machine = waiting; fine = f })
    waiting-met (host_attributes b input outlines) room =
        subst (λ o. Met (tag_answered o) (step P refusing held₀ (call_of esi (host_attributes b input outlines)))) (sym (attributes-is b input outlines)) (resumed-met b input outlines room (not (good_outlines input outlines)))
    waiting-met (host_end_tag name out) room = subst (λ o. Met (end_answered s o) (refused 22, held₀)) (sym (end_early name out)) (record { answer = refl; machine = waiting; fine = f })
    waiting-met host_ids_asked room = record { answer = asked_is s f; machine = waiting; fine = f }

  -- ONE CALL.
  pub call_met : (s : Stores) → Fine s → (x : HostCall) → Room (decode sheet program s) (call_of esi x) → Met (called sheet program s x) (step P refusing (decode sheet program s) (call_of esi x))
  call_met s f x room = go (eqb (hd s 4) 0) refl
    where
      go : (b : Bool) → eqb (hd s 4) 0 ≡ b → Met (called sheet program s x) (step P refusing (decode sheet program s) (call_of esi x))
      go true e =
          let d = at_rest s (eqb-true _ _ e) in
          subst (λ m. Met (called sheet program s x) (step P refusing m (call_of esi x))) (sym d) (ready-met s f (eqb-true _ _ e) x (subst (λ m. Room m (call_of esi x)) d room))
      go false e =
          let d = waiting s f (eqb-false _ _ e) in
          subst (λ m. Met (called sheet program s x) (step P refusing m (call_of esi x))) (sym d) (waiting-met s f (eqb-false _ _ e) x (subst (λ m. Room m (call_of esi x)) d room))

  -- EVERY RUN.
  abbrev pub Rooms : Machine (List ℕ) → List (Call Lent) → Type 0
  Rooms m [] = Unit
  Rooms m (x ∷ xs) = Room m x × Rooms (step P refusing m x).1 xs

  pub run-met : (s : Stores) → Fine s → (xs : List HostCall) → Rooms (decode sheet program s) (map (call_of esi) xs) → answers sheet program s xs ≡ run P refusing (decode sheet program s) (map (call_of esi) xs)
  run-met s f [] r = refl
  run-met s f (x ∷ xs) (r, rs) =
      let m = call_met s f x r in
      ap₂ {C = List (Answer (List ℕ))} (λ u v. u ∷ v) m.answer (run-met (called sheet program s x).1 m.fine xs (subst (λ k. Rooms k (map (call_of esi) xs)) (sym m.machine) rs) ∙ ap (λ k. run P refusing k (map (call_of esi) xs)) m.machine)
