-- The machine answers every run of calls by the document that the calls describe.
use Rattle.std.specs.Prelude.{◌≡◌, refl, List, [], ◌∷◌, ◌++◌, map, reverse, Bool, true, false, not, ◌&&◌, ◌||◌, cond, take, length, ℕ, zero, suc}
use Rattle.std.proofs.Common.{sym, ap, ap₂, ◌∙◌}
use Rattle.std.proofs.Math.Path.{fun_ext}
use Rattle.std.proofs.lemmas.Bool.{false≢true}
use Rattle.meaning.specs.Lists.{◌∈◌, keep, put_if, some}
use Rattle.meaning.proofs.ListLaws.{join, keep_same, some_same}
use Rattle.meaning.specs.Document.{Link, child, descendant, start, after, inside, spot, before, opened, position, enter, close, closes}
use Rattle.meaning.specs.Elements.{Where, Placed, Name, same_name, Tag, Given, Element, element, html, content, has_content, name_of, position_of_name}
use Rattle.meaning.specs.Calls.{Program, Refusals, Call, start_tag, attributes, end_tag, ids_asked, Answer, matched, attributes_wanted, popped, top_ids, nothing_open, refused}
use Rattle.meaning.specs.Machine.{Stack, Machine, ready, waits, empty, times_of, count_name, Scan, done, stuck, bearing, live, nearest, first, carried, live_at, accept, pop, pops, number_of_name, tag_passes, passes, scan_if, begin, weigh, top_of, refusal_of_push, answer_if, begun, begin_if, close_if, step, run}
use Rattle.meaning.specs.Demand.{Moment, idle, waiting, address_holds}
use Rattle.meaning.proofs.Carrying.{bearers, hits, live-way}
use Rattle.meaning.proofs.Scanning.{asks, scan-asks, finish, finish-scan}
use Rattle.meaning.proofs.Names.{times-count}

module _ {A : Type 0} (P : Program A) where
  open P use {roots, hung, tag_tests, attribute_tested, attribute_tests, untested, types_counted, uncounted, Ids, unite}

  abbrev pub tag_ok : Where A → Tag → ℕ → Bool
  tag_ok c t n = tag_tests n (position c) (position_of_name t.name c) t

  -- The nodes that match an element, and those that are live at a place.
  abbrev pub hits_of : Placed A → List ℕ
  hits_of s = hits roots hung (address_holds P) s

  abbrev pub live_of : Where A → List ℕ
  live_of c = live roots hung (bearers roots hung (address_holds P) c)

  abbrev pub must_wait : Where A → Tag → Bool
  must_wait c t = not (html t) || some (λ n. tag_ok c t n && attribute_tested n) (live_of c)

  -- ---- The stack that stands for a place.
  abbrev pub stack_of : Where A → Stack Ids
  stack_of start = empty
  stack_of (after c e) = accept P false (stack_of c) e.tag (hits_of (spot c e))
  stack_of (inside c e) = accept P true (stack_of c) e.tag (hits_of (spot c e))

  pub carried-bearers : (c : Where A) (l : Link) → carried P (stack_of c) l ≡ bearers roots hung (address_holds P) c l
  carried-bearers start child = refl
  carried-bearers start descendant = refl
  carried-bearers (after c e) child = carried-bearers c child
  carried-bearers (after c e) descendant = carried-bearers c descendant
  carried-bearers (inside c e) child = refl
  carried-bearers (inside c e) descendant = ap (join (bearing roots hung descendant (hits_of (spot c e)))) (carried-bearers c descendant)

  pub live-carried : (c : Where A) → live_at P (stack_of c) ≡ live_of c
  live-carried c = ap {A = Link → List ℕ} (live roots hung) (fun_ext (carried-bearers c))

  pub children-before : (c : Where A) → (stack_of c).top.children ≡ length (before c)
  children-before start = refl
  children-before (after c e) = ap suc (children-before c)
  children-before (inside c e) = refl

  pub times-before : types_counted ≡ true → (c : Where A) (x : Name) → times_of x (stack_of c).top.types ≡ length (keep (λ s. same_name x (name_of s)) (before c))
  times-before y start x = refl
  times-before y (after c e) x =
      ap (λ b. times_of x (cond b (count_name e.tag.name (stack_of c).top.types) (stack_of c).top.types)) y
      ∙ times-count x e.tag.name (stack_of c).top.types
      ∙ go (same_name x e.tag.name) (times-before y c x)
    where
      go : (b : Bool) → times_of x (stack_of c).top.types ≡ length (keep (λ s. same_name x (name_of s)) (before c)) → cond b (suc (times_of x (stack_of c).top.types)) (times_of x (stack_of c).top.types) ≡ length (put_if b (spot c e) (keep (λ s. same_name x (name_of s)) (before c)))
      go true h = ap suc h
      go false h = h
  times-before y (inside c e) x = refl

  -- The tests see the same positions.
  passes-ok : (c : Where A) (t : Tag) (n : ℕ) → n ∈ live_of c → tag_passes P (stack_of c) t n ≡ tag_ok c t n
  passes-ok c t n h = ap (λ (i : ℕ). tag_tests n (suc i) (number_of_name P (stack_of c) t.name) t) (children-before c) ∙ go types_counted refl
    where
      go : (b : Bool) → types_counted ≡ b → tag_tests n (position c) (number_of_name P (stack_of c) t.name) t ≡ tag_tests n (position c) (position_of_name t.name c) t
      go true y = ap (λ (j : ℕ). tag_tests n (position c) (suc j) t) (times-before y c t.name)
      go false y = uncounted y n (live-way roots hung (address_holds P) c n h) _ _ _ t

  pub names-open : (c : Where A) → map (λ f. f.name) (stack_of c).items ≡ map name_of (opened c)
  names-open start = refl
  names-open (after c e) = names-open c
  names-open (inside c e) = ap (λ x. e.tag.name ∷ x) (names-open c)

  pub ids-open : (c : Where A) → map (λ f. f.ids) (stack_of c).items ≡ map (λ s. unite (hits_of s)) (opened c)
  ids-open start = refl
  ids-open (after c e) = ids-open c
  ids-open (inside c e) = ap (λ x. unite (hits_of (spot c e)) ∷ x) (ids-open c)

  pop-close : (c : Where A) → pop P (stack_of c).items ≡ stack_of (close c)
  pop-close start = refl
  pop-close (after c e) = pop-close c
  pop-close (inside c e) = refl

  pub pops-closes : (n : ℕ) (c : Where A) → pops P n (stack_of c) ≡ stack_of (closes n c)
  pops-closes zero c = refl
  pops-closes (suc n) c = ap (pops P n) (pop-close c) ∙ pops-closes n (close c)

  accept-enter : (b : Bool) (c : Where A) (e : Element A) → accept P b (stack_of c) e.tag (hits_of (spot c e)) ≡ stack_of (enter b c e)
  accept-enter true c e = refl
  accept-enter false c e = refl

  abbrev pub top_said : List (Placed A) → Answer Ids
  top_said [] = nothing_open
  top_said (s ∷ ss) = top_ids (unite (hits_of s))

  top-open : (c : Where A) → top_of P (stack_of c).items ≡ top_said (opened c)
  top-open start = refl
  top-open (after c e) = top-open c
  top-open (inside c e) = refl

  -- ---- Resuming, on any stack whatever.
  abbrev pub finished : Stack Ids → Tag → A → Scan → List ℕ
  finished k t a sc = finish (tag_passes P k t) attribute_tested (λ n. attribute_tests n t a) (λ n e. untested n e t a) sc

  -- The first scan, finished with any attributes, has found all that pass at once.
  pub begin-finished : (k : Stack Ids) (t : Tag) (a : A) → finished k t a (begin P k t) ≡ keep (passes P k t a) (live_at P k)
  begin-finished k t a = go (html t)
    where
      go : (b : Bool) → finished k t a (scan_if P b k t) ≡ keep (passes P k t a) (live_at P k)
      go true = finish-scan (tag_passes P k t) attribute_tested (λ n. attribute_tests n t a) (λ n e. untested n e t a) (live_at P k)
      go false = refl

  -- It stops exactly when the tag is not HTML, or a live node passes its tag tests and has an attribute test.
  pub begin-asks : (k : Stack Ids) (t : Tag) → asks (begin P k t) ≡ (not (html t) || some (λ n. tag_passes P k t n && attribute_tested n) (live_at P k))
  begin-asks k t = go (html t)
    where
      go : (b : Bool) → asks (scan_if P b k t) ≡ (not b || some (λ n. tag_passes P k t n && attribute_tested n) (live_at P k))
      go true = scan-asks (tag_passes P k t) attribute_tested (live_at P k)
      go false = refl

  content-plain : (t : Tag) (b : Bool) → html t ≡ true → content t false ≡ content t b
  content-plain t b e = rw e

  left_false : (a b : Bool) → not a || b ≡ false → a ≡ true
  left_false true b h = refl
  left_false false b h = sym h

  module _ (R : Refusals A) where
    -- A tag with its attributes: what the answer and the machine would be had they come together.
    abbrev pub whole : Machine Ids → Stack Ids → Tag → Given A → Answer Ids × Machine Ids
    whole old k t g = answer_if P R (refusal_of_push P R k t (content t g.self_closing) (keep (passes P k t g.attributes) (live_at P k))) old k t (content t g.self_closing) (keep (passes P k t g.attributes) (live_at P k))

    -- Where no attributes are asked for, the answer holds whatever they were.
    pub unasked : (k : Stack Ids) (t : Tag) (g : Given A) → asks (begin P k t) ≡ false → begun P R k t (begin P k t) ≡ whole (ready k) k t g
    unasked k t g e = go (begin P k t) (begin-finished k t g.attributes) e (content-plain t g.self_closing (left_false (html t) _ (sym (begin-asks k t) ∙ e)))
      where
        go : (sc : Scan) → finished k t g.attributes sc ≡ keep (passes P k t g.attributes) (live_at P k) → asks sc ≡ false → content t false ≡ content t g.self_closing → begun P R k t sc ≡ whole (ready k) k t g
        go (done found) e f h = λ i. answer_if P R (refusal_of_push P R k t (h i) (e i)) (ready k) k t (h i) (e i)
        go (stuck found rest) e f h = cc

    -- Where they were asked for, the answer, and so every later one, is what it were had they come with the tag; save that bad attributes are refused.
    pub resumed : (k : Stack Ids) (t : Tag) (g : Given A) (found rest : List ℕ) → begin P k t ≡ stuck found rest → R.at_attributes g.attributes ≡ 0 → step P R (waits k t found rest) (attributes g) ≡ whole (waits k t found rest) k t g
    resumed k t g found rest e z =
        let h : found ++ keep (passes P k t g.attributes) rest ≡ keep (passes P k t g.attributes) (live_at P k) = ap (finished k t g.attributes) (sym e) ∙ begin-finished k t g.attributes in
        λ i. answer_if P R (first (z i) (refusal_of_push P R k t (content t g.self_closing) (h i))) (waits k t found rest) k t (content t g.self_closing) (h i)

    -- ---- What the document says to each call. `ghost` gives the attributes of a tag that is not made to wait.
    module _ (ghost : Where A → Tag → Given A) where
      abbrev pub push_said : Where A → Element A → ℕ
      push_said c e = refusal_of_push P R (stack_of c) e.tag (has_content e) (hits_of (spot c e))

      abbrev pub comes_if : ℕ → Moment A → Where A → Element A → Answer Ids × Moment A
      comes_if zero old c e = (matched (unite (hits_of (spot c e))) (has_content e), idle (enter (has_content e) c e))
      comes_if (suc r) old c e = (refused (suc r), old)

      abbrev pub starts_if : ℕ → Where A → Tag → Answer Ids × Moment A
      starts_if zero c t = cond (must_wait c t) (attributes_wanted, waiting c t) (comes_if (push_said c (element t (ghost c t))) (idle c) c (element t (ghost c t)))
      starts_if (suc r) c t = (refused (suc r), idle c)

      abbrev pub ends_if : ℕ → Where A → ℕ → Answer Ids × Moment A
      ends_if zero c n = (popped (reverse (take n (map (λ s. unite (hits_of s)) (opened c)))), idle (closes n c))
      ends_if (suc r) c n = (refused (suc r), idle c)

      abbrev pub said : Moment A → Call A → Answer Ids × Moment A
      said (idle c) (start_tag t) = starts_if (R.at_start (weigh P (stack_of c) t) t) c t
      said (idle c) (attributes g) = (refused 23, idle c)
      said (idle c) (end_tag x room) = ends_if (R.at_end x room (nearest x (map name_of (opened c)))) c (nearest x (map name_of (opened c)))
      said (idle c) ids_asked = (top_said (opened c), idle c)
      said (waiting c t) (start_tag u) = (refused 22, waiting c t)
      said (waiting c t) (attributes g) = comes_if (first (R.at_attributes g.attributes) (push_said c (element t g))) (waiting c t) c (element t g)
      said (waiting c t) (end_tag x room) = (refused 22, waiting c t)
      said (waiting c t) ids_asked = (top_said (opened c), waiting c t)

      abbrev pub due : Moment A → List (Call A) → List (Answer Ids)
      due m [] = []
      due m (x ∷ xs) = (said m x).0 ∷ due (said m x).1 xs

      -- The machine stands where the run stands: what was found and what passes of the rest is what matches, whatever the attributes will be.
      pub data Stood : Machine Ids → Moment A → Type 0 where
        at_rest : (c : Where A) → Stood (ready (stack_of c)) (idle c)
        held : (c : Where A) (t : Tag) (found rest : List ℕ)
            → ((g : Given A) → found ++ keep (passes P (stack_of c) t g.attributes) rest ≡ hits_of (spot c (element t g)))
            → Stood (waits (stack_of c) t found rest) (waiting c t)

      all-hits : (c : Where A) (t : Tag) (g : Given A) → keep (passes P (stack_of c) t g.attributes) (live_at P (stack_of c)) ≡ hits_of (spot c (element t g))
      all-hits c t g = (λ i. keep (passes P (stack_of c) t g.attributes) (live-carried c i)) ∙ keep_same (passes P (stack_of c) t g.attributes) (λ n. address_holds P n (spot c (element t g))) (live_of c) (λ n h. ap (λ b. b && attribute_tests n t g.attributes) (passes-ok c t n h))

      pub begin-hits : (c : Where A) (t : Tag) (g : Given A) → finished (stack_of c) t g.attributes (begin P (stack_of c) t) ≡ hits_of (spot c (element t g))
      begin-hits c t g = begin-finished (stack_of c) t g.attributes ∙ all-hits c t g

      begin-waits : (c : Where A) (t : Tag) → asks (begin P (stack_of c) t) ≡ must_wait c t
      begin-waits c t = begin-asks (stack_of c) t ∙ (λ i. not (html t) || some (λ n. tag_passes P (stack_of c) t n && attribute_tested n) (live-carried c i)) ∙ ap (λ b. not (html t) || b) (some_same (λ n. tag_passes P (stack_of c) t n && attribute_tested n) (λ n. tag_ok c t n && attribute_tested n) (live_of c) (λ n h. ap (λ b. b && attribute_tested n) (passes-ok c t n h)))

      -- What a machine answers and is, against what is said.
      abbrev Same : Answer Ids × Machine Ids → Answer Ids × Moment A → Type 0
      Same r q = (r.0 ≡ q.0) × Stood r.1 q.1

      came : (r : ℕ) (old : Machine Ids) (was : Moment A) → Stood old was → (c : Where A) (e : Element A) → Same (answer_if P R r old (stack_of c) e.tag (has_content e) (hits_of (spot c e))) (comes_if r was c e)
      came zero old was s c e = (refl, rw accept-enter (at_rest (enter (has_content e) c e)))
      came (suc r) old was s c e = (refl, s)

      whole-came : (c : Where A) (t : Tag) → Same (whole (ready (stack_of c)) (stack_of c) t (ghost c t)) (comes_if (push_said c (element t (ghost c t))) (idle c) c (element t (ghost c t)))
      whole-came c t = rw (all-hits c t (ghost c t)) (came (push_said c (element t (ghost c t))) (ready (stack_of c)) (idle c) (at_rest c) c (element t (ghost c t)))

      started : (c : Where A) (t : Tag) (r : ℕ) → Same (begin_if P R r (stack_of c) t) (starts_if r c t)
      started c t zero = go (must_wait c t) refl
        where
          stopped : (sc : Scan) → asks sc ≡ true → ((g : Given A) → finished (stack_of c) t g.attributes sc ≡ hits_of (spot c (element t g))) → Same (begun P R (stack_of c) t sc) (attributes_wanted, waiting c t)
          stopped (done found) e f = absurd (false≢true e)
          stopped (stuck found rest) e f = (refl, held c t found rest f)

          go : (b : Bool) → must_wait c t ≡ b → Same (begun P R (stack_of c) t (begin P (stack_of c) t)) (cond b (attributes_wanted, waiting c t) (comes_if (push_said c (element t (ghost c t))) (idle c) c (element t (ghost c t))))
          go true e = stopped (begin P (stack_of c) t) (begin-waits c t ∙ e) (begin-hits c t)
          go false e = rw (unasked (stack_of c) t (ghost c t) (begin-waits c t ∙ e)) (whole-came c t)
      started c t (suc r) = (refl, at_rest c)

      ended : (r : ℕ) (c : Where A) (n : ℕ) → Same (close_if P R r (stack_of c) n) (ends_if r c n)
      ended zero c n = rw (ids-open c, pops-closes) (refl, at_rest (closes n c))
      ended (suc r) c n = (refl, at_rest c)

      pub step-said : (m : Machine Ids) (s : Moment A) → Stood m s → (x : Call A) → Same (step P R m x) (said s x)
      step-said m s (at_rest c) (start_tag t) = started c t (R.at_start (weigh P (stack_of c) t) t)
      step-said m s (at_rest c) (attributes g) = (refl, at_rest c)
      step-said m s (at_rest c) (end_tag x room) = rw (names-open c) (ended (R.at_end x room (nearest x (map name_of (opened c)))) c (nearest x (map name_of (opened c))))
      step-said m s (at_rest c) ids_asked = (top-open c, at_rest c)
      step-said m s (held c t found rest f) (start_tag u) = (refl, held c t found rest f)
      step-said m s (held c t found rest f) (attributes g) = rw (f g) (came (first (R.at_attributes g.attributes) (push_said c (element t g))) (waits (stack_of c) t found rest) (waiting c t) (held c t found rest f) c (element t g))
      step-said m s (held c t found rest f) (end_tag x room) = (refl, held c t found rest f)
      step-said m s (held c t found rest f) ids_asked = (top-open c, held c t found rest f)

      run-due : (m : Machine Ids) (s : Moment A) → Stood m s → (xs : List (Call A)) → run P R m xs ≡ due s xs
      run-due m s q [] = refl
      run-due m s q (x ∷ xs) = let (p, h) = step-said m s q x in ap₂ {C = List (Answer Ids)} (λ u v. u ∷ v) p (run-due (step P R m x).1 (said s x).1 h xs)

      -- The machine answers by the document, for every run of calls from a fresh machine.
      pub faithful : (xs : List (Call A)) → run P R (ready empty) xs ≡ due (idle start) xs
      faithful xs = run-due _ _ (at_rest start) xs
