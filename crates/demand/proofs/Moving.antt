-- Accepting a tag, waiting, going on, popping, a fresh machine: what the stores then stand for.
use Rattle.std.specs.Prelude.{◌≡◌, Bool, cond, List, [], ◌∷◌, ℕ, zero, suc, ◌+◌, ◌-◌, ◌/◌, ◌%◌, ◌<◌, ◌≤◌, get_or}
use Rattle.std.proofs.Math.Path.{refl, sym, ap, subst}
use Rattle.std.proofs.Common.{◌∙◌, arith, add-one}
use Rattle.std.proofs.Math.Bool.{true, false}
use Rattle.std.proofs.Math.ListN.{length}
use Rattle.std.proofs.Math.Dec.{eqb}
use Rattle.cells.specs.Stretches.{cells_from, written, length-written, get-below, get_off, get-on, cells-above, cells_same}
use Rattle.sheet.specs.Parser.{node_count}
use Rattle.stack.specs.Stores as stack
use Rattle.stack.specs.Stores.{Stores, stores, open_limit, pair_limit, parent_limit, ancestor_limit, found_limit, name_limit, name_size, id_words, found_from, rows_size, names_size, ids_size, nodes_size, row_at, pair_at, name_at, pair_name_at, ids_at, row_word, count_limit, times_in, counted, bearers, new_ancestors, child_block, pushed, back_header, back_to, held_kind, held_name, held_found, held_words, held, released, fresh_words, fresh_rows}
use Rattle.stack.specs.Reads.{push-length, held_below, held-above, held-length, held_word, held-name, held_found_lem, back_above, back-header, back-length, fresh-word, fresh-length}
use Rattle.cursors.specs.declared.Cursor.{Cursor}
use Rattle.cursors.specs.declared.Ranges.{Ranges}
use Rattle.cursors.specs.Cursors.{range_at, rides, later, rest, ats}
use Rattle.instructions.specs.FoundIds.{with_ids_of}
use Rattle.shapes.specs.Shapes.{made_mark}
use Rattle.course.specs.Course.{live_ranges, held_cursor}
use Rattle.making.specs.Making.{flags_of}
use Rattle.meaning.specs.Elements.{Tag}
use Rattle.meaning.specs.Machine.{Machine, bare, empty, accept, pops}
use Rattle.demand.specs.Words.{two-words}
use Rattle.demand.specs.Rows.{Compiled, rows_program}
use Rattle.demand.specs.Decode.{hd, pairs_at, view, level_at, items_at, stack_at, stack_of, held_tag, rest_of, decode, Tidy, Alike, frames-alike, tidy-alike, tidy-pm, tidy-back, tidy-under, pops-back}
use Rattle.demand.proofs.Reading.{bearing-child, ancestors-new}
use Rattle.demand.proofs.Pushing.{pairs-same, entered, pushed-is, push-0, push-1, push-2, push-more, push-far, push-stack, push-tidy}
use Rattle.demand.proofs.Counting.{Good, level-stack, level-tidy, tallied}

-- The rest of the header: whether a tag waits, its name's length, how many nodes it found; the mark, the sheet's length, the flags.
pub record Header (C : Compiled) (esi : Bool) (s : Stores) : Type 0 where
  pub flag : hd s 4 ≤ 1
  pub name : hd s 5 ≤ name_limit
  pub found : hd s 7 ≤ node_count C.sheet
  pub mark : hd s 12 ≡ made_mark
  pub size : hd s 13 ≡ length C.sheet
  pub flags : hd s 14 ≡ flags_of esi C.types

pub header-kept : (C : Compiled) (esi : Bool) (s s' : Stores) → Header C esi s → ((i : ℕ) → 4 ≤ i → i < 16 → hd s' i ≡ hd s i) → Header C esi s'
header-kept C esi s s' h k = record {
  flag = rw (k 4 (omega arith) (omega arith)) h.flag;
  name = rw (k 5 (omega arith) (omega arith)) h.name;
  found = rw (k 7 (omega arith) (omega arith)) h.found;
  mark = k 12 (omega arith) (omega arith) ∙ h.mark;
  size = k 13 (omega arith) (omega arith) ∙ h.size;
  flags = k 14 (omega arith) (omega arith) ∙ h.flags;
}

-- ---- a push
module _ (types : Bool) (s : Stores) (g : Good types s) (x w ps as' : List ℕ) (hw : length w ≡ id_words) (hx : length x ≤ name_limit) (ho : hd s 0 < open_limit)
    (hk : hd s 1 + length ps ≤ parent_limit) (ha : hd s 2 + length as' ≤ ancestor_limit) where
  entered-good : Good types (entered s x w ps as')
  entered-good =
      let h0 = push-0 s x w ps as' g.rows g.names g.ids g.nodes ho hk ha hx hw in
      let h1 = push-1 s x w ps as' g.rows g.names g.ids g.nodes ho hk ha hx hw in
      let h2 = push-2 s x w ps as' g.rows g.names g.ids g.nodes ho hk ha hx hw in
      let h3 = push-more s x w ps as' g.rows g.names g.ids g.nodes ho hk ha hx hw 3 (omega arith) (omega arith) in
      record {
        rows = rw (push-length s.rows (length x) (suc (hd s 0)) (hd s 1 + length ps) (hd s 2 + length as')) g.rows;
        names = rw (length-written s.names (name_at (suc (hd s 0))) x) g.names;
        ids = rw (length-written s.ids (ids_at (suc (hd s 0))) w) g.ids;
        nodes = rw (length-written (written s.nodes (parent_limit + hd s 2) as') (hd s 1) ps, length-written s.nodes (parent_limit + hd s 2) as') g.nodes;
        deep = rw h0 (omega arith);
        kt = rw h1 hk;
        at = rw h2 ha;
        pt = rw h3 g.pt;
        tidy = rw (h0, h1, h2, h3) (push-tidy s x w ps as' g.rows g.names g.ids g.nodes ho hk ha hx hw g.pt g.tidy);
        short = λ i h. let k : i < hd s 3 = rw h3 at h in rw (push-far s x w ps as' g.rows g.names g.ids g.nodes ho hk ha hx hw i (omega (arith, g.pt))) (g.short i k);
        plain = λ e. h3 ∙ g.plain e;
      }

  entered-header : (i : ℕ) → 4 ≤ i → i < 16 → hd (entered s x w ps as') i ≡ hd s i
  entered-header i h k = push-more s x w ps as' g.rows g.names g.ids g.nodes ho hk ha hx hw i (omega arith) k

  entered-stack : stack_of (entered s x w ps as') ≡ record { top = bare; items = record { name = x; ids = w; parents = ps; ancestors = as'; outer = (stack_of s).top } ∷ (stack_of s).items }
  entered-stack = push-stack s x w ps as' g.rows g.names g.ids g.nodes ho hk ha hx hw g.pt g.tidy

module _ (C : Compiled) where
  open C use {sheet, program, types}

  abbrev pub new_parents : List ℕ → List ℕ
  new_parents found = bearers program (node_count sheet) child_block found

  abbrev pub new_ones : Stores → List ℕ → List ℕ
  new_ones s found = new_ancestors (stack.ancestors s) program (node_count sheet) found

  abbrev pub unite : List ℕ → List ℕ
  unite found = with_ids_of sheet program (0 ∷ 0 ∷ []) found

  -- What a push wants of room.
  pub record Roomy (s : Stores) (found : List ℕ) : Type 0 where
    pub open' : hd s 0 < open_limit
    pub parents : hd s 1 + length (new_parents found) ≤ parent_limit
    pub ancestors : hd s 2 + length (new_ones s found) ≤ ancestor_limit

  pub record Settled (s s' : Stores) (content : Bool) (t : Tag) (found : List ℕ) : Type 0 where
    pub stack : stack_of s' ≡ accept (rows_program C) content (stack_of s) t found
    pub good : Good types s'
    pub header : (i : ℕ) → 4 ≤ i → i < 16 → hd s' i ≡ hd s i

  -- AN ACCEPTED TAG: counted, and pushed if it has content.
  pub settled : (s : Stores) → Good types s → (content : Bool) (t : Tag) (found : List ℕ) → length t.name ≤ name_limit → row_word s.rows (hd s 0) 1 < count_limit → times_in s.rows s.names t.name < count_limit
      → (types ≡ true → stack.known s.rows s.names t.name ≡ false → hd s 3 < pair_limit) → (content ≡ true → Roomy s found)
      → Settled s (cond content (pushed program (node_count sheet) (counted types s t.name) t.name (unite found) found) (counted types s t.name)) content t found
  unfolding level_at
  settled s g false t found hx few rare free room = let a = tallied types s g t.name hx few rare free in record { stack = a.stack; good = a.good; header = a.header }
  settled s g true t found hx few rare free room =
      let a = tallied types s g t.name hx few rare free in
      let r = room refl in
      let c = counted types s t.name in
      let e : new_ones c found ≡ new_ones s found = rw (a.nodes, a.at) in
      let ho : hd c 0 < open_limit = rw a.open' r.open' in
      let hk : hd c 1 + length (new_parents found) ≤ parent_limit = rw a.kt r.parents in
      let ha : hd c 2 + length (new_ones c found) ≤ ancestor_limit = rw (e, a.at) r.ancestors in
      let f = e ∙ ancestors-new C s g.tidy found in
      let k = bearing-child C found in
      let p = pushed-is program (node_count sheet) c t.name (unite found) found in
      let w = two-words sheet program found in
      record {
        stack = ap stack_of p ∙ entered-stack types c a.good t.name (unite found) (new_parents found) (new_ones c found) w hx ho hk ha
            ∙ (λ i. record { top = bare; items = record { name = t.name; ids = unite found; parents = k i; ancestors = f i; outer = (a.stack i).top } ∷ (a.stack i).items });
        good = subst (Good types) (sym p) (entered-good types c a.good t.name (unite found) (new_parents found) (new_ones c found) w hx ho hk ha);
        header = λ i h l. ap (λ z. hd z i) p ∙ entered-header types c a.good t.name (unite found) (new_parents found) (new_ones c found) w hx ho hk ha i h l ∙ a.header i h l;
      }

-- ---- stores that differ in the header, the waiting tag and what it found
rides-same : (program nodes nodes' : List ℕ) (limit w stage a n : ℕ) → ((i : ℕ) → a ≤ i → i < a + n → get_or nodes' i 0 ≡ get_or nodes i 0) → rides program nodes' limit w stage a n ≡ rides program nodes limit w stage a n
unfolding rides range_at
rides-same program nodes nodes' limit w stage a zero h = refl
rides-same program nodes nodes' limit w stage a (suc n) h = rw (h a (omega arith) (omega arith), rides-same program nodes nodes' limit w stage (a + 1) n (λ i p q. h i (omega arith) (omega arith)))

module _ (s s' : Stores) (hc : (i : ℕ) → 16 ≤ i → get_or s'.rows i 0 ≡ get_or s.rows i 0) (hn : (a n : ℕ) → name_size ≤ a → cells_from s'.names a n ≡ cells_from s.names a n)
    (hi : s'.ids ≡ s.ids) (hk : (i : ℕ) → i < found_from → get_or s'.nodes i 0 ≡ get_or s.nodes i 0) where
  same-pairs : (a n : ℕ) → pairs_at s'.rows s'.names a n ≡ pairs_at s.rows s.names a n
  same-pairs a n = pairs-same s.rows s'.rows s.names s'.names a n (λ j p q. hc (pair_at j) (omega arith)) (λ j p q. hc (pair_at j + 1) (omega arith)) (λ j p q. hn (pair_name_at j) (get_or s.rows (pair_at j) 0) (omega arith))

  same_alike : (d kt at p : ℕ) → kt ≤ parent_limit → at ≤ ancestor_limit → Alike (view s) (view s') d kt at p
  same_alike d kt at p hkt hat = record {
    name_length = λ j p q. hc (row_at j + 0) (omega arith);
    parents_mark = λ j q. hc (row_at j + 2) (omega arith);
    ancestors_mark = λ j q. hc (row_at j + 3) (omega arith);
    pairs_mark = λ j q. hc (row_at j + 4) (omega arith);
    children = λ j q. hc (row_at j + 1) (omega arith);
    name = λ j p q l. rw (hc (row_at j + 0) (omega arith)) (hn (name_at j) (row_word s.rows j 0) (omega arith));
    ids = λ j p q. ap (λ l. cells_from l (ids_at j) id_words) hi;
    parents = λ a b h g. cells_same s.nodes s'.nodes a (b - a) (λ i p q. hk i (omega arith));
    ancestors = λ a b h g. cells_same s.nodes s'.nodes (parent_limit + a) (b - a) (λ i p q. hk i (omega arith));
    pairs = λ a b h g. same-pairs a (b - a);
  }

  same_rest : (program : List ℕ) (m : Ranges) (c : Cursor) → m.parents_top ≤ found_from → m.ancestors_top ≤ found_from → rest program s'.nodes m c ≡ rest program s.nodes m c
  unfolding rest later
  same_rest program m c h g =
      rw (
        rides-same program s.nodes s'.nodes m.limit 3 0 c.slot (m.parents_top - c.slot) (λ i p q. hk i (omega arith)),
        rides-same program s.nodes s'.nodes m.limit 5 1 m.ancestors_from (m.ancestors_top - m.ancestors_from) (λ i p q. hk i (omega arith)),
        rides-same program s.nodes s'.nodes m.limit 5 1 c.slot (m.ancestors_top - c.slot) (λ i p q. hk i (omega arith)),
      )

  module _ (types : Bool) (g : Good types s) (h0 : hd s' 0 ≡ hd s 0) (h1 : hd s' 1 ≡ hd s 1) (h2 : hd s' 2 ≡ hd s 2) (h3 : hd s' 3 ≡ hd s 3) where
    same-stack : stack_of s' ≡ stack_of s
    unfolding level_at
    same-stack =
        level-stack s s' (same_alike (hd s 0) (hd s 1) (hd s 2) (row_word s.rows (hd s 0) 4) g.kt g.at) g.tidy (hd s 3) (row_word s.rows (hd s 0) 1) (stack_of s).top.types h0 h1 h2 h3
        (hc (row_at (hd s 0) + 1) (omega arith)) (same-pairs (row_word s.rows (hd s 0) 4) (hd s 3 - row_word s.rows (hd s 0) 4))

    same_good : length s'.rows ≡ length s.rows → length s'.names ≡ length s.names → length s'.nodes ≡ length s.nodes → Good types s'
    same_good er en ek = record {
      rows = rw er g.rows;
      names = rw en g.names;
      ids = rw hi g.ids;
      nodes = rw ek g.nodes;
      deep = rw h0 g.deep;
      kt = rw h1 g.kt;
      at = rw h2 g.at;
      pt = rw h3 g.pt;
      tidy = rw (h0, h1, h2, h3) (level-tidy s s' (same_alike (hd s 0) (hd s 1) (hd s 2) (row_word s.rows (hd s 0) 4) g.kt g.at) g.tidy (hd s 3) (omega arith));
      short = λ i h. rw (hc (pair_at i) (omega arith)) (g.short i (rw h3 at h));
      plain = λ e. h3 ∙ g.plain e;
    }

-- The same stack, and the stores are good.
pub record Same (types : Bool) (s s' : Stores) : Type 0 where
  pub stack : stack_of s' ≡ stack_of s
  pub good : Good types s'

-- ---- a tag waits no longer
module _ (types : Bool) (s : Stores) (g : Good types s) where
  pub released-off : (i : ℕ) → (i ≡ 4 → ⊥) → hd (released s) i ≡ hd s i
  released-off i n = get_off s.rows 4 0 i n

  pub released-flag : hd (released s) 4 ≡ 0
  released-flag = get-on s.rows 4 0 (omega (arith, g.rows))

  pub released-same : Same types s (released s)
  released-same =
      let hc : (i : ℕ) → 16 ≤ i → get_or (released s).rows i 0 ≡ get_or s.rows i 0 = λ i h. released-off i (λ e. omega arith) in
      let h0 = released-off 0 (λ e. omega arith) in
      let h1 = released-off 1 (λ e. omega arith) in
      let h2 = released-off 2 (λ e. omega arith) in
      let h3 = released-off 3 (λ e. omega arith) in
      record {
        stack = same-stack s (released s) hc (λ a n h. refl) refl (λ i h. refl) types g h0 h1 h2 h3;
        good = same_good s (released s) hc (λ a n h. refl) refl (λ i h. refl) types g h0 h1 h2 h3 (length-written s.rows 4 (0 ∷ [])) refl refl;
      }

-- ---- a tag waits
module _ (types : Bool) (s : Stores) (g : Good types s) (x : List ℕ) (kind : ℕ) (found : List ℕ) (stage slot at stop : ℕ) (hx : length x ≤ name_limit) (hm : length found ≤ found_limit) where
  abbrev w' : Stores
  w' = held s x kind found stage slot at stop

  w_cell : (i : ℕ) → 12 ≤ i → get_or w'.rows i 0 ≡ get_or s.rows i 0
  w_cell i h = held-above s.rows x kind found stage slot at stop i h

  pub wait-low : (i : ℕ) → i < 4 → hd w' i ≡ hd s i
  wait-low i h = held_below s.rows x kind found stage slot at stop i h

  pub wait-high : (i : ℕ) → 12 ≤ i → hd w' i ≡ hd s i
  wait-high i h = w_cell i h

  w-name : (a n : ℕ) → name_size ≤ a → cells_from w'.names a n ≡ cells_from s.names a n
  w-name a n h = cells-above s.names 0 x a n (omega arith)

  w-node : (i : ℕ) → i < found_from → get_or w'.nodes i 0 ≡ get_or s.nodes i 0
  w-node i h = get-below s.nodes found_from found i h

  pub wait-new : (j : ℕ) → j < 8 → get_or w'.rows (4 + j) 0 ≡ get_or (held_words x kind found stage slot at stop) j 0
  wait-new j h = held_word s.rows x kind found stage slot at stop (omega (arith, g.rows)) j h

  pub wait-same : Same types s w'
  wait-same =
      let hc : (i : ℕ) → 16 ≤ i → get_or w'.rows i 0 ≡ get_or s.rows i 0 = λ i h. w_cell i (omega arith) in
      let h0 = wait-low 0 (omega arith) in
      let h1 = wait-low 1 (omega arith) in
      let h2 = wait-low 2 (omega arith) in
      let h3 = wait-low 3 (omega arith) in
      record {
        stack = same-stack s w' hc w-name refl w-node types g h0 h1 h2 h3;
        good = same_good s w' hc w-name refl w-node types g h0 h1 h2 h3 (held-length s.rows x kind found stage slot at stop) (length-written s.names 0 x) (length-written s.nodes found_from found);
      }

  pub wait-name : held_name w'.rows w'.names ≡ x
  wait-name = held-name s.rows x kind found stage slot at stop (omega (arith, g.rows)) s.names (omega (arith, g.names))

  pub wait-kind : held_kind w'.rows ≡ kind
  wait-kind = wait-new 2 (omega arith)

  pub wait-found : held_found w'.rows w'.nodes ≡ found
  wait-found = held_found_lem s.rows x kind found stage slot at stop (omega (arith, g.rows)) s.nodes (omega (arith, g.nodes))

  module _ (sheet program : List ℕ) (c : Cursor) (e1 : stage ≡ c.stage) (e2 : slot ≡ c.slot) (e3 : at ≡ c.at) (e4 : stop ≡ c.stop) where
    pub wait-rest : rest_of sheet program w' (held_cursor w'.rows) ≡ rest_of sheet program s c
    wait-rest =
        rw (wait-new 4 (omega arith), wait-new 5 (omega arith), wait-new 6 (omega arith), wait-new 7 (omega arith), wait-low 1 (omega arith), wait-low 2 (omega arith), e1, e2, e3, e4)
        (same_rest s w' (λ i h. w_cell i (omega arith)) w-name refl w-node program (live_ranges sheet s.rows) c (omega (arith, g.kt)) (omega (arith, g.at)))

    pub wait-decode : (t : Tag) → t.name ≡ x → t.namespace ≡ kind % 4 → t.void ≡ eqb (kind / 4 % 2) 1 → decode sheet program w' ≡ Machine.waits (stack_of s) t found (ats (rest_of sheet program s c))
    unfolding decode
    wait-decode t q1 q2 q3 =
        let tag : held_tag w' ≡ t = λ i. record { name = (wait-name ∙ sym q1) i; namespace = (ap (λ (k : ℕ). k % 4) wait-kind ∙ sym q2) i; void = (ap (λ (k : ℕ). eqb (k / 4 % 2) 1) wait-kind ∙ sym q3) i } in
        rw (wait-new 0 (omega arith)) (λ i. Machine.waits (wait-same.stack i) (tag i) (wait-found i) (ats (wait-rest i)))

-- ---- a pop: q stay
module _ (C : Compiled) (types : Bool) (s : Stores) (g : Good types s) (n q : ℕ) (e : hd s 0 ≡ suc (n + q)) where
  abbrev b' : Stores
  b' = stores (back_to s.rows q) s.names s.ids s.nodes

  b-cell : (i : ℕ) → 4 ≤ i → get_or b'.rows i 0 ≡ get_or s.rows i 0
  b-cell i h = back_above s.rows q i h

  b-new : (j : ℕ) → j < 4 → get_or b'.rows (0 + j) 0 ≡ get_or (back_header s.rows q) j 0
  b-new j h = back-header s.rows q (omega (arith, g.rows)) j h

  b-tidy : Tidy (view s) (suc (n + q)) (hd s 1) (hd s 2) (hd s 3)
  b-tidy = rw e at g.tidy

  b-alike : Alike (view s) (view b') q (row_word s.rows (suc q) 2) (row_word s.rows (suc q) 3) (row_word s.rows (suc q) 4)
  b-alike =
      let (x, y, z) = tidy-under (view s) n q (hd s 1) (hd s 2) (hd s 3) b-tidy in
      same_alike s b' (λ i h. b-cell i (omega arith)) (λ a n h. refl) refl (λ i h. refl) q (row_word s.rows (suc q) 2) (row_word s.rows (suc q) 3) (row_word s.rows (suc q) 4) (omega (arith, g.kt)) (omega (arith, g.at))

  b-back : Tidy (view s) q (row_word s.rows (suc q) 2) (row_word s.rows (suc q) 3) (row_word s.rows (suc q) 4)
  b-back = tidy-back (view s) n q (hd s 1) (hd s 2) (hd s 3) b-tidy

  pub back-stack : stack_of b' ≡ pops (rows_program C) (suc n) (stack_of s)
  unfolding level_at
  back-stack =
      let h1 : hd b' 1 ≡ row_word s.rows (suc q) 2 = b-new 1 (omega arith) ∙ rw (add-one q) in
      let h2 : hd b' 2 ≡ row_word s.rows (suc q) 3 = b-new 2 (omega arith) ∙ rw (add-one q) in
      let h3 : hd b' 3 ≡ row_word s.rows (suc q) 4 = b-new 3 (omega arith) ∙ rw (add-one q) in
      let p = tidy-pm (view s) q (row_word s.rows (suc q) 2) (row_word s.rows (suc q) 3) (row_word s.rows (suc q) 4) b-back in
      (λ i. stack_at (view b') (b-new 0 (omega arith) i) (h1 i) (h2 i) (h3 i))
      ∙ (rw (
        b-cell (row_at q + 1) (omega arith),
        b-cell (row_at q + 4) (omega arith),
        b-alike.pairs (row_word s.rows q 4) (row_word s.rows (suc q) 4) (omega arith) p,
        frames-alike (view s) (view b') q (row_word s.rows (suc q) 2) (row_word s.rows (suc q) 3) (row_word s.rows (suc q) 4) b-alike q (row_word s.rows (suc q) 2) (row_word s.rows (suc q) 3) (row_word s.rows (suc q) 4) (omega arith) (omega arith) (omega arith) (omega arith) b-back,
      ))
      ∙ sym (ap (λ d. pops (rows_program C) (suc n) (stack_at (view s) d (hd s 1) (hd s 2) (hd s 3))) e ∙ pops-back C (view s) n q (hd s 1) (hd s 2) (hd s 3))

  pub back-good : Good types b'
  back-good =
      let (x, y, z) = tidy-under (view s) n q (hd s 1) (hd s 2) (hd s 3) b-tidy in
      let h0 = b-new 0 (omega arith) in
      let h1 : hd b' 1 ≡ row_word s.rows (suc q) 2 = b-new 1 (omega arith) ∙ rw (add-one q) in
      let h2 : hd b' 2 ≡ row_word s.rows (suc q) 3 = b-new 2 (omega arith) ∙ rw (add-one q) in
      let h3 : hd b' 3 ≡ row_word s.rows (suc q) 4 = b-new 3 (omega arith) ∙ rw (add-one q) in
      record {
        rows = rw (back-length s.rows q) g.rows;
        names = g.names;
        ids = g.ids;
        nodes = g.nodes;
        deep = rw h0 (omega (arith, g.deep));
        kt = rw h1 (omega (arith, g.kt));
        at = rw h2 (omega (arith, g.at));
        pt = rw h3 (omega (arith, g.pt));
        tidy = rw (h0, h1, h2, h3) (tidy-alike (view s) (view b') q (row_word s.rows (suc q) 2) (row_word s.rows (suc q) 3) (row_word s.rows (suc q) 4) b-alike q (row_word s.rows (suc q) 2) (row_word s.rows (suc q) 3) (row_word s.rows (suc q) 4) (omega arith) b-back);
        short = λ i h. let k : i < row_word s.rows (suc q) 4 = rw h3 at h in rw (b-cell (pair_at i) (omega arith)) (g.short i (omega arith));
        plain = λ t. let k = g.plain t in h3 ∙ omega arith;
      }

  pub back-rest : (i : ℕ) → 4 ≤ i → i < 16 → hd b' i ≡ hd s i
  back-rest i h k = b-cell i h

-- ---- a fresh machine, whatever the stores held
module _ (C : Compiled) (esi : Bool) (s : Stores) (fr : rows_size ≤ length s.rows) (fn : names_size ≤ length s.names) (fi : ids_size ≤ length s.ids) (fk : nodes_size ≤ length s.nodes) where
  abbrev f' : Stores
  f' = stores (fresh_rows s.rows made_mark (length C.sheet) (flags_of esi C.types)) s.names s.ids s.nodes

  f-at : (j : ℕ) → j < 24 → get_or f'.rows (0 + j) 0 ≡ get_or (fresh_words made_mark (length C.sheet) (flags_of esi C.types)) j 0
  f-at j h = fresh-word s.rows made_mark (length C.sheet) (flags_of esi C.types) (omega arith) j h

  pub fresh-good : Good C.types f'
  fresh-good =
      let h0 = f-at 0 (omega arith) in
      let h1 = f-at 1 (omega arith) in
      let h2 = f-at 2 (omega arith) in
      let h3 = f-at 3 (omega arith) in
      record {
        rows = rw (fresh-length s.rows made_mark (length C.sheet) (flags_of esi C.types)) fr;
        names = fn;
        ids = fi;
        nodes = fk;
        deep = rw h0 (omega arith);
        kt = rw h1 (omega arith);
        at = rw h2 (omega arith);
        pt = rw h3 (omega arith);
        tidy = rw (h0, h1, h2) (refl, refl, f-at 18 (omega arith), f-at 20 (omega arith));
        short = λ i h. let k : i < 0 = rw h3 at h in absurd (let q : ⊥ = omega arith in q);
        plain = λ t. h3;
      }

  pub fresh-header : Header C esi f'
  fresh-header = record {
    flag = rw (f-at 4 (omega arith)) (omega arith);
    name = rw (f-at 5 (omega arith)) (omega arith);
    found = rw (f-at 7 (omega arith)) (omega arith);
    mark = f-at 12 (omega arith);
    size = f-at 13 (omega arith);
    flags = f-at 14 (omega arith);
  }

  pub fresh-flag : hd f' 4 ≡ 0
  fresh-flag = f-at 4 (omega arith)

  pub fresh-stack : stack_of f' ≡ empty
  unfolding level_at items_at pairs_at
  fresh-stack =
      (λ i. stack_at (view f') (f-at 0 (omega arith) i) (f-at 1 (omega arith) i) (f-at 2 (omega arith) i) (f-at 3 (omega arith) i))
      ∙ rw (f-at 17 (omega arith), f-at 20 (omega arith))
