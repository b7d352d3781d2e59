-- The machine: a stack of open elements, and the tag that waits for its attributes (01, sections 3 and 4).
use Rattle.std.specs.Prelude.{List, [], ◌∷◌, ◌++◌, map, reverse, Bool, true, false, not, ◌&&◌, cond, take, length, ℕ, zero, suc, ◌+◌}
use Rattle.meaning.specs.Lists.{keep, some, gather, sum, minus, full}
use Rattle.meaning.specs.Document.{Link, child, descendant, links}
use Rattle.meaning.specs.Calls.{Program, Load, Refusals, Call, start_tag, attributes, end_tag, ids_asked, Answer, matched, attributes_wanted, popped, top_ids, nothing_open, refused}
use Rattle.meaning.specs.Elements.{Name, same_name, Tag, Given, html, content}

-- ---- What the machine holds.

-- How many elements of a name there are on a level.
pub record Counter : Type 0 where
  pub name : Name
  pub times : ℕ

-- What is counted under one parent, or at the root.
pub record Level : Type 0 where
  pub children : ℕ
  pub types : List Counter

-- An open element.
pub record Item (Ids : Type 0) : Type 0 where
  pub name : Name
  pub ids : Ids
  pub parents : List ℕ  -- its matched nodes with child trees
  pub ancestors : List ℕ  -- its matched nodes with descendant trees, but for those that an outer element has
  pub outer : Level  -- the level on which it stands

-- The level that is open, and the open elements, innermost first.
pub record Stack (Ids : Type 0) : Type 0 where
  pub top : Level
  pub items : List (Item Ids)

-- A machine is ready for a tag, or a tag waits: with the nodes that matched so far and the live nodes from the one on that stopped it.
pub data Machine (Ids : Type 0) : Type 0 where
  ready : Stack Ids → Machine Ids
  waits : Stack Ids → Tag → (found rest : List ℕ) → Machine Ids

-- A level where nothing is counted, and the stack of a fresh machine.
abbrev pub bare : Level
bare = record { children = 0; types = [] }

abbrev pub empty : {Ids : Type 0} → Stack Ids
empty = record { top = bare; items = [] }

-- ---- What it holds is counted and gone through.

-- How often a name was counted, the list with it counted once more, and whether it was counted at all.
abbrev pub times_of : Name → List Counter → ℕ
times_of x [] = 0
times_of x (y ∷ ys) = cond (same_name x y.name) y.times (times_of x ys)

abbrev pub count_name : Name → List Counter → List Counter
count_name x [] = record { name = x; times = 1 } ∷ []
count_name x (y ∷ ys) = cond (same_name x y.name) (record { name = y.name; times = suc y.times } ∷ ys) (y ∷ count_name x ys)

abbrev pub known : Name → List Counter → Bool
known x ys = some (λ y. same_name x y.name) ys

-- ---- Live nodes.

module _ (roots : List ℕ) (hung : Link → ℕ → List ℕ) where
  -- The nodes of a list that have trees for a link.
  abbrev pub bearing : Link → List ℕ → List ℕ
  bearing l ns = keep (λ n. full (hung l n)) ns

  -- The live nodes: the roots, and what hangs from the nodes that are carried for each link.
  abbrev pub live : (Link → List ℕ) → List ℕ
  live carried = roots ++ gather (λ l. gather (hung l) (carried l)) links

-- Going through the live nodes with the tag alone: these match whatever the attributes are; or these match so far, and the first of the rest asks for attributes.
pub data Scan : Type 0 where
  done : List ℕ → Scan
  stuck : (found rest : List ℕ) → Scan

abbrev pub found_too : ℕ → Scan → Scan
found_too n (done found) = done (n ∷ found)
found_too n (stuck found rest) = stuck (n ∷ found) rest

module _ (tag_tests attribute_tested : ℕ → Bool) where
  -- One node: it fails, or it asks, or it matches.
  abbrev pub visit : Bool → Bool → ℕ → List ℕ → Scan → Scan
  visit false asks n ns more = more
  visit true true n ns more = stuck [] (n ∷ ns)
  visit true false n ns more = found_too n more

  abbrev pub scan : List ℕ → Scan
  scan [] = done []
  scan (n ∷ ns) = visit (tag_tests n) (attribute_tested n) n ns (scan ns)

-- How many are popped, through the nearest open element of the name; the names of the open elements are innermost first.
abbrev pub up_to : Bool → ℕ → ℕ
up_to true n = 1
up_to false zero = 0
up_to false (suc n) = suc (suc n)

abbrev pub nearest : Name → List Name → ℕ
nearest x [] = 0
nearest x (y ∷ ys) = up_to (same_name x y) (nearest x ys)

-- The first of two refusals.
abbrev pub first : ℕ → ℕ → ℕ
first zero r = r
first (suc q) r = suc q

-- ---- The calls.

module _ {A : Type 0} (P : Program A) where
  open P use {roots, hung, tag_tests, attribute_tested, attribute_tests, types_counted, Ids, unite}

  -- The nodes of the top element whose child trees are live, and of all open elements whose descendant trees are, outermost first.
  abbrev pub parents_of : List (Item Ids) → List ℕ
  parents_of [] = []
  parents_of (f ∷ fs) = f.parents

  abbrev pub ancestors_of : List (Item Ids) → List ℕ
  ancestors_of [] = []
  ancestors_of (f ∷ fs) = ancestors_of fs ++ f.ancestors

  -- The nodes whose trees are live for each link.
  abbrev pub carried : Stack Ids → Link → List ℕ
  carried k child = parents_of k.items
  carried k descendant = ancestors_of k.items

  -- The live nodes: roots, child ranges of the top element, descendant ranges of all open elements.
  abbrev pub live_at : Stack Ids → List ℕ
  live_at k = live roots hung (carried k)

  -- A level with one more child of the name.
  abbrev pub counted : Level → Name → Level
  counted v x = record { children = suc v.children; types = cond types_counted (count_name x v.types) v.types }

  -- A tag is accepted: it is counted, and pushed if it has content.
  abbrev pub accept : Bool → Stack Ids → Tag → List ℕ → Stack Ids
  accept false k t found = record { top = counted k.top t.name; items = k.items }
  accept true k t found = record {
    top = bare;
    items = record {
      name = t.name;
      ids = unite found;
      parents = bearing roots hung child found;
      ancestors = minus (bearing roots hung descendant found) (carried k descendant);
      outer = counted k.top t.name;
    } ∷ k.items;
  }

  -- The innermost element is popped: the level on which it stands is open again. So for n of them.
  abbrev pub pop : List (Item Ids) → Stack Ids
  pop [] = empty
  pop (f ∷ fs) = record { top = f.outer; items = fs }

  abbrev pub pops : ℕ → Stack Ids → Stack Ids
  pops zero k = k
  pops (suc n) k = pops n (pop k.items)

  -- The positions that a tag would have.
  abbrev pub number : Stack Ids → ℕ
  number k = suc k.top.children

  abbrev pub number_of_name : Stack Ids → Name → ℕ
  number_of_name k x = suc (times_of x k.top.types)

  -- The tag tests of a node hold for a tag that comes now; and with attributes all its tests.
  abbrev pub tag_passes : Stack Ids → Tag → ℕ → Bool
  tag_passes k t n = tag_tests n (number k) (number_of_name k t.name) t

  abbrev pub passes : Stack Ids → Tag → A → ℕ → Bool
  passes k t a n = tag_passes k t n && attribute_tests n t a

  -- HTML is scanned; SVG and MathML wait before the first node.
  abbrev pub scan_if : Bool → Stack Ids → Tag → Scan
  scan_if true k t = scan (tag_passes k t) attribute_tested (live_at k)
  scan_if false k t = stuck [] (live_at k)

  abbrev pub begin : Stack Ids → Tag → Scan
  begin k t = scan_if (html t) k t

  -- Pairs of name and level that are held.
  abbrev pub pairs_of : Stack Ids → ℕ
  pairs_of k = length k.top.types + sum (map (λ f. length f.outer.types) k.items)

  -- What the limits look at.
  abbrev pub weigh : Stack Ids → Tag → Load
  weigh k t = record {
    children = k.top.children;
    new_pair = types_counted && not (known t.name k.top.types);
    pairs = pairs_of k;
    opens = length k.items;
    givers = sum (map (λ f. length f.parents) k.items);
  }

  -- The id set of the top open element.
  abbrev pub top_of : List (Item Ids) → Answer Ids
  top_of [] = nothing_open
  top_of (f ∷ fs) = top_ids f.ids

  -- `R` says what is refused. A refused call leaves the machine as it was.
  module _ (R : Refusals A) where
    -- The refusal of a tag that is whole, or 0, if these nodes match.
    abbrev pub refusal_of_push : Stack Ids → Tag → Bool → List ℕ → ℕ
    refusal_of_push k t content found = R.at_push (weigh k t) content (length (bearing roots hung child found))

    -- The answer to a tag that is whole, unless it is refused.
    abbrev pub answer_if : ℕ → Machine Ids → Stack Ids → Tag → Bool → List ℕ → Answer Ids × Machine Ids
    answer_if zero old k t content found = (matched (unite found) content, ready (accept content k t found))
    answer_if (suc r) old k t content found = (refused (suc r), old)

    -- The answer to a start tag: complete if no attributes are needed, else it waits. Nothing is counted yet.
    abbrev pub begun : Stack Ids → Tag → Scan → Answer Ids × Machine Ids
    begun k t (done found) = answer_if (refusal_of_push k t (content t false) found) (ready k) k t (content t false) found
    begun k t (stuck found rest) = (attributes_wanted, waits k t found rest)

    abbrev pub begin_if : ℕ → Stack Ids → Tag → Answer Ids × Machine Ids
    begin_if zero k t = begun k t (begin k t)
    begin_if (suc r) k t = (refused (suc r), ready k)

    -- The answer to attributes, if these nodes match.
    abbrev pub resume : Machine Ids → Stack Ids → Tag → Given A → List ℕ → Answer Ids × Machine Ids
    resume old k t g found = answer_if (first (R.at_attributes g.attributes) (refusal_of_push k t (content t g.self_closing) found)) old k t (content t g.self_closing) found

    -- Ids of the popped in opening order, the closed one first.
    abbrev pub close_if : ℕ → Stack Ids → ℕ → Answer Ids × Machine Ids
    close_if zero k n = (popped (reverse (take n (map (λ f. f.ids) k.items))), ready (pops n k))
    close_if (suc r) k n = (refused (suc r), ready k)

    abbrev pub end_if : Stack Ids → Name → ℕ → ℕ → Answer Ids × Machine Ids
    end_if k x room n = close_if (R.at_end x room n) k n

    -- One call: the answer, and the machine after it.
    abbrev pub step : Machine Ids → Call A → Answer Ids × Machine Ids
    step (ready k) (start_tag t) = begin_if (R.at_start (weigh k t) t) k t
    step (ready k) (attributes g) = (refused 23, ready k)
    step (ready k) (end_tag x room) = end_if k x room (nearest x (map (λ f. f.name) k.items))
    step (ready k) ids_asked = (top_of k.items, ready k)
    step (waits k t found rest) (start_tag u) = (refused 22, waits k t found rest)
    step (waits k t found rest) (attributes g) = resume (waits k t found rest) k t g (found ++ keep (passes k t g.attributes) rest)
    step (waits k t found rest) (end_tag x room) = (refused 22, waits k t found rest)
    step (waits k t found rest) ids_asked = (top_of k.items, waits k t found rest)

    -- The answers to a list of calls.
    abbrev pub run : Machine Ids → List (Call A) → List (Answer Ids)
    run m [] = []
    run m (x ∷ xs) = (step m x).0 ∷ run (step m x).1 xs
