-- What a machine is given, what it is called with and what it answers (01, sections 2 and 3). It knows tests only by promise.
use Rattle.std.specs.Prelude.{◌≡◌, ◌↔◌, List, Bool, false, true, ℕ}
use Rattle.meaning.specs.Lists.{◌∈◌, gather, Rising}
use Rattle.meaning.specs.Document.{Link}
use Rattle.meaning.specs.Match.{Way}
use Rattle.meaning.specs.Elements.{Name, Tag, Given}

-- A compiled sheet: nodes are addresses, and tests are known by these laws only.
pub record Program (A : Type 0) : Type 1 where
  pub roots : List ℕ
  pub hung : Link → ℕ → List ℕ
  pub tag_tests : ℕ → (position position_of_name : ℕ) → Tag → Bool  -- all tag tests of the node hold
  pub attribute_tested : ℕ → Bool  -- it has an attribute test
  pub attribute_tests : ℕ → Tag → A → Bool  -- all attribute tests of the node hold
  pub untested : (n : ℕ) → attribute_tested n ≡ false → (t : Tag) (a : A) → attribute_tests n t a ≡ true
  pub types_counted : Bool  -- nth-of-type is in use
  pub uncounted : types_counted ≡ false → (n : ℕ) → Way roots hung n → (i j k : ℕ) (t : Tag) → tag_tests n i j t ≡ tag_tests n i k t
  pub ids : ℕ → List ℕ  -- the ids of the node
  pub Ids : Type 0  -- sets of ids
  pub unite : List ℕ → Ids  -- the ids of these nodes
  pub list : Ids → List ℕ
  pub rising : (x : Ids) → Rising (list x)
  pub united : (ns : List ℕ) (i : ℕ) → (i ∈ list (unite ns)) ↔ (i ∈ gather ids ns)

-- What the limits of section 2 look at when a tag comes.
pub record Load : Type 0 where
  pub children : ℕ  -- how many children the parent, or the root, has so far
  pub new_pair : Bool  -- types are counted, and the name is new at this level
  pub pairs : ℕ  -- live pairs of name and level
  pub opens : ℕ  -- open elements
  pub givers : ℕ  -- matched nodes with child trees, summed over the open elements

-- When a call is refused, and by which number; 0 is none. They are a parameter of every theorem.
pub record Refusals (A : Type 0) : Type 0 where
  pub at_start : Load → Tag → ℕ  -- 20, 21, 25, 26
  pub at_attributes : A → ℕ  -- 24
  pub at_push : Load → (content : Bool) → (givers : ℕ) → ℕ  -- 27, 28
  pub at_end : Name → (room popped : ℕ) → ℕ  -- 20, 29

-- What a machine is called with.
pub data Call (A : Type 0) : Type 0 where
  start_tag : Tag → Call A
  attributes : Given A → Call A
  end_tag : Name → (room : ℕ) → Call A  -- with the room of the buffer for popped ids
  ids_asked : Call A

-- What it answers.
pub data Answer (Ids : Type 0) : Type 0 where
  matched : Ids → (content : Bool) → Answer Ids
  attributes_wanted : Answer Ids
  popped : List Ids → Answer Ids
  top_ids : Ids → Answer Ids
  nothing_open : Answer Ids
  refused : ℕ → Answer Ids
