-- A sheet is read left to right, each piece checked as read; the first fault stands (01, section 2). One line for each refusal.
use Rattle.std.specs.Prelude.{cond, not, List, ℕ, zero, suc, ◌+◌, ltb, leb, eqb, length, get_or}
use Rattle.cells.specs.Numbers.{be16, be32}
use Rattle.meaning.specs.Document.{child, descendant, by_link}
use Rattle.meaning.specs.Trees.{Forest, Node, size}
use Rattle.node_records.specs.Records.{NodeRecord, record_at, child_count, descendant_count}
use Rattle.node_records.specs.Checks.{check_record}
use Rattle.refusals.specs.Numbers.{Judged}
use Rattle.sheet.specs.declared.Walked.{Walked}

-- ---- trees

-- What was read, and where the next piece begins; or a refusal and its place.
pub data Parsed (A : Type 0) : Type 0 where
  refused : (number place : ℕ) → Parsed A
  read : A → (next : ℕ) → Parsed A

-- After something that was good, the next.
unfoldable pub and_then : {A B : Type 0} → Parsed A → (A → ℕ → Parsed B) → Parsed B
and_then (refused number place) more = refused number place
and_then (read x next) more = more x next

unfoldable pub after_step : {A : Type 0} → Judged ℕ → (ℕ → Parsed A) → Parsed A
after_step (Judged.Refused number place) more = refused number place
after_step (Judged.Good next) more = more next

-- How many nodes a tree has.
abbrev pub tree_size : Node NodeRecord → ℕ
tree_size t = 1 + size (t.below child) + size (t.below descendant)

-- The tree at a place, after `used` nodes of a sheet of `total`; `below` reads so many trees at a place after so many nodes.
unfoldable pub parse_tree : (ℕ → ℕ → ℕ → Parsed (Forest NodeRecord)) → List ℕ → (total at used : ℕ) → Parsed (Node NodeRecord)
parse_tree below s total at used =
    cond (leb total used) (refused 7 at)  -- 7: this would be node N + 1
    (after_step (check_record s at) (λ next.
    and_then (below (child_count s at) next (used + 1)) (λ children p.
    and_then (below (descendant_count s at) p (used + 1 + size children)) (λ descendants q.
    read (record { says = record_at s at; below = by_link (λ _. Forest NodeRecord) children descendants }) q))))

-- So many trees side by side, of which `tree` reads one at a place after so many nodes.
unfoldable pub parse_many : (ℕ → ℕ → Parsed (Node NodeRecord)) → (n at used : ℕ) → Parsed (Forest NodeRecord)
parse_many tree zero at used = read Forest.end at
parse_many tree (suc n) at used =
    and_then (tree at used) (λ t next.
    and_then (parse_many tree n next (used + tree_size t)) (λ siblings q.
    read (Forest.tree t.says t.below siblings) q))

-- The tree at a place, with so many levels left.
unfoldable pub tree_at : ℕ → List ℕ → (total at used : ℕ) → Parsed (Node NodeRecord)
tree_at zero s total at used = refused 6 at  -- 6: deeper than 32
tree_at (suc depth) s total at used = parse_tree (parse_many (tree_at depth s total)) s total at used

-- So many trees side by side, with so many levels left.
unfoldable pub parse_trees : ℕ → List ℕ → (total n at used : ℕ) → Parsed (Forest NodeRecord)
parse_trees depth s total = parse_many (tree_at depth s total)

-- ---- the sheet

-- N, all nodes.
abbrev pub node_count : List ℕ → ℕ
node_count s = be16 s 5

-- R, root nodes.
abbrev pub root_count : List ℕ → ℕ
root_count s = be16 s 7

-- What stands after the last record.
unfoldable pub parse_end : List ℕ → Forest NodeRecord → ℕ → Parsed (Forest NodeRecord)
parse_end s forest next =
    cond (not (eqb next (length s))) (refused 13 next)  -- 13: bytes left over
    (cond (not (eqb (size forest) (node_count s))) (refused 13 next)  -- 13: fewer than N nodes
    (read forest next))

-- The whole sheet: a refusal and its place, or its forest.
unfoldable pub parse_sheet : List ℕ → Parsed (Forest NodeRecord)
parse_sheet s =
    cond (ltb (length s) 9) (refused 1 0)  -- 1: fewer than 9 bytes
    (cond (ltb 65536 (length s)) (refused 2 0)  -- 2: more than 65,536 bytes
    (cond (not (eqb (get_or s 0 0) 1)) (refused 3 0)  -- 3: version not 1
    (cond (not (eqb (be32 s 1) (length s))) (refused 4 0)  -- 4: the length field differs
    (cond (ltb 1024 (node_count s)) (refused 5 0)  -- 5: N above 1,024
    (and_then (parse_trees 32 s (node_count s) (root_count s) 9 0) (parse_end s))))))

-- ---- what the code answers: the same with what was read forgotten

abbrev pub on : (next used : ℕ) → Judged Walked
on next used = Judged.Good (record { next = next; used = used })

-- Where trees end, and how many nodes were read up to there.
unfoldable pub walk_of : {A : Type 0} → (A → ℕ) → (used : ℕ) → Parsed A → Judged Walked
walk_of nodes used (refused number place) = Judged.Refused number place
walk_of nodes used (read x next) = on next (used + nodes x)

-- The checker's answer: good, or 01's number and place.
unfoldable pub checked_of : Parsed (Forest NodeRecord) → Judged Unit
checked_of (refused number place) = Judged.Refused number place
checked_of (read forest next) = Judged.Good tt
