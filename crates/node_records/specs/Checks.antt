-- A node's record is read left to right, each piece checked as read; the first fault stands (01, section 2). One line for each refusal.
use Rattle.std.specs.Prelude.{Bool, true, false, cond, not, List, [], ◌∷◌, ℕ, zero, suc, ◌+◌, ltb, leb, eqb, length, get_or}
use Rattle.cells.specs.Numbers.{part, be16}
use Rattle.node_records.specs.Records.{end_of, counts_at}
use Rattle.node_records.specs.declared.Links.{Links}
use Rattle.refusals.specs.Numbers.{Judged}

-- After a piece that was good, the next.
unfoldable pub then_step : Judged ℕ → (ℕ → Judged ℕ) → Judged ℕ
then_step (Judged.Refused number place) more = Judged.Refused number place
then_step (Judged.Good next) more = more next

-- ---- one test

-- Tag tests have kinds 1 to 5, attribute tests 16 to 25.
unfoldable pub kind_ok : (attributes : Bool) → ℕ → Bool
kind_ok false kind = cond (ltb kind 1) false (leb kind 5)
kind_ok true kind = cond (ltb kind 16) false (leb kind 25)

-- A local name has 1 to 63 bytes.
unfoldable pub name_length_ok : ℕ → Bool
name_length_ok n = cond (ltb n 1) false (leb n 63)

-- A comparison's body: case byte 0 to 3, length of the name, name, value.
unfoldable pub comparison_ok : List ℕ → Bool
comparison_ok body =
    cond (ltb (length body) 2) false
    (cond (ltb 3 (get_or body 0 0)) false
    (leb (get_or body 1 0 + 2) (length body)))

-- A body suits its kind, which is known.
unfoldable pub body_ok : ℕ → List ℕ → Bool
body_ok kind body =
    cond (eqb kind 1) (eqb (length body) 0)
    (cond (eqb kind 2) (eqb (length body) 0)
    (cond (eqb kind 3) (name_length_ok (length body))
    (cond (eqb kind 4) (eqb (length body) 8)
    (cond (eqb kind 5) (eqb (length body) 8)
    (cond (eqb kind 16) true
    (cond (eqb kind 17) true
    (cond (eqb kind 18) true
    (cond (eqb kind 19) (eqb (length body) 0)
    (comparison_ok body)))))))))

-- The test at a place, of the node whose record ends at `end`, in the group of tag tests or of attribute tests.
unfoldable pub check_test : List ℕ → (node end : ℕ) → (attributes : Bool) → ℕ → Judged ℕ
check_test s node end attributes at =
    cond (ltb end (at + 2)) (Judged.Refused 8 node)  -- 8: its length field runs past the record
    (cond (ltb end (end_of s at)) (Judged.Refused 8 node)  -- 8: it runs past the record
    (cond (ltb (be16 s at) 2) (Judged.Refused 12 at)  -- 12: length under 2
    (cond (not (kind_ok attributes (get_or s (at + 2) 0))) (Judged.Refused 11 at)  -- 11: kind unknown, or in the other group
    (cond (ltb 1 (get_or s (at + 3) 0)) (Judged.Refused 12 at)  -- 12: negation not 0 or 1
    (cond (not (body_ok (get_or s (at + 2) 0) (part s (at + 4) (end_of s at)))) (Judged.Refused 12 at)  -- 12: body
    (Judged.Good (end_of s at)))))))

-- So many tests, one after the other.
unfoldable pub check_tests : List ℕ → (node end : ℕ) → (attributes : Bool) → ℕ → ℕ → Judged ℕ
check_tests s node end attributes zero at = Judged.Good at
check_tests s node end attributes (suc n) at = then_step (check_test s node end attributes at) (check_tests s node end attributes n)

-- ---- one record

-- Ids rise strictly, none below the least and none above 127.
unfoldable pub rising : ℕ → List ℕ → Bool
rising least [] = true
rising least (id ∷ ids) = cond (ltb id least) false (cond (ltb 127 id) false (rising (id + 1) ids))

-- A record from its four numbers on, which stand at p, to its end.
unfoldable pub check_counts : List ℕ → (node end p : ℕ) → Judged ℕ
check_counts s node end p =
    cond (ltb end (p + 2)) (Judged.Refused 8 node)  -- 8: the numbers of tests run past the record
    (cond (eqb (get_or s p 0 + get_or s (p + 1) 0) 0) (Judged.Refused 10 node)  -- 10: no test at all
    (cond (ltb end (p + 6)) (Judged.Refused 8 node)  -- 8: the numbers of trees run past the record
    (then_step (check_tests s node end false (get_or s p 0) (p + 6)) (λ q.
    then_step (check_tests s node end true (get_or s (p + 1) 0) q) (λ last.
    cond (not (eqb last end)) (Judged.Refused 8 node)  -- 8: bytes stay over in the record
    (Judged.Good end))))))

-- A record from its ids on, to its end.
unfoldable pub check_ids : List ℕ → (node end : ℕ) → Judged ℕ
check_ids s node end =
    cond (ltb end (node + 3)) (Judged.Refused 8 node)  -- 8: the number of ids runs past the record
    (cond (ltb end (counts_at s node)) (Judged.Refused 8 node)  -- 8: the ids run past the record
    (cond (not (rising 0 (part s (node + 3) (counts_at s node)))) (Judged.Refused 9 node)  -- 9: ids not strictly rising, or above 127
    (check_counts s node end (counts_at s node))))

-- The record at a place.
unfoldable pub check_record : List ℕ → ℕ → Judged ℕ
check_record s at =
    cond (ltb (length s) (at + 2)) (Judged.Refused 8 at)  -- 8: its length field runs past the sheet
    (cond (ltb (length s) (end_of s at)) (Judged.Refused 8 at)  -- 8: it runs past the sheet
    (check_ids s at (end_of s at)))

-- ---- what the code answers

-- A good record's end and its numbers of trees.
unfoldable pub counts_of : List ℕ → (p : ℕ) → Judged ℕ → Judged Links
counts_of s p (Judged.Refused number place) = Judged.Refused number place
counts_of s p (Judged.Good next) = Judged.Good (record { next = next; children = be16 s (p + 2); descendants = be16 s (p + 4) })
