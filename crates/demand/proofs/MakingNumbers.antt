-- DEMAND 1: a machine is made, or refused by 31, or with a place by 1 to 13 or 15; whatever bytes the sheet and the stores hold.
use Rattle.std.specs.Prelude.{◌≡◌, refl, Bool, true, false, cond, not, List, ℕ, zero, suc, ◌+◌, eqb, ltb, leb, length, get_or}
use Rattle.std.proofs.Common.{subst}
use Rattle.std.proofs.Math.Dec.{T}
use Rattle.cells.specs.Numbers.{part, be16, be32}
use Rattle.node_records.specs.Records.{NodeRecord, end_of, counts_at, child_count, descendant_count}
use Rattle.node_records.specs.Checks.{then_step, kind_ok, body_ok, rising, check_test, check_tests, check_counts, check_ids, check_record}
use Rattle.refusals.specs.Numbers.{Judged}
use Rattle.sheet.specs.Parser.{Parsed, and_then, after_step, tree_size, parse_tree, parse_many, tree_at, parse_trees, node_count, root_count, parse_end, parse_sheet}
use Rattle.program.specs.Program.{uses_nth_of_type}
use Rattle.compiler.specs.Compiler.{places, compiled_of}
use Rattle.stack.specs.Stores.{Stores}
use Rattle.shapes.specs.Shapes.{sized}
use Rattle.making.specs.Making.{Made, fresh, fresh_of, fresh_call}
use Rattle.meaning.specs.Trees.{Forest, Node, size}
use Rattle.meaning.specs.Lists.{◌∈◌, has}
use Rattle.meaning.proofs.ListLaws.{has-mem}
use Rattle.demand.specs.Numbers.{sheet_refusals}

-- A refusal's number is in the list.
abbrev Stepped : Judged ℕ → Type 0
Stepped (Judged.Refused number place) = number ∈ sheet_refusals
Stepped (Judged.Good next) = Unit

abbrev Listed : {A : Type 0} → Parsed A → Type 0
Listed (Parsed.refused number place) = number ∈ sheet_refusals
Listed (Parsed.read x next) = Unit

abbrev Named : Made → Type 0
Named Made.Ready = Unit
Named (Made.Sheet number place) = number ∈ sheet_refusals
Named (Made.Refused number) = number ≡ 31

-- ---- a record

-- One line of a check: refused by a number of the list, or what follows.
fault : (b : Bool) (number place : ℕ) (rest : Judged ℕ) → T (has number sheet_refusals) → Stepped rest → Stepped (cond b (Judged.Refused number place) rest)
fault true number place rest t p = has-mem number sheet_refusals t
fault false number place rest t p = p

then-stepped : (r : Judged ℕ) (more : ℕ → Judged ℕ) → Stepped r → ((next : ℕ) → Stepped (more next)) → Stepped (then_step r more)
unfolding then_step
then-stepped (Judged.Refused number place) more p q = p
then-stepped (Judged.Good next) more p q = q next

module _ (s : List ℕ) (node end : ℕ) where
  test-stepped : (attributes : Bool) (at : ℕ) → Stepped (check_test s node end attributes at)
  unfolding check_test
  test-stepped attributes at =
      fault (ltb end (at + 2)) 8 node _ tt
      (fault (ltb end (end_of s at)) 8 node _ tt
      (fault (ltb (be16 s at) 2) 12 at _ tt
      (fault (not (kind_ok attributes (get_or s (at + 2) 0))) 11 at _ tt
      (fault (ltb 1 (get_or s (at + 3) 0)) 12 at _ tt
      (fault (not (body_ok (get_or s (at + 2) 0) (part s (at + 4) (end_of s at)))) 12 at (Judged.Good (end_of s at)) tt tt)))))

  tests-stepped : (attributes : Bool) (n at : ℕ) → Stepped (check_tests s node end attributes n at)
  unfolding check_tests
  tests-stepped attributes zero at = tt
  tests-stepped attributes (suc n) at = then-stepped (check_test s node end attributes at) (check_tests s node end attributes n) (test-stepped attributes at) (tests-stepped attributes n)

  counts-stepped : (p : ℕ) → Stepped (check_counts s node end p)
  unfolding check_counts
  counts-stepped p =
      fault (ltb end (p + 2)) 8 node _ tt
      (fault (eqb (get_or s p 0 + get_or s (p + 1) 0) 0) 10 node _ tt
      (fault (ltb end (p + 6)) 8 node _ tt
      (then-stepped (check_tests s node end false (get_or s p 0) (p + 6)) _ (tests-stepped false (get_or s p 0) (p + 6)) (λ q.
      then-stepped (check_tests s node end true (get_or s (p + 1) 0) q) _ (tests-stepped true (get_or s (p + 1) 0) q) (λ last.
      fault (not (eqb last end)) 8 node (Judged.Good end) tt tt)))))

  ids-stepped : Stepped (check_ids s node end)
  unfolding check_ids
  ids-stepped =
      fault (ltb end (node + 3)) 8 node _ tt
      (fault (ltb end (counts_at s node)) 8 node _ tt
      (fault (not (rising 0 (part s (node + 3) (counts_at s node)))) 9 node _ tt
      (counts-stepped (counts_at s node))))

record-stepped : (s : List ℕ) (at : ℕ) → Stepped (check_record s at)
unfolding check_record
record-stepped s at =
    fault (ltb (length s) (at + 2)) 8 at _ tt
    (fault (ltb (length s) (end_of s at)) 8 at _ tt
    (ids-stepped s at (end_of s at)))

-- ---- a sheet

refuse : {A : Type 0} (b : Bool) (number place : ℕ) (rest : Parsed A) → T (has number sheet_refusals) → Listed rest → Listed (cond b (Parsed.refused number place) rest)
refuse true number place rest t p = has-mem number sheet_refusals t
refuse false number place rest t p = p

then-listed : {A B : Type 0} (r : Parsed A) (more : A → ℕ → Parsed B) → Listed r → ((x : A) (next : ℕ) → Listed (more x next)) → Listed (and_then r more)
unfolding and_then
then-listed (Parsed.refused number place) more p q = p
then-listed (Parsed.read x next) more p q = q x next

after-listed : {A : Type 0} (r : Judged ℕ) (more : ℕ → Parsed A) → Stepped r → ((next : ℕ) → Listed (more next)) → Listed (after_step r more)
unfolding after_step
after-listed (Judged.Refused number place) more p q = p
after-listed (Judged.Good next) more p q = q next

tree-listed : (below : ℕ → ℕ → ℕ → Parsed (Forest NodeRecord)) (s : List ℕ) (total at used : ℕ) → ((n p u : ℕ) → Listed (below n p u)) → Listed (parse_tree below s total at used)
unfolding parse_tree
tree-listed below s total at used h =
    refuse (leb total used) 7 at _ tt
    (after-listed (check_record s at) _ (record-stepped s at) (λ next.
    then-listed (below (child_count s at) next (used + 1)) _ (h (child_count s at) next (used + 1)) (λ children p.
    then-listed (below (descendant_count s at) p (used + 1 + size children)) _ (h (descendant_count s at) p (used + 1 + size children)) (λ descendants q. tt))))

many-listed : (tree : ℕ → ℕ → Parsed (Node NodeRecord)) → ((at used : ℕ) → Listed (tree at used)) → (n at used : ℕ) → Listed (parse_many tree n at used)
unfolding parse_many
many-listed tree h zero at used = tt
many-listed tree h (suc n) at used =
    then-listed (tree at used) _ (h at used) (λ t next.
    then-listed (parse_many tree n next (used + tree_size t)) _ (many-listed tree h n next (used + tree_size t)) (λ siblings q. tt))

at-listed : (depth : ℕ) (s : List ℕ) (total at used : ℕ) → Listed (tree_at depth s total at used)
unfolding tree_at
at-listed zero s total at used = has-mem 6 sheet_refusals tt
at-listed (suc depth) s total at used = tree-listed (parse_many (tree_at depth s total)) s total at used (many-listed (tree_at depth s total) (at-listed depth s total))

end-listed : (s : List ℕ) (forest : Forest NodeRecord) (next : ℕ) → Listed (parse_end s forest next)
unfolding parse_end
end-listed s forest next =
    refuse (not (eqb next (length s))) 13 next _ tt
    (refuse (not (eqb (size forest) (node_count s))) 13 next (Parsed.read forest next) tt tt)

sheet-listed : (s : List ℕ) → Listed (parse_sheet s)
unfolding parse_sheet parse_trees
sheet-listed s =
    refuse (ltb (length s) 9) 1 0 _ tt
    (refuse (ltb 65536 (length s)) 2 0 _ tt
    (refuse (not (eqb (get_or s 0 0) 1)) 3 0 _ tt
    (refuse (not (eqb (be32 s 1) (length s))) 4 0 _ tt
    (refuse (ltb 1024 (node_count s)) 5 0 _ tt
    (then-listed (parse_trees 32 s (node_count s) (root_count s) 9 0) (parse_end s) (many-listed (tree_at 32 s (node_count s)) (at-listed 32 s (node_count s)) (root_count s) 9 0) (end-listed s))))))

-- ---- the machine

made-named : (sheet : List ℕ) (esi : Bool) (program rows : List ℕ) (r : Parsed (Forest NodeRecord)) → Listed r → Named (fresh_of sheet esi program rows (compiled_of r program)).made
unfolding fresh_of compiled_of
made-named sheet esi program rows (Parsed.refused number place) p = p
made-named sheet esi program rows (Parsed.read forest next) p = go (ltb (places program) (size forest))
  where
    go : (b : Bool) → Named (fresh_of sheet esi program rows (cond b (Judged.Refused 15 0) (Judged.Good (uses_nth_of_type forest)))).made
    go true = has-mem 15 sheet_refusals tt
    go false = tt

module _ (sheet : List ℕ) (esi : Bool) (program : List ℕ) (s : Stores) where
  fresh-named : Named (fresh_call sheet esi program s).made
  unfolding fresh_call
  fresh-named = go (not (sized s))
    where
      go : (b : Bool) → Named (cond b (fresh (Made.Refused 31) program s.rows) (fresh_of sheet esi program s.rows (compiled_of (parse_sheet sheet) program))).made
      go true = refl
      go false = made-named sheet esi program s.rows (parse_sheet sheet) (sheet-listed sheet)

  -- ---- without a place, and with one

  pub fresh-number : (n : ℕ) → (fresh_call sheet esi program s).made ≡ Made.Refused n → n ≡ 31
  fresh-number n e = subst Named e fresh-named

  pub sheet-number : (n place : ℕ) → (fresh_call sheet esi program s).made ≡ Made.Sheet n place → n ∈ sheet_refusals
  sheet-number n place e = subst Named e fresh-named
