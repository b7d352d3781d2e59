-- Scans over the live instructions (01, section 4: when a tag waits, and what it matches).
use Rattle.std.specs.Prelude.{Bool, cond, ◌&&◌, List, [], ◌∷◌, ℕ, ◌+◌, ◌-◌, ltb, length, take, Some, None}
use Rattle.rules.specs.Attributes.{Attribute}
use Rattle.cursors.specs.declared.Cursor.{Cursor}
use Rattle.cursors.specs.declared.Ranges.{Ranges}
use Rattle.exec.specs.declared.scan.Scanned.{Scanned}
use Rattle.instructions.specs.Instructions.{row_word, key_fits, tests_end, tag_count, attribute_count, tag_passes, attribute_passes, asks}
use Rattle.cursors.specs.Cursors.{rest, ats}

-- The members that pass a test, in their order.
unfoldable pub keep : (ℕ → Bool) → List ℕ → List ℕ
keep p [] = []
keep p (x ∷ xs) = cond (p x) (x ∷ keep p xs) (keep p xs)

-- A scan by the tag alone: these match and it is over; or these match so far, and it stopped at an instruction that asks for attributes.
pub data Sought : Type 0 where
  over : (found : List ℕ) → Sought
  stopped : (found : List ℕ) → Cursor → Sought

-- One instruction more is found.
unfoldable pub with_found : ℕ → Sought → Sought
with_found a (over found) = over (a ∷ found)
with_found a (stopped found c) = stopped (a ∷ found) c

-- Going over the cursors: an instruction fails, or asks, or matches.
unfoldable pub seek : (passes asking : ℕ → Bool) → List Cursor → Sought
seek passes asking [] = over []
seek passes asking (c ∷ cs) = cond (passes c.at) (cond (asking c.at) (stopped [] c) (with_found c.at (seek passes asking cs))) (seek passes asking cs)

-- What is found.
unfoldable pub found_in : Sought → List ℕ
found_in (over found) = found
found_in (stopped found c) = found

-- The answer, if so many were found before.
unfoldable pub answer_from : ℕ → Sought → Scanned
answer_from count (over found) = record { count = count + length found; stopped_at = None }
answer_from count (stopped found c) = record { count = count + length found; stopped_at = Some c }

-- ---- What one call may go over, whatever the stores hold.

-- The bytes of its tests that an instruction takes: all of them if its key fits the tag's, else none.
unfoldable pub tests_taken : (sheet program : List ℕ) → ℕ → ℕ → ℕ
tests_taken sheet program key a =
    cond (key_fits program key a) (tests_end sheet (tag_count program a + attribute_count program a) (row_word program a 1) - row_word program a 1) 0

-- The cursors from the first on, as far as so many bytes of tests go.
unfoldable pub within_tests : (sheet program : List ℕ) → ℕ → ℕ → List Cursor → List Cursor
within_tests sheet program key bytes [] = []
within_tests sheet program key bytes (c ∷ cs) =
    cond (ltb bytes (tests_taken sheet program key c.at)) []
    (c ∷ within_tests sheet program key (bytes - tests_taken sheet program key c.at) cs)

-- The live instructions from a cursor on, as many as the budgets allow: so many instructions, and so many bytes of tests.
unfoldable pub live : (sheet program nodes : List ℕ) → Ranges → (key : ℕ) → Cursor → (budget bytes : ℕ) → List Cursor
live sheet program nodes ranges key from budget bytes = within_tests sheet program key bytes (take budget (rest program nodes ranges from))

-- ---- The two scans.

-- The scan of a tag from a cursor on. The tests of one call take no more bytes than the sheet has.
unfoldable pub tag_scan : (sheet program nodes : List ℕ) → Ranges → (name : List ℕ) → (key child of_type : ℕ) → Cursor → (budget bytes : ℕ) → Sought
tag_scan sheet program nodes ranges name key child of_type from budget bytes =
    seek (tag_passes sheet program name key child of_type) (asks program) (live sheet program nodes ranges key from budget bytes)

-- All tests of an instruction hold.
unfoldable pub all_pass : (sheet program name : List ℕ) → (key child of_type : ℕ) → Bool → List Attribute → ℕ → Bool
all_pass sheet program name key child of_type html attributes a =
    tag_passes sheet program name key child of_type a && attribute_passes sheet program html attributes a

-- The instructions from a cursor on that match with the attributes at hand.
unfoldable pub attribute_scan : (sheet program nodes : List ℕ) → Ranges → (name : List ℕ) → (key child of_type : ℕ) → Bool → List Attribute → Cursor → (budget bytes : ℕ) → List ℕ
attribute_scan sheet program nodes ranges name key child of_type html attributes from budget bytes =
    keep (all_pass sheet program name key child of_type html attributes) (ats (live sheet program nodes ranges key from budget bytes))
