-- The marked examples P1 to P12 of 01, section 6, as one list of expected results.
use Rattle.std.specs.Prelude.{◌≡◌, Bool, true, false, List, [], ◌∷◌, map, ℕ, ◌+◌, ◌*◌, ℤ, pos, negsuc, replicate, get_or}
use Rattle.nth.specs.Nth.{nth_holds}
use Rattle.operators.specs.declared.Operator.{Operator}
use Rattle.operators.specs.declared.Operator.TheVariants.{Includes, Dash, Prefix, Suffix, Substring}
use Rattle.node_tests.specs.Tests.{compares, attribute_holds}
use Rattle.compiler.specs.Examples.{p10}
use Rattle.stack.specs.Stores.{Stores, stores, rows_size, names_size, ids_size, nodes_size}
use Rattle.making.specs.Making.{Fresh, fresh_call}
use Rattle.meaning.specs.Calls.{Answer, matched, popped}
use Rattle.demand.specs.Statement.{HostCall, host_start_tag, host_end_tag, answers, made_in}

-- ---- What is asked.

-- Whether a step and an offset hold at each of these indices.
abbrev pub nth : (step offset : ℤ) → List ℕ → List Bool
nth step offset indices = map (λ i. nth_holds step offset (pos i)) indices

-- Whether a test of the attribute `a`, with this operator, case byte and operand, holds of each of these values.
abbrev pub compared : Operator → (case : ℕ) → (operand : List ℕ) → List (List ℕ) → List Bool
compared operator case operand values = map (λ v. attribute_holds true (record { name = 97 ∷ []; value = v } ∷ []) (compares operator case (97 ∷ []) operand)) values

-- Full-size state stores of zeros, and the machine made in them for a sheet, ESI off, with an instruction store of zeros for six nodes.
abbrev pub zeros : Stores
zeros = stores (replicate rows_size 0) (replicate names_size 0) (replicate ids_size 0) (replicate nodes_size 0)

abbrev pub made : List ℕ → Fresh
made sheet = fresh_call sheet false (replicate 48 0) zeros

-- The letters of these instructions: each one's row begins with its record's place, and the record's one test is for a name of one letter, 13 bytes on.
abbrev pub letters_at : (sheet : List ℕ) → List ℕ → List ℕ
letters_at sheet places = map (λ a. get_or sheet (get_or (made sheet).program (a * 8) 0 + 13) 0) places

-- The machine's answers to a list of calls.
abbrev pub answered : (sheet : List ℕ) → List HostCall → List (Answer (List ℕ))
answered sheet calls = answers sheet (made sheet).program (made_in zeros (made sheet)) calls

-- The sheet without a node.
unfoldable pub p11 : List ℕ
p11 = 1 ∷ 0 ∷ 0 ∷ 0 ∷ 9 ∷ 0 ∷ 0 ∷ 0 ∷ 0 ∷ []

-- The sheet of `div > p`: a root for `div`, without an id; its child for `p`, with id 3.
unfoldable pub p12 : List ℕ
p12 =
    1 ∷ 0 ∷ 0 ∷ 0 ∷ 40 ∷ 0 ∷ 2 ∷ 0 ∷ 1 ∷  -- version, length, N, R
    0 ∷ 14 ∷ 0 ∷ 1 ∷ 0 ∷ 0 ∷ 1 ∷ 0 ∷ 0 ∷ 0 ∷ 5 ∷ 3 ∷ 0 ∷ 100 ∷ 105 ∷ 118 ∷  -- div at 9: a child
    0 ∷ 13 ∷ 1 ∷ 3 ∷ 1 ∷ 0 ∷ 0 ∷ 0 ∷ 0 ∷ 0 ∷ 0 ∷ 3 ∷ 3 ∷ 0 ∷ 112 ∷  -- p at 25
    []

-- Names, and HTML start tags of them; the buffer for popped ids.
abbrev pub div : List ℕ
div = 100 ∷ 105 ∷ 118 ∷ []

abbrev pub span : List ℕ
span = 115 ∷ 112 ∷ 97 ∷ 110 ∷ []

abbrev pub p : List ℕ
p = 112 ∷ []

abbrev pub html : List ℕ → HostCall
html name = host_start_tag 0 name

abbrev pub buffer : List ℕ
buffer = replicate 4 0

-- Sets of ids as two words: none, and id 3.
abbrev pub none : List ℕ
none = 0 ∷ 0 ∷ []

abbrev pub id_3 : List ℕ
id_3 = 8 ∷ 0 ∷ []

-- ---- THE LIST.

pub record MarkedExamples : Type 0 where
  -- 2n + 1: the odd ones
  pub P1 : nth (pos 2) (pos 1) (1 ∷ 3 ∷ 5 ∷ 2 ∷ []) ≡ true ∷ true ∷ true ∷ false ∷ []
  -- -n + 3: the first three
  pub P2 : nth (negsuc 0) (pos 3) (1 ∷ 3 ∷ 4 ∷ []) ≡ true ∷ true ∷ false ∷ []
  -- 0n + 0: none, since counting begins at 1
  pub P3 : nth (pos 0) (pos 0) (1 ∷ []) ≡ false ∷ []
  -- n + b for the least b of 32 bits: all, also the first
  pub P4 : nth (pos 1) (negsuc 2147483647) (1 ∷ []) ≡ true ∷ []
  -- an empty prefix is found in any value that has a byte (E1)
  pub P5 : compared Prefix 0 [] ((97 ∷ []) ∷ [] ∷ []) ≡ true ∷ false ∷ []
  -- an empty word is found between two spaces and in nothing, not between words (E2)
  pub P6 : compared Includes 0 [] ((97 ∷ 32 ∷ 32 ∷ 98 ∷ []) ∷ [] ∷ (97 ∷ 32 ∷ 98 ∷ []) ∷ []) ≡ true ∷ true ∷ false ∷ []
  -- a language, alone or with a hyphen behind it, and not at the front of a word
  pub P7 : compared Dash 0 (101 ∷ 110 ∷ []) ((101 ∷ 110 ∷ []) ∷ (101 ∷ 110 ∷ 45 ∷ 85 ∷ 83 ∷ []) ∷ (101 ∷ 110 ∷ 103 ∷ 108 ∷ 105 ∷ 115 ∷ 104 ∷ []) ∷ []) ≡ true ∷ true ∷ false ∷ []
  -- an empty substring is found nowhere
  pub P8 : compared Substring 0 [] ((97 ∷ []) ∷ []) ≡ false ∷ []
  -- a file's ending in capitals, with ASCII case ignored and exactly
  pub P9 : map (λ case. compared Suffix case (46 ∷ 72 ∷ 84 ∷ 77 ∷ 76 ∷ []) ((120 ∷ 46 ∷ 104 ∷ 116 ∷ 109 ∷ 108 ∷ []) ∷ [])) (2 ∷ 0 ∷ []) ≡ (true ∷ []) ∷ (false ∷ []) ∷ []
  -- two roots, the first with a child tree, which has a descendant tree, and a descendant tree of its own: siblings are neighbours, and a child's trees come before a descendant's
  pub P10 : letters_at p10 (0 ∷ 1 ∷ 2 ∷ 3 ∷ 4 ∷ []) ≡ 97 ∷ 98 ∷ 99 ∷ 102 ∷ 103 ∷ []
  -- an end tag that nothing open bears closes nothing, one that the outer bears closes both
  pub P11 : answered p11 (html div ∷ html span ∷ host_end_tag p buffer ∷ host_end_tag div buffer ∷ []) ≡ matched none true ∷ matched none true ∷ popped [] ∷ popped (none ∷ none ∷ []) ∷ []
  -- a child is matched, a grandchild is not
  pub P12 : map (answered p12) ((html div ∷ html p ∷ []) ∷ (html div ∷ html span ∷ html p ∷ []) ∷ []) ≡ (matched none true ∷ matched id_3 true ∷ []) ∷ (matched none true ∷ matched none true ∷ matched none true ∷ []) ∷ []
