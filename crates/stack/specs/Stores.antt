-- The stores of open elements: what each cell holds, and what each operation leaves (01, section 3: the stack; stack.rs).
use Rattle.std.specs.Prelude.{Bool, true, false, cond, List, [], ◌∷◌, ℕ, zero, suc, ◌+◌, ◌-◌, ◌*◌, length, get_or, eqb, ltb, leb}
use Rattle.cells.specs.Stretches.{cells_from, written}
use Rattle.letters.specs.Bytes.{equal_bytes}

-- ---- Sizes, limits and addresses: all that changes with them stands here and in the constants of src/lib.rt.

-- Words of the header, of the row of an open element, and of a pair of name and level.
abbrev pub header_size : ℕ
header_size = 16

abbrev pub row_size : ℕ
row_size = 8

abbrev pub pair_size : ℕ
pair_size = 2

-- Open elements, pairs, parents, ancestors and found nodes that there is room for (01, section 2: 27, 26, 28; N is at most 1,024).
abbrev pub open_limit : ℕ
open_limit = 256

abbrev pub pair_limit : ℕ
pair_limit = 512

abbrev pub parent_limit : ℕ
parent_limit = 4096

abbrev pub ancestor_limit : ℕ
ancestor_limit = 1024

abbrev pub found_limit : ℕ
found_limit = 1024

-- The longest name, the room of a name, and the id words of an element (01, sections 2 and 4).
abbrev pub name_limit : ℕ
name_limit = 63

abbrev pub name_size : ℕ
name_size = 64

abbrev pub id_words : ℕ
id_words = 2

-- The row of open element k, behind the header; row 0 is the root level's.
abbrev pub row_at : ℕ → ℕ
row_at k = header_size + k * row_size

-- Pair i, behind the rows: 0 length of its name, 1 times.
abbrev pub pair_at : ℕ → ℕ
pair_at i = row_at (open_limit + 1) + i * pair_size

-- The name of open element k; slot 0 is the waiting tag's. The names of the pairs stand behind those of the elements.
abbrev pub name_at : ℕ → ℕ
name_at k = k * name_size

abbrev pub pair_name_at : ℕ → ℕ
pair_name_at i = name_at (open_limit + 1 + i)

-- The id words of open element k.
abbrev pub ids_at : ℕ → ℕ
ids_at k = k * id_words

-- Among the nodes: parents from 0 on, then ancestors, then the found nodes of the waiting tag.
abbrev pub ancestors_from : ℕ
ancestors_from = parent_limit

abbrev pub found_from : ℕ
found_from = parent_limit + ancestor_limit

-- Sizes of the four stores, in cells (01, section 2: 31).
abbrev pub rows_size : ℕ
rows_size = pair_at pair_limit

abbrev pub names_size : ℕ
names_size = pair_name_at pair_limit

abbrev pub ids_size : ℕ
ids_size = ids_at (open_limit + 1)

abbrev pub nodes_size : ℕ
nodes_size = found_from + found_limit

-- ---- What the cells hold.

pub record Stores : Type 0 where
  pub rows : List ℕ
  pub names : List ℕ
  pub ids : List ℕ
  pub nodes : List ℕ

abbrev pub stores : List ℕ → List ℕ → List ℕ → List ℕ → Stores
stores r n i k = record { rows = r; names = n; ids = i; nodes = k }

-- Header: how many are open, and the tops of parents, ancestors and pairs.
abbrev pub opens : List ℕ → ℕ
opens rows = get_or rows 0 0

abbrev pub parents_top : List ℕ → ℕ
parents_top rows = get_or rows 1 0

abbrev pub ancestors_top : List ℕ → ℕ
ancestors_top rows = get_or rows 2 0

abbrev pub pairs_top : List ℕ → ℕ
pairs_top rows = get_or rows 3 0

-- Word j of row k: 0 length of the name, 1 children; 2 to 4 the tops of parents, ancestors and pairs when it was pushed.
abbrev pub row_word : List ℕ → ℕ → ℕ → ℕ
row_word rows k j = get_or rows (row_at k + j) 0

-- The children counted at the open level.
unfoldable pub children : List ℕ → ℕ
children rows = row_word rows (opens rows) 1

-- The largest number that a cell holds; one more, as far as a cell can count.
abbrev pub count_limit : ℕ
count_limit = 4294967295

unfoldable pub one_more : ℕ → ℕ
one_more n = cond (ltb n count_limit) (n + 1) n

-- ---- Names that are counted at the open level.

-- Whether so many bytes from a place on are the name.
unfoldable pub holds_name : List ℕ → ℕ → ℕ → List ℕ → Bool
holds_name names at n x = equal_bytes x (cells_from names at n)

-- The first of n pairs from pair i on that has the name, or i + n.
unfoldable pub find_pair : List ℕ → List ℕ → List ℕ → ℕ → ℕ → ℕ
find_pair rows names x i zero = i
find_pair rows names x i (suc n) = cond (holds_name names (pair_name_at i) (get_or rows (pair_at i) 0) x) i (find_pair rows names x (i + 1) n)

-- The pair of the open level with the name; its pairs stand from the mark in its row up to the top.
unfoldable pub pair_of : List ℕ → List ℕ → List ℕ → ℕ
pair_of rows names x = find_pair rows names x (row_word rows (opens rows) 4) (pairs_top rows - row_word rows (opens rows) 4)

-- Whether the name was counted at the open level, and how often.
unfoldable pub known : List ℕ → List ℕ → List ℕ → Bool
known rows names x = ltb (pair_of rows names x) (pairs_top rows)

unfoldable pub times_in : List ℕ → List ℕ → List ℕ → ℕ
times_in rows names x = cond (known rows names x) (get_or rows (pair_at (pair_of rows names x) + 1) 0) 0

-- The rows and the names with the name counted: its pair once more, or a new pair at the top, counted once.
unfoldable pub name_counted_rows : List ℕ → List ℕ → List ℕ → List ℕ
name_counted_rows rows names x =
    cond (known rows names x)
    (written rows (pair_at (pair_of rows names x) + 1) (one_more (times_in rows names x) ∷ []))
    (written (written rows (pair_at (pairs_top rows)) (length x ∷ 1 ∷ [])) 3 (one_more (pairs_top rows) ∷ []))

unfoldable pub name_counted_names : List ℕ → List ℕ → List ℕ → List ℕ
name_counted_names rows names x = cond (known rows names x) names (written names (pair_name_at (pairs_top rows)) x)

-- A tag counts at the open level: as a child and, where types are counted, under its name (01, section 3: stack).
unfoldable pub counted_rows : Bool → List ℕ → List ℕ → List ℕ → List ℕ
counted_rows types rows names x = written (cond types (name_counted_rows rows names x) rows) (row_at (opens rows) + 1) (one_more (children rows) ∷ [])

unfoldable pub counted_names : Bool → List ℕ → List ℕ → List ℕ → List ℕ
counted_names types rows names x = cond types (name_counted_names rows names x) names

abbrev pub counted : Bool → Stores → List ℕ → Stores
counted types s x = stores (counted_rows types s.rows s.names x) (counted_names types s.rows s.names x) s.ids s.nodes

-- ---- Which found nodes have trees. Words of an instruction row: 3 first and 4 count of the child block, 5 and 6 of the descendant block.
abbrev pub instruction_at : ℕ → ℕ
instruction_at a = a * 8

abbrev pub child_block : ℕ
child_block = 3

abbrev pub descendant_block : ℕ
descendant_block = 5

-- How many nodes a block has: none if it does not end within the limit.
unfoldable pub block_length : List ℕ → ℕ → ℕ → ℕ → ℕ
block_length program limit w a = cond (leb (get_or program (instruction_at a + w) 0 + get_or program (instruction_at a + w + 1) 0) limit) (get_or program (instruction_at a + w + 1) 0) 0

-- Whether a node has trees in that block.
unfoldable pub bears : List ℕ → ℕ → ℕ → ℕ → Bool
bears program limit w a = ltb 0 (block_length program limit w a)

-- The nodes that have trees in that block.
unfoldable pub bearers : List ℕ → ℕ → ℕ → List ℕ → List ℕ
bearers program limit w [] = []
bearers program limit w (a ∷ more) = cond (bears program limit w a) (a ∷ bearers program limit w more) (bearers program limit w more)

-- Whether a node is in a list.
unfoldable pub listed : ℕ → List ℕ → Bool
listed a [] = false
listed a (b ∷ bs) = cond (eqb a b) true (listed a bs)

-- The nodes that have descendant trees and are not in the list `old`.
unfoldable pub new_ancestors : List ℕ → List ℕ → ℕ → List ℕ → List ℕ
new_ancestors old program limit [] = []
new_ancestors old program limit (a ∷ more) =
    cond (bears program limit descendant_block a) (cond (listed a old) (new_ancestors old program limit more) (a ∷ new_ancestors old program limit more)) (new_ancestors old program limit more)

-- ---- Push and pop.

-- The ancestors of all open elements.
abbrev pub ancestors : Stores → List ℕ
ancestors s = cells_from s.nodes ancestors_from (ancestors_top s.rows)

-- The rows with a new row k, which keeps the tops as they are, and the header after the push.
unfoldable pub with_row : List ℕ → (length k parents ancestors : ℕ) → List ℕ
with_row rows n k parents ancestors = written (written rows (row_at k) (n ∷ 0 ∷ parents_top rows ∷ ancestors_top rows ∷ pairs_top rows ∷ [])) 0 (k ∷ parents ∷ ancestors ∷ [])

-- An element is pushed: its row, its name, its ids, and the found nodes with trees at the tops of parents and ancestors.
unfoldable pub pushed : List ℕ → ℕ → Stores → (name words found : List ℕ) → Stores
pushed program limit s x w found =
    stores
    (with_row s.rows (length x) (opens s.rows + 1) (parents_top s.rows + length (bearers program limit child_block found)) (ancestors_top s.rows + length (new_ancestors (ancestors s) program limit found)))
    (written s.names (name_at (opens s.rows + 1)) x)
    (written s.ids (ids_at (opens s.rows + 1)) w)
    (written (written s.nodes (ancestors_from + ancestors_top s.rows) (new_ancestors (ancestors s) program limit found)) (parents_top s.rows) (bearers program limit child_block found))

-- The nearest of the first k open elements with the name; 0 if none has it.
unfoldable pub nearest : List ℕ → List ℕ → List ℕ → ℕ → ℕ
nearest rows names x zero = 0
nearest rows names x (suc k) = cond (holds_name names (name_at (suc k)) (row_word rows (suc k) 0) x) (suc k) (nearest rows names x k)

-- How many are popped if the nearest of d open elements is p: those from p on (01, section 3: through the nearest, or none).
unfoldable pub through : ℕ → ℕ → ℕ
through d p = cond (eqb p 0) 0 (d + 1 - p)

unfoldable pub popped_count : List ℕ → List ℕ → List ℕ → ℕ
popped_count rows names x = through (opens rows) (nearest rows names x (opens rows))

-- The header when the first k elements stay open: the tops are those in the row of the outermost popped.
abbrev pub back_header : List ℕ → ℕ → List ℕ
back_header rows k = k ∷ row_word rows (k + 1) 2 ∷ row_word rows (k + 1) 3 ∷ row_word rows (k + 1) 4 ∷ []

unfoldable pub back_to : List ℕ → ℕ → List ℕ
back_to rows k = written rows 0 (back_header rows k)

-- So many elements are popped.
unfoldable pub popped_rows : List ℕ → ℕ → List ℕ
popped_rows rows n = cond (eqb n 0) rows (back_to rows (opens rows - n))

-- The buffer with the ids of the popped, in opening order, the closed one first; words past them stay (01, section 3).
unfoldable pub popped_ids : List ℕ → List ℕ → List ℕ → ℕ → List ℕ
popped_ids rows ids out n = written out 0 (cells_from ids (ids_at (opens rows - n + 1)) (n * id_words))

abbrev pub popped : Stores → ℕ → Stores
popped s n = stores (popped_rows s.rows n) s.names s.ids s.nodes

-- The buffer with the ids of the top open element; as it was if nothing is open.
unfoldable pub ids_of_top : List ℕ → List ℕ → List ℕ → List ℕ
ids_of_top rows ids out = cond (eqb (opens rows) 0) out (written out 0 (cells_from ids (ids_at (opens rows)) id_words))

-- ---- The waiting record: header words 4 to 11, name slot 0, and the found nodes.
abbrev pub waits : List ℕ → ℕ
waits rows = get_or rows 4 0

abbrev pub held_kind : List ℕ → ℕ
held_kind rows = get_or rows 6 0

abbrev pub held_name : List ℕ → List ℕ → List ℕ
held_name rows names = cells_from names (name_at 0) (get_or rows 5 0)

abbrev pub held_found : List ℕ → List ℕ → List ℕ
held_found rows nodes = cells_from nodes found_from (get_or rows 7 0)

-- A tag begins to wait: its name, its kind, the nodes found so far, and where to go on.
abbrev pub held_words : (name : List ℕ) (kind : ℕ) (found : List ℕ) (stage slot at stop : ℕ) → List ℕ
held_words x kind found stage slot at stop = 1 ∷ length x ∷ kind ∷ length found ∷ stage ∷ slot ∷ at ∷ stop ∷ []

unfoldable pub held_rows : List ℕ → (name : List ℕ) (kind : ℕ) (found : List ℕ) (stage slot at stop : ℕ) → List ℕ
held_rows rows x kind found stage slot at stop = written rows 4 (held_words x kind found stage slot at stop)

abbrev pub held : Stores → (name : List ℕ) (kind : ℕ) (found : List ℕ) (stage slot at stop : ℕ) → Stores
held s x kind found stage slot at stop = stores (held_rows s.rows x kind found stage slot at stop) (written s.names (name_at 0) x) s.ids (written s.nodes found_from found)

-- It waits no longer.
abbrev pub released_rows : List ℕ → List ℕ
released_rows rows = written rows 4 (0 ∷ [])

abbrev pub released : Stores → Stores
released s = stores (released_rows s.rows) s.names s.ids s.nodes

-- ---- A fresh machine: nothing open, nothing counted, nothing waits; header words 12 to 14 are the mark, the length of the sheet and the flags.
abbrev pub fresh_words : (mark sheet flags : ℕ) → List ℕ
fresh_words mark sheet flags =
    0 ∷ 0 ∷ 0 ∷ 0 ∷ 0 ∷ 0 ∷ 0 ∷ 0 ∷ 0 ∷ 0 ∷ 0 ∷ 0 ∷ mark ∷ sheet ∷ flags ∷ 0 ∷
    0 ∷ 0 ∷ 0 ∷ 0 ∷ 0 ∷ 0 ∷ 0 ∷ 0 ∷ []

unfoldable pub fresh_rows : List ℕ → (mark sheet flags : ℕ) → List ℕ
fresh_rows rows mark sheet flags = written rows 0 (fresh_words mark sheet flags)

abbrev pub fresh : Stores → (mark sheet flags : ℕ) → Stores
fresh s mark sheet flags = stores (fresh_rows s.rows mark sheet flags) s.names s.ids s.nodes
