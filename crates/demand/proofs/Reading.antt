-- What a call reads off the stores is what the machine that they stand for holds.
use Rattle.std.specs.Prelude.{◌≡◌, Bool, ◌&&◌, ◌||◌, length, take, eqb, leb}
use Rattle.std.proofs.Math.Path.{refl, sym, ap}
use Rattle.std.proofs.Common.{◌∙◌, add-one, lt-ltb, le-ltb, ne_eqb}
use Rattle.std.proofs.Math.Bool.{true, false, cond}
use mathlib.Core.List.{List, [], ◌∷◌, ◌++◌, map, reverse, reverse_aux, append-nil, append_assoc}
use Prim.Native.Nat.{ℕ, zero, suc, ◌+◌, ◌-◌, ◌*◌, ◌≤◌}
use native.Mathlib.Omega.{arith}
use Rattle.std.proofs.Math.ListN.{get_or}
use Rattle.std.proofs.Math.Dec.{ltb}
use Rattle.cells.specs.Stretches.{cells_or, cells_from, cells-cat, length-cells}
use Rattle.letters.specs.Bytes.{equal_bytes}
use Rattle.sheet.specs.Parser.{node_count, root_count}
use Rattle.cursors.specs.Cursors as cursors
use Rattle.cursors.specs.Cursors.{ats, hangs, left_in}
use Rattle.cursors.specs.CursorLaws.{ats-first}
use Rattle.stack.specs.Stores as stack
use Rattle.stack.specs.Stores.{Stores, parent_limit, name_size, id_words, pair_at, row_word, holds_name, find_pair, pair_of, times_in, child_block, block_length, bears, bearers, listed, new_ancestors, through, popped_count}
use Rattle.course.specs.Course.{live_ranges, first_live}
use Rattle.meaning.specs.Lists.{keep, put_if, gather, sum, has, minus, full}
use Rattle.meaning.specs.Document.{child, descendant}
use Rattle.meaning.specs.Elements.{same_name}
use Rattle.meaning.proofs.Spans.{span}
use Rattle.meaning.specs.Machine.{Item, times_of, known, bearing, parents_of, ancestors_of, carried, live_at, pairs_of, nearest, up_to}
use Rattle.demand.specs.Statement.{words_from}
use Rattle.demand.specs.Words.{flat-gather}
use Rattle.demand.specs.Rows.{Compiled, rows_program, roots_of, hung_of}
use Rattle.demand.specs.Decode.{View, hd, pair_name, pairs_at, view, level_at, items_at, stack_at, stack_of, rest_of, Tidy, tidy-pm}

-- Names are equal in `rules` and in `meaning` alike.
pub same_bytes : (x y : List ℕ) → equal_bytes x y ≡ same_name x y
same_bytes [] [] = refl
same_bytes [] (y ∷ ys) = refl
same_bytes (x ∷ xs) [] = refl
same_bytes (x ∷ xs) (y ∷ ys) = ap (λ b. eqb x y && b) (same_bytes xs ys)

-- ---- trees that hang from a node
pub spans : (a n : ℕ) → cursors.span a n ≡ span a n
unfolding cursors.span
spans a zero = refl
spans a (suc n) = ap (λ l. a ∷ l) (spans (a + 1) n ∙ ap (λ (b : ℕ). span b n) (add-one a))

full-span : (a n : ℕ) → full (cursors.span a n) ≡ ltb 0 n
unfolding cursors.span
full-span a zero = refl
full-span a (suc n) = sym (lt-ltb 0 (suc n) (omega arith))

module _ (program : List ℕ) (limit w : ℕ) where
  bears-full : (a : ℕ) → bears program limit w a ≡ full (hangs program limit w a)
  unfolding bears block_length hangs left_in
  bears-full a =
      let f = get_or program (a * 8 + w) 0 in
      let c = get_or program (a * 8 + w + 1) 0 in
      go (leb (f + c) limit) ∙ sym (full-span f (cond (leb (f + c) limit) (f + c - f) 0))
    where
      go : (b : Bool) → ltb 0 (cond b (get_or program (a * 8 + w + 1) 0) 0) ≡ ltb 0 (cond b (get_or program (a * 8 + w) 0 + get_or program (a * 8 + w + 1) 0 - get_or program (a * 8 + w) 0) 0)
      go true = let z : get_or program (a * 8 + w) 0 + get_or program (a * 8 + w + 1) 0 - get_or program (a * 8 + w) 0 ≡ get_or program (a * 8 + w + 1) 0 = omega arith in rw z
      go false = refl

  pub bearers-keep : (found : List ℕ) → bearers program limit w found ≡ keep (λ n. full (hangs program limit w n)) found
  unfolding bearers
  bearers-keep [] = refl
  bearers-keep (a ∷ found) = rw (bears-full a) (go (full (hangs program limit w a)) (bearers-keep found))
    where
      go : (b : Bool) → bearers program limit w found ≡ keep (λ n. full (hangs program limit w n)) found → cond b (a ∷ bearers program limit w found) (bearers program limit w found) ≡ put_if b a (keep (λ n. full (hangs program limit w n)) found)
      go true h = ap (λ l. a ∷ l) h
      go false h = h

listed_has : (a : ℕ) (xs : List ℕ) → listed a xs ≡ has a xs
unfolding listed
listed_has a [] = refl
listed_has a (x ∷ xs) = go (eqb a x) (listed_has a xs)
  where
    go : (b : Bool) → listed a xs ≡ has a xs → cond b true (listed a xs) ≡ b || has a xs
    go true h = refl
    go false h = h

pub ancestors-minus : (old program : List ℕ) (limit : ℕ) (found : List ℕ) → new_ancestors old program limit found ≡ minus (keep (λ n. full (hangs program limit 5 n)) found) old
unfolding new_ancestors
ancestors-minus old program limit [] = refl
ancestors-minus old program limit (a ∷ found) = rw (bears-full program limit 5 a, listed_has a old) (go (full (hangs program limit 5 a)) (has a old) refl (ancestors-minus old program limit found))
  where
    go : (b c : Bool) → has a old ≡ c → new_ancestors old program limit found ≡ minus (keep (λ n. full (hangs program limit 5 n)) found) old
        → cond b (cond c (new_ancestors old program limit found) (a ∷ new_ancestors old program limit found)) (new_ancestors old program limit found) ≡ minus (put_if b a (keep (λ n. full (hangs program limit 5 n)) found)) old
    go true true e h = rw e h
    go true false e h = rw e (ap (λ l. a ∷ l) h)
    go false c e h = h

-- ---- how many are open, how many parents and pairs they have
pub open-all : (v : View) (d kt at : ℕ) → length (items_at v d kt at) ≡ d
unfolding items_at
open-all v zero kt at = refl
open-all v (suc k) kt at = ap suc (open-all v k _ _)

abbrev pub parents_sum : List (Item (List ℕ)) → ℕ
parents_sum fs = sum (map (λ f. length f.parents) fs)

pub parents-total : (s : Stores) (d kt at pt : ℕ) → Tidy (view s) d kt at pt → parents_sum (items_at (view s) d kt at) ≡ kt
unfolding items_at
parents-total s zero kt at pt t = sym t.0
parents-total s (suc k) kt at pt (a, b, c, e, f) =
    (λ i. length-cells s.nodes (row_word s.rows (suc k) 2) (kt - row_word s.rows (suc k) 2) i + parents-total s k (row_word s.rows (suc k) 2) (row_word s.rows (suc k) 3) (row_word s.rows (suc k) 4) f i) ∙ (omega arith)

length_pairs : (rows names : List ℕ) (i n : ℕ) → length (pairs_at rows names i n) ≡ n
unfolding pairs_at
length_pairs rows names i zero = refl
length_pairs rows names i (suc n) = ap suc (length_pairs rows names (i + 1) n)

abbrev outer_sum : List (Item (List ℕ)) → ℕ
outer_sum fs = sum (map (λ f. length f.outer.types) fs)

outer-total : (s : Stores) (d kt at pt : ℕ) → Tidy (view s) d kt at pt → outer_sum (items_at (view s) d kt at) ≡ row_word s.rows d 4
unfolding items_at level_at
outer-total s zero kt at pt t = sym t.3
outer-total s (suc k) kt at pt (a, b, c, e, f) =
    let p = tidy-pm (view s) k (row_word s.rows (suc k) 2) (row_word s.rows (suc k) 3) (row_word s.rows (suc k) 4) f in
    rw (outer-total s k (row_word s.rows (suc k) 2) (row_word s.rows (suc k) 3) (row_word s.rows (suc k) 4) f, length_pairs s.rows s.names (row_word s.rows k 4) (row_word s.rows (suc k) 4 - row_word s.rows k 4)) (omega arith)

pub pairs-total : (C : Compiled) (s : Stores) (d kt at pt : ℕ) → Tidy (view s) d kt at pt → pairs_of (rows_program C) (stack_at (view s) d kt at pt) ≡ pt
unfolding level_at
pairs-total C s d kt at pt t =
    let p = tidy-pm (view s) d kt at pt t in
    rw (outer-total s d kt at pt t, length_pairs s.rows s.names (row_word s.rows d 4) (pt - row_word s.rows d 4)) (omega arith)

-- ---- names that are counted at the open level
pub find-low : (rows names x : List ℕ) (i n : ℕ) → i ≤ find_pair rows names x i n
unfolding find_pair
find-low rows names x i zero = omega arith
find-low rows names x i (suc n) = go (holds_name names (stack.pair_name_at i) (get_or rows (pair_at i) 0) x) (find-low rows names x (i + 1) n)
  where
    go : (b : Bool) → i + 1 ≤ find_pair rows names x (i + 1) n → i ≤ cond b i (find_pair rows names x (i + 1) n)
    go true h = omega arith
    go false h = omega arith

find-known : (rows names x : List ℕ) (i n : ℕ) → ltb (find_pair rows names x i n) (i + n) ≡ known x (pairs_at rows names i n)
unfolding find_pair pairs_at holds_name
find-known rows names x i zero = le-ltb i (i + 0) (omega arith)
find-known rows names x i (suc n) = rw (same_bytes x (pair_name rows names i)) (go (same_name x (pair_name rows names i)) (find-known rows names x (i + 1) n))
  where
    go : (b : Bool) → ltb (find_pair rows names x (i + 1) n) (i + 1 + n) ≡ known x (pairs_at rows names (i + 1) n) → ltb (cond b i (find_pair rows names x (i + 1) n)) (i + suc n) ≡ (b || known x (pairs_at rows names (i + 1) n))
    go true h = lt-ltb i (i + suc n) (omega arith)
    go false h = let e : i + suc n ≡ i + 1 + n = omega arith in rw e h

find-times : (rows names x : List ℕ) (i n : ℕ) → cond (ltb (find_pair rows names x i n) (i + n)) (get_or rows (pair_at (find_pair rows names x i n) + 1) 0) 0 ≡ times_of x (pairs_at rows names i n)
unfolding find_pair pairs_at holds_name
find-times rows names x i zero = rw (le-ltb i (i + 0) (omega arith))
find-times rows names x i (suc n) = rw (same_bytes x (pair_name rows names i)) (go (same_name x (pair_name rows names i)) (find-times rows names x (i + 1) n))
  where
    go : (b : Bool) → cond (ltb (find_pair rows names x (i + 1) n) (i + 1 + n)) (get_or rows (pair_at (find_pair rows names x (i + 1) n) + 1) 0) 0 ≡ times_of x (pairs_at rows names (i + 1) n)
        → cond (ltb (cond b i (find_pair rows names x (i + 1) n)) (i + suc n)) (get_or rows (pair_at (cond b i (find_pair rows names x (i + 1) n)) + 1) 0) 0 ≡ cond b (get_or rows (pair_at i + 1) 0) (times_of x (pairs_at rows names (i + 1) n))
    go true h = rw (lt-ltb i (i + suc n) (omega arith))
    go false h = let e : i + suc n ≡ i + 1 + n = omega arith in rw e h

pub times-top : (s : Stores) → row_word s.rows (hd s 0) 4 ≤ hd s 3 → (x : List ℕ) → times_in s.rows s.names x ≡ times_of x (stack_of s).top.types
unfolding level_at times_in stack.known pair_of
times-top s h x =
    let m = row_word s.rows (hd s 0) 4 in
    let e : m + (hd s 3 - m) ≡ hd s 3 = omega arith in
    rw e at (find-times s.rows s.names x m (hd s 3 - m))

pub known-top : (s : Stores) → row_word s.rows (hd s 0) 4 ≤ hd s 3 → (x : List ℕ) → stack.known s.rows s.names x ≡ known x (stack_of s).top.types
unfolding level_at stack.known pair_of
known-top s h x =
    let m = row_word s.rows (hd s 0) 4 in
    let e : m + (hd s 3 - m) ≡ hd s 3 = omega arith in
    rw e at (find-known s.rows s.names x m (hd s 3 - m))

-- ---- the nearest open element of a name
pub find-le : (rows names x : List ℕ) (d : ℕ) → stack.nearest rows names x d ≤ d
unfolding stack.nearest
find-le rows names x zero = omega arith
find-le rows names x (suc k) = go (holds_name names (stack.name_at (suc k)) (row_word rows (suc k) 0) x) (find-le rows names x k)
  where
    go : (b : Bool) → stack.nearest rows names x k ≤ k → cond b (suc k) (stack.nearest rows names x k) ≤ suc k
    go true h = omega arith
    go false h = omega arith

nearest-top : (s : Stores) (x : List ℕ) (d kt at : ℕ) → through d (stack.nearest s.rows s.names x d) ≡ nearest x (map (λ f. f.name) (items_at (view s) d kt at))
unfolding items_at stack.nearest through holds_name
nearest-top s x zero kt at = refl
nearest-top s x (suc k) kt at =
    rw (same_bytes x (cells_from s.names (suc k * name_size) (row_word s.rows (suc k) 0)))
    (go (same_name x (cells_from s.names (suc k * name_size) (row_word s.rows (suc k) 0))) (stack.nearest s.rows s.names x k) (find-le s.rows s.names x k) _ (nearest-top s x k (row_word s.rows (suc k) 2) (row_word s.rows (suc k) 3)))
  where
    go : (b : Bool) (p : ℕ) → p ≤ k → (n : ℕ) → cond (eqb p 0) 0 (k + 1 - p) ≡ n → cond (eqb (cond b (suc k) p) 0) 0 (suc k + 1 - cond b (suc k) p) ≡ up_to b n
    go true p h n e = let q : suc k + 1 - suc k ≡ 1 = omega arith in rw (ne_eqb (suc k) 0 (λ z. omega arith)) q
    go false zero h n e = rw (← e)
    go false (suc p) h n e =
        let q : suc k + 1 - suc p ≡ suc (suc (k - suc p)) = omega arith in
        let r : k + 1 - suc p ≡ suc (k - suc p) = omega arith in
        let z : eqb (suc p) 0 ≡ false = ne_eqb (suc p) 0 (λ w. omega arith) in
        rw (← e, z, q, r)

pub popped-top : (s : Stores) (x : List ℕ) → popped_count s.rows s.names x ≡ nearest x (map (λ f. f.name) (stack_of s).items)
unfolding popped_count
popped-top s x = nearest-top s x (hd s 0) (hd s 1) (hd s 2)

pub popped-few : (s : Stores) (x : List ℕ) → popped_count s.rows s.names x ≤ hd s 0
unfolding popped_count through
popped-few s x = go (stack.nearest s.rows s.names x (hd s 0)) (find-le s.rows s.names x (hd s 0))
  where
    go : (p : ℕ) → p ≤ hd s 0 → cond (eqb p 0) 0 (hd s 0 + 1 - p) ≤ hd s 0
    go zero h = omega arith
    go (suc p) h = rw (ne_eqb (suc p) 0 (λ w. omega arith)) (omega arith)

-- ---- the id words of the popped, in opening order

rev-snoc : {A : Type 0} (xs acc : List A) → reverse_aux xs acc ≡ reverse xs ++ acc
rev-snoc [] acc = refl
rev-snoc (x ∷ xs) acc = rev-snoc xs (x ∷ acc) ∙ sym (ap (λ l. l ++ acc) (rev-snoc xs (x ∷ [])) ∙ append_assoc (reverse xs) (x ∷ []) acc)

words_snoc : (ids : List ℕ) (k n : ℕ) → words_from ids k (suc n) ≡ words_from ids k n ++ (cells_from ids ((k + n) * id_words) id_words ∷ [])
unfolding words_from
words_snoc ids k zero = let e : k + 0 ≡ k = omega arith in rw e
words_snoc ids k (suc n) =
    let e : k + suc n ≡ k + 1 + n = omega arith in
    rw e (ap (λ l. cells_from ids (k * id_words) id_words ∷ l) (words_snoc ids (k + 1) n))

pub popped-words : (s : Stores) (n q kt at : ℕ) → reverse (take n (map (λ f. f.ids) (items_at (view s) (n + q) kt at))) ≡ words_from s.ids (suc q) n
unfolding items_at words_from
popped-words s zero q kt at = refl
popped-words s (suc n) q kt at =
    let e : suc n + q ≡ suc (n + q) = omega arith in
    let f : suc q + n ≡ suc (n + q) = omega arith in
    rw e (rev-snoc (take n (map (λ f. f.ids) (items_at (view s) (n + q) (row_word s.rows (suc (n + q)) 2) (row_word s.rows (suc (n + q)) 3)))) (cells_from s.ids (suc (n + q) * id_words) id_words ∷ [])
    ∙ rw (popped-words s n q (row_word s.rows (suc (n + q)) 2) (row_word s.rows (suc (n + q)) 3)) (sym (words_snoc s.ids (suc q) n ∙ rw f)))

-- ---- live instructions
module _ (C : Compiled) where
  open C use {sheet, program}

  pub bearing-child : (found : List ℕ) → bearers program (node_count sheet) child_block found ≡ bearing (roots_of sheet program) (hung_of sheet program) child found
  bearing-child found = bearers-keep program (node_count sheet) 3 found

  -- The pool of ancestors is what all open elements have, outermost first.
  pub ancestors-all : (s : Stores) (d kt at pt : ℕ) → Tidy (view s) d kt at pt → ancestors_of (rows_program C) (items_at (view s) d kt at) ≡ cells_from s.nodes parent_limit at
  unfolding items_at cells_or
  ancestors-all s zero kt at pt (a, b, c, e) = rw b
  ancestors-all s (suc k) kt at pt (a, b, c, e, f) =
      let m = row_word s.rows (suc k) 3 in
      let q : at ≡ m + (at - m) = omega arith in
      rw (ancestors-all s k (row_word s.rows (suc k) 2) m (row_word s.rows (suc k) 4) f)
      (sym (ap (λ n. cells_from s.nodes parent_limit n) q ∙ cells-cat s.nodes parent_limit m (at - m)))

  parents-top : (s : Stores) (d kt at pt : ℕ) → Tidy (view s) d kt at pt → parents_of (rows_program C) (items_at (view s) d kt at) ≡ cells_from s.nodes (row_word s.rows d 2) (kt - row_word s.rows d 2)
  unfolding items_at cells_or
  parents-top s zero kt at pt (a, b, c, e) = let z : kt - row_word s.rows 0 2 ≡ 0 = omega arith in rw z
  parents-top s (suc k) kt at pt t = refl

  -- The new ancestors are those that no open element has.
  pub ancestors-new : (s : Stores) → Tidy (view s) (hd s 0) (hd s 1) (hd s 2) (hd s 3) → (found : List ℕ)
      → new_ancestors (stack.ancestors s) program (node_count sheet) found ≡ minus (bearing (roots_of sheet program) (hung_of sheet program) descendant found) (carried (rows_program C) (stack_of s) descendant)
  ancestors-new s t found = ancestors-minus (stack.ancestors s) program (node_count sheet) found ∙ ap (minus (bearing (roots_of sheet program) (hung_of sheet program) descendant found)) (sym (ancestors-all s (hd s 0) (hd s 1) (hd s 2) (hd s 3) t))

  -- The cursors from the first on stand on the live nodes.
  pub live_all : (s : Stores) → Tidy (view s) (hd s 0) (hd s 1) (hd s 2) (hd s 3) → ats (rest_of sheet program s (first_live sheet s.rows)) ≡ live_at (rows_program C) (stack_of s)
  live_all s t =
      let z : parent_limit + hd s 2 - parent_limit ≡ hd s 2 = omega arith in
      let m = row_word s.rows (hd s 0) 2 in
      ats-first program s.nodes (live_ranges sheet s.rows) m (root_count sheet) C.roots_fit
      ∙ (λ i. spans 0 (root_count sheet) i ++ (flat-gather (hangs program (node_count sheet) 3) (cells_from s.nodes m (hd s 1 - m)) i ++ flat-gather (hangs program (node_count sheet) 5) (cells_from s.nodes parent_limit (z i)) i))
      ∙ (λ i. span 0 (root_count sheet) ++ (gather (hangs program (node_count sheet) 3) (sym (parents-top s (hd s 0) (hd s 1) (hd s 2) (hd s 3) t) i) ++ sym (append-nil (gather (hangs program (node_count sheet) 5) (sym (ancestors-all s (hd s 0) (hd s 1) (hd s 2) (hd s 3) t) i))) i))
