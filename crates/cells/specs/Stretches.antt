-- Cells of a store, read and written one after the other, as loops over total reads and writes do it.
use Rattle.std.specs.Prelude.{◌≡◌, refl, List, [], ◌∷◌, ◌++◌, ℕ, zero, suc, ◌+◌, ◌<◌, ◌≤◌, length, get_or, set}
use Rattle.std.proofs.Common.{◌∙◌, ap, arith, length-set, get_or-set_other, get_or-set_same}

-- So many cells of a store from a place on; past the end a cell is the empty one.
unfoldable pub cells_or : {A : Type 0} → A → List A → ℕ → ℕ → List A
cells_or d xs a zero = []
cells_or d xs a (suc n) = get_or xs a d ∷ cells_or d xs (a + 1) n

-- The same of numbers: past the end a cell is 0.
abbrev pub cells_from : List ℕ → ℕ → ℕ → List ℕ
cells_from xs a n = cells_or 0 xs a n

-- A store with a list written into it from a place on; what falls past the end is lost.
unfoldable pub written : {A : Type 0} → List A → ℕ → List A → List A
written xs a [] = xs
written xs a (v ∷ vs) = written (set xs a v) (a + 1) vs

pub length-written : (xs : List ℕ) (a : ℕ) (vs : List ℕ) → length (written xs a vs) ≡ length xs
unfolding written
length-written xs a [] = refl
length-written xs a (v ∷ vs) = length-written (set xs a v) (a + 1) vs ∙ length-set xs a v

pub length-cells : (xs : List ℕ) (a n : ℕ) → length (cells_from xs a n) ≡ n
unfolding cells_or
length-cells xs a zero = refl
length-cells xs a (suc n) = ap suc (length-cells xs (a + 1) n)

-- a cell that is not written
pub get-below : (xs : List ℕ) (a : ℕ) (vs : List ℕ) (j : ℕ) → j < a → get_or (written xs a vs) j 0 ≡ get_or xs j 0
unfolding written
get-below xs a [] j h = refl
get-below xs a (v ∷ vs) j h = get-below (set xs a v) (a + 1) vs j (omega arith) ∙ get_or-set_other xs a j v 0 (λ e. omega arith)

pub get-above : (xs : List ℕ) (a : ℕ) (vs : List ℕ) (j : ℕ) → a + length vs ≤ j → get_or (written xs a vs) j 0 ≡ get_or xs j 0
unfolding written
get-above xs a [] j h = refl
get-above xs a (v ∷ vs) j h = get-above (set xs a v) (a + 1) vs j (omega arith) ∙ get_or-set_other xs a j v 0 (λ e. omega arith)

-- a cell that is written
pub get_in : (xs : List ℕ) (a : ℕ) (vs : List ℕ) (j : ℕ) → j < length vs → a + length vs ≤ length xs → get_or (written xs a vs) (a + j) 0 ≡ get_or vs j 0
unfolding written
get_in xs a [] j h f = absurd (omega arith)
get_in xs a (v ∷ vs) zero h f =
    let e : a + 0 ≡ a = omega arith in
    rw e (get-below (set xs a v) (a + 1) vs a (omega arith) ∙ get_or-set_same xs a v 0 (omega arith))
get_in xs a (v ∷ vs) (suc j) h f =
    let e : a + suc j ≡ a + 1 + j = omega arith in
    rw e (get_in (set xs a v) (a + 1) vs j (omega arith) (rw length-set (omega arith)))

-- the same for stretches: they are equal where their cells are
pub cells_same : (xs ys : List ℕ) (a n : ℕ) → ((i : ℕ) → a ≤ i → i < a + n → get_or ys i 0 ≡ get_or xs i 0) → cells_from ys a n ≡ cells_from xs a n
unfolding cells_or
cells_same xs ys a zero h = refl
cells_same xs ys a (suc n) h = rw (h a (omega arith) (omega arith), cells_same xs ys (a + 1) n (λ i p q. h i (omega arith) (omega arith)))

pub cells-below : (xs : List ℕ) (a : ℕ) (vs : List ℕ) (b n : ℕ) → b + n ≤ a → cells_from (written xs a vs) b n ≡ cells_from xs b n
cells-below xs a vs b n h = cells_same xs (written xs a vs) b n (λ i p q. get-below xs a vs i (omega arith))

pub cells-above : (xs : List ℕ) (a : ℕ) (vs : List ℕ) (b n : ℕ) → a + length vs ≤ b → cells_from (written xs a vs) b n ≡ cells_from xs b n
cells-above xs a vs b n h = cells_same xs (written xs a vs) b n (λ i p q. get-above xs a vs i (omega arith))

pub cells_in : (xs : List ℕ) (a : ℕ) (vs : List ℕ) → a + length vs ≤ length xs → cells_from (written xs a vs) a (length vs) ≡ vs
unfolding cells_or written
cells_in xs a [] h = refl
cells_in xs a (v ∷ vs) h =
    rw (get-below (set xs a v) (a + 1) vs a (omega arith), get_or-set_same xs a v 0 (omega arith), cells_in (set xs a v) (a + 1) vs (rw length-set (omega arith)))

pub cells-cat : (xs : List ℕ) (a n m : ℕ) → cells_from xs a (n + m) ≡ cells_from xs a n ++ cells_from xs (a + n) m
unfolding cells_or
cells-cat xs a zero m = let e : a + 0 ≡ a = omega arith in let f : 0 + m ≡ m = omega arith in rw (e, f)
cells-cat xs a (suc n) m =
    let e : suc n + m ≡ suc (n + m) = omega arith in
    let f : a + suc n ≡ a + 1 + n = omega arith in
    rw (e, f, cells-cat xs (a + 1) n m)

-- one cell written, any other read
pub get_off : (xs : List ℕ) (a v j : ℕ) → (j ≡ a → ⊥) → get_or (written xs a (v ∷ [])) j 0 ≡ get_or xs j 0
unfolding written
get_off xs a v j h = get_or-set_other xs a j v 0 h

pub get-on : (xs : List ℕ) (a v : ℕ) → a < length xs → get_or (written xs a (v ∷ [])) a 0 ≡ v
unfolding written
get-on xs a v h = get_or-set_same xs a v 0 h
