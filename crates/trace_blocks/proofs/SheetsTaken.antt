-- A sheet taken off the front of an input.
use Rattle.std.proofs.Common.{◌≡◌, ℕ, ◌+◌, ◌<◌, ◌≤◌, Bool, true, false, ltb, List, [], ◌++◌, Option, None, Some, IfSome, refl, sym, ap, subst, ◌∙◌, arith, length, take, get_or}
use Rattle.std.proofs.lemmas.Bool.{lt-ltb, le-ltb, ltb-true, ltb-false}
use Rattle.std.proofs.lemmas.List.{get_or-take, length-take-le, take-append-le, take-take, length-append}
use Rattle.std.specs.Io.KnownBytes.{Consumes, IsAtEnd}
use Rattle.cells.specs.Numbers.{be16, be32}
use Rattle.records.specs.Sheets.{sheet_length, sheet_end}

-- The length field is within the first five bytes.
at_front : (xs ys : List ℕ) (i : ℕ) → take 5 xs ≡ take 5 ys → i < 5 → get_or xs i 0 ≡ get_or ys i 0
at_front xs ys i e h = sym (get_or-take 5 xs i 0 h) ∙ ap (λ l. get_or l i 0) e ∙ get_or-take 5 ys i 0 h

pub length_in_front : (xs ys : List ℕ) → take 5 xs ≡ take 5 ys → sheet_length xs ≡ sheet_length ys
unfolding sheet_length be32 be16
length_in_front xs ys e =
    rw (at_front xs ys 1 e (omega arith), at_front xs ys 2 e (omega arith), at_front xs ys 3 e (omega arith), at_front xs ys 4 e (omega arith))

-- An input of fewer than five bytes is all sheet.
pub end_short : (xs : List ℕ) → length xs < 5 → sheet_end xs ≡ length xs
unfolding sheet_end
end_short xs h = simp (lt-ltb _ _ h)

pub end_cut : (xs : List ℕ) → 5 ≤ length xs → length xs < sheet_length xs → sheet_end xs ≡ length xs
unfolding sheet_end
end_cut xs h k = simp (le-ltb _ _ h, lt-ltb _ _ k)

pub end_whole : (xs : List ℕ) → 5 ≤ length xs → sheet_length xs ≤ length xs → sheet_end xs ≡ sheet_length xs
unfolding sheet_end
end_whole xs h k = simp (le-ltb _ _ h, le-ltb _ _ k)

-- The first n bytes of what was known before a read stand at the front of the buffer, and are the sheet.
abbrev pub Took : Option (List ℕ) → (n : ℕ) → List ℕ → Type 0
Took old n sheet = IfSome old (λ xs. (n ≡ sheet_end xs) × (take n sheet ≡ take n xs))

-- What was taken stands at the front of what was known.
front_of : (n : ℕ) (xs sheet ys : List ℕ) → n ≤ length sheet → xs ≡ take n sheet ++ ys → take n xs ≡ take n sheet
front_of n xs sheet ys h p =
    let long = length-take-le n sheet h in
    ap (take n) p ∙ take-append-le n (take n sheet) ys (omega arith) ∙ take-take n n sheet (omega arith)

size_of : (n : ℕ) (xs sheet ys : List ℕ) → n ≤ length sheet → xs ≡ take n sheet ++ ys → length xs ≡ n + length ys
size_of n xs sheet ys h p = ap length p ∙ length-append (take n sheet) ys ∙ ap (λ k. k + length ys) (length-take-le n sheet h)

pub taken_short : (a b : Option (List ℕ)) (sheet : List ℕ) (n : ℕ) → Consumes a b (take n sheet) → IsAtEnd b → n < 5 → n ≤ length sheet → Took a n sheet
taken_short None b sheet n p e h f = tt
taken_short (Some xs) None sheet n p e h f = absurd p
taken_short (Some xs) (Some ys) sheet n p e h f =
    let none : length ys ≡ 0 = ap length e in
    let long = size_of n xs sheet ys f p in
    let size : length xs ≡ n = omega arith in
    (sym (end_short xs (omega arith) ∙ size), sym (front_of n xs sheet ys f p))

-- A length field of at most five: the sheet is no longer than what was taken for its length.
pub taken_stub : (a b : Option (List ℕ)) (sheet : List ℕ) (n : ℕ) → Consumes a b (take 5 sheet) → n ≡ sheet_length sheet → n ≤ 5 → 5 ≤ length sheet → Took a n sheet
taken_stub None b sheet n p e h f = tt
taken_stub (Some xs) None sheet n p e h f = absurd p
taken_stub (Some xs) (Some ys) sheet n p e h f =
    let front = front_of 5 xs sheet ys f p in
    let long = size_of 5 xs sheet ys f p in
    let same = length_in_front xs sheet front in
    let is : n ≡ sheet_length xs = e ∙ sym same in
    (is ∙ sym (end_whole xs (omega arith) (omega arith)), sym (sym (take-take n 5 xs h) ∙ ap (take n) front ∙ take-take n 5 sheet h))

pub taken_whole : (a b : Option (List ℕ)) (sheet : List ℕ) (n : ℕ) → Consumes a b (take n sheet) → 5 ≤ n → n ≤ length sheet → n ≤ sheet_length sheet
    → (n < sheet_length sheet → IsAtEnd b) → Took a n sheet
taken_whole None b sheet n p h f most end = tt
taken_whole (Some xs) None sheet n p h f most end = absurd p
taken_whole (Some xs) (Some ys) sheet n p h f most end =
    let front = front_of n xs sheet ys f p in
    let long = size_of n xs sheet ys f p in
    let five : take 5 xs ≡ take 5 sheet = sym (take-take 5 n xs h) ∙ ap (take 5) front ∙ take-take 5 n sheet h in
    let same = length_in_front xs sheet five in
    (by (ltb n (sheet_length sheet)) refl same long end, sym front)
  where
    by : (b : Bool) → ltb n (sheet_length sheet) ≡ b → sheet_length xs ≡ sheet_length sheet → length xs ≡ n + length ys → (n < sheet_length sheet → ys ≡ []) → n ≡ sheet_end xs
    by true t same long end =
        let k = ltb-true n (sheet_length sheet) t in
        let none : length ys ≡ 0 = ap length (end k) in
        let size : length xs ≡ n = omega arith in
        sym (end_cut xs (omega arith) (omega arith) ∙ size)
    by false t same long end =
        let k = ltb-false n (sheet_length sheet) t in
        let is : n ≡ sheet_length xs = omega arith in
        is ∙ sym (end_whole xs (omega arith) (omega arith))

pub first_five : (a b : Option (List ℕ)) (sheet : List ℕ) (n : ℕ) → Consumes a b (take n sheet) → 5 ≤ n → n ≤ 5 → Consumes a b (take 5 sheet)
first_five a b sheet n p h k = let e : n ≡ 5 = omega arith in subst (λ (m : ℕ). Consumes a b (take m sheet)) e p
