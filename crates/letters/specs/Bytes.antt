-- Bytes: ASCII lower-casing, equality after it, white space (01, section 3).
use Rattle.std.specs.Prelude.{Bool, true, false, cond, ◌&&◌, ◌||◌, List, [], ◌∷◌, map, ℕ, ◌+◌, eqb, leb}

-- A to Z become a to z, every other byte stays.
abbrev pub lower_of : ℕ → ℕ
lower_of b = cond (leb 65 b) (cond (leb b 90) (b + 32) b) b

-- A byte under a case rule: lower-cased where ASCII case is ignored, else as it is.
abbrev pub fold_byte : Bool → ℕ → ℕ
fold_byte true b = lower_of b
fold_byte false b = b

abbrev pub fold : Bool → List ℕ → List ℕ
fold ignore s = map (fold_byte ignore) s

-- Two byte strings are equal.
abbrev pub equal_bytes : List ℕ → List ℕ → Bool
equal_bytes [] [] = true
equal_bytes [] (y ∷ ys) = false
equal_bytes (x ∷ xs) [] = false
equal_bytes (x ∷ xs) (y ∷ ys) = eqb x y && equal_bytes xs ys

-- Two byte strings are equal, each under a case rule of its own.
unfoldable pub same_bytes : Bool → Bool → List ℕ → List ℕ → Bool
same_bytes f g a b = equal_bytes (fold f a) (fold g b)

-- White space: space, LF, CR, tab, form feed.
abbrev pub space_byte : ℕ → Bool
space_byte b = eqb b 32 || (eqb b 10 || (eqb b 13 || (eqb b 9 || eqb b 12)))
