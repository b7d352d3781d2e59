-- Names of tags (01, section 3): equality, the void names, the name key.
use Rattle.std.specs.Prelude.{Bool, true, false, ◌&&◌, ◌||◌, List, [], ◌∷◌, map, ℕ, ◌+◌, ◌*◌, ◌%◌, ◌^◌}
use Rattle.letters.specs.Bytes.{lower_of, same_bytes}

-- Names are equal when equal after ASCII lower-casing.
abbrev pub same_name : List ℕ → List ℕ → Bool
same_name a b = same_bytes true true a b

-- The 17 void names of the Rust.
unfoldable pub void_names : List (List ℕ)
void_names =
    (97 ∷ 114 ∷ 101 ∷ 97 ∷ []) ∷  -- area
    (98 ∷ 97 ∷ 115 ∷ 101 ∷ []) ∷  -- base
    (98 ∷ 97 ∷ 115 ∷ 101 ∷ 102 ∷ 111 ∷ 110 ∷ 116 ∷ []) ∷  -- basefont
    (98 ∷ 103 ∷ 115 ∷ 111 ∷ 117 ∷ 110 ∷ 100 ∷ []) ∷  -- bgsound
    (98 ∷ 114 ∷ []) ∷  -- br
    (99 ∷ 111 ∷ 108 ∷ []) ∷  -- col
    (101 ∷ 109 ∷ 98 ∷ 101 ∷ 100 ∷ []) ∷  -- embed
    (104 ∷ 114 ∷ []) ∷  -- hr
    (105 ∷ 109 ∷ 103 ∷ []) ∷  -- img
    (105 ∷ 110 ∷ 112 ∷ 117 ∷ 116 ∷ []) ∷  -- input
    (107 ∷ 101 ∷ 121 ∷ 103 ∷ 101 ∷ 110 ∷ []) ∷  -- keygen
    (108 ∷ 105 ∷ 110 ∷ 107 ∷ []) ∷  -- link
    (109 ∷ 101 ∷ 116 ∷ 97 ∷ []) ∷  -- meta
    (112 ∷ 97 ∷ 114 ∷ 97 ∷ 109 ∷ []) ∷  -- param
    (115 ∷ 111 ∷ 117 ∷ 114 ∷ 99 ∷ 101 ∷ []) ∷  -- source
    (116 ∷ 114 ∷ 97 ∷ 99 ∷ 107 ∷ []) ∷  -- track
    (119 ∷ 98 ∷ 114 ∷ []) ∷  -- wbr
    []

-- The two that ESI adds.
unfoldable pub esi_names : List (List ℕ)
esi_names =
    (101 ∷ 115 ∷ 105 ∷ 58 ∷ 105 ∷ 110 ∷ 99 ∷ 108 ∷ 117 ∷ 100 ∷ 101 ∷ []) ∷  -- esi:include
    (101 ∷ 115 ∷ 105 ∷ 58 ∷ 99 ∷ 111 ∷ 109 ∷ 109 ∷ 101 ∷ 110 ∷ 116 ∷ []) ∷  -- esi:comment
    []

-- A name, under a case rule, is one of a list.
unfoldable pub among_names : Bool → List ℕ → List (List ℕ) → Bool
among_names ignore name [] = false
among_names ignore name (n ∷ ns) = same_bytes ignore false name n || among_names ignore name ns

-- Void names ignore ASCII case; with ESI on its names are void too, by exact bytes (E8).
unfoldable pub void_name : Bool → List ℕ → Bool
void_name esi name = among_names true name void_names || (esi && among_names false name esi_names)

-- A number over all bytes.
unfoldable pub hash_of : ℕ → List ℕ → ℕ
hash_of h [] = h
hash_of h (b ∷ bs) = hash_of ((h * 31 + b) % 2 ^ 32) bs

-- The name key: equal names have equal keys, and no key is 0.
unfoldable pub name_key : List ℕ → ℕ
name_key name = hash_of 0 (map lower_of name) % 2 ^ 31 + 1
