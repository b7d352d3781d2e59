-- The text of a set's ids and of a match's line (01, section 8), in ASCII.
use Rattle.std.specs.Prelude.{Bool, cond, List, [], ◌∷◌, ◌++◌, ℕ}
use Rattle.id_sets.specs.Ids.{ids_of}
use Rattle.text.specs.Text.{decimal}

-- Each id after a space.
unfoldable pub ids_text : List ℕ → List ℕ
ids_text [] = []
ids_text (id ∷ ids) = 32 ∷ (decimal id ++ ids_text ids)

-- `match`
abbrev pub match_word : List ℕ
match_word = 109 ∷ (97 ∷ (116 ∷ (99 ∷ (104 ∷ []))))

-- ` content` or ` void`, and the line's end
unfoldable pub content_word : Bool → List ℕ
content_word content =
    cond content (32 ∷ (99 ∷ (111 ∷ (110 ∷ (116 ∷ (101 ∷ (110 ∷ (116 ∷ (10 ∷ [])))))))))
    (32 ∷ (118 ∷ (111 ∷ (105 ∷ (100 ∷ (10 ∷ []))))))

-- `match`, the ids of the set in rising order, then `content` or `void`.
unfoldable pub match_line : (words : List ℕ) → (content : Bool) → List ℕ
match_line words content = (match_word ++ ids_text (ids_of words)) ++ content_word content
