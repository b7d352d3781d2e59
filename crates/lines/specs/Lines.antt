-- The text of the program's lines other than a match's (01, section 8), in ASCII.
use Rattle.std.specs.Prelude.{List, [], ◌∷◌, ◌++◌, ℕ}
use Rattle.text.specs.Text.{decimal}

abbrev pub new_line : List ℕ
new_line = 10 ∷ []

-- `pop `, `refused `, `sheet refused `, ` at `, `bad trace at `
abbrev pub pop_word : List ℕ
pop_word = 112 ∷ (111 ∷ (112 ∷ (32 ∷ [])))

abbrev pub refused_word : List ℕ
refused_word = 114 ∷ (101 ∷ (102 ∷ (117 ∷ (115 ∷ (101 ∷ (100 ∷ (32 ∷ [])))))))

abbrev pub sheet_word : List ℕ
sheet_word = 115 ∷ (104 ∷ (101 ∷ (101 ∷ (116 ∷ (32 ∷ (114 ∷ (101 ∷ (102 ∷ (117 ∷ (115 ∷ (101 ∷ (100 ∷ (32 ∷ [])))))))))))))

abbrev pub at_word : List ℕ
at_word = 32 ∷ (97 ∷ (116 ∷ (32 ∷ [])))

abbrev pub bad_trace_word : List ℕ
bad_trace_word = 98 ∷ (97 ∷ (100 ∷ (32 ∷ (116 ∷ (114 ∷ (97 ∷ (99 ∷ (101 ∷ (32 ∷ (97 ∷ (116 ∷ (32 ∷ []))))))))))))

-- `attrs`
abbrev pub attrs_line : List ℕ
attrs_line = 97 ∷ (116 ∷ (116 ∷ (114 ∷ (115 ∷ (10 ∷ [])))))

-- A word and a number.
unfoldable pub number_line : (word : List ℕ) → (n : ℕ) → List ℕ
number_line word n = (word ++ decimal n) ++ new_line

-- `pop N`
abbrev pub pop_line : ℕ → List ℕ
pop_line n = number_line pop_word n

-- `refused N`
abbrev pub refused_line : ℕ → List ℕ
refused_line n = number_line refused_word n

-- `sheet refused N at K`
unfoldable pub sheet_line : (n place : ℕ) → List ℕ
sheet_line n place = (sheet_word ++ decimal n) ++ number_line at_word place

-- `bad trace at K`
abbrev pub bad_trace_line : ℕ → List ℕ
bad_trace_line place = number_line bad_trace_word place
