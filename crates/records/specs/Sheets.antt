-- The sheet at the start of the program's input (01, section 8; readings P6 and P7).
use Rattle.std.specs.Prelude.{cond, List, ℕ, ltb, length}
use Rattle.cells.specs.Numbers.{be32}

-- As many bytes as its length field says, at most 65,536.
unfoldable pub sheet_length : List ℕ → ℕ
sheet_length head = cond (ltb 65536 (be32 head 1)) 65536 (be32 head 1)

-- Or all there are; without a length field too.
unfoldable pub sheet_end : List ℕ → ℕ
sheet_end input = cond (ltb (length input) 5) (length input) (cond (ltb (length input) (sheet_length input)) (length input) (sheet_length input))
