-- Sets of ids as words of 64 bits, any number of them (01, section 4: id i is bit i % 64 of word i / 64).
use Rattle.std.specs.Prelude.{Bool, cond, List, [], ◌∷◌, ℕ, zero, suc, ◌+◌, ◌/◌, ◌%◌, ◌^◌, Option, None, Some, eqb, get_or, set}
use Rattle.std.specs.Int.Bits.{bit_or}

-- Bit i of a word.
abbrev pub bit : ℕ → ℕ → ℕ
bit w i = w / 2 ^ i % 2

-- The id is a member of the set.
unfoldable pub has_id : List ℕ → ℕ → Bool
has_id words id = eqb (bit (get_or words (id / 64) 0) (id % 64)) 1

-- The members among the next n ids, in rising order.
unfoldable pub ids_from : List ℕ → ℕ → ℕ → List ℕ
ids_from words id zero = []
ids_from words id (suc n) = cond (has_id words id) (id ∷ ids_from words (id + 1) n) (ids_from words (id + 1) n)

-- All members, in rising order: an id is below 65,536, whatever number of words there are.
unfoldable pub ids_of : List ℕ → List ℕ
ids_of words = ids_from words 0 65536

-- The first of a list, if there is one.
unfoldable pub first_of : List ℕ → Option ℕ
first_of [] = None
first_of (id ∷ ids) = Some id

-- The set with one id more.
unfoldable pub with_id : List ℕ → ℕ → List ℕ
with_id words id = set words (id / 64) (bit_or (get_or words (id / 64) 0) (2 ^ (id % 64)))

-- The union, word by word, as long as the first set.
unfoldable pub union : List ℕ → List ℕ → List ℕ
union [] more = []
union (w ∷ ws) [] = w ∷ ws
union (w ∷ ws) (m ∷ more) = bit_or w m ∷ union ws more
