-- The ids of the instructions that matched, as one set (01, section 4), and its members.
use Rattle.std.specs.Prelude.{◌≡◌, refl, Bool, true, false, ◌||◌, ℕ, ◌+◌, ◌*◌, ◌/◌, ◌<◌, ◌≤◌, eqb, ltb, length, get_or}
use Rattle.std.proofs.Common.{sym, ◌∙◌, ap, arith, ltb-true, ltb-false, ne_eqb, length-set}
use mathlib.Core.List.{List, [], ◌∷◌, ◌++◌, flat_map}
use Rattle.std.proofs.Math.Seq.{set_out}
use Rattle.cells.specs.Numbers.{part}
use Rattle.id_sets.specs.Ids.{has_id, with_id}
use Rattle.id_sets.specs.IdLaws.{with-law}

-- The ids that an instruction's record lists: its row says where the record stands; after the length, a number of ids and the ids.
unfoldable pub ids_of_node : List ℕ → List ℕ → ℕ → List ℕ
ids_of_node sheet program a =
    part sheet (get_or program (a * 8) 0 + 3) (get_or program (a * 8) 0 + 3 + get_or sheet (get_or program (a * 8) 0 + 2) 0)

-- A set with the listed ids.
unfoldable pub with_ids : List ℕ → List ℕ → List ℕ
with_ids words [] = words
with_ids words (id ∷ ids) = with_ids (with_id words id) ids

-- A set with the ids of all found instructions.
unfoldable pub with_ids_of : (sheet program words found : List ℕ) → List ℕ
with_ids_of sheet program words [] = words
with_ids_of sheet program words (a ∷ found) = with_ids_of sheet program (with_ids words (ids_of_node sheet program a)) found

-- An id is listed.
unfoldable pub listed : ℕ → List ℕ → Bool
listed i [] = false
listed i (id ∷ ids) = eqb id i || listed i ids

-- ---- laws

or_assoc : (a b c : Bool) → ((a || b) || c) ≡ (a || (b || c))
or_assoc true b c = refl
or_assoc false b c = refl

or-none : (a : Bool) → (a || false) ≡ a
or-none true = refl
or-none false = refl

length-with : (words : List ℕ) (id : ℕ) → length (with_id words id) ≡ length words
unfolding with_id
length-with words id = length-set words (id / 64) _

-- one id more, wherever it lies: past the words it is lost
with-any : (words : List ℕ) (id i : ℕ) → i < length words * 64 → has_id (with_id words id) i ≡ (has_id words i || eqb id i)
unfolding with_id
with-any words id i h = go (ltb (id / 64) (length words)) refl
  where
    go : (b : Bool) → ltb (id / 64) (length words) ≡ b → has_id (with_id words id) i ≡ (has_id words i || eqb id i)
    go true e = with-law words id i (ltb-true _ _ e)
    go false e =
        let p : length words ≤ id / 64 = ltb-false _ _ e in
        let n : eqb id i ≡ false = ne_eqb id i (λ z. omega arith) in
        rw (set_out words (id / 64) _ p, n) (sym (or-none (has_id words i)))

-- The members of a set with listed ids are its members and these, as far as the words reach.
pub with-ids-law : (words ids : List ℕ) (i : ℕ) → i < length words * 64 → has_id (with_ids words ids) i ≡ (has_id words i || listed i ids)
unfolding with_ids listed
with-ids-law words [] i h = sym (or-none (has_id words i))
with-ids-law words (id ∷ ids) i h =
    with-ids-law (with_id words id) ids i (rw (length-with words id) h)
    ∙ ap (λ b. b || listed i ids) (with-any words id i h)
    ∙ or_assoc (has_id words i) (eqb id i) (listed i ids)

with-cat : (words xs ys : List ℕ) → with_ids words (xs ++ ys) ≡ with_ids (with_ids words xs) ys
unfolding with_ids
with-cat words [] ys = refl
with-cat words (x ∷ xs) ys = with-cat (with_id words x) xs ys

-- What is gathered is the ids of the found instructions, one list after the other.
pub gathered-law : (sheet program words found : List ℕ) → with_ids_of sheet program words found ≡ with_ids words (flat_map (ids_of_node sheet program) found)
unfolding with_ids_of flat_map with_ids
gathered-law sheet program words [] = refl
gathered-law sheet program words (a ∷ found) =
    gathered-law sheet program (with_ids words (ids_of_node sheet program a)) found
    ∙ sym (with-cat words (ids_of_node sheet program a) (flat_map (ids_of_node sheet program) found))

-- The members of what is gathered: those of the set before, and the ids that the record of some found instruction lists, as far as the words reach.
pub gathered-members : (sheet program words found : List ℕ) (i : ℕ) → i < length words * 64
    → has_id (with_ids_of sheet program words found) i ≡ (has_id words i || listed i (flat_map (ids_of_node sheet program) found))
gathered-members sheet program words found i h = rw (gathered-law sheet program words found) (with-ids-law words (flat_map (ids_of_node sheet program) found) i h)
