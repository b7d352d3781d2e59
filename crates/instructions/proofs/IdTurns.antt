-- Turns of the loops that gather ids.
use Rattle.std.proofs.Common.{◌≡◌, List, ℕ, ◌+◌, ◌*◌, ◌<◌, ◌≤◌, length, get_or, drop, add-one, drop-cons}
use lib.ListN.{drop_of_length-le}
use Rattle.cells.specs.Numbers.{part}
use Rattle.id_sets.specs.Ids.{with_id}
use Rattle.instructions.specs.FoundIds.{ids_of_node, with_ids, with_ids_of}

module _ (words ids : List ℕ) (i : ℕ) where
  pub ids-none : length ids ≤ i → words ≡ with_ids words (drop i ids)
  unfolding with_ids
  ids-none h = rw (drop_of_length-le ids h)

  pub ids_more : (last : List ℕ) → last ≡ with_id words (get_or ids i 0) → i < length ids → with_ids last (drop (i + 1) ids) ≡ with_ids words (drop i ids)
  unfolding with_ids
  ids_more last f h = rw (f, add-one i, drop-cons ids i 0 h)

module _ (sheet program words found : List ℕ) (i : ℕ) where
  pub found_none : length found ≤ i → words ≡ with_ids_of sheet program words (drop i found)
  unfolding with_ids_of
  found_none h = rw (drop_of_length-le found h)

  pub found-more : (place count : ℕ) (bytes last : List ℕ) → place ≡ get_or program (get_or found i 0 * 8) 0 → count ≡ get_or sheet (place + 2) 0 → bytes ≡ part sheet (place + 3) (place + 3 + count)
      → last ≡ with_ids words bytes → i < length found → with_ids_of sheet program last (drop (i + 1) found) ≡ with_ids_of sheet program words (drop i found)
  unfolding with_ids_of ids_of_node
  found-more place count bytes last ep ec eb el h = rw (el, eb, ec, ep, add-one i, drop-cons found i 0 h)
