-- The turns of the lower-casing loop.
use mathlib.Core.Path.{◌≡◌, sym, ◌∙◌}
use mathlib.Core.List.{List, ◌∷◌, map}
use Prim.Native.Nat.{ℕ, ◌+◌, ◌<◌, ◌≤◌}
use native.Mathlib.Numerals.{add-one}
use lib.ListN.{length, get_or, drop, set, drop_of_length-le}
use lib.Seq.{drop-cons}
use Rattle.cells.specs.Stretches.{written}
use Rattle.letters.specs.Bytes.{lower_of}

module _ (out₀ out name : List ℕ) (i : ℕ) (inv : written out₀ 0 (map lower_of name) ≡ written out i (map lower_of (drop i name))) where
  pub lower-more : (last : List ℕ) (b : ℕ) → i < length name → b ≡ lower_of (get_or name i 0) → last ≡ set out i b → written out₀ 0 (map lower_of name) ≡ written last (i + 1) (map lower_of (drop (i + 1) name))
  unfolding written
  lower-more last b h e f = let d : drop i name ≡ get_or name i 0 ∷ drop (i + 1) name = rw (add-one i) (drop-cons name i 0 h) in inv ∙ rw (d, f, e)

  pub lower-end : length name ≤ i → out ≡ written out₀ 0 (map lower_of name)
  unfolding written
  lower-end h = sym (inv ∙ rw (drop_of_length-le name h))
