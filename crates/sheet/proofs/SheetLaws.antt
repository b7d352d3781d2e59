-- Each way out of checking a whole sheet once its header is good.
use Prim.Native.Nat.{ℕ, ◌≤◌, ◌<◌}
use mathlib.Core.Path.{◌≡◌, ◌∙◌}
use mathlib.Core.List.{List}
use native.Mathlib.Omega.{arith}
use lib.ListN.{length, get_or}
use borrow.Author.Tests.{lt-ltb, le-ltb, eq-eqb, ne_eqb}
use Rattle.cells.specs.Numbers.{be16, be32}
use Rattle.meaning.specs.Trees.{Forest, size}
use Rattle.node_records.specs.Records.{NodeRecord}
use Rattle.sheet.specs.Parser.{and_then, on, walk_of, parse_trees, parse_end, parse_sheet, checked_of}
use Rattle.refusals.specs.Numbers.{Judged}
use Rattle.sheet.proofs.WalkLaws.{walk_refused, walk-on}

module _ (s : List ℕ) where
  module _ (a : 9 ≤ length s) (b : length s ≤ 65536) (d : get_or s 0 0 ≡ 1) (e : be32 s 1 ≡ length s) (f : be16 s 5 ≤ 1024) {total roots : ℕ} (et : total ≡ be16 s 5) (er : roots ≡ be16 s 7) where
    header : checked_of (and_then (parse_trees 32 s total roots 9 0) (parse_end s)) ≡ checked_of (parse_sheet s)
    unfolding parse_sheet
    header = simp (et, er, le-ltb _ _ a, le-ltb _ _ b, eq-eqb _ _ d, eq-eqb _ _ e, le-ltb _ _ f)

    pub bad-trees : (w p : ℕ) → Judged.Refused w p ≡ walk_of size 0 (parse_trees 32 s total roots 9 0) → Judged.Refused w p ≡ checked_of (parse_sheet s)
    unfolding and_then checked_of
    bad-trees w p g = rw (← header) (simp (walk_refused size 0 (parse_trees 32 s total roots 9 0) w p g))

    module _ {at used : ℕ} (g : on at used ≡ walk_of size 0 (parse_trees 32 s total roots 9 0)) where
      ending : {v : Judged Unit} → ((forest : Forest NodeRecord) → size forest ≡ used → v ≡ checked_of (parse_end s forest at)) → v ≡ checked_of (parse_sheet s)
      ending {v} h = walk-on size 0 (parse_trees 32 s total roots 9 0) (parse_end s) checked_of at used v g (λ x y. h x (omega arith)) ∙ header

      pub left_over : (at ≡ length s → ⊥) → Judged.Refused 13 at ≡ checked_of (parse_sheet s)
      unfolding checked_of parse_end
      left_over x = ending (λ forest z. simp (ne_eqb _ _ x))

      pub few : at ≡ length s → (used ≡ total → ⊥) → Judged.Refused 13 at ≡ checked_of (parse_sheet s)
      unfolding checked_of parse_end
      few x y = ending (λ forest z. simp (eq-eqb _ _ x, z, ← et, ne_eqb _ _ y))

      pub good : at ≡ length s → used ≡ total → Judged.Good tt ≡ checked_of (parse_sheet s)
      unfolding checked_of parse_end
      good x y = ending (λ forest z. simp (eq-eqb _ _ x, z, ← et, eq-eqb _ _ y))
