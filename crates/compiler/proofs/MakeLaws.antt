-- Compiling a whole sheet: what a good sheet gives the recursion, and each way out.
use Prim.Native.Nat.{ℕ, suc, ◌+◌, ◌/◌, ◌≤◌, ◌<◌}
use mathlib.Core.Path.{◌≡◌, refl, ap, ◌∙◌}
use mathlib.Core.Bool.{Bool, true, false, ◌||◌}
use mathlib.Core.List.{List}
use native.Mathlib.Nat.{zero-add, add-zero}
use native.Mathlib.Omega.{arith}
use lib.ListN.{length}
use borrow.Author.Tests.{lt-ltb, le-ltb}
use Rattle.cells.specs.Numbers.{be16}
use Rattle.meaning.specs.Document.{child, descendant}
use Rattle.meaning.specs.Trees.{Forest, size}
use Rattle.node_records.specs.Records.{NodeRecord, record_at}
use Rattle.sheet.specs.Parser.{Parsed, parse_sheet, checked_of}
use Rattle.sheet.specs.Spelling.{Spells, Sheet}
use Rattle.sheet.proofs.SpellingLaws.{good-sheet, spelt-width}
use Rattle.sheet.proofs.SpellingLaws as spelling
use Rattle.program.specs.Program.{any_of_type, uses_nth_of_type}
use Rattle.compiler.specs.Placing.{lay_trees, Room, RecordsInside, records_use}
use Rattle.compiler.specs.Compiler.{compiled_of, store_of}
use Rattle.refusals.specs.Numbers.{Judged}
use Rattle.compiler.proofs.PlacingLaws.{lay-out, emitted-layout}

-- ---- the records, one after the other, are the nodes of the forest

or-regroup : (a b c d e : Bool) → (a || (b || (c || (d || e)))) ≡ ((a || (b || (c || d))) || e)
or-regroup true b c d e = refl
or-regroup false true c d e = refl
or-regroup false false true d e = refl
or-regroup false false false d e = refl

or-false : (a : Bool) → (a || false) ≡ a
or-false true = refl
or-false false = refl

module _ {s : List ℕ} where
  records-inside : {depth n at m : ℕ} {f : Forest NodeRecord} → Spells s depth n at f m → (j : ℕ) → RecordsInside s j m → RecordsInside s (size f + j) at
  unfolding RecordsInside size
  records-inside (Spells.none a b) j r = rw (zero-add j, ← b) r
  records-inside {at = at} (Spells.more {below = k} {siblings = g} p q hn hd en i tc td tn) j r =
      let x = records-inside tc (size (k descendant) + (size g + j)) (records-inside td (size g + j) (records-inside tn j r)) in
      let e : suc (size (k child) + size (k descendant) + size g) + j ≡ suc (size (k child) + (size (k descendant) + (size g + j))) = omega arith in
      rw e (i, x)

  records-use : {depth n at m : ℕ} {f : Forest NodeRecord} → Spells s depth n at f m → (j : ℕ) → records_use s (size f + j) at ≡ (uses_nth_of_type f || records_use s j m)
  unfolding records_use size uses_nth_of_type any_of_type
  records-use (Spells.none a b) j = rw (zero-add j, ← b) refl
  records-use {at = at} {m = m} (Spells.more {node = node} {below = k} {siblings = g} p q hn hd en i tc td tn) j =
      let e : suc (size (k child) + size (k descendant) + size g) + j ≡ suc (size (k child) + (size (k descendant) + (size g + j))) = omega arith in
      let x = records-use tc (size (k descendant) + (size g + j)) in let y = records-use td (size g + j) in let z = records-use tn j in
      rw (e, en, x, y, z) (or-regroup (any_of_type (record_at s at).tag_tests) (uses_nth_of_type (k child)) (uses_nth_of_type (k descendant)) (uses_nth_of_type g) (records_use s j m))

-- ---- each way out

refused-of : (r : Parsed (Forest NodeRecord)) (w p : ℕ) (st : List ℕ) → Judged.Refused w p ≡ checked_of r → (Judged.Refused w p ≡ compiled_of r st) × (st ≡ store_of r st)
unfolding checked_of compiled_of store_of
refused-of (Parsed.refused w' p') w p st e = (cc, refl)
refused-of (Parsed.read f m) w p st e = (cc, cc)

module _ (s : List ℕ) where
  pub refused : (w p : ℕ) (st : List ℕ) → Judged.Refused w p ≡ checked_of (parse_sheet s) → (Judged.Refused w p ≡ compiled_of (parse_sheet s) st) × (st ≡ store_of (parse_sheet s) st)
  refused w p st e = refused-of (parse_sheet s) w p st e

  module _ (good : Judged.Good tt ≡ checked_of (parse_sheet s)) where
    abbrev forest : Forest NodeRecord
    forest = (spelling.taken s good).forest

    sheet : Sheet s forest
    sheet = good-sheet s forest (length s) (spelling.taken s good).is

    pub no_room : (st : List ℕ) {n : ℕ} → n ≡ be16 s 5 → length st / 8 < n → (Judged.Refused 15 0 ≡ compiled_of (parse_sheet s) st) × (st ≡ store_of (parse_sheet s) st)
    unfolding compiled_of store_of
    no_room st en h =
        let e = sheet.nodes in let k : length st / 8 < size forest = omega arith in
        rw ((spelling.taken s good).is, lt-ltb _ _ k) (refl, refl)

    pub room : {k : ℕ} → k ≡ be16 s 7 → (length s ≤ 65536) × Room s 32 k 9 0 k
    room ek =
        let e = sheet.nodes in let f = sheet.few in
        (sheet.short, rw ek (record { forest = forest; next = length s; spelt = sheet.spelt; own = omega arith; below = omega arith }))

    pub records : {n : ℕ} → n ≡ be16 s 5 → (length s ≤ 65536) × RecordsInside s n 9
    unfolding RecordsInside
    records en = (sheet.short, rw (en, ← sheet.nodes) (rw add-zero at (records-inside sheet.spelt 0 tt)))

    pub made : (st st₁ : List ℕ) {n k : ℕ} {nth : Bool} → n ≡ be16 s 5 → k ≡ be16 s 7 → n ≤ length st / 8 → st₁ ≡ (lay_trees 32 s k 9 0 k st).store → nth ≡ records_use s n 9 → (Judged.Good nth ≡ compiled_of (parse_sheet s) st) × (st₁ ≡ store_of (parse_sheet s) st)
    unfolding compiled_of store_of records_use
    made st st₁ {n} {k} en ek h es eu =
        let e = sheet.nodes in let w = spelt-width sheet.spelt in
        let l : size forest ≤ length st / 8 = omega arith in
        let o = lay-out sheet.spelt 9 refl 0 (be16 s 7) (omega arith) st in
        let u = records-use sheet.spelt 0 in
        let v : records_use s n 9 ≡ uses_nth_of_type forest = rw (en, ← e) (rw add-zero at u ∙ or-false (uses_nth_of_type forest)) in
        rw ((spelling.taken s good).is, le-ltb _ _ l) (ap Judged.Good (eu ∙ v), rw (es, ek) (o.store_is ∙ emitted-layout forest 0 (be16 s 7) st (omega arith)))
