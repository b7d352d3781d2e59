-- What the answer that a sheet is compiled says of the sheet and the store.
use Rattle.std.specs.Prelude.{ℕ, ◌≤◌, Bool, cond, List, ltb}
use Rattle.std.proofs.Math.Path.{◌≡◌, refl}
use Rattle.std.proofs.Math.Bool.{true, false}
use Rattle.std.proofs.Common.{arith}
use Rattle.std.proofs.lemmas.List.Edits.{sets}
use borrow.Author.Tests.{ltb-false}
use Rattle.meaning.specs.Trees.{Forest, size}
use Rattle.meaning.specs.Layout.{layout}
use Rattle.node_records.specs.Records.{NodeRecord}
use Rattle.sheet.specs.Parser.{Parsed, refused, read, parse_sheet}
use Rattle.sheet.specs.Spelling.{Sheet}
use Rattle.sheet.proofs.SpellingLaws.{good-sheet}
use Rattle.program.specs.Program.{rows, uses_nth_of_type}
use Rattle.compiler.specs.Compiler.{places, compiled_of, store_of}
use Rattle.refusals.specs.Numbers.{Judged}

-- The sheet is good and spells a forest, which has room in the store; the flag and the rows are the forest's.
pub record Made (s store : List ℕ) (nth : Bool) : Type 0 where
  pub forest : Forest NodeRecord
  pub sheet : Sheet s forest
  pub room : size forest ≤ places store
  pub flag : nth ≡ uses_nth_of_type forest
  pub rows_stand : store_of (parse_sheet s) store ≡ sets store 0 (rows (layout 0 forest))

module _ (s store : List ℕ) (nth : Bool) where
  with-room : (forest : Forest NodeRecord) (next : ℕ) → parse_sheet s ≡ read forest next → (b : Bool) → ltb (places store) (size forest) ≡ b → Judged.Good nth ≡ cond b (Judged.Refused 15 0) (Judged.Good (uses_nth_of_type forest)) → Made s store nth
  unfolding store_of
  with-room forest next e true f g = let z : ◌≡◌ {A = ℕ} 0 1 = cc in absurd (omega arith)
  with-room forest next e false f g = record {
    forest = forest;
    sheet = good-sheet s forest next e;
    room = ltb-false (places store) (size forest) f;
    flag = cc;
    rows_stand = rw (e, f) refl;
  }

  made_of : (r : Parsed (Forest NodeRecord)) → parse_sheet s ≡ r → Judged.Good nth ≡ compiled_of r store → Made s store nth
  unfolding compiled_of
  made_of (refused number place) e g = let z : ◌≡◌ {A = ℕ} 0 1 = cc in absurd (omega arith)
  made_of (read forest next) e g = with-room forest next e (ltb (places store) (size forest)) refl g

  pub made : Judged.Good nth ≡ compiled_of (parse_sheet s) store → Made s store nth
  made g = made_of (parse_sheet s) refl g
