-- Making a machine: each way out.
use mathlib.Core.Path.{◌≡◌, refl, sym, ap, ◌∙◌}
use Rattle.std.specs.Prelude.{Result, Ok, Err}
use Rattle.std.specs.Result.{IsErrAnd}
use mathlib.Core.Bool.{Bool, true, false, not}
use mathlib.Core.List.{List}
use Prim.Native.Nat.{ℕ}
use native.Mathlib.Omega.{arith}
use lib.Dec.{ltb}
use lib.ListN.{length}
use Rattle.meaning.specs.Trees.{Forest, size}
use Rattle.node_records.specs.Records.{NodeRecord}
use Rattle.sheet.specs.Parser.{Parsed, refused, read, parse_sheet}
use Rattle.compiler.specs.Compiler.{places, compiled_of, store_of}
use Rattle.refusals.specs.Numbers.{Judged, sheet_number}
use Rattle.refusals.specs.declared.Fault.{Fault}
use Rattle.stack.specs.Stores.{Stores, fresh_rows}
use Rattle.shapes.specs.Shapes.{sized}
use Rattle.weighing.specs.Words.{cell}
use Rattle.making.specs.declared.Unmade.{Unmade}
use Rattle.making.specs.Making.{Made, made_of, fresh, flags_of, fresh_of, fresh_call}

-- A fault that a `?` hands on is told with its number and its place.
pub handed_on : (r : Result Unit Unmade) (f : Fault) → IsErrAnd r (λ e. e ≡ Unmade.Sheet f) → made_of r ≡ Made.Sheet (sheet_number f.refusal) f.place
handed_on (Ok x) f h = absurd h
handed_on (Err e) f h = ap (λ (y : Unmade). made_of (Err y)) h

-- a refused compilation has written nothing
kept : (p : Parsed (Forest NodeRecord)) (store : List ℕ) (number place : ℕ) → compiled_of p store ≡ Judged.Refused number place → store_of p store ≡ store
unfolding compiled_of store_of
kept (refused n k) store number place e = refl
kept (read forest next) store number place e = go (ltb (places store) (size forest)) refl e
  where
    go : (b : Bool) → ltb (places store) (size forest) ≡ b → compiled_of (read forest next) store ≡ Judged.Refused number place → store_of (read forest next) store ≡ store
    go true q e = rw q
    go false q e = let z = rw q at e in let n : ◌≡◌ {A = ℕ} 0 1 = cc in absurd (let x : ⊥ = omega (arith, n) in x)

module _ (sheet : List ℕ) (esi : Bool) (program : List ℕ) (s : Stores) (fits : Bool) (e : fits ≡ sized s) where
  pub fresh-unsized : not fits ≡ true → fresh (Made.Refused 31) program s.rows ≡ fresh_call sheet esi program s
  unfolding fresh_call
  fresh-unsized h = rw (← e, h)

  module _ (h : not fits ≡ false) (c : Judged Bool) (f : c ≡ compiled_of (parse_sheet sheet) program) (program₁ : List ℕ) (g : program₁ ≡ store_of (parse_sheet sheet) program) where
    pub fresh-refused : (number place : ℕ) → c ≡ Judged.Refused number place → fresh (Made.Sheet number place) program₁ s.rows ≡ fresh_call sheet esi program s
    unfolding fresh_call fresh_of
    fresh-refused number place q =
        let k : program₁ ≡ program = g ∙ kept (parse_sheet sheet) program number place (sym f ∙ q) in
        rw (← e, h, ← f, q, k)

    pub fresh-made : (types : Bool) (flags n : ℕ) (rows₁ : List ℕ) → c ≡ Judged.Good types → n ≡ cell (length sheet) → flags ≡ flags_of esi types → rows₁ ≡ fresh_rows s.rows 1383429737 n flags → fresh Made.Ready program₁ rows₁ ≡ fresh_call sheet esi program s
    unfolding fresh_call fresh_of
    fresh-made types flags n rows₁ q l k r = rw (← e, h, ← f, q, g, r, k, l)
