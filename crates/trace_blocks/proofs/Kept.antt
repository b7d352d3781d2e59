-- A cut record at the front of its buffer, and what was read behind it.
use Rattle.std.proofs.Common.{◌≡◌, ℕ, zero, suc, ◌+◌, ◌-◌, ◌<◌, ◌≤◌, List, ◌∷◌, Bool, true, false, Option, refl, sym, ap, subst, ◌∙◌, arith, length, take, drop, get_or, nat_eq}
use Rattle.std.proofs.Math.Seq.{drop-cons}
use Rattle.std.proofs.lemmas.Bool.{eqb-true}
use Rattle.std.specs.Io.KnownBytes.{Consumes, IsAtEnd}
use Rattle.cells.specs.Stretches.{cells_or, cells_from, written, length-written, length-cells, cells_in}
use Rattle.trace_blocks.specs.Progress.{Refilled, ReadOn, InFront}
use Rattle.block_ends.specs.declared.Halt.{Halt}
use Rattle.trace_blocks.specs.declared.Progress.{Progress}

pub cells_are : (xs : List ℕ) (a n : ℕ) → a + n ≤ length xs → cells_from xs a n ≡ take n (drop a xs)
unfolding cells_or
cells_are xs a zero h = refl
cells_are xs a (suc n) h =
    let lt : a < length xs = omega arith in
    let e : suc a ≡ a + 1 = omega arith in
    rw (drop-cons xs a 0, e) (ap (λ l. get_or xs a 0 ∷ l) (cells_are xs (a + 1) n (omega arith)))

-- The bytes from a place on, written to the front, stand there.
pub front_is : (xs : List ℕ) (a n : ℕ) → a + n ≤ length xs → take n (written xs 0 (cells_from xs a n)) ≡ take n (drop a xs)
front_is xs a n h =
    let vs = cells_from xs a n in
    let long : length vs ≡ n = length-cells xs a n in
    let fits : 0 + length vs ≤ length xs = omega arith in
    let stands : cells_from (written xs 0 vs) 0 n ≡ vs = subst (λ (k : ℕ). cells_from (written xs 0 vs) 0 k ≡ vs) long (cells_in xs 0 vs fits) in
    let room : 0 + n ≤ length (written xs 0 vs) = rw (length-written xs 0 vs) (omega arith) in
    sym (cells_are (written xs 0 vs) 0 n room) ∙ stands ∙ cells_are xs a n h

-- The bytes that were kept stand at the front, and what is read behind them leaves them there.
pub in_front : (p : Progress) (input mid input' : List ℕ) (kept : ℕ) → p.at ≤ p.end → p.end ≤ length input
    → kept ≡ p.end - p.at → mid ≡ written input 0 (cells_from input p.at (p.end - p.at)) → take kept input' ≡ take kept mid → InFront p input input'
in_front p input mid input' kept inside fits is wrote front =
    let n = p.end - p.at in
    subst (λ (k : ℕ). take k input' ≡ take k mid) is front ∙ ap (take n) wrote ∙ front_is input p.at n (omega arith)

pub read_on : (old new : Option (List ℕ)) (p : Progress) (input mid input' : List ℕ) (kept more : ℕ) → p.at ≤ p.end → p.end ≤ length input
    → kept ≡ p.end - p.at → mid ≡ written input 0 (cells_from input p.at (p.end - p.at))
    → take kept input' ≡ take kept mid → Consumes old new (take more (drop kept input')) → (more ≡ 0 → kept < length mid → IsAtEnd new)
    → ReadOn old new p input (record { at = 0; end = kept + more; place = p.place; last = nat_eq more 0; halt = Halt.Full }) input'
read_on old new p input mid input' kept more inside fits is wrote front taken end =
    let n = p.end - p.at in
    let long : length mid ≡ length input = ap length wrote ∙ length-written input 0 (cells_from input p.at n) in
    let stood : take n input' ≡ take n (drop p.at input) = in_front p input mid input' kept inside fits is wrote front in
    let size : more ≡ kept + more - n = omega arith in
    let got : Consumes old new (take (kept + more - n) (drop n input')) = subst (λ (k : ℕ). Consumes old new (take (kept + more - n) (drop k input'))) is (subst (λ (k : ℕ). Consumes old new (take k (drop kept input'))) size taken) in
    record {
      kept = stood;
      taken = got;
      at_front = refl;
      grows = omega arith;
      none = λ e. let z = eqb-true more 0 e in omega arith;
      at_end = λ e room. end (eqb-true more 0 e) (omega arith);
      some = λ e. some_read more kept n e is;
      place = refl;
      goes_on = refl;
    }
  where
    some_read : (more kept n : ℕ) → nat_eq more 0 ≡ false → kept ≡ n → n < kept + more
    some_read zero kept n e is = absurd (let z : true ≡ false = e in cc)
    some_read (suc m) kept n e is = omega arith

pub refilled : (last : Bool) (old new : Option (List ℕ)) (p : Progress) (input : List ℕ) (q : Progress) (input' : List ℕ) → last ≡ false
    → ReadOn old new p input q input' → Refilled last old new p input q input'
refilled false old new p input q input' e r = r
refilled true old new p input q input' e r = absurd (let z : true ≡ false = e in cc)
