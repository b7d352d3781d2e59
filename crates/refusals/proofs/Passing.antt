-- What a `?` hands on keeps its number and its place.
use Rattle.std.proofs.Common.{◌≡◌, Result, Ok, Err, ap}
use Rattle.std.specs.Result.{IsErrAnd}
use Rattle.refusals.specs.declared.Fault.{Fault}
use Rattle.refusals.specs.Numbers.{Judged, judged, sheet_number}

pub passed_on : {A : Type 0} (r : Result A Fault) (f : Fault) → IsErrAnd r (λ e. e ≡ f) → judged r ≡ Judged.Refused (sheet_number f.refusal) f.place
passed_on (Ok x) f h = absurd h
passed_on (Err e) f h = ap (λ (y : Fault). Judged.Refused (sheet_number y.refusal) y.place) h
