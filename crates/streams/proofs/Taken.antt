-- What a read takes, where it stands behind bytes that stay.
use Rattle.std.proofs.Common.{◌≡◌, ℕ, ◌+◌, ◌<◌, ◌≤◌, Bool, true, false, ltb, List, [], ◌++◌, None, Some, Option, Result, Ok, Err, IfOk, OnErr, refl, sym, ap, subst, ◌∙◌, append_assoc, length, take, drop, drop_at, length-take, arith}
use lib.Seq.{take-add, take-append-le, take-take, take_all}
use Rattle.std.proofs.lemmas.Bool.{ltb-true, ltb-false}
use Rattle.std.specs.Io.{ReadsAtMost}
use Rattle.std.specs.Io.KnownBytes.{Consumes, Keeps}
use Rattle.std.proofs.KnownBytes.{Consumes-kept}
use Rattle.streams.specs.Failing.{ConsumesFront}

pub Consumes-nil : (a : Option (List ℕ)) → Consumes a a []
Consumes-nil None = tt
Consumes-nil (Some x) = refl

pub Consumes-trans : (a b c : Option (List ℕ)) (bs cs : List ℕ) → Consumes a b bs → Consumes b c cs → Consumes a c (bs ++ cs)
Consumes-trans None b c bs cs p q = tt
Consumes-trans (Some x) None c bs cs p q = absurd p
Consumes-trans (Some x) (Some y) None bs cs p q = absurd q
Consumes-trans (Some x) (Some y) (Some z) bs cs p q = p ∙ ap (λ l. bs ++ l) q ∙ sym (append_assoc bs cs z)

-- What was read into the part stands behind the front.
pub Consumes-in_place : {E : Type 0} (a b : Option (List ℕ)) (r : Result ℕ E) (front part rest : List ℕ) (at : ℕ) → length front ≡ at → ReadsAtMost r part
    → IfOk r (λ n. Consumes a b (take n part)) → IfOk r (λ n. Consumes a b (take n (drop at (front ++ (part ++ rest)))))
Consumes-in_place a b (Ok n) front part rest at long fits read =
    subst (Consumes a b) (sym (ap (take n) (drop_at front (part ++ rest) at long) ∙ take-append-le n part rest fits.0)) read
Consumes-in_place a b (Err e) front part rest at long fits read = tt

-- The front stayed, and n bytes more are taken.
pub Consumes-more : (a b c : Option (List ℕ)) (xs ys : List ℕ) (f n : ℕ) → take f ys ≡ take f xs → Consumes a b (take f xs) → Consumes b c (take n (drop f ys)) → Consumes a c (take (f + n) ys)
Consumes-more a b c xs ys f n front before read =
    subst (Consumes a c) (ap (λ l. l ++ take n (drop f ys)) (sym front) ∙ sym (take-add f n ys)) (Consumes-trans a b c (take f xs) (take n (drop f ys)) before read)

-- The front stayed, and nothing more was taken.
pub ConsumesFront-kept : (a b c : Option (List ℕ)) (xs ys : List ℕ) (f : ℕ) → take f ys ≡ take f xs → Consumes a b (take f xs) → Keeps b c → ConsumesFront a c ys
ConsumesFront-kept a b c xs ys f front before kept = (f, subst (Consumes a c) (sym front) (Consumes-kept a b c (take f xs) before kept))

-- A front of a front is a front.
pub ConsumesFront-take : (a b : Option (List ℕ)) (k : ℕ) (xs : List ℕ) → ConsumesFront a b (take k xs) → ConsumesFront a b xs
ConsumesFront-take a b k xs q = by (ltb k q.0) refl
  where
    by : (w : Bool) → ltb k q.0 ≡ w → ConsumesFront a b xs
    by true t =
        let long : k < q.0 = ltb-true k q.0 t in
        let most : length (take k xs) ≤ q.0 = simp length-take (omega arith) in
        (k, subst (Consumes a b) (take_all q.0 (take k xs) most) q.1)
    by false t = (q.0, subst (Consumes a b) (take-take q.0 k xs (ltb-false k q.0 t)) q.1)

-- More was taken, behind a front that was.
pub ConsumesFront-behind : (a b c : Option (List ℕ)) (xs ys : List ℕ) (f : ℕ) → take f ys ≡ take f xs → Consumes a b (take f xs) → ConsumesFront b c (drop f ys) → ConsumesFront a c ys
ConsumesFront-behind a b c xs ys f front before q = (f + q.0, Consumes-more a b c xs ys f q.0 front before q.1)

-- What holds holds after an error too.
pub OnErr-always : {A E P : Type 0} (r : Result A E) → P → OnErr r P
OnErr-always (Ok n) p = tt
OnErr-always (Err e) p = p
