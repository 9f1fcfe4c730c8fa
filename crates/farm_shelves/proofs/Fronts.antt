-- The front of a room that reads fill.
use Rattle.std.proofs.Common.{◌≡◌, ◌+◌, ◌++◌, ◌∙◌, ℕ, List, Option, Result, Ok, Err, IfOk, length, take, drop, sym, ap, subst}
use Rattle.std.proofs.KnownBytes.{Consumes-kept, Consumes-trans}
use Rattle.std.proofs.Math.Seq.{take-add}
use Rattle.std.proofs.lemmas.List.{drop_at, take-append-le}
use Rattle.std.specs.Io.{ReadsAtMost}
use Rattle.std.specs.Io.KnownBytes.{Consumes, Keeps, ReadConsumes}

-- what was read into a part is after the front
pub read_lands : {E : Type 0} (a b : Option (List ℕ)) (r : Result ℕ E) (front part rest : List ℕ) (at : ℕ) → length front ≡ at
    → ReadsAtMost r part → ReadConsumes a b r part
    → IfOk r (λ n. Consumes a b (take n (drop at (front ++ (part ++ rest)))))
read_lands a b (Ok n) front part rest at long fits read =
    subst (Consumes a b) (sym (ap (take n) (drop_at front (part ++ rest) at long) ∙ take-append-le n part rest fits.0)) read.0
read_lands a b (Err e) front part rest at long fits read = tt

-- a read put more bytes after the front
pub front_grows : (a b c : Option (List ℕ)) (xs ys : List ℕ) (f n : ℕ) → take f ys ≡ take f xs → Consumes a b (take f xs)
    → Consumes b c (take n (drop f ys)) → Consumes a c (take (f + n) ys)
front_grows a b c xs ys f n same first last =
    subst (Consumes a c) (ap (λ (t : List ℕ). t ++ take n (drop f ys)) (sym same) ∙ sym (take-add f n ys))
    (Consumes-trans a b c (take f xs) (take n (drop f ys)) first last)

-- a read gave nothing
pub front_stays : (a b c : Option (List ℕ)) (xs ys : List ℕ) (f : ℕ) → take f ys ≡ take f xs → Consumes a b (take f xs) → Keeps b c
    → Consumes a c (take f ys)
front_stays a b c xs ys f same first last = subst (Consumes a c) (sym same) (Consumes-kept a b c (take f xs) first last)
