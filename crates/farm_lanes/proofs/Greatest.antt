-- The greatest number of a list.
use Rattle.std.proofs.Common.{◌≡◌, ℕ, zero, suc, ◌<◌, List, [], ◌∷◌, ◌++◌, Some, None, Option, refl, sym, ap, ◌∙◌, arith}
use Rattle.std.specs.Prelude.{All, max}
use Rattle.farm_lanes.specs.GateView.{greater_of, greatest}

pub greatest-snoc : (xs : List ℕ) (n : ℕ) → All (λ x. x < n) xs → greatest (xs ++ n ∷ []) ≡ Some n
greatest-snoc [] n h = refl
greatest-snoc (x ∷ xs) n h =
    let less : x < n = h zero 0 (omega arith) in
    ap (greater_of (Some x)) (greatest-snoc xs n (λ k d lt. h (suc k) d (omega arith)))
    ∙ ap (λ m. Some m) (let m : max x n ≡ n = omega arith in m)

greater-assoc : (a b c : Option ℕ) → greater_of (greater_of a b) c ≡ greater_of a (greater_of b c)
greater-assoc None b c = refl
greater-assoc (Some x) None c = refl
greater-assoc (Some x) (Some y) None = refl
greater-assoc (Some x) (Some y) (Some z) = ap (λ m. Some m) (let m : max (max x y) z ≡ max x (max y z) = omega arith in m)

pub greatest-append : (xs ys : List ℕ) → greatest (xs ++ ys) ≡ greater_of (greatest xs) (greatest ys)
greatest-append [] ys = refl
greatest-append (x ∷ xs) ys = ap (greater_of (Some x)) (greatest-append xs ys) ∙ sym (greater-assoc (Some x) (greatest xs) (greatest ys))
