-- The bytes that pieces of lists name.
use Rattle.std.proofs.Common.{◌≡◌, ◌<◌, ◌≤◌, ◌+◌, ◌-◌, ◌++◌, ◌∙◌, ℕ, zero, suc, List, [], ◌∷◌, length, take, drop, get_or, refl, sym, ap}
use Rattle.std.proofs.Common.{arith}
use Rattle.std.specs.List.{slice_range}
use Rattle.std.proofs.lemmas.List.Sums.{sum_by-append, sum_by-cons}
use Rattle.std.specs.Prelude.{sum_by}
use Rattle.farm_lists.specs.declared.listing.Record.{Record}
use Rattle.farm_reading.specs.Pieces.{list_bytes, listed_bytes, piece, record_bytes}
use Rattle.farm_reading.proofs.Pairs.{sum_push}

nothing_of : {A : Type 0} (k : ℕ) → take {A = A} k [] ≡ []
nothing_of zero = refl
nothing_of (suc k) = refl

-- a range of one item, and one past the end
pub one_at : {A : Type 0} (xs : List A) (n : ℕ) (x : A) → n < length xs → x ≡ get_or xs n x → slice_range xs n (n + 1) ≡ x ∷ []
one_at [] n x within is = absurd (omega (arith, within))
one_at (y ∷ xs) zero x within is = ap (λ r. r ∷ []) (sym is)
one_at (y ∷ xs) (suc n) x within is = ap (λ (k : ℕ). take k (drop n xs)) (let e : (suc n + 1) - suc n ≡ (n + 1) - n = omega arith in e)
    ∙ one_at xs n x (omega (arith, within)) is

pub none_at : {A : Type 0} (xs : List A) (n m : ℕ) → length xs ≤ n → slice_range xs n m ≡ []
none_at [] zero m past = nothing_of (m - 0)
none_at [] (suc n) m past = nothing_of (m - suc n)
none_at (y ∷ xs) zero m past = absurd (omega (arith, past))
none_at (y ∷ xs) (suc n) m past = ap (λ (k : ℕ). take k (drop n xs)) (let e : m - suc n ≡ (m - 1) - n = omega arith in e)
    ∙ none_at xs n (m - 1) (omega (arith, past))

-- a range and the one after it
joined_ranges : {A : Type 0} (xs : List A) (a b : ℕ) → a ≤ b → slice_range xs a (b + 1) ≡ slice_range xs a b ++ slice_range xs b (b + 1)
joined_ranges {A} [] a b within = none_at [] a (b + 1) (omega arith)
    ∙ sym (ap (λ (t : List A). t ++ slice_range [] b (b + 1)) (none_at [] a b (omega arith)) ∙ none_at [] b (b + 1) (omega arith))
joined_ranges (x ∷ xs) zero zero within = refl
joined_ranges {A} (x ∷ xs) zero (suc b) within = shown (joined_ranges xs zero b (omega arith))
  where
    shown : slice_range xs zero (b + 1) ≡ slice_range xs zero b ++ slice_range xs b (b + 1)
        → slice_range (x ∷ xs) zero (suc b + 1) ≡ slice_range (x ∷ xs) zero (suc b) ++ slice_range (x ∷ xs) (suc b) (suc b + 1)
    shown rest =
        ap (λ (k : ℕ). take k (x ∷ xs)) (let e : (suc b + 1) - 0 ≡ suc ((b + 1) - 0) = omega arith in e)
        ∙ ap (λ (t : List A). x ∷ t) rest
        ∙ ap (λ (k : ℕ). (x ∷ take (b - 0) xs) ++ take k (drop b xs)) (let e : (b + 1) - b ≡ (suc b + 1) - suc b = omega arith in e)
        ∙ ap (λ (k : ℕ). take k (x ∷ xs) ++ take ((suc b + 1) - suc b) (drop b xs)) (let e : suc (b - 0) ≡ suc b - 0 = omega arith in e)
joined_ranges (x ∷ xs) (suc a) zero within = absurd (omega (arith, within))
joined_ranges (x ∷ xs) (suc a) (suc b) within =
    ap (λ (k : ℕ). take k (drop a xs)) (let e : (suc b + 1) - suc a ≡ (b + 1) - a = omega arith in e)
    ∙ joined_ranges xs a b (omega (arith, within))
    ∙ ap (λ (k : ℕ). take k (drop a xs) ++ slice_range xs b (b + 1)) (let e : b - a ≡ suc b - suc a = omega arith in e)
    ∙ ap (λ (k : ℕ). take (suc b - suc a) (drop a xs) ++ take k (drop b xs)) (let e : (b + 1) - b ≡ (suc b + 1) - suc b = omega arith in e)

-- the sum over a range with one item more
pub sum_further : {A : Type 0} (f : A → ℕ) (xs : List A) (a b : ℕ) (x : A) → a ≤ b → b < length xs → x ≡ get_or xs b x
    → sum_by f (slice_range xs a (b + 1)) ≡ sum_by f (slice_range xs a b) + f x
sum_further {A} f xs a b x ordered within is =
    ap (λ (t : List A). sum_by f t) (joined_ranges xs a b ordered ∙ ap (λ (t : List A). slice_range xs a b ++ t) (one_at xs b x within is))
    ∙ sum_push f (slice_range xs a b) x

pub sum_of_none : {A : Type 0} (f : A → ℕ) (xs : List A) (a : ℕ) → sum_by f (slice_range xs a a) ≡ 0
sum_of_none {A} f xs a = ap (λ (k : ℕ). sum_by f (take k (drop a xs))) (let e : a - a ≡ 0 = omega arith in e)

-- the bytes of one position more
pub bytes_more : (lists : List (List Record)) (a b : ℕ) → a ≤ b
    → listed_bytes (piece lists a (b + 1)) ≡ listed_bytes (piece lists a b) + listed_bytes (piece lists b (b + 1))
bytes_more [] a b within = refl
bytes_more (l ∷ lists) a b within =
    let here : list_bytes (slice_range l a (b + 1)) ≡ list_bytes (slice_range l a b) + list_bytes (slice_range l b (b + 1)) =
    ap list_bytes (joined_ranges l a b within) ∙ sum_by-append record_bytes (slice_range l a b) (slice_range l b (b + 1)) in
    let rest = bytes_more lists a b within in
    omega (
      arith,
      here,
      rest,
      sum_by-cons list_bytes (slice_range l a (b + 1)) (piece lists a (b + 1)),
      sum_by-cons list_bytes (slice_range l a b) (piece lists a b),
      sum_by-cons list_bytes (slice_range l b (b + 1)) (piece lists b (b + 1)),
    )

pub bytes_none : (lists : List (List Record)) (a : ℕ) → listed_bytes (piece lists a a) ≡ 0
bytes_none [] a = refl
bytes_none (l ∷ lists) a =
    let here : list_bytes (slice_range l a a) ≡ 0 = ap list_bytes
    (ap (λ (k : ℕ). take k (drop a l)) (let e : a - a ≡ 0 = omega arith in e)) in
    let rest = bytes_none lists a in
    omega (arith, here, rest, sum_by-cons list_bytes (slice_range l a a) (piece lists a a))
