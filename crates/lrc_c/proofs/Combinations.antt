-- Coefficients and lent bytes.
use Rattle.std.proofs.Common.{◌≡◌, ℕ, zero, suc, ◌<◌, List, [], ◌∷◌, length, get_or, refl, ap, sym, subst, ◌∙◌, arith, inl, inr}
use Rattle.std.proofs.lemmas.Bool.{cases_lt}
use Rattle.std.proofs.lemmas.List.{get_or_default, get_or_past}
use Rattle.lrc_field.specs.declared.terms.Term.{Term}
use Rattle.lrc_field.specs.Combined.{AreZeroBetween}
use Rattle.lrc_field.specs.Terms.{AreTermsOf, HaveLengthWhereUsed}
use Rattle.lrc_plan.specs.Stripes.{AreUsed, AreZeroRows, IsZeroRow}

-- bytes whose coefficient is not 0 have the length
pub used_at : (row : List ℕ) (xss : List (List ℕ)) (len k : ℕ) → AreUsed row xss len → k < length xss → ¬ (get_or row k 0 ≡ 0)
    → length (get_or xss k []) ≡ len
used_at [] xss len k u h n = absurd (n refl)
used_at (c ∷ row) [] len k u h n = absurd (omega arith)
used_at (c ∷ row) (xs ∷ xss) len zero u h n = u.0 n
used_at (c ∷ row) (xs ∷ xss) len (suc k) u h n = used_at row xss len k u.1 (omega arith) n

-- so they have it where they are used
pub where_used : (row : List ℕ) (xss : List (List ℕ)) (len : ℕ) → AreUsed row xss len → HaveLengthWhereUsed row xss len
where_used row xss len u k other some = elim (cases_lt k (length xss)) as (λ _. length (get_or xss k []) ≡ len) [
  | inl lt ↦ used_at row xss len k u lt other
  | inr past ↦ absurd (some (ap length (get_or_past xss k [] past)))
]

-- the terms of a row that is 0 everywhere
pub zero_terms : (row : List ℕ) (xss : List (List ℕ)) (len : ℕ) (ts : List Term) → AreTermsOf row xss len ts → IsZeroRow row xss len
    → AreZeroBetween 0 len ts
zero_terms row xss len ts t z = λ k ge lt. t.sums k ∙ z k lt

-- and a row is 0 everywhere whose terms are
pub terms_zero : (row : List ℕ) (xss : List (List ℕ)) (len : ℕ) (ts : List Term) → AreTermsOf row xss len ts → AreZeroBetween 0 len ts
    → IsZeroRow row xss len
terms_zero row xss len ts t z = λ k lt. sym (t.sums k) ∙ z k (omega arith) lt

pub zero_of_four : (rows xss : List (List ℕ)) (len : ℕ) → length rows ≡ 4 → IsZeroRow (get_or rows 0 []) xss len
    → IsZeroRow (get_or rows 1 []) xss len → IsZeroRow (get_or rows 2 []) xss len → IsZeroRow (get_or rows 3 []) xss len
    → AreZeroRows rows xss len
zero_of_four rows xss len four a b c e k d lt =
    subst (λ row. IsZeroRow row xss len) (get_or_default rows k [] d lt) (each k (omega (arith, four, lt)))
  where
    each : (n : ℕ) → n < 4 → IsZeroRow (get_or rows n []) xss len
    each zero h = a
    each (suc zero) h = b
    each (suc (suc zero)) h = c
    each (suc (suc (suc zero))) h = e
    each (suc (suc (suc (suc n)))) h = absurd (omega (arith, h))
