-- Parities of lent bytes.
use Rattle.std.proofs.Common.{◌≡◌, ℕ, suc, List, [], ◌∷◌, ◌++◌, All, length, map, take, refl, ap, subst, ◌∙◌, arith}
use Rattle.lrc_code.specs.declared.codes.Code.{Code as CodeName}
use Rattle.lrc_code.specs.Code.{AreBytes, narrow_equations, wide_equations}
use Rattle.lrc_code.specs.Codes.{data_count, padded_parities_of, parities_of, tables_of}
use Rattle.lrc_code.specs.declared.codes.Code.TheVariants.{Narrow, Wide}
use Rattle.lrc_code.specs.Encoding.{HaveLength, IsParity, IsEncoding}
use Rattle.lrc_code.specs.Reduction.{row_at}
use Rattle.lrc_code.proofs.Encodings.{parities_by_row, parity_rows, data_of, encoding}
use Rattle.lrc_field.specs.declared.terms.Term.{Term}
use Rattle.lrc_field.specs.Terms.{AreTermsOf, HaveLengthWhereUsed}
use Rattle.lrc_plan.specs.Stripes.{AreUsed}
use Rattle.lrc_c.specs.Combined.{IsWritten}
use Rattle.lrc_c.proofs.Combinations.{where_used}

-- lists of one length
pub all_used : (row : List ℕ) (xss : List (List ℕ)) (len : ℕ) → HaveLength len xss → AreUsed row xss len
all_used [] xss len h = tt
all_used (c ∷ row) [] len h = tt
all_used (c ∷ row) (xs ∷ xss) len h = (λ n. h 0 [] (omega arith), all_used row xss len (λ k d lt. h (suc k) d (omega arith)))

pub all_where_used : (row : List ℕ) (xss : List (List ℕ)) (len : ℕ) → HaveLength len xss → HaveLengthWhereUsed row xss len
all_where_used row xss len h = where_used row xss len (all_used row xss len h)

-- a code's parities without the 00 after their coefficients
unpadded : (code : CodeName) → map (take (data_count code)) (padded_parities_of code) ≡ parities_of code
unfolding narrow_equations wide_equations
unpadded Narrow = refl
unpadded Wide = refl

pub own_rows : (code : CodeName) (n : ℕ) (rx ry r0 r1 : List ℕ) → (rx ∷ ry ∷ r0 ∷ r1 ∷ []) ≡ padded_parities_of code → n ≡ data_count code
    → (take n rx ∷ take n ry ∷ take n r0 ∷ take n r1 ∷ []) ≡ parities_of code
own_rows code n rx ry r0 r1 are e =
    ap (λ m. take m rx ∷ take m ry ∷ take m r0 ∷ take m r1 ∷ []) e ∙ ap (map (take (data_count code))) are ∙ unpadded code

data_is : (code : CodeName) → data_count code ≡ length (data_of code)
data_is Narrow = refl
data_is Wide = refl

-- a parity of a code's data by its rows of coefficients
module _ (code : CodeName) (rx ry r0 r1 : List ℕ) (are : (rx ∷ ry ∷ r0 ∷ r1 ∷ []) ≡ parities_of code) where
  row_is : (i : ℕ) → row_at (rx ∷ ry ∷ r0 ∷ r1 ∷ []) i ≡ row_at (parity_rows code) i
  row_is i = ap (λ rows. row_at rows i) (are ∙ parities_by_row code)

  pub encoded : (len : ℕ) (sources : List (List ℕ)) (px py p0 p1 : List ℕ) → length sources ≡ data_count code
      → HaveLength len sources → All AreBytes sources
      → IsParity rx sources len px → IsParity ry sources len py → IsParity r0 sources len p0 → IsParity r1 sources len p1
      → IsEncoding (tables_of code) len sources (sources ++ (px ∷ py ∷ p0 ∷ p1 ∷ []))
  encoded len sources px py p0 p1 many lengths bytes hx hy h0 h1 =
      encoding code len sources px py p0 p1 (many ∙ data_is code) lengths bytes (record {
        ix = subst (λ row. IsParity row sources len px) (row_is 0) hx;
        iy = subst (λ row. IsParity row sources len py) (row_is 1) hy;
        i0 = subst (λ row. IsParity row sources len p0) (row_is 2) h0;
        i1 = subst (λ row. IsParity row sources len p1) (row_is 3) h1;
      })

-- what is in a room whose terms are a row's
pub parity : (row : List ℕ) (xss : List (List ℕ)) (len : ℕ) (ts : List Term) (out : List ℕ) → AreTermsOf row xss len ts → length out ≡ len
    → IsWritten ts out len → IsParity row xss len out
parity row xss len ts out t l w = record { long = l; each = λ k lt. w k lt ∙ t.sums k }
