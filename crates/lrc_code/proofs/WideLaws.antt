-- The parities of the (12,2,2) code.
use Rattle.std.proofs.Common.{◌≡◌, ℕ, ◌<◌, ◌^◌, List, [], ◌∷◌, ◌++◌, map, refl, ap₂, sym, ◌∙◌, lit<}
use Rattle.std.specs.Int.Bits.{bit_xor}
use Rattle.lrc_field.proofs.FieldLaws.{times-zero, times-one}
use Rattle.lrc_code.specs.declared.places.Place.{Place}
use Rattle.lrc_code.specs.declared.places.Place.TheVariants.{X0, X1, X2, X3, X4, X5, Y0, Y1, Y2, Y3, Y4, Y5, Px, Py, P0, P1}
use Rattle.lrc_code.specs.declared.codes.Code.TheVariants.{Wide}
use Rattle.lrc_field.specs.Sums.{combination}
use Rattle.lrc_code.specs.Sums.{sum_over}
use Rattle.lrc_code.specs.Laws.{WideEquationsSayParities}
use Rattle.lrc_code.specs.Reduction.{row_at}
use Rattle.lrc_code.proofs.CodeLaws.{four_cases}
use Rattle.lrc_code.proofs.Encodings.{parity_rows, data_of, fourth_of, code_says}

abbrev ones : List Place → List ℕ
ones [] = []
ones (p ∷ ps) = 1 ∷ ones ps

abbrev nones : List Place → List ℕ
nones [] = []
nones (p ∷ ps) = 0 ∷ nones ps

none_of : (qs : List Place) (b : Place → ℕ) → combination (nones qs) (map b qs) ≡ 0
none_of [] b = refl
none_of (q ∷ qs) b = ap₂ bit_xor (times-zero (b q)) (none_of qs b)

sum_of : (ps qs : List Place) (b : Place → ℕ) → ((p : Place) → b p < 2 ^ 8)
    → combination (ones ps ++ nones qs) (map b (ps ++ qs)) ≡ sum_over ps b
sum_of [] qs b h = none_of qs b
sum_of (p ∷ ps) qs b h = ap₂ bit_xor (times-one (b p) (h p)) (sum_of ps qs b h)

sum_behind : (qs ps : List Place) (b : Place → ℕ) → ((p : Place) → b p < 2 ^ 8)
    → combination (nones qs ++ ones ps) (map b (qs ++ ps)) ≡ sum_over ps b
sum_behind [] [] b h = refl
sum_behind [] (p ∷ ps) b h = ap₂ bit_xor (times-one (b p) (h p)) (sum_behind [] ps b h)
sum_behind (q ∷ qs) ps b h = ap₂ bit_xor (times-zero (b q)) (sum_behind qs ps b h)

pub wide_equations-parities : WideEquationsSayParities
wide_equations-parities b h =
    let xs : List Place = X0 ∷ X1 ∷ X2 ∷ X3 ∷ X4 ∷ X5 ∷ [] in
    let ys : List Place = Y0 ∷ Y1 ∷ Y2 ∷ Y3 ∷ Y4 ∷ Y5 ∷ [] in
    let says = code_says Wide b (h Px) (h Py) (h P0) (h P1) in (
      (λ s. record {
        local_x = says.0 s 0 (lit< tt) ∙ sum_of xs ys b h;
        local_y = says.0 s 1 (lit< tt) ∙ sum_behind xs ys b h;
        global_0 = says.0 s 2 (lit< tt);
        global_1 = says.0 s 3 (lit< tt);
      }),
      (λ p. says.1 (four_cases (λ i. fourth_of (b Px) (b Py) (b P0) (b P1) i
          ≡ combination (row_at (parity_rows Wide) i) (map b (data_of Wide)))
          (p.local_x ∙ sym (sum_of xs ys b h)) (p.local_y ∙ sym (sum_behind xs ys b h)) p.global_0 p.global_1)),
    )
