-- A row's coefficients and the survivors' bytes.
use Rattle.std.specs.Borrow.{Bor}
use Rattle.std.proofs.Common.{◌≡◌, ℕ, List, [], ◌∷◌, length, get_or, map, false, cond, true, refl, ap, ap₂}
use Rattle.std.proofs.Common.{sym, ◌∙◌, inl, inr, All, None}
use Rattle.std.specs.Prelude.{◌||◌, ◌&&◌, ◌==◌}
use Rattle.std.specs.List.{list_all}
use Rattle.std.specs.Int.Bits.{bit_xor}
use Rattle.std.proofs.lemmas.Bool.{cases_Bool, cases_lt, eqb-true}
use Rattle.std.proofs.lemmas.List.{get_or-map, get_or_past}
use Rattle.lrc_field.specs.Field.{times}
use Rattle.lrc_field.specs.Sums.{column, combination}
use Rattle.lrc_field.specs.Terms.{AreTermsOf, HaveLengthWhereUsed}
use Rattle.lrc_field.specs.declared.terms.Term.{Term}
use Rattle.lrc_field.proofs.FieldLaws.{times-zero}
use Rattle.lrc_code.specs.declared.places.Place.{Place}
use Rattle.lrc_code.specs.declared.places.Place.TheVariants.{X0}
use Rattle.lrc_code.specs.Places.{same_place, all_places}
use Rattle.lrc_code.specs.Code.{AreBytes}
use Rattle.lrc_code.specs.Requests.{AreSources, Asked, Survivor, is_among, bytes_of, refusal}
use Rattle.lrc_plan.specs.Evaluation.{byte_at}
use Rattle.lrc_plan.specs.Terms.{AreRowTerms}
use Rattle.lrc_plan.proofs.FittingStripes.{whole}

-- nothing survives at a place that isn't among the survivors
pub no_bytes : (ss : List Survivor) (p : Place) → is_among p ss ≡ false → bytes_of ss p ≡ []
no_bytes [] p h = refl
no_bytes (s ∷ ss) p h = elim (cases_Bool (same_place p s.place)) as (λ _. bytes_of (s ∷ ss) p ≡ []) [
  | inl t ↦ absurd (cc h)
  | inr f ↦ ap (λ b. cond b s.bytes (bytes_of ss p)) f ∙ no_bytes ss p (sym (ap (λ b. b || is_among p ss) f) ∙ h)
]

-- where bytes survive they are as many as the request's length
source_length : (r : Asked) → refusal r ≡ None → All (λ s. AreBytes s.bytes) r.survivors → (p : Place)
    → (length (bytes_of r.survivors p) ≡ 0 → ⊥)
    → length (bytes_of r.survivors p) ≡ r.len
source_length r accepted bytes p some = elim (cases_Bool (is_among p r.survivors)) as (λ _. length (bytes_of r.survivors p) ≡ r.len) [
  | inl t ↦ (whole r accepted bytes p t).0
  | inr f ↦ absurd (some (ap length (no_bytes r.survivors p f)))
]

module _ (r : Asked) (row : List ℕ) (sources : List (Bor (List ℕ))) (are : AreSources r.survivors sources) where
  abbrev lists : List (List ℕ)
  lists = map (λ s. s.now) sources

  -- the sources' bytes at a position are those at the places
  bytes_at : (i : ℕ) → column lists i ≡ map (byte_at r i) all_places
  bytes_at i = ap (λ xss. column xss i) are

  -- a source that has bytes has the request's length
  pub used : refusal r ≡ None → All (λ s. AreBytes s.bytes) r.survivors → HaveLengthWhereUsed row lists r.len
  used accepted bytes k other some = elim (cases_lt k 16) as (λ _. length (get_or lists k []) ≡ r.len) [
    | inl lt ↦ (let at = ap (λ xss. get_or xss k []) are ∙ get_or-map (bytes_of r.survivors) all_places k X0 [] lt in
        ap length at ∙ source_length r accepted bytes (get_or all_places k X0) (λ z. some (ap length at ∙ z)))
    | inr past ↦ absurd (some (ap (λ xss. length (get_or xss k [])) are
        ∙ ap length (get_or_past (map (bytes_of r.survivors) all_places) k [] past)))
  ]

  -- terms of the row and the sources are those of the row and the survivors
  pub row_terms : (ts : List Term) → AreTermsOf row lists r.len ts → AreRowTerms r row ts
  row_terms ts t = record { room = t.room; sums = λ i. t.sums i ∙ ap (combination row) (bytes_at i) }

-- a row of 0 sums to 0
pub blank_sum : (cs xs : List ℕ) → list_all (λ c. c == 0) cs ≡ true → combination cs xs ≡ 0
blank_sum [] xs h = refl
blank_sum (c ∷ cs) [] h = refl
blank_sum (c ∷ cs) (x ∷ xs) h = elim (cases_Bool (c == 0)) as (λ _. combination (c ∷ cs) (x ∷ xs) ≡ 0) [
  | inl t ↦ ap₂ bit_xor (ap (λ d. times d x) (eqb-true c 0 t) ∙ times-zero x)
      (blank_sum cs xs (sym (ap (λ b. b && list_all (λ d. d == 0) cs) t) ∙ h))
  | inr f ↦ absurd (cc h)
]
