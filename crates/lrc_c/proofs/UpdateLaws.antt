-- Parities after a data fragment changed.
use Rattle.std.proofs.Common.{◌≡◌, ◌≢◌, ℕ, zero, suc, ◌+◌, ◌<◌, ◌≤◌, ◌^◌, Bool, true, false, cond, List, [], ◌∷◌, length, map, take, get_or}
use Rattle.std.proofs.Common.{refl, ap, ap₂, sym, ◌∙◌, subst, arith, lit<, All}
use Rattle.std.specs.Prelude.{◌&&◌, not, if◌then◌else◌}
use Rattle.std.specs.Int.Bits.{bit_xor, xor_assoc, xor_zero_l, xor_zero_r}
use Rattle.std.proofs.lemmas.List.{ext_get_or, get_or-map, length-map, take_all}
use Rattle.lrc_field.specs.Field.{times}
use Rattle.lrc_field.specs.Sums.{combination, sums}
use Rattle.lrc_field.proofs.FieldLaws.{times-zero_r}
use Rattle.lrc_code.specs.declared.places.Place.{Place}
use Rattle.lrc_code.specs.declared.places.Place.TheVariants.{Px, Py, P0, P1}
use Rattle.lrc_code.specs.declared.codes.Code.{Code as CodeName}
use Rattle.lrc_code.specs.declared.codes.Code.TheVariants.{Narrow, Wide}
use Rattle.lrc_code.specs.Places.{all_places, same_place}
use Rattle.lrc_code.specs.Code.{Code, has_place, bytes_at, AreBytes}
use Rattle.lrc_code.specs.Codes.{tables_of}
use Rattle.lrc_code.specs.Reduction.{coefficient_at, row_at}
use Rattle.lrc_code.proofs.CodeLaws.{four_cases}
use Rattle.lrc_code.proofs.Clearing.{get_or-sums}
use Rattle.lrc_code.proofs.CodeTables.{combination-at}
use Rattle.lrc_code.proofs.Combinations.{combination-sum}
use Rattle.lrc_code.proofs.Encodings.{code_says, data_of, fourth_of, parity_rows}
use Rattle.lrc_code.proofs.PlaceSums.{same_place-eq, sum_over-same, sum_over-single}
use Rattle.lrc_code.proofs.RowOps.{length-sums}
use Rattle.lrc_c.specs.Updated.{is_parity, AreCoefficients, AreSolution, DifferAt, IsCoefficient, IsUpdated, SameOthers}
use Rattle.lrc_plan.proofs.Stripes.{in_list, map_along}

-- ---- a row's coefficient at a place

pub coefficient-more : (ps : List Place) (row : List ℕ) (q d : Place) (k : ℕ) → k < length row → length row ≤ length ps
    → coefficient_at (take (suc k) ps) (take (suc k) row) q
    ≡ bit_xor (coefficient_at (take k ps) (take k row) q) (if same_place (get_or ps k d) q then get_or row k 0 else 0)
coefficient-more ps [] q d k h l = absurd (omega arith)
coefficient-more [] (c ∷ row) q d k h l = absurd (omega arith)
coefficient-more (p ∷ ps) (c ∷ row) q d zero h l =
    let x : ℕ = if same_place p q then c else 0 in
    xor_zero_r x ∙ sym (xor_zero_l x)
coefficient-more (p ∷ ps) (c ∷ row) q d (suc k) h l =
    let x : ℕ = if same_place p q then c else 0 in
    ap (bit_xor x) (coefficient-more ps row q d k (omega arith) (omega arith)) ∙ sym (xor_assoc x _ _)

pub coefficient-next : (ps : List Place) (row : List ℕ) (q d : Place) (k : ℕ) → k < length row → length row ≤ length ps
    → coefficient_at (take (k + 1) ps) (take (k + 1) row) q
    ≡ bit_xor (coefficient_at (take k ps) (take k row) q) (if same_place (get_or ps k d) q then get_or row k 0 else 0)
coefficient-next ps row q d k h l =
    let next : k + 1 ≡ suc k = omega arith in
    ap (λ n. coefficient_at (take n ps) (take n row) q) next ∙ coefficient-more ps row q d k h l

pub coefficient-all : (ps : List Place) (row : List ℕ) (q : Place) (k : ℕ) → length row ≤ k → length row ≤ length ps
    → coefficient_at (take k ps) (take k row) q ≡ coefficient_at ps row q
coefficient-all ps [] q k h l = ap (λ cs. coefficient_at (take k ps) cs q) (take_all k [] h) ∙ ends (take k ps) ∙ sym (ends ps)
  where
    ends : (qs : List Place) → coefficient_at qs [] q ≡ 0
    ends [] = refl
    ends (r ∷ qs) = refl
coefficient-all [] (c ∷ row) q k h l = absurd (omega arith)
coefficient-all (p ∷ ps) (c ∷ row) q zero h l = absurd (omega arith)
coefficient-all (p ∷ ps) (c ∷ row) q (suc k) h l = ap (bit_xor (if same_place p q then c else 0))
    (coefficient-all ps row q k (omega arith) (omega arith))

-- ---- a byte that changes at one data place

-- the data places are the code's, and none is a parity's
abbrev all_data : Code → List Place → Bool
all_data code [] = true
all_data code (p ∷ ps) = (has_place code p && not (is_parity p)) && all_data code ps

data_parts : (a b c : Bool) → ((a && not b) && c) ≡ true → (a ≡ true) × (b ≡ false) × (c ≡ true)
data_parts true true c h = absurd (cc)
data_parts true false c h = (refl, refl, h)
data_parts false b c h = absurd (cc)

each_data : (code : Code) (ps : List Place) → all_data code ps ≡ true → (k : ℕ) (e : Place) → k < length ps
    → (has_place code (get_or ps k e) ≡ true) × (is_parity (get_or ps k e) ≡ false)
each_data code [] h k e lt = absurd (omega arith)
each_data code (p ∷ ps) h zero e lt =
    let parts = data_parts (has_place code p) (is_parity p) (all_data code ps) h in (parts.0, parts.1)
each_data code (p ∷ ps) h (suc k) e lt =
    let parts = data_parts (has_place code p) (is_parity p) (all_data code ps) h in each_data code ps parts.2 k e (omega arith)

are_data : (code : CodeName) → all_data (tables_of code) (data_of code) ≡ true
are_data Narrow = refl
are_data Wide = refl

-- what changes at the places: a number at one, and 0 at the others
abbrev single : Place → ℕ → Place → ℕ
single place x p = cond (same_place place p) x 0

changed : (code : CodeName) (place : Place) (b d : Place → ℕ) (x : ℕ) → SameOthers (tables_of code) place b d
    → d place ≡ bit_xor (b place) x
    → map d (data_of code) ≡ map (λ p. bit_xor (b p) (single place x p)) (data_of code)
changed code place b d x same there = map_along (data_of code) d (λ p. bit_xor (b p) (single place x p))
    (λ k e lt. at (get_or (data_of code) k e) (each_data (tables_of code) (data_of code) (are_data code) k e lt))
  where
    case_of : (p : Place) (t : Bool) → same_place place p ≡ t → (has_place (tables_of code) p ≡ true) × (is_parity p ≡ false)
        → d p ≡ bit_xor (b p) (cond t x 0)
    case_of p true t h = subst (λ q. d q ≡ bit_xor (b q) x) (same_place-eq place p t) there
    case_of p false t h = same p h.0 h.1 t ∙ sym (xor_zero_r (b p))

    at : (p : Place) → (has_place (tables_of code) p ≡ true) × (is_parity p ≡ false) → d p ≡ bit_xor (b p) (single place x p)
    at p h = case_of p (same_place place p) refl h

single_product : (c x : ℕ) (t : Bool) → times c (cond t x 0) ≡ cond t (times c x) 0
single_product c x true = refl
single_product c x false = times-zero_r c

combination-single : (ps : List Place) (row : List ℕ) (place : Place) (x : ℕ)
    → combination row (map (single place x) ps) ≡ times (coefficient_at ps row place) x
combination-single ps row place x =
    combination-at ps row (single place x)
    ∙ sum_over-same all_places _ (λ q. cond (same_place place q) (times (coefficient_at ps row q) x) 0)
    (λ q. single_product (coefficient_at ps row q) x (same_place place q))
    ∙ sum_over-single place (λ q. times (coefficient_at ps row q) x)

pub parities_own : (code : CodeName) → (has_place (tables_of code) Px ≡ true) × (has_place (tables_of code) Py ≡ true)
    × (has_place (tables_of code) P0 ≡ true) × (has_place (tables_of code) P1 ≡ true)
parities_own Narrow = (refl, refl, refl, refl)
parities_own Wide = (refl, refl, refl, refl)

says : (code : CodeName) (b : Place → ℕ) → AreSolution (tables_of code) b → (i : ℕ) → i < 4
    → fourth_of (b Px) (b Py) (b P0) (b P1) i ≡ combination (row_at (parity_rows code) i) (map b (data_of code))
says code b s i h =
    let own = parities_own code in
    (code_says code b (s.bytes Px own.0) (s.bytes Py own.1) (s.bytes P0 own.2) (s.bytes P1 own.3)).0 s.solves i h

-- a parity's byte changes by its coefficient times the difference
changes : (code : CodeName) (place : Place) (i : ℕ) → i < 4 → (b d : Place → ℕ) → AreSolution (tables_of code) b
    → AreSolution (tables_of code) d
    → SameOthers (tables_of code) place b d → (x : ℕ) → d place ≡ bit_xor (b place) x
    → fourth_of (d Px) (d Py) (d P0) (d P1) i
    ≡ bit_xor (fourth_of (b Px) (b Py) (b P0) (b P1) i) (times (coefficient_at (data_of code) (row_at (parity_rows code) i) place) x)
changes code place i h b d sb sd same x there =
    let row = row_at (parity_rows code) i in
    says code d sd i h ∙ ap (combination row) (changed code place b d x same there)
    ∙ combination-sum row (data_of code) b (single place x)
    ∙ ap₂ bit_xor (sym (says code b sb i h)) (combination-single (data_of code) row place x)

-- a row ends before the code's parities do
same_row : (code : CodeName) (place : Place) (i : ℕ) → i < 4
    → coefficient_at (tables_of code).places (row_at (parity_rows code) i) place
    ≡ coefficient_at (data_of code) (row_at (parity_rows code) i) place
same_row Narrow place = four_cases _ refl refl refl refl
same_row Wide place = four_cases _ refl refl refl refl

pub coefficients : (code : CodeName) (place : Place) (px py p0 p1 : ℕ)
    → px ≡ coefficient_at (tables_of code).places (row_at (parity_rows code) 0) place
    → py ≡ coefficient_at (tables_of code).places (row_at (parity_rows code) 1) place
    → p0 ≡ coefficient_at (tables_of code).places (row_at (parity_rows code) 2) place
    → p1 ≡ coefficient_at (tables_of code).places (row_at (parity_rows code) 3) place
    → AreCoefficients (tables_of code) place px py p0 p1
coefficients code place px py p0 p1 ex ey e0 e1 = record {
  of_px = λ b d sb sd same x there. changes code place 0 (lit< tt) b d sb sd same x there
      ∙ ap (λ c. bit_xor (b Px) (times c x)) (sym (ex ∙ same_row code place 0 (lit< tt)));
  of_py = λ b d sb sd same x there. changes code place 1 (lit< tt) b d sb sd same x there
      ∙ ap (λ c. bit_xor (b Py) (times c x)) (sym (ey ∙ same_row code place 1 (lit< tt)));
  of_p0 = λ b d sb sd same x there. changes code place 2 (lit< tt) b d sb sd same x there
      ∙ ap (λ c. bit_xor (b P0) (times c x)) (sym (e0 ∙ same_row code place 2 (lit< tt)));
  of_p1 = λ b d sb sd same x there. changes code place 3 (lit< tt) b d sb sd same x there
      ∙ ap (λ c. bit_xor (b P1) (times c x)) (sym (e1 ∙ same_row code place 3 (lit< tt)));
}

-- ---- a parity's bytes

bytes_in : (code : Code) (len : ℕ) (s : Place → List ℕ) (k : ℕ) → k < len → All (λ p. (length (s p) ≡ len) × AreBytes (s p)) code.places
    → (p : Place) → has_place code p ≡ true → (length (s p) ≡ len) × (bytes_at s k p < 2 ^ 8)
bytes_in code len s k h all p own =
    let w = in_list (λ q. (length (s q) ≡ len) × AreBytes (s q)) code.places all p own in
    (w.0, w.1 k 0 (subst (λ n. k < n) (sym w.0) h))

pub updated : (code : Code) (place parity : Place) (c : ℕ) (difference old new : List ℕ) → has_place code place ≡ true
    → has_place code parity ≡ true
    → IsCoefficient code place parity c → length old ≡ length difference → new ≡ sums old (map (times c) difference)
    → (before after : Place → List ℕ) → DifferAt code place difference before after → before parity ≡ old → after parity ≡ new
updated code place parity c difference old new own own_parity coefficient long is before after differ e =
    let scaled : length old ≡ length (map (times c) difference) = long ∙ sym (length-map difference (times c)) in
    let total : length new ≡ length difference = ap length is ∙ length-sums old (map (times c) difference) scaled ∙ long in
    ext_get_or 0 (after parity) new (in_length ∙ sym total)
    (λ k lt. let h : k < length difference = subst (λ n. k < n) in_length lt in
    at k h ∙ ap (λ xs. bit_xor (get_or xs k 0) (times c (get_or difference k 0))) e
    ∙ sym (ap (λ xs. get_or xs k 0) is ∙ get_or-sums old (map (times c) difference) k (subst (λ n. k < n) (sym long) h) scaled
    ∙ ap (bit_xor (get_or old k 0)) (get_or-map (times c) difference k 0 0 h)))
  where
    stripe : (p : Place) → has_place code p ≡ true → (length (after p) ≡ length difference) × AreBytes (after p)
    stripe p o = in_list (λ q. (length (after q) ≡ length difference) × AreBytes (after q)) code.places differ.is_after.is_stripe p o

    in_length : length (after parity) ≡ length difference
    in_length = (stripe parity own_parity).0

    at : (k : ℕ) → k < length difference → get_or (after parity) k 0
        ≡ bit_xor (get_or (before parity) k 0) (times c (get_or difference k 0))
    at k h =
        let first : length (before place) ≡ length difference =
        (bytes_in code (length difference) before k h differ.is_before.is_stripe place own).0 in
        coefficient (bytes_at before k) (bytes_at after k)
        (record {
          bytes = λ p o. (bytes_in code (length difference) before k h differ.is_before.is_stripe p o).1;
          solves = differ.is_before.solves k h;
        })
        (record {
          bytes = λ p o. (bytes_in code (length difference) after k h differ.is_after.is_stripe p o).1;
          solves = differ.is_after.solves k h;
        })
        (λ p o n s. ap (λ xs. get_or xs k 0) (differ.others p o n s))
        (get_or difference k 0)
        (ap (λ xs. get_or xs k 0) differ.there ∙ get_or-sums (before place) difference k (subst (λ n. k < n) (sym first) h) first)

pub is_updated : (code : Code) (place parity : Place) (c : ℕ) (difference old new : List ℕ) → has_place code place ≡ true
    → has_place code parity ≡ true
    → IsCoefficient code place parity c → (length old ≡ length difference → new ≡ sums old (map (times c) difference))
    → (length old ≢ length difference → new ≡ old) → IsUpdated code place difference parity old new
is_updated code place parity c difference old new own own_parity coefficient done absent = record {
  given = λ l. updated code place parity c difference old new own own_parity coefficient l (done l);
  absent = absent;
}
