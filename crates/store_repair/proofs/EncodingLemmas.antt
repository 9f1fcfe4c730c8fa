-- The rows that encode, and what they make.
use Rattle.std.proofs.Common.{◌≡◌, ℕ, zero, suc, ◌<◌, ◌+◌, ◌*◌, ◌-◌, ◌^◌, ◌++◌, List, [], ◌∷◌, length, get_or, map}
use Rattle.std.proofs.Common.{refl, ap, sym, ◌∙◌, subst, arith, inl, inr, All}
use Rattle.std.proofs.Common.{lit<, Option, Some, None}
use Rattle.std.specs.List.{range_with_len}
use Rattle.std.specs.Int.Bits.{bit_xor, xor_zero_r}
use Rattle.std.proofs.lemmas.Bool.{cases_lt}
use Rattle.std.proofs.lemmas.List.{append-nil, append_assoc, ext_get_or, get_or-append_right, get_or-map, get_or_append_left}
use Rattle.std.proofs.lemmas.List.{get_or_default, get_or_past}
use Rattle.std.proofs.lemmas.List.{length-map}
use Rattle.std.proofs.lemmas.List.FromFn.{get_or-map-range_with_len, length-map-range_with_len}
use Rattle.lrc_field.specs.Sums.{column, combination}
use Rattle.lrc_code.specs.declared.places.Place.{Place}
use Rattle.lrc_code.specs.declared.codes.Code.{Code as CodeName}
use Rattle.lrc_code.specs.declared.codes.Code.TheVariants.{Narrow, Wide}
use Rattle.lrc_code.specs.Code.{AreBytes, narrow_equations, wide_equations}
use Rattle.lrc_code.specs.Codes.{data_count, tables_of}
use Rattle.lrc_code.specs.Encoding.{HaveLength, IsEncoding, IsParity}
use Rattle.lrc_code.specs.Reduction.{row_at}
use Rattle.lrc_code.proofs.Combinations.{combination-append}
use Rattle.lrc_code.proofs.Encodings.{data_of, encoding, parity_rows}
use Rattle.store_repair.specs.Files.{encoding_rows, fragment_length, FragmentsAreOfFile, IsFragmentOf}
use Rattle.store_repair.specs.Files.{IsFragmentShown, part, parts, unit_row}
use Rattle.stores.specs.Shown.{IsEmpty}
use Rattle.store_repair.specs.Windows.{IsAppended}
use Rattle.store_repair.proofs.FileLemmas.{length-part, part_at}
use Rattle.store_repair.proofs.ReadingLemmas.{combination_unit}

-- four pushes
pub four_more : (xs ws bs cs ds : List (List ℕ)) (a b c d : List ℕ) → ws ≡ xs ++ a ∷ [] → bs ≡ ws ++ b ∷ [] → cs ≡ bs ++ c ∷ []
    → ds ≡ cs ++ d ∷ [] → ds ≡ xs ++ (a ∷ b ∷ c ∷ d ∷ [])
four_more xs ws bs cs ds a b c d ha hb hc hd =
    hd ∙ ap (λ z. z ++ d ∷ []) (hc ∙ ap (λ z. z ++ c ∷ []) (hb ∙ ap (λ z. z ++ b ∷ []) ha))
    ∙ append_assoc ((xs ++ a ∷ []) ++ b ∷ []) (c ∷ []) (d ∷ [])
    ∙ append_assoc (xs ++ a ∷ []) (b ∷ []) (c ∷ d ∷ [])
    ∙ append_assoc xs (a ∷ []) (b ∷ c ∷ d ∷ [])

pub rows_many : (code : CodeName) → length (encoding_rows code) ≡ length (tables_of code).places
unfolding narrow_equations wide_equations
rows_many Narrow = refl
rows_many Wide = refl

-- coefficients after the last list play no part
wide_row : (row more xs : List ℕ) → length row ≡ length xs → combination (row ++ more) xs ≡ combination row xs
wide_row row more xs e = ap (combination (row ++ more)) (sym (append-nil xs)) ∙ combination-append row more xs [] e
    ∙ ap (bit_xor (combination row xs)) (nothing more) ∙ xor_zero_r (combination row xs)
  where
    nothing : (cs : List ℕ) → combination cs [] ≡ 0
    nothing [] = refl
    nothing (c ∷ cs) = refl

-- the row of a parity begins with its coefficients
row_of_parity : (code : CodeName) (j : ℕ) → j < 4
    → (more : List ℕ) × (get_or (encoding_rows code) (data_count code + j) [] ≡ row_at (parity_rows code) j ++ more)
unfolding narrow_equations wide_equations
row_of_parity Narrow zero lt = (0 ∷ 0 ∷ 0 ∷ 0 ∷ 0 ∷ 0 ∷ 0 ∷ 0 ∷ 0 ∷ 0 ∷ [], refl)
row_of_parity Narrow (suc zero) lt = (0 ∷ 0 ∷ 0 ∷ 0 ∷ 0 ∷ 0 ∷ 0 ∷ 0 ∷ 0 ∷ 0 ∷ [], refl)
row_of_parity Narrow (suc (suc zero)) lt = (0 ∷ 0 ∷ 0 ∷ 0 ∷ 0 ∷ 0 ∷ 0 ∷ 0 ∷ 0 ∷ 0 ∷ [], refl)
row_of_parity Narrow (suc (suc (suc zero))) lt = (0 ∷ 0 ∷ 0 ∷ 0 ∷ 0 ∷ 0 ∷ 0 ∷ 0 ∷ 0 ∷ 0 ∷ [], refl)
row_of_parity Narrow (suc (suc (suc (suc j)))) lt = absurd (omega (arith, lt))
row_of_parity Wide zero lt = (0 ∷ 0 ∷ 0 ∷ 0 ∷ [], refl)
row_of_parity Wide (suc zero) lt = (0 ∷ 0 ∷ 0 ∷ 0 ∷ [], refl)
row_of_parity Wide (suc (suc zero)) lt = (0 ∷ 0 ∷ 0 ∷ 0 ∷ [], refl)
row_of_parity Wide (suc (suc (suc zero))) lt = (0 ∷ 0 ∷ 0 ∷ 0 ∷ [], refl)
row_of_parity Wide (suc (suc (suc (suc j)))) lt = absurd (omega (arith, lt))

parity_length : (code : CodeName) (j : ℕ) → j < 4 → length (row_at (parity_rows code) j) ≡ data_count code
parity_length Narrow zero lt = refl
parity_length Narrow (suc zero) lt = refl
parity_length Narrow (suc (suc zero)) lt = refl
parity_length Narrow (suc (suc (suc zero))) lt = refl
parity_length Narrow (suc (suc (suc (suc j)))) lt = absurd (omega (arith, lt))
parity_length Wide zero lt = refl
parity_length Wide (suc zero) lt = refl
parity_length Wide (suc (suc zero)) lt = refl
parity_length Wide (suc (suc (suc zero))) lt = refl
parity_length Wide (suc (suc (suc (suc j)))) lt = absurd (omega (arith, lt))

data_many : (code : CodeName) → data_count code ≡ length (data_of code)
data_many Narrow = refl
data_many Wide = refl

places_many : (code : CodeName) → length (tables_of code).places ≡ data_count code + 4
places_many Narrow = refl
places_many Wide = refl

-- a data fragment's row is its own
row_of_data : (code : CodeName) (k : ℕ) (d : List ℕ) → k < data_count code → get_or (encoding_rows code) k d ≡ unit_row k
row_of_data code k d lt =
    let many = length-map-range_with_len unit_row 0 (data_count code) in
    get_or_append_left (map unit_row (range_with_len 0 (data_count code))) _ d k (omega (arith, lt, many))
    ∙ get_or-map-range_with_len unit_row 0 (data_count code) k k d lt (omega arith)

four_at : (f : ℕ → List ℕ) (j : ℕ) → j < 4 → get_or (f 0 ∷ f 1 ∷ f 2 ∷ f 3 ∷ []) j [] ≡ f j
four_at f zero lt = refl
four_at f (suc zero) lt = refl
four_at f (suc (suc zero)) lt = refl
four_at f (suc (suc (suc zero))) lt = refl
four_at f (suc (suc (suc (suc j)))) lt = absurd (omega (arith, lt))

data_below : (code : CodeName) (k : ℕ) → k < data_count code → k < 16
data_below Narrow k lt = omega (arith, lt)
data_below Wide k lt = omega (arith, lt)

rows_inside : (code : CodeName) (k : ℕ) → k < data_count code + 4 → k < length (encoding_rows code)
rows_inside code k lt = subst (λ n. k < n) (sym (rows_many code ∙ places_many code)) lt

module _ (code : CodeName) (file : List ℕ) (small : AreBytes file) where
  abbrev len : ℕ
  len = fragment_length code (length file)

  abbrev sources : List (List ℕ)
  sources = parts code len file

  many : length sources ≡ data_count code
  many = length-map-range_with_len (λ i. part file (i * len) len) 0 (data_count code)

  -- the bytes that a row makes
  abbrev made : List ℕ → List ℕ
  made row = map (λ k. combination row (column sources k)) (range_with_len 0 len)

  made_is : (row : List ℕ) → IsParity row sources len (made row)
  made_is row = record {
    long = length-map-range_with_len (λ k. combination row (column sources k)) 0 len;
    each = λ k lt. get_or-map-range_with_len (λ j. combination row (column sources j)) 0 len k k 0 lt (omega arith);
  }

  only_one : (row xs ys : List ℕ) → IsParity row sources len xs → IsParity row sources len ys → xs ≡ ys
  only_one row xs ys a b = ext_get_or 0 xs ys (a.long ∙ sym b.long)
      (λ k lt. let less : k < len = subst (λ n. k < n) a.long lt in a.each k less ∙ sym (b.each k less))

  source_at : (k : ℕ) (d : List ℕ) → k < data_count code → get_or sources k d ≡ part file (k * len) len
  source_at k d lt = get_or-map-range_with_len (λ i. part file (i * len) len) 0 (data_count code) k k d lt (omega arith)

  byte_lt : (j : ℕ) → get_or file j 0 < 2 ^ 8
  byte_lt j = elim (cases_lt j (length file)) as (λ _. get_or file j 0 < 2 ^ 8) [
    | inl lt ↦ small j 0 lt
    | inr past ↦ subst (λ x. x < 2 ^ 8) (sym (get_or_past file j 0 past)) (lit< tt)
  ]

  lengths : HaveLength len sources
  lengths k d lt = ap length (source_at k d (subst (λ n. k < n) many lt)) ∙ length-part file (k * len) len

  pub bytes : All AreBytes sources
  bytes k d lt = λ i e less.
      let at = source_at k d (subst (λ n. k < n) many lt) in
      let below : i < len = subst (λ n. i < n) (ap length at ∙ length-part file (k * len) len) less in
      subst (λ x. x < 2 ^ 8) (sym (get_or_default (get_or sources k d) i e 0 less ∙ ap (λ xs. get_or xs i 0) at
      ∙ part_at file (k * len) len i below)) (byte_lt (k * len + i))

  abbrev parity : ℕ → List ℕ
  parity j = made (row_at (parity_rows code) j)

  its : IsEncoding (tables_of code) len sources (sources ++ (parity 0 ∷ parity 1 ∷ parity 2 ∷ parity 3 ∷ []))
  its = encoding code len sources (parity 0) (parity 1) (parity 2) (parity 3) (many ∙ data_many code) lengths bytes
      (record { ix = made_is _; iy = made_is _; i0 = made_is _; i1 = made_is _ })

  -- what the row at an index makes is the encoding's fragment there
  fragment_at : (k : ℕ) (d out : List ℕ) → k < data_count code + 4 → IsParity (get_or (encoding_rows code) k d) sources len out
      → get_or (sources ++ (parity 0 ∷ parity 1 ∷ parity 2 ∷ parity 3 ∷ [])) k [] ≡ out
  fragment_at k d out lt made_so = elim (cases_lt k (data_count code)) as (λ _.
      get_or (sources ++ (parity 0 ∷ parity 1 ∷ parity 2 ∷ parity 3 ∷ [])) k [] ≡ out) [
        | inl less ↦ get_or_append_left sources _ [] k (subst (λ n. k < n) (sym many) less)
            ∙ only_one (unit_row k) (get_or sources k []) out (own less)
            (subst (λ row. IsParity row sources len out) (row_of_data code k d less) made_so)
        | inr le ↦ get_or-append_right sources _ (data_count code) k [] many le
            ∙ four_at parity (k - data_count code) (omega (arith, le, lt))
            ∙ only_one (row_at (parity_rows code) (k - data_count code)) (parity (k - data_count code)) out (made_is _)
            (narrowed (k - data_count code) (omega (arith, le, lt)) (omega (arith, le)))
      ]
    where
      own : k < data_count code → IsParity (unit_row k) sources len (get_or sources k [])
      own less = record {
        long = lengths k [] (subst (λ n. k < n) (sym many) less);
        each = λ i below.
            let inside : k < length sources = subst (λ n. k < n) (sym many) less in
            let at = get_or-map (λ s. get_or s i 0) sources k [] 0 inside in
            let small_at = subst (λ x. x < 2 ^ 8) (sym at) (bytes k [] inside i 0
            (subst (λ n. i < n) (sym (lengths k [] inside)) below)) in
            sym (combination_unit 16 k (map (λ s. get_or s i 0) sources) (data_below code k less) small_at ∙ at);
      }

      narrowed : (j : ℕ) → j < 4 → k ≡ data_count code + j → IsParity (row_at (parity_rows code) j) sources len out
      narrowed j less is = record {
        long = made_so.long;
        each = λ i below.
            let row = row_of_parity code j less in
            made_so.each i below
            ∙ ap (λ r. combination r (map (λ s. get_or s i 0) sources))
            (get_or_default (encoding_rows code) k d [] (rows_inside code k lt)
            ∙ ap (λ n. get_or (encoding_rows code) n []) is ∙ row.1)
            ∙ wide_row (row_at (parity_rows code) j) row.0 (map (λ s. get_or s i 0) sources)
            (parity_length code j less ∙ sym many ∙ sym (length-map sources (λ s. get_or s i 0)));
      }

  pub fragment_made : (k : ℕ) (d : Place) (e out : List ℕ) → k < length (tables_of code).places
      → IsParity (get_or (encoding_rows code) k e) sources len out → IsFragmentOf code file (get_or (tables_of code).places k d) out
  fragment_made k d e out lt made_so =
      let same = fragment_at k e out (subst (λ n. k < n) (places_many code) lt) made_so in
      let places = (tables_of code).places in
      record {
        stripe = its.stripe;
        of_file = its.of_sources;
        is = sym (get_or-map its.stripe places k d [] lt) ∙ ap (λ xs. get_or xs k []) its.is ∙ same;
        only = λ s o. sym (get_or-map s places k d [] lt) ∙ ap (λ xs. get_or xs k []) (its.only s o) ∙ same;
      }

  -- what is shown of a file that was empty
  pub fragment_shown : (k : ℕ) (d : Place) (e : List ℕ) (old new : Option (List ℕ)) → k < length (tables_of code).places → IsEmpty old
      → IsAppended sources len (get_or (encoding_rows code) k e) old new
      → IsFragmentShown code file (get_or (tables_of code).places k d) new
  fragment_shown k d e None new lt empty h = subst (IsFragmentShown code file (get_or (tables_of code).places k d)) (sym h.2) tt
  fragment_shown k d e (Some old) new lt empty h = subst (IsFragmentShown code file (get_or (tables_of code).places k d))
      (sym (h.2 ∙ ap (λ xs. Some (xs ++ h.0)) empty)) (fragment_made k d e h.0 lt h.1)

-- each fragment of a file is that of its one stripe
pub fragments_of_file : FragmentsAreOfFile
fragments_of_file code survives at file small each =
    let whole = its code file small in (whole.stripe, whole.of_sources, λ p there. (each p there).only whole.stripe whole.of_sources)
