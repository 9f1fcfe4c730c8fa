-- Rows that give fragments, and what the survivors of a file's stripe give.
use Rattle.std.proofs.Common.{◌≡◌, ℕ, zero, suc, ◌<◌, ◌≤◌, ◌+◌, ◌-◌, ◌*◌, ◌^◌, List, [], ◌∷◌, ◌++◌, length, get_or, map}
use Rattle.std.proofs.Common.{take, drop, replicate, set}
use Rattle.std.proofs.Common.{refl, ap, ap₂, sym, ◌∙◌, subst, arith, inl, inr, All, true, Bool, Option, Some, None, min}
use Rattle.std.specs.Prelude.{option_map}
use Rattle.std.specs.List.{range_with_len}
use Rattle.std.specs.Int.Bits.{bit_xor, xor_zero_l, xor_zero_r}
use Rattle.std.proofs.lemmas.Bool.{cases_eq, cases_lt}
use Rattle.std.proofs.lemmas.List.{append-nil, append_assoc}
use Rattle.std.proofs.lemmas.List.{ext_get_or, get_or-drop, get_or-map, get_or-replicate, get_or-set_other, get_or-take, length-drop}
use Rattle.std.proofs.lemmas.List.{length-take, take_all}
use Rattle.std.proofs.lemmas.List.FromFn.{get_or-map-range_with_len, length-map-range_with_len}
use Rattle.lrc_field.specs.Sums.{column, combination}
use Rattle.lrc_field.proofs.FieldLaws.{times-one, times-zero}
use Rattle.lrc_code.specs.declared.places.Place.{Place}
use Rattle.lrc_code.specs.declared.places.Place.TheVariants.{X0}
use Rattle.lrc_code.specs.declared.codes.Code.{Code as CodeName}
use Rattle.lrc_code.specs.declared.codes.Code.TheVariants.{Narrow, Wide}
use Rattle.lrc_code.specs.Code.{AreBytes, Code, IsInCode}
use Rattle.lrc_code.specs.Codes.{data_count, tables_of}
use Rattle.lrc_code.specs.Encoding.{IsParity}
use Rattle.lrc_code.specs.Places.{all_places, index_of}
use Rattle.lrc_code.proofs.CodeTables.{own_places}
use Rattle.lrc_code.proofs.Combinations.{combination-none}
use Rattle.lrc_code.proofs.PlaceSums.{index_at, index_of-eq, index_of-lt}
use Rattle.lrc_plan.specs.RowPlans.{IsValueRow}
use Rattle.lrc_plan.specs.Stripes.{at_place, AreWhole, Keeps}
use Rattle.lrc_plan.proofs.Stripes.{applied}
use Rattle.store_repair.specs.Files.{AreOfFile, fragment_length, part, parts, unit_row}
use Rattle.store_repair.proofs.FileLemmas.{part_at}

-- the combination of one byte alone
pub combination_unit : (n k : ℕ) (xs : List ℕ) → k < n → get_or xs k 0 < 2 ^ 8 → combination (set (replicate n 0) k 1) xs ≡ get_or xs k 0
combination_unit zero k xs lt small = absurd (omega (arith, lt))
combination_unit (suc n) zero [] lt small = refl
combination_unit (suc n) (suc k) [] lt small = refl
combination_unit (suc n) zero (x ∷ xs) lt small =
    ap₂ bit_xor (times-one x small) (combination-none (replicate n 0) xs (λ j less. zero_at n j)) ∙ xor_zero_r x
  where
    zero_at : (m j : ℕ) → let zeros : List ℕ = replicate m 0 in get_or zeros j 0 ≡ 0
    zero_at zero j = refl
    zero_at (suc m) zero = refl
    zero_at (suc m) (suc j) = zero_at m j
combination_unit (suc n) (suc k) (x ∷ xs) lt small =
    ap₂ bit_xor (times-zero x) (combination_unit n k xs (omega (arith, lt)) small) ∙ xor_zero_l (get_or xs k 0)

-- a survivor gives its own bytes
pub own_row : (code : Code) (survives : Place → Bool) (p : Place) → survives p ≡ true → IsValueRow code survives p (unit_row (index_of p))
own_row code survives p there = record {
  reads = λ q lost. elim (cases_eq (index_of q) (index_of p)) as (λ _. get_or (unit_row (index_of p)) (index_of q) 0 ≡ 0) [
    | inl same ↦ absurd (let e : q ≡ p = index_of-eq q p same in let f : survives q ≡ true = ap survives e ∙ there in cc)
    | inr other ↦ get_or-set_other (replicate 16 0) (index_of p) (index_of q) 1 0 other
        ∙ get_or-replicate 16 (index_of q) 0 0 (index_of-lt q)
  ];
  right = λ s e small extends.
      let at = get_or-map s all_places (index_of p) X0 0 (index_of-lt p)
      ∙ ap s (index_of-eq (get_or all_places (index_of p) X0) p (index_at (index_of p) (index_of-lt p))) in
      combination_unit 16 (index_of p) (map s all_places) (index_of-lt p) (subst (λ b. b < 2 ^ 8) (sym at) (small p))
      ∙ at ∙ sym (extends.kept p there);
}

-- the data fragments have room for a file
pub covers : (code : CodeName) (n : ℕ) → n ≤ data_count code * fragment_length code n
covers Narrow n = omega arith
covers Wide n = omega arith

pub empty_without_bytes : (code : CodeName) (n : ℕ) → fragment_length code n ≡ 0 → n ≡ 0
empty_without_bytes Narrow n e = omega (arith, e)
empty_without_bytes Wide n e = omega (arith, e)

pub data_within : (code : CodeName) → data_count code ≤ length (tables_of code).places
data_within Narrow = omega arith
data_within Wide = omega arith

-- what is written up to a position, and what comes next
pub take_next : (file : List ℕ) (done many : ℕ) → done + many ≤ length file
    → take done file ++ take many (drop done file) ≡ take (done + many) file
take_next [] zero zero within = refl
take_next [] zero (suc many) within = absurd (omega (arith, within))
take_next [] (suc done) many within = absurd (omega (arith, within))
take_next (x ∷ file) zero many within = ap (λ n. take n (x ∷ file)) (omega arith)
take_next (x ∷ file) (suc done) many within = ap (λ xs. x ∷ xs) (take_next file done many (omega (arith, within)))
    ∙ ap (λ n. take n (x ∷ file)) (let e : suc (done + many) ≡ suc done + many = omega arith in e)

pub read_more : (file : List ℕ) (done many : ℕ) (out : List ℕ) (o m n : Option (List ℕ)) → done + many ≤ length file
    → out ≡ take many (drop done file) → m ≡ option_map (λ written. written ++ take done file) o
    → n ≡ option_map (λ written. written ++ out) m
    → n ≡ option_map (λ written. written ++ take (done + many) file) o
read_more file done many out None m n within is before after = after ∙ ap (option_map (λ written. written ++ out)) before
read_more file done many out (Some old) m n within is before after =
    after ∙ ap (option_map (λ written. written ++ out)) before ∙ ap Some (append_assoc old (take done file) out
    ∙ ap (λ xs. old ++ xs) (ap (λ xs. take done file ++ xs) is ∙ take_next file done many within))

-- what is read before the first part, and at the end
pub read_none : (file : List ℕ) (o : Option (List ℕ)) → o ≡ option_map (λ written. written ++ take 0 file) o
read_none file None = refl
read_none file (Some old) = ap Some (sym (append-nil old))

-- where nothing is left, all is read
pub all_read : (code : CodeName) (n done len many : ℕ) → done ≤ n → len ≡ fragment_length code n → many ≡ min (n - done) len → many ≡ 0
    → done ≡ n
all_read code n done len many within is_len is none = elim (cases_eq len 0) as (λ _. done ≡ n) [
  | inl empty ↦ (let e = empty_without_bytes code n (sym is_len ∙ empty) in omega (arith, e, within))
  | inr some ↦ (let pos : 0 < len = omega (arith, some) in omega (arith, within, is, none, pos))
]

pub all_at_end : (code : CodeName) (n done len k : ℕ) → done ≤ n → len ≡ fragment_length code n → k ≡ data_count code
    → (done < n → done ≡ k * len) → done ≡ n
all_at_end code n done len k within is_len is_end begin = elim (cases_lt done n) as (λ _. done ≡ n) [
  | inl less ↦ (let e : done ≡ data_count code * fragment_length code n = begin less ∙ ap₂ (λ a b. a * b) is_end is_len in
      let w = covers code n in omega (arith, e, w, less))
  | inr le ↦ omega (arith, le, within)
]

pub read_whole : (file : List ℕ) (done : ℕ) → done ≡ length file → take done file ≡ file
read_whole file done e = take_all done file (omega (arith, e))

pub next_begin : (k len : ℕ) → (k + 1) * len ≡ k * len + len
next_begin k len = omega arith

module _ (code : CodeName) (survives : Place → Bool) (at : List (List ℕ)) (len : ℕ) (file : List ℕ) (whole : AreWhole code survives at len)
    (small : All AreBytes at) (sixteen : length at ≡ 16) (is_len : len ≡ fragment_length code (length file))
    (of_file : AreOfFile code survives at file) where
  keeps : Keeps (tables_of code) survives (at_place at) len of_file.0
  keeps = record {
    in_code = subst (λ n. IsInCode (tables_of code) n of_file.0) (sym is_len) of_file.1.in_code;
    kept = of_file.2;
  }

  -- a data fragment is a part of the file
  is_part : (k : ℕ) (d : Place) → k < data_count code → of_file.0 (get_or (tables_of code).places k d) ≡ part file (k * len) len
  is_part k d lt =
      let s = of_file.0 in
      let places = (tables_of code).places in
      let L = fragment_length code (length file) in
      let sources = parts code L file in
      let many : length sources ≡ data_count code = length-map-range_with_len (λ i. part file (i * L) L) 0 (data_count code) in
      let inside : k < length places = (let w = data_within code in omega (arith, lt, w)) in
      let first : k < length (take (length sources) places) =
      (let w = data_within code in let l = length-take (length sources) places in omega (arith, lt, many, l, w)) in
      ap s (sym (get_or-take (length sources) places k d (omega (arith, lt, many))))
      ∙ sym (get_or-map s (take (length sources) places) k d [] first) ∙ ap (λ xss. get_or xss k []) of_file.1.first
      ∙ get_or-map-range_with_len (λ i. part file (i * L) L) 0 (data_count code) k k [] lt (omega arith)
      ∙ ap (λ n. part file (k * n) n) (sym is_len)

  abbrev full : List ℕ → List ℕ
  full row = map (λ i. combination row (column at i)) (range_with_len 0 len)

  -- a row that gives a data fragment gives the file's bytes from where its part begins
  pub part_given : (k : ℕ) (d : Place) → k < data_count code → (row : List ℕ)
      → IsValueRow (tables_of code) survives (get_or (tables_of code).places k d) row → (done many : ℕ) → done ≡ k * len → many ≤ len
      → done + many ≤ length file → (out : List ℕ) → IsParity row at many out → out ≡ take many (drop done file)
  part_given k d lt row value done many begin within inside out parity =
      let places = (tables_of code).places in
      let bytes_of = λ (i : ℕ). combination row (column at i) in
      let is_full : IsParity row at len (full row) = record {
        long = length-map-range_with_len bytes_of 0 len;
        each = λ i less. get_or-map-range_with_len bytes_of 0 len i i 0 less (omega arith);
      } in
      let target = get_or places k d in
      let of_code = own_places code k d (let w = data_within code in omega (arith, lt, w)) in
      let given = sym (applied code survives at len whole small sixteen target of_code row (full row) value is_full of_file.0 keeps)
      ∙ is_part k d lt in
      let size = length-take many (drop done file) in
      let rest = length-drop done file in
      ext_get_or 0 out (take many (drop done file)) (let l = parity.long in omega (arith, l, size, rest, inside))
      (λ i less.
      let below : i < many = subst (λ n. i < n) parity.long less in
      parity.each i below ∙ sym (is_full.each i (omega (arith, below, within))) ∙ ap (λ xs. get_or xs i 0) given
      ∙ part_at file (k * len) len i (omega (arith, below, within)) ∙ ap (λ n. get_or file (n + i) 0) (sym begin)
      ∙ sym (get_or-take many (drop done file) i 0 below ∙ get_or-drop done file i 0))
