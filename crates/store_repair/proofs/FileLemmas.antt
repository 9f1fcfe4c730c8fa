-- Parts of a file.
use Rattle.std.proofs.Common.{◌≡◌, ℕ, ◌<◌, ◌≤◌, ◌+◌, ◌-◌, ◌^◌, List, ◌++◌, length, get_or, take, drop, replicate, Option}
use Rattle.std.proofs.Common.{Some, None, refl, ap, sym, ◌∙◌, subst, arith, inl, inr, min, Ok, Err, Result}
use Rattle.std.specs.Prelude.{OnOk, option_map}
use Rattle.std.proofs.lemmas.Bool.{cases_lt}
use Rattle.std.proofs.lemmas.List.{ext_get_or, get_or-append_right, get_or-drop, get_or-replicate, get_or-take, get_or_append_left}
use Rattle.std.proofs.lemmas.List.{get_or_past}
use Rattle.std.proofs.lemmas.List.{length-append, length-drop, length-replicate, length-take}
use Rattle.std.proofs.lemmas.List.FromFn.{get_or-map-range_with_len, length-map-range_with_len}
use Rattle.store_repair.specs.Files.{part}
use Rattle.stores.specs.Shown.{IsReadAt}

pub length-part : (file : List ℕ) (from many : ℕ) → length (part file from many) ≡ many
length-part file from many = length-map-range_with_len (λ k. get_or file (from + k) 0) 0 many

pub part_at : (file : List ℕ) (from many k : ℕ) → k < many → get_or (part file from many) k 0 ≡ get_or file (from + k) 0
part_at file from many k lt = get_or-map-range_with_len (λ j. get_or file (from + j) 0) 0 many k k 0 lt (omega arith)

-- parts whose bytes agree
pub same_part : (a b : List ℕ) (i j many : ℕ) → ((k : ℕ) → k < many → get_or a (i + k) 0 ≡ get_or b (j + k) 0)
    → part a i many ≡ part b j many
same_part a b i j many h = ext_get_or 0 (part a i many) (part b j many) (length-part a i many ∙ sym (length-part b j many))
    (λ k lt. let less : k < many = subst (λ n. k < n) (length-part a i many) lt in
    part_at a i many k less ∙ h k less ∙ sym (part_at b j many k less))

-- a part from a position that is written as a number of 64 bits, which is after the end of each file
pub part_capped : (file : List ℕ) (from many : ℕ) → length file < 2 ^ 64 → part file (min from (2 ^ 64 - 1)) many ≡ part file from many
part_capped file from many small = same_part file file (min from (2 ^ 64 - 1)) from many (λ k lt. elim (cases_lt from (2 ^ 64)) as (λ _.
    get_or file (min from (2 ^ 64 - 1) + k) 0 ≡ get_or file (from + k) 0) [
      | inl less ↦ ap (λ n. get_or file (n + k) 0) (let e : min from (2 ^ 64 - 1) ≡ from = omega (arith, less) in e)
      | inr le ↦ get_or_past file _ 0 (omega (arith, small, le)) ∙ sym (get_or_past file _ 0 (omega (arith, small, le)))
    ])

-- where reading begins, and how many bytes are there
abbrev pub begin_at : ℕ → ℕ → ℕ
begin_at start from = min (start + from) (2 ^ 64 - 1)

abbrev pub there_at : ℕ → ℕ → ℕ → ℕ → ℕ
there_at n start from size = min (n - begin_at start from) size

-- what a file of n bytes has from a position on, and 00 after its end, is what its part has
module _ (file : List ℕ) (n start many from size : ℕ) (small : n < 2 ^ 64) (within : from + size ≤ many) where
  abbrev begin : ℕ
  begin = begin_at start from

  abbrev there : ℕ
  there = there_at n start from size

  at_end : (bytes : List ℕ) → length bytes ≡ size → bytes ≡ take there (drop begin file) ++ replicate (size - there) 0 → (k : ℕ) → k < size
      → get_or bytes k 0 ≡ get_or (take n file) (start + (from + k)) 0
  at_end bytes long is k lt =
      let own = take there (drop begin file) in
      let whole : length own ≡ there = omega (
        arith,
        long,
        ap length is,
        length-append own (replicate (size - there) 0),
        length-take there (drop begin file),
        length-replicate {A = ℕ} (size - there) 0,
      ) in
      ap (λ xs. get_or xs k 0) is ∙ (elim (cases_lt k there) as (λ _.
      get_or (own ++ replicate (size - there) 0) k 0 ≡ get_or (take n file) (start + (from + k)) 0) [
        | inl less ↦ get_or_append_left own _ 0 k (omega (arith, less, whole)) ∙ get_or-take there (drop begin file) k 0 less
            ∙ get_or-drop begin file k 0
            ∙ ap (λ j. get_or file j 0) (let e : begin + k ≡ start + (from + k) = omega (arith, less, small) in e)
            ∙ sym (get_or-take n file (start + (from + k)) 0 (omega (arith, less, small)))
        | inr le ↦ get_or-append_right own _ there k 0 whole le ∙ get_or-replicate (size - there) (k - there) 0 0 (omega (arith, le, lt))
            ∙ sym (get_or_past (take n file) (start + (from + k)) 0 (let l = length-take n file in omega (arith, le, lt, small, l)))
      ])

  pub padded_part : (bytes : List ℕ) → length bytes ≡ size → bytes ≡ take there (drop begin file) ++ replicate (size - there) 0
      → bytes ≡ take (length bytes) (drop from (part (take n file) start many))
  padded_part bytes long is = ext_get_or 0 bytes (take (length bytes) (drop from (part (take n file) start many)))
      (let l = length-part (take n file) start many in let t = length-take (length bytes) (drop from (part (take n file) start many)) in
      let d = length-drop from (part (take n file) start many) in omega (arith, long, within, l, t, d))
      (λ k lt. let less : k < size = subst (λ m. k < m) long lt in
      at_end bytes long is k less
      ∙ sym (get_or-take (length bytes) (drop from (part (take n file) start many)) k 0 lt
      ∙ get_or-drop from (part (take n file) start many) k 0 ∙ part_at (take n file) start many (from + k) (omega (arith, less, within))))

-- what reading a part gives, where its file is shown or not
pub read_shown : (n start many from size : ℕ) → n < 2 ^ 64 → from + size ≤ many → (bytes : List ℕ) → length bytes ≡ size
    → {E : Type 0} (r : Result Unit E) (o : Option (List ℕ))
    → ((file : List ℕ) → o ≡ Some file → OnOk r (bytes ≡ take (there_at n start from size) (drop (begin_at start from) file)
    ++ replicate (size - there_at n start from size) 0))
    → OnOk r (IsReadAt (option_map (λ file. part (take n file) start many) o) from bytes)
read_shown n start many from size small within bytes long (Ok u) None h = tt
read_shown n start many from size small within bytes long (Ok u) (Some file) h =
    padded_part file n start many from size small within bytes long (h file refl)
read_shown n start many from size small within bytes long (Err e) o h = tt
