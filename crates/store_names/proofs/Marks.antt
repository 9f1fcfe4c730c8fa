-- Texts that are cut at a byte: where they can be cut, and that there is one way to cut them.
use Rattle.std.proofs.Common.{◌≡◌, ◌≢◌, ◌∙◌, sym, ap, refl, ℕ, suc, ◌<◌, ◌+◌, arith, Bool, true, false, not, List, [], ◌∷◌, ◌++◌}
use Rattle.std.proofs.Common.{take, drop, get_or, length, ◌≤◌, Option, Some, None, MatchOption, Bor, ◌==◌}
use Rattle.std.specs.List.{list_all}
use Rattle.std.proofs.lemmas.Bool.{and_parts, and_from, eq-eqb, ne_eqb, not_from_false, not_from_true, both_ways}
use Rattle.std.proofs.lemmas.List.{take-append-drop}
use Rattle.std.proofs.lemmas.List.Folds.{list_all-append}
use Rattle.std.proofs.lemmas.Str.Pattern.{drop_at_char, NoCharPasses-char}
use Rattle.std.specs.Str.Pattern.{RFindsChar}
use Rattle.store_names.specs.Texts.{IsAroundFirst, IsAroundLast, lacks}

-- what each byte of a text is, if no byte of it is another
pub lacks_read : (mark : ℕ) (text : List ℕ) → ((i : ℕ) → i < length text → get_or text i 0 ≢ mark) → lacks mark text ≡ true
lacks_read mark [] free = refl
lacks_read mark (x ∷ xs) free = and_from _ _ (not_from_false _ (ne_eqb x mark (free 0 (omega arith))))
    (lacks_read mark xs (λ i lt. free (suc i) (omega arith)))

pub split_first : (mark : ℕ) (text : List ℕ) (r : Option (Bor (List ℕ) × Bor (List ℕ)))
    → MatchOption r ((i : ℕ) → i < length text → get_or text i 0 ≢ mark)
    (λ x. (text ≡ x.0.now ++ (mark ∷ x.1.now)) × ((i : ℕ) → i < length x.0.now → get_or x.0.now i 0 ≢ mark))
    → MatchOption r (lacks mark text ≡ true) (λ x. IsAroundFirst mark text x.0.now x.1.now)
split_first mark text None free = lacks_read mark text free
split_first mark text (Some x) is = record { is = is.0; first = lacks_read mark x.0.now is.1 }

pub split_last : (mark : ℕ) (text : List ℕ) (r : Option (Bor (List ℕ) × Bor (List ℕ))) → mark < 128
    → MatchOption r (RFindsChar mark text None)
    (λ x. (i : ℕ) × (j : ℕ) × RFindsChar mark text (Some (i, j)) × (x.0.now ≡ take i text) × (x.1.now ≡ drop j text) × (i ≤ j)
    × (length x.0.now ≡ i) × (length x.1.now + j ≡ length text))
    → MatchOption r (lacks mark text ≡ true) (λ x. IsAroundLast mark text x.0.now x.1.now)
split_last mark text None ascii free = lacks_read mark text (λ i lt. NoCharPasses-char mark text i free ascii lt)
split_last mark text (Some x) ascii is =
    let i = is.0 in
    let j = is.1 in
    let found = is.2 in
    let before : x.0.now ≡ take i text = is.3 in
    let after : x.1.now ≡ drop j text = is.4 in
    record {
      is = sym (take-append-drop i text) ∙ ap (λ t. t ++ drop i text) (sym before)
          ∙ ap (λ t. x.0.now ++ t) (drop_at_char mark text i j found.1 ascii ∙ ap (λ t. mark ∷ t) (sym after));
      last = ap (lacks mark) after ∙ lacks_read mark (drop j text) (λ k lt. NoCharPasses-char mark (drop j text) k found.0 ascii lt);
    }

-- ---- bytes of a kind

-- no byte of a kind is one that isn't of the kind
pub lacks_kind : (kind : ℕ → Bool) (mark : ℕ) (text : List ℕ) → kind mark ≡ false → list_all kind text ≡ true → lacks mark text ≡ true
lacks_kind kind mark [] free all = refl
lacks_kind kind mark (x ∷ xs) free all =
    let other : x ≢ mark = λ same. both_ways (kind mark) free (ap kind (sym same) ∙ (and_parts _ _ all).0) in
    and_from _ _ (not_from_false _ (ne_eqb x mark other)) (lacks_kind kind mark xs free (and_parts _ _ all).1)

pub lacks_append : (mark : ℕ) (xs ys : List ℕ) → lacks mark xs ≡ true → lacks mark ys ≡ true → lacks mark (xs ++ ys) ≡ true
lacks_append mark xs ys one two = list_all-append (λ byte. not (byte == mark)) xs ys ∙ and_from _ _ one two

-- a text that has a byte doesn't lack it
pub has_it : (mark : ℕ) (xs ys : List ℕ) → lacks mark (xs ++ (mark ∷ ys)) ≡ true → ⊥
has_it mark xs ys is =
    let parts = and_parts (lacks mark xs) (lacks mark (mark ∷ ys)) (sym (list_all-append (λ byte. not (byte == mark)) xs
    (mark ∷ ys)) ∙ is) in
    both_ways _ (not_from_true _ (eq-eqb mark mark refl)) (and_parts _ _ parts.1).0

pub not_both : (mark : ℕ) (text xs ys : List ℕ) → text ≡ xs ++ (mark ∷ ys) → lacks mark text ≡ true → ⊥
not_both mark text xs ys is free = has_it mark xs ys (ap (lacks mark) (sym is) ∙ free)

-- ---- there is one way to cut a text at the first of a byte, and at the last

pub first_same : (mark : ℕ) (a b xs ys : List ℕ) → lacks mark a ≡ true → lacks mark b ≡ true → a ++ (mark ∷ xs) ≡ b ++ (mark ∷ ys)
    → (a ≡ b) × (xs ≡ ys)
first_same mark [] [] xs ys la lb is = (refl, cc)
first_same mark [] (y ∷ b) xs ys la lb is =
    let same : y ≡ mark = cc in absurd (both_ways _ (not_from_true _ (eq-eqb y mark same)) (and_parts _ _ lb).0)
first_same mark (x ∷ a) [] xs ys la lb is =
    let same : x ≡ mark = cc in absurd (both_ways _ (not_from_true _ (eq-eqb x mark same)) (and_parts _ _ la).0)
first_same mark (x ∷ a) (y ∷ b) xs ys la lb is =
    let same : x ≡ y = cc in
    let rest : a ++ (mark ∷ xs) ≡ b ++ (mark ∷ ys) = cc in
    let more = first_same mark a b xs ys (and_parts _ _ la).1 (and_parts _ _ lb).1 rest in
    (ap (λ t. x ∷ t) more.0 ∙ ap (λ h. h ∷ b) same, more.1)

pub last_same : (mark : ℕ) (a b xs ys : List ℕ) → lacks mark xs ≡ true → lacks mark ys ≡ true → a ++ (mark ∷ xs) ≡ b ++ (mark ∷ ys)
    → (a ≡ b) × (xs ≡ ys)
last_same mark [] [] xs ys lx ly is = (refl, cc)
last_same mark [] (y ∷ b) xs ys lx ly is = let rest : xs ≡ b ++ (mark ∷ ys) = cc in absurd (not_both mark xs b ys rest lx)
last_same mark (x ∷ a) [] xs ys lx ly is = let rest : ys ≡ a ++ (mark ∷ xs) = cc in absurd (not_both mark ys a xs rest ly)
last_same mark (x ∷ a) (y ∷ b) xs ys lx ly is =
    let same : x ≡ y = cc in
    let rest : a ++ (mark ∷ xs) ≡ b ++ (mark ∷ ys) = cc in
    let more = last_same mark a b xs ys lx ly rest in
    (ap (λ t. x ∷ t) more.0 ∙ ap (λ h. h ∷ b) same, more.1)
