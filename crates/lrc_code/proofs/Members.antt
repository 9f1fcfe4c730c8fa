-- Lists of as many members as the codes have data.
use Rattle.std.proofs.Common.{◌≡◌, ◌∙◌, ℕ, suc, zero, ◌+◌, ◌<◌, ◌≤◌, List, [], ◌∷◌, ◌++◌, length, take, drop}
use Rattle.std.proofs.Common.{get_or, sym, ap, subst, arith, lit<, add-zero, length-drop}
use Rattle.std.proofs.lemmas.List.{ext_get_or, get_or-take, get_or-drop, length-take-le, take-append-drop, take_all}

-- a list of six, by its members
pub six_members : (xs : List (List ℕ)) (x0 x1 x2 y0 y1 y2 : List ℕ) → length xs ≡ 6
    → x0 ≡ get_or xs 0 [] → x1 ≡ get_or xs 1 [] → x2 ≡ get_or xs 2 [] → y0 ≡ get_or xs 3 [] → y1 ≡ get_or xs 4 [] → y2 ≡ get_or xs 5 []
    → xs ≡ x0 ∷ x1 ∷ x2 ∷ y0 ∷ y1 ∷ y2 ∷ []
six_members xs x0 x1 x2 y0 y1 y2 l ex0 ex1 ex2 ey0 ey1 ey2 =
    ext_get_or [] xs (x0 ∷ x1 ∷ x2 ∷ y0 ∷ y1 ∷ y2 ∷ []) l (λ i lt. at i (subst (λ n. i < n) l lt))
  where
    at : (i : ℕ) → i < 6 → get_or xs i [] ≡ get_or (x0 ∷ x1 ∷ x2 ∷ y0 ∷ y1 ∷ y2 ∷ []) i []
    at zero h = sym ex0
    at (suc zero) h = sym ex1
    at (suc (suc zero)) h = sym ex2
    at (suc (suc (suc zero))) h = sym ey0
    at (suc (suc (suc (suc zero)))) h = sym ey1
    at (suc (suc (suc (suc (suc zero))))) h = sym ey2
    at (suc (suc (suc (suc (suc (suc i)))))) h = absurd (omega arith)

-- the six members of a list from one on
pub six_from : (xs : List (List ℕ)) (k : ℕ) (a b c d e f : List ℕ) → k + 6 ≤ length xs
    → a ≡ get_or xs k [] → b ≡ get_or xs (k + 1) [] → c ≡ get_or xs (k + 2) [] → d ≡ get_or xs (k + 3) [] → e ≡ get_or xs (k + 4) []
    → f ≡ get_or xs (k + 5) [] → take 6 (drop k xs) ≡ a ∷ b ∷ c ∷ d ∷ e ∷ f ∷ []
six_from xs k a b c d e f long ea eb ec ed ee ef = six_members (take 6 (drop k xs)) a b c d e f
    (length-take-le 6 (drop k xs) (omega (arith, length-drop k xs)))
    (subst (λ n. a ≡ get_or xs n []) (sym (add-zero k)) ea ∙ at 0 (lit< tt)) (eb ∙ at 1 (lit< tt)) (ec ∙ at 2 (lit< tt))
    (ed ∙ at 3 (lit< tt)) (ee ∙ at 4 (lit< tt)) (ef ∙ at 5 (lit< tt))
  where
    at : (i : ℕ) → i < 6 → get_or xs (k + i) [] ≡ get_or (take 6 (drop k xs)) i []
    at i lt = sym (get_or-take 6 (drop k xs) i [] lt ∙ get_or-drop k xs i [])

-- a list of twelve: its first six members, and six more
pub two_sixes : (xs : List (List ℕ)) → length xs ≡ 12 → xs ≡ take 6 xs ++ take 6 (drop 6 xs)
two_sixes xs long = sym (take-append-drop 6 xs) ∙ ap (λ t. take 6 xs ++ t) (sym (take_all 6 (drop 6 xs) (omega (arith, length-drop 6 xs))))
