-- Windows of lists.
use Rattle.std.proofs.Common.{◌≡◌, ℕ, suc, ◌<◌, ◌≤◌, List, [], ◌∷◌, length, get_or, map, Option, Some, None, refl, ap, ap₂, sym, ◌∙◌}
use Rattle.std.proofs.Common.{subst, arith, inl, inr}
use Rattle.std.proofs.lemmas.Bool.{cases_lt}
use Rattle.std.proofs.lemmas.List.{get_or-map, get_or_past, length-map}
use Rattle.lrc_field.specs.declared.terms.Term.{Term}
use Rattle.lrc_field.specs.Combined.{HaveLength, Reach}
use Rattle.lrc_field.specs.Terms.{HaveLengthWhereUsed}
use Rattle.stores.specs.Shown.{AreShown, shown_of}
use Rattle.store_repair.specs.Windows.{HaveOrNone}

-- lists that have so many bytes or none have so many where they are used
pub used : (row : List ℕ) (xss : List (List ℕ)) (n : ℕ) → HaveOrNone n xss → HaveLengthWhereUsed row xss n
used row xss n h k other some = elim (cases_lt k (length xss)) as (λ _. length (get_or xss k []) ≡ n) [
  | inl lt ↦ h k [] lt some
  | inr past ↦ absurd (some (ap length (get_or_past xss k [] past)))
]

-- terms of a length reach all that is within it
pub reach : (m n : ℕ) (ts : List Term) → m ≤ n → HaveLength n ts → Reach m ts
reach m n ts le h = λ k d lt. let e = h k d lt in omega (arith, e)

-- lists whose members are alike index by index
pub map_alike : {A B C : Type 0} (f : A → C) (g : B → C) (xs : List A) (ys : List B) → length xs ≡ length ys
    → ((k : ℕ) (d : A) (e : B) → k < length xs → f (get_or xs k d) ≡ g (get_or ys k e)) → map f xs ≡ map g ys
map_alike f g [] [] l h = refl
map_alike f g [] (y ∷ ys) l h = absurd (omega (arith, l))
map_alike f g (x ∷ xs) [] l h = absurd (omega (arith, l))
map_alike f g (x ∷ xs) (y ∷ ys) l h = ap₂ (λ z zs. z ∷ zs) (h 0 x y (omega arith))
    (map_alike f g xs ys (omega (arith, l)) (λ k d e lt. h (suc k) d e (omega (arith, lt))))

-- as many lists of bytes as fragments
pub shown_length : {F : Type 0} (shown : F → Option (List ℕ)) (fragments : List (Option F)) (at : List (List ℕ))
    → AreShown shown fragments at → length fragments ≡ length at
shown_length shown fragments at h = sym (length-map fragments (shown_of shown)) ∙ ap length h.are ∙ length-map at Some

-- each fragment is shown with the bytes at its index
pub shown_at : {F : Type 0} (shown : F → Option (List ℕ)) (fragments : List (Option F)) (at : List (List ℕ)) → AreShown shown fragments at
    → (k : ℕ) (d : Option F) (e : List ℕ) → k < length fragments → shown_of shown (get_or fragments k d) ≡ Some (get_or at k e)
shown_at shown fragments at h k d e lt =
    sym (get_or-map (shown_of shown) fragments k d None lt) ∙ ap (λ os. get_or os k None) h.are
    ∙ get_or-map Some at k e None (subst (λ n. k < n) (shown_length shown fragments at h) lt)
