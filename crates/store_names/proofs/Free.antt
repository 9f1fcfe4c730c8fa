-- The parts of a path of a name in a folder.
use Rattle.std.proofs.Common.{◌≡◌, ◌∙◌, inl, inr, sym, ap, refl, ℕ, Bool, true, not, ◌&&◌, ◌==◌, List, [], ◌∷◌, ◌++◌}
use Rattle.std.proofs.lemmas.List.Folds.{list_all-append}
use Rattle.std.specs.List.{list_all, slice_split, onto_first}
use Rattle.std.proofs.lemmas.Bool.{cases_Bool}
use Rattle.std.proofs.lemmas.List.Splits.{slice_split-cons_yes, slice_split-cons_no}
use Rattle.store_names.specs.Temporary.{is_free, is_unfinished, parts}

module _ (p : ℕ → Bool) where
  first_of : (x : ℕ) (more : List (List ℕ)) (part : List ℕ) (ys : List (List ℕ))
      → onto_first x ((part ∷ more) ++ ys) ≡ onto_first x (part ∷ more) ++ ys
  first_of x more part ys = refl

  onto_append : (x : ℕ) (xs ys : List (List ℕ)) (part : List ℕ) (more : List (List ℕ)) → xs ≡ part ∷ more
      → onto_first x (xs ++ ys) ≡ onto_first x xs ++ ys
  onto_append x xs ys part more is = rw is (first_of x more part ys)

  -- there is a first part
  pub some_part : (xs : List ℕ) → (part : List ℕ) × (more : List (List ℕ)) × (slice_split p xs ≡ part ∷ more)
  some_part [] = ([], [], refl)
  some_part (x ∷ xs) = elim (cases_Bool (p x)) [
    | inl ends ↦ ([], slice_split p xs, slice_split-cons_yes p x xs ends)
    | inr goes ↦ let rest = some_part xs in
        (x ∷ rest.0, rest.1, slice_split-cons_no p x xs goes ∙ ap (onto_first x) rest.2)
  ]

  pub split_append : (xs : List ℕ) (y : ℕ) (ys : List ℕ) → p y ≡ true → slice_split p (xs ++ y ∷ ys) ≡ slice_split p xs ++ slice_split p ys
  split_append [] y ys is = slice_split-cons_yes p y ys is
  split_append (x ∷ xs) y ys is = elim (cases_Bool (p x)) [
    | inl ends ↦ slice_split-cons_yes p x (xs ++ y ∷ ys) ends ∙ ap (λ (rest : List (List ℕ)). [] ∷ rest) (split_append xs y ys is)
        ∙ sym (ap (λ (rest : List (List ℕ)). rest ++ slice_split p ys) (slice_split-cons_yes p x xs ends))
    | inr goes ↦ let some = some_part xs in slice_split-cons_no p x (xs ++ y ∷ ys) goes ∙ ap (onto_first x) (split_append xs y ys is)
        ∙ onto_append x (slice_split p xs) (slice_split p ys) some.0 some.1 some.2
        ∙ sym (ap (λ (rest : List (List ℕ)). rest ++ slice_split p ys) (slice_split-cons_no p x xs goes))
  ]

-- the parts of a name in a folder are those of the folder and those of the name
pub free_in : (folder name : List ℕ) → is_free (folder ++ 47 ∷ name) ≡ (is_free folder && is_free name)
free_in folder name = ap (list_all (λ part. not (is_unfinished part))) (split_append (λ byte. byte == 47) folder 47 name refl)
    ∙ list_all-append (λ part. not (is_unfinished part)) (parts folder) (parts name)
