-- Lists with one member more.
use Rattle.std.proofs.Common.{◌≡◌, ◌<◌, ◌+◌, ◌++◌, ◌∙◌, ℕ, List, [], ◌∷◌, length, map, take, get_or, refl, sym, ap, arith}
use Rattle.std.specs.List.{AllZip}
use Rattle.std.specs.Prelude.{sum_by}
use Rattle.std.proofs.lemmas.List.{map-append, map_more}
use Rattle.std.proofs.lemmas.List.Sums.{sum_by-append}
use Rattle.farm_reading.specs.Pairs.{zip_with}

pub zip_with_push : {A B C : Type 0} (f : A → B → C) (R : A → B → Type 0) (xs : List A) (ys : List B) (x : A) (y : B) → AllZip R xs ys
    → zip_with f (xs ++ x ∷ []) (ys ++ y ∷ []) ≡ zip_with f xs ys ++ f x y ∷ []
zip_with_push f R [] [] x y all = refl
zip_with_push f R [] (b ∷ ys) x y all = absurd all
zip_with_push f R (a ∷ xs) [] x y all = absurd all
zip_with_push f R (a ∷ xs) (b ∷ ys) x y all = ap (λ t. f a b ∷ t) (zip_with_push f R xs ys x y all.1)

-- a list of values has grown by that of one pair more
pub values_more : {A B C : Type 0} (f : A → B → C) (R : A → B → Type 0) (xs : List A) (ys : List B) (x : A) (y : B) (before after : List C)
    (z : C) → AllZip R xs ys
    → after ≡ before ++ z ∷ [] → before ≡ zip_with f xs ys → z ≡ f x y → after ≡ zip_with f (xs ++ x ∷ []) (ys ++ y ∷ [])
values_more {C} f R xs ys x y before after z all grew so is =
    grew ∙ ap (λ (t : List C). t ++ z ∷ []) so ∙ ap (λ (w : C). zip_with f xs ys ++ w ∷ []) is ∙ sym (zip_with_push f R xs ys x y all)

-- the same of a list whose images are the values
pub images_more : {A B C D : Type 0} (f : A → B → C) (g : D → C) (R : A → B → Type 0) (xs : List A) (ys : List B) (x : A) (y : B)
    (before after : List D) (z : D) → AllZip R xs ys
    → after ≡ before ++ z ∷ [] → map g before ≡ zip_with f xs ys → g z ≡ f x y → map g after ≡ zip_with f (xs ++ x ∷ []) (ys ++ y ∷ [])
images_more f g R xs ys x y before after z all grew so is =
    values_more f R xs ys x y (map g before) (map g after) (g z) all (ap (map g) grew ∙ map-append g before (z ∷ [])) so is

-- the front of a list with its next member
pub front_more : {A B : Type 0} (f : A → B) (xs : List A) (i : ℕ) (d : A) (y : B) → i < length xs → y ≡ f (get_or xs i d)
    → map f (take (i + 1) xs) ≡ map f (take i xs) ++ y ∷ []
front_more {B} f xs i d y within is = map_more f xs i d within ∙ ap (λ (z : B). map f (take i xs) ++ z ∷ []) (sym is)

-- images that are those of a list's front, with one more
pub front_images : {A B C : Type 0} (f : A → C) (g : B → C) (before after : List A) (x : A) (ys : List B) (i : ℕ) (d : B) → i < length ys
    → after ≡ before ++ x ∷ [] → map f before ≡ map g (take i ys) → f x ≡ g (get_or ys i d) → map f after ≡ map g (take (i + 1) ys)
front_images {C} f g before after x ys i d within grew so is =
    ap (map f) grew ∙ map-append f before (x ∷ []) ∙ ap (λ (t : List C). t ++ f x ∷ []) so ∙ sym (front_more g ys i d (f x) within is)

pub sum_push : {A : Type 0} (f : A → ℕ) (xs : List A) (x : A) → sum_by f (xs ++ x ∷ []) ≡ sum_by f xs + f x
sum_push f xs x = sum_by-append f xs (x ∷ []) ∙ (let e : sum_by f (x ∷ []) ≡ f x = omega arith in ap (λ n. sum_by f xs + n) e)
