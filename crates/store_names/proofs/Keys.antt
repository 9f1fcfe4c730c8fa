-- The keys of places: each place has its own, and a name that ends with one ends with no other.
use Rattle.std.proofs.Common.{◌≡◌, ◌∙◌, sym, ap, refl, subst, ℕ, ◌-◌, arith, Bool, true, false, not, ◌&&◌, List, [], ◌∷◌, ◌++◌, length}
use Rattle.std.proofs.Common.{take, drop, get_or, Option, Some, None, MatchOption, append_assoc, length-append, ◌==◌}
use Rattle.std.proofs.lemmas.Bool.{and_parts, eqb-true}
use Rattle.std.proofs.lemmas.List.Folds.{list_all-append}
use Rattle.std.specs.Prelude.{find, slice_index, if◌then◌else◌}
use Rattle.std.specs.Char.{is_ascii_digit}
use Rattle.std.specs.List.{list_all}
use Rattle.std.specs.Str.{bytes_eq}
use Rattle.std.proofs.Math.Seq.{drop-append_seam, take-append_seam}
use Rattle.lrc_code.specs.declared.places.Place.{Place}
use Rattle.lrc_code.specs.declared.places.Place.TheVariants.{X0, X3, X4, X5, Y3, Y4, Y5}
use Rattle.lrc_code.specs.declared.codes.Code.{Code as CodeName}
use Rattle.lrc_code.specs.declared.codes.Code.TheVariants.{Narrow, Wide}
use Rattle.lrc_code.specs.Places.{all_places}
use Rattle.store_names.specs.declared.layouts.Layout.{Layout}
use Rattle.store_names.specs.declared.layouts.Layout.TheVariants.{Plain, Groups}
use Rattle.store_names.specs.declared.layouts.Naming.{Naming}
use Rattle.store_names.specs.declared.layouts.Naming.TheVariants.{ByPlace, ByShard}
use Rattle.store_names.specs.Patterns.{keeps_apart}
use Rattle.store_names.specs.Names.{key_of}

-- ---- each place has its own key

is_key : Option (List ℕ) → List ℕ → Bool
is_key None key = false
is_key (Some other) key = bytes_eq other key

-- the place that has a key
keyed : Naming → Layout → CodeName → List ℕ → Option Place
keyed naming layout code key = find (λ place. is_key (key_of naming layout code place) key) all_places

-- how a key looks
abbrev pub looks : Naming → List ℕ → Bool
looks ByPlace key = length key == 2
looks ByShard key = list_all is_ascii_digit key

record IsKeyOf (naming : Naming) (layout : Layout) (code : CodeName) (place : Place) (key : List ℕ) : Type 0 where
  back : keyed naming layout code key ≡ Some place
  look : looks naming key ≡ true

keys : (naming : Naming) (layout : Layout) (code : CodeName) (place : Place) → MatchOption (key_of naming layout code place) (Unit {0})
    (λ key. IsKeyOf naming layout code place key)
unfolding keyed is_key
keys ByPlace layout code X0 = record { back = refl; look = refl }
keys ByPlace layout code _ = record { back = refl; look = refl }
keys ByShard Plain Narrow X3 = tt
keys ByShard Plain Narrow X4 = tt
keys ByShard Plain Narrow X5 = tt
keys ByShard Plain Narrow Y3 = tt
keys ByShard Plain Narrow Y4 = tt
keys ByShard Plain Narrow Y5 = tt
keys ByShard Groups Narrow X3 = tt
keys ByShard Groups Narrow X4 = tt
keys ByShard Groups Narrow X5 = tt
keys ByShard Groups Narrow Y3 = tt
keys ByShard Groups Narrow Y4 = tt
keys ByShard Groups Narrow Y5 = tt
keys ByShard Plain Narrow _ = record { back = refl; look = refl }
keys ByShard Groups Narrow _ = record { back = refl; look = refl }
keys ByShard Plain Wide X0 = record { back = refl; look = refl }
keys ByShard Plain Wide _ = record { back = refl; look = refl }
keys ByShard Groups Wide X0 = record { back = refl; look = refl }
keys ByShard Groups Wide _ = record { back = refl; look = refl }

pub same_place : (naming : Naming) (layout : Layout) (code : CodeName) (p q : Place) (key : List ℕ) → key_of naming layout code p ≡ Some key
    → key_of naming layout code q ≡ Some key → p ≡ q
same_place naming layout code p q key of_p of_q =
    let at = λ (place : Place) (o : Option (List ℕ)). MatchOption o (Unit {0}) (λ key. IsKeyOf naming layout code place key) in
    let first : IsKeyOf naming layout code p key = subst (at p) of_p (keys naming layout code p) in
    let second : IsKeyOf naming layout code q key = subst (at q) of_q (keys naming layout code q) in
    let both : Some p ≡ Some q = sym first.back ∙ second.back in
    cc

pub key_looks : (naming : Naming) (layout : Layout) (code : CodeName) (p : Place) (key : List ℕ) → key_of naming layout code p ≡ Some key
    → looks naming key ≡ true
key_looks naming layout code p key of_p =
    let at = λ (o : Option (List ℕ)). MatchOption o (Unit {0}) (λ key. IsKeyOf naming layout code p key) in
    let is : IsKeyOf naming layout code p key = subst at of_p (keys naming layout code p) in
    is.look

-- ---- ends and beginnings of one length

pub ends_same : (xs ys a b : List ℕ) → length a ≡ length b → xs ++ a ≡ ys ++ b → a ≡ b
ends_same xs ys a b long is =
    let one : length xs ≡ length ys = omega (arith, length-append xs a, length-append ys b, ap length is) in
    sym (drop-append_seam xs a) ∙ ap (drop (length xs)) is ∙ ap (λ n. drop n (ys ++ b)) one ∙ drop-append_seam ys b

beginnings_same : (xs ys a b : List ℕ) → length a ≡ length b → a ++ xs ≡ b ++ ys → a ≡ b
beginnings_same xs ys a b long is =
    sym (take-append_seam a xs) ∙ ap (take (length a)) is ∙ ap (λ n. take n (b ++ ys)) long ∙ take-append_seam b ys

-- ---- digits before a byte that is none, and after one

no_digit : (c d : ℕ) (others : Bool) → (is_ascii_digit c && others) ≡ true → c ≡ d → is_ascii_digit d ≡ false → ⊥
no_digit c d others digits same not_digit =
    let both : true ≡ false = sym (and_parts _ _ digits).0 ∙ ap is_ascii_digit same ∙ not_digit in
    cc

pub digits_before : (a b xs ys : List ℕ) (c d : ℕ) → list_all is_ascii_digit a ≡ true → list_all is_ascii_digit b ≡ true
    → is_ascii_digit c ≡ false → is_ascii_digit d ≡ false → a ++ (c ∷ xs) ≡ b ++ (d ∷ ys) → a ≡ b
digits_before [] [] xs ys c d da db nc nd is = refl
digits_before [] (y ∷ b) xs ys c d da db nc nd is =
    let same : y ≡ c = cc in absurd (no_digit y c (list_all is_ascii_digit b) db same nc)
digits_before (x ∷ a) [] xs ys c d da db nc nd is =
    let same : x ≡ d = cc in absurd (no_digit x d (list_all is_ascii_digit a) da same nd)
digits_before (x ∷ a) (y ∷ b) xs ys c d da db nc nd is =
    let same : x ≡ y = cc in
    let rest : a ++ (c ∷ xs) ≡ b ++ (d ∷ ys) = cc in
    let tail : a ≡ b = digits_before a b xs ys c d (and_parts _ _ da).1 (and_parts _ _ db).1 nc nd rest in
    cc

not_among : (a ys b : List ℕ) (d : ℕ) → list_all is_ascii_digit a ≡ true → is_ascii_digit d ≡ false → a ≡ ys ++ (d ∷ b) → ⊥
not_among a ys b d da nd is =
    let all : (list_all is_ascii_digit ys && (is_ascii_digit d && list_all is_ascii_digit b)) ≡ true
    = sym (list_all-append is_ascii_digit ys (d ∷ b)) ∙ ap (list_all is_ascii_digit) (sym is) ∙ da in
    no_digit d d (list_all is_ascii_digit b) (and_parts _ _ all).1 refl nd

pub digits_after : (xs ys a b : List ℕ) (c d : ℕ) → list_all is_ascii_digit a ≡ true → list_all is_ascii_digit b ≡ true
    → is_ascii_digit c ≡ false → is_ascii_digit d ≡ false → xs ++ (c ∷ a) ≡ ys ++ (d ∷ b) → a ≡ b
digits_after [] [] a b c d da db nc nd is = cc
digits_after [] (y ∷ ys) a b c d da db nc nd is =
    let rest : a ≡ ys ++ (d ∷ b) = cc in absurd (not_among a ys b d da nd rest)
digits_after (x ∷ xs) [] a b c d da db nc nd is =
    let rest : b ≡ xs ++ (c ∷ a) = cc in absurd (not_among b xs a c db nc rest)
digits_after (x ∷ xs) (y ∷ ys) a b c d da db nc nd is =
    let rest : xs ++ (c ∷ a) ≡ ys ++ (d ∷ b) = cc in digits_after xs ys a b c d da db nc nd rest

-- ---- the last byte of a text

parted : (x : ℕ) (xs : List ℕ) → (front : List ℕ) × ((x ∷ xs) ≡ front ++ (get_or (x ∷ xs) (length xs) 0 ∷ []))
parted x [] = ([], refl)
parted x (y ∷ ys) = let r = parted y ys in (x ∷ r.0, ap (λ t. x ∷ t) r.1)

at_the_end : (s front a : List ℕ) (end : ℕ) → (s ++ (front ++ (end ∷ []))) ++ a ≡ (s ++ front) ++ (end ∷ a)
at_the_end s front a end = simp append_assoc

not_true : (b : Bool) → not b ≡ true → b ≡ false
not_true true is = cc
not_true false is = refl

-- ---- in names that are the same, so are the keys

pub same_key : (naming : Naming) (is_first : Bool) (between a b s t : List ℕ) → keeps_apart naming is_first between ≡ true
    → looks naming a ≡ true → looks naming b ≡ true
    → (if is_first then s else a) ++ between ++ (if is_first then a else s)
    ≡ (if is_first then t else b) ++ between ++ (if is_first then b else t) → a ≡ b
same_key ByPlace true between a b s t apart la lb is =
    ends_same (s ++ between) (t ++ between) a b (eqb-true _ _ la ∙ sym (eqb-true _ _ lb)) is
same_key ByPlace false between a b s t apart la lb is =
    beginnings_same (between ++ s) (between ++ t) a b (eqb-true _ _ la ∙ sym (eqb-true _ _ lb))
    (sym (append_assoc a between s) ∙ is ∙ append_assoc b between t)
same_key ByShard true [] a b s t apart la lb is = cc
same_key ByShard true (x ∷ xs) a b s t apart la lb is =
    let ends = parted x xs in
    let end = get_or (x ∷ xs) (length xs) 0 in
    let at : length (x ∷ xs) - 1 ≡ length xs = omega arith in
    let other : is_ascii_digit end ≡ false
    = not_true _ (ap (λ i. not (is_ascii_digit (slice_index (x ∷ xs) i))) (sym at) ∙ (and_parts _ _ apart).1) in
    digits_after (s ++ ends.0) (t ++ ends.0) a b end end la lb other other
    (sym (ap (λ w. (s ++ w) ++ a) ends.1 ∙ at_the_end s ends.0 a end) ∙ is ∙ (ap (λ w. (t ++ w) ++ b) ends.1 ∙ at_the_end t ends.0 b end))
same_key ByShard false [] a b s t apart la lb is = cc
same_key ByShard false (x ∷ xs) a b s t apart la lb is =
    let other : is_ascii_digit x ≡ false = not_true _ (and_parts _ _ apart).1 in
    digits_before a b (xs ++ s) (xs ++ t) x x la lb other other
    (sym (append_assoc a (x ∷ xs) s) ∙ is ∙ append_assoc b (x ∷ xs) t)
