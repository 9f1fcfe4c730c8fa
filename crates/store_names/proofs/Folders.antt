-- Folders among others.
use Rattle.std.proofs.Common.{Decides, ◌≡◌, ◌∙◌, sym, ap, refl, subst, inl, inr, ◌⊎◌, ℕ, arith, true, List, [], ◌∷◌, ◌++◌, map}
use Rattle.std.proofs.Common.{MatchOption, None, Option, Some, String, string_bytes}
use Rattle.std.specs.List.{Contains, list_any}
use Rattle.std.specs.Cmp.Lexicographic.{pointwise}
use Rattle.std.specs.Str.{bytes_eq}
use Rattle.std.specs.String.{string_eq}
use Rattle.std.proofs.lemmas.Bool.{and_from, and_parts, false≢true, or_cases, or_left, or_right}
use Rattle.std.proofs.lemmas.Slice.Eq.{bytes_eq-Decides}
use Rattle.std.proofs.lemmas.List.Elements.{Contains-append_cases, Contains-append_left, Contains-get_or, Contains-append_right}
use Rattle.std.proofs.lemmas.List.Elements.{Contains-push, Contains-push_cases}
use Rattle.std.proofs.lemmas.List.Quantifiers.{all_pairs_push}
use Rattle.lrc_code.specs.declared.places.Place.{Place}
use Rattle.lrc_code.specs.declared.codes.Code.{Code as CodeName}
use Rattle.store_names.specs.declared.patterns.Pattern.{Pattern}
use Rattle.store_names.specs.Folders.{AreFoldersAt, HasFragmentAt, IsAdded, IsFolderOf}
use Rattle.store_names.specs.Folders.IsAdded.{was_there, put_behind}
use Rattle.store_names.specs.Folders.IsFolderOf.{own_folder, folder_before}
use Rattle.store_names.specs.Names.{IsNameOf, name_with}
use Rattle.store_names.proofs.Marks.{last_same, not_both}

-- whether some text is this one
pub any_is : {Z : Type 0} (texts : List (String Z)) (text : List ℕ) → list_any (λ other. bytes_eq (string_bytes other) text) texts ≡ true
    → Contains (map string_bytes texts) text
any_is [] text so = cc
any_is (x ∷ texts) text so = elim (or_cases (bytes_eq (string_bytes x) text) (list_any (λ other. bytes_eq
    (string_bytes other) text) texts) so) [
      | inl same ↦ subst (Contains (map string_bytes (x ∷ texts))) ((bytes_eq-Decides (string_bytes x) text).0 same)
          (Contains-append_left (string_bytes x ∷ []) (map string_bytes texts) (string_bytes x) (Contains-push [] (string_bytes x)))
      | inr other ↦ Contains-append_right (string_bytes x ∷ []) (map string_bytes texts) text (any_is texts text other)
    ]

pub is_any : {Z : Type 0} (texts : List (String Z)) (text : List ℕ) → Contains (map string_bytes texts) text
    → list_any (λ other. bytes_eq (string_bytes other) text) texts ≡ true
is_any [] text at = absurd (omega (arith, at.1))
is_any (x ∷ texts) text at = elim (Contains-append_cases (string_bytes x ∷ []) (map string_bytes texts) text at) [
  | inl first ↦ elim (Contains-push_cases [] (string_bytes x) text first) [
    | inl none ↦ absurd (omega (arith, none.1))
    | inr same ↦ or_left _ _ ((bytes_eq-Decides (string_bytes x) text).1 same)
  ]
  | inr later ↦ or_right _ _ (is_any texts text later)
]

-- ---- a name's folder

pub folder_same : (name a b : List ℕ) → IsFolderOf name a → IsFolderOf name b → a ≡ b
folder_same name a b (own_folder _ is) (own_folder _ is') = is ∙ sym is'
folder_same name a b (own_folder lack _) (folder_before last at) = absurd (not_both 47 name b last at.is lack)
folder_same name a b (folder_before last at) (own_folder lack _) = absurd (not_both 47 name a last at.is lack)
folder_same name a b (folder_before last at) (folder_before other at') = (last_same 47 a b last other at.last at'.last (sym at.is
    ∙ at'.is)).0

-- a stripe has one name at a place
name_same : (p : Pattern) (code : CodeName) (stripe : List ℕ) (place : Place) (name other : List ℕ) → IsNameOf p code stripe place name
    → IsNameOf p code stripe place other → name ≡ other
name_same p code stripe place name other one two =
    let keys : Some one.made.key ≡ Some two.made.key = sym one.made.is_key ∙ two.made.is_key in
    let key : one.made.key ≡ two.made.key = cc keys in
    one.made.is ∙ ap (name_with p stripe) key ∙ sym two.made.is

-- ---- the folders of fragments, place after place

module _ (p : Pattern) (code : CodeName) (stripe : List ℕ) where
  pub no_folders : AreFoldersAt p code [] stripe []
  no_folders = record {
    each = λ folder at. absurd (omega (arith, at.1));
    all = λ folder at. absurd (omega (arith, at.is_place.1));
    once = λ i j d before within. absurd (omega arith);
  }

  module _ (places : List Place) (place : Place) where
    wider : (folder : List ℕ) → HasFragmentAt p code places stripe folder → HasFragmentAt p code (places ++ (place ∷ [])) stripe folder
    wider folder at = record {
      place = at.place;
      name = at.name;
      is_place = Contains-append_left places (place ∷ []) at.place at.is_place;
      is_name = at.is_name;
      is_folder = at.is_folder;
    }

    narrower : (folder : List ℕ) (at : HasFragmentAt p code (places ++ (place ∷ [])) stripe folder)
        → HasFragmentAt p code places stripe folder ⊎ (place ≡ at.place)
    narrower folder at = elim (Contains-push_cases places place at.place at.is_place) [
      | inl before ↦ inl (record { place = at.place; name = at.name; is_place = before; is_name = at.is_name; is_folder = at.is_folder })
      | inr is ↦ inr is
    ]

    pub skipped : (folders : List (List ℕ)) → AreFoldersAt p code places stripe folders
        → ((name : List ℕ) → IsNameOf p code stripe place name → ⊥) → AreFoldersAt p code (places ++ (place ∷ [])) stripe folders
    skipped folders are none = record {
      each = λ folder at. wider folder (are.each folder at);
      all = λ folder at. elim (narrower folder at) [
        | inl before ↦ are.all folder before
        | inr is ↦ absurd (none at.name (subst (λ q. IsNameOf p code stripe q at.name) (sym is) at.is_name))
      ];
      once = are.once;
    }

    module _ (name folder : List ℕ) (named : IsNameOf p code stripe place name) (inside : IsFolderOf name folder) where
      here : HasFragmentAt p code (places ++ (place ∷ [])) stripe folder
      here = record {
        place = place;
        name = name;
        is_place = Contains-push places place;
        is_name = named;
        is_folder = inside;
      }

      is_here : (other : List ℕ) (at : HasFragmentAt p code (places ++ (place ∷ [])) stripe other) → place ≡ at.place → folder ≡ other
      is_here other at is = folder_same name folder other inside (subst (λ n. IsFolderOf n other)
          (name_same p code stripe place at.name name (subst (λ q. IsNameOf p code stripe q at.name)
          (sym is) at.is_name) named) at.is_folder)

      pub put : (folders more : List (List ℕ)) → AreFoldersAt p code places stripe folders → IsAdded folders folder more
          → AreFoldersAt p code (places ++ (place ∷ [])) stripe more
      put folders more are (was_there there same) = subst (AreFoldersAt p code (places ++ (place ∷ [])) stripe) (sym same) (record {
        each = λ other at. wider other (are.each other at);
        all = λ other at. elim (narrower other at) [
          | inl before ↦ are.all other before
          | inr is ↦ subst (Contains folders) (is_here other at is) there
        ];
        once = are.once;
      })
      put folders more are (put_behind none same) = subst (AreFoldersAt p code (places ++ (place ∷ [])) stripe) (sym same) (record {
        each = λ other at. elim (Contains-push_cases folders folder other at) [
          | inl before ↦ wider other (are.each other before)
          | inr is ↦ subst (HasFragmentAt p code (places ++ (place ∷ [])) stripe) is here
        ];
        all = λ other at. elim (narrower other at) [
          | inl before ↦ Contains-append_left folders (folder ∷ []) other (are.all other before)
          | inr is ↦ subst (Contains (folders ++ (folder ∷ []))) (is_here other at is) (Contains-push folders folder)
        ];
        once = all_pairs_push (λ one other. one ≡ other → ⊥) folders folder are.once
            (λ k d lt same. none (subst (Contains folders) same (Contains-get_or folders k d lt)));
      })

-- ---- what `name_of` says

module _ {Z : Type 0} (p : Pattern) (code : CodeName) (stripe : List ℕ) (place : Place) (o : Option (String Z))
    (is : MatchOption o ((name : List ℕ) → IsNameOf p code stripe place name
    → ⊥) (λ name. IsNameOf p code stripe place (string_bytes name))) where
  pub named : (name : String Z) → o ≡ Some name → IsNameOf p code stripe place (string_bytes name)
  named name some = subst (λ (r : Option (String Z)). MatchOption r ((name : List ℕ) → IsNameOf p code stripe place name → ⊥)
      (λ name. IsNameOf p code stripe place (string_bytes name))) some is

  pub unnamed : o ≡ None → (name : List ℕ) → IsNameOf p code stripe place name → ⊥
  unnamed none = subst (λ (r : Option (String Z)). MatchOption r ((name : List ℕ) → IsNameOf p code stripe place name → ⊥)
      (λ name. IsNameOf p code stripe place (string_bytes name))) none is

-- ---- the same texts

pub texts_same : {Z : Type 0} (xs ys : List (String Z)) → Decides (pointwise string_eq xs ys) (map string_bytes xs ≡ map string_bytes ys)
texts_same [] [] = (λ so. refl, λ same. refl)
texts_same [] (y ∷ ys) = (λ so. absurd (false≢true so), λ same. cc)
texts_same (x ∷ xs) [] = (λ so. absurd (false≢true so), λ same. cc)
texts_same (x ∷ xs) (y ∷ ys) =
    let rest = texts_same xs ys in
    let first = bytes_eq-Decides (string_bytes x) (string_bytes y) in (
      λ so. let parts = and_parts (string_eq x y) (pointwise string_eq xs ys) so in
          ap (λ t. string_bytes x ∷ t) (rest.0 parts.1) ∙ ap (λ t. t ∷ map string_bytes ys) (first.0 parts.0),
      λ same. let heads : string_bytes x ≡ string_bytes y = cc same in
          let tails : map string_bytes xs ≡ map string_bytes ys = cc same in
          and_from (string_eq x y) (pointwise string_eq xs ys) (first.1 heads) (rest.1 tails),
    )
