-- The names of files in a store, and their paths.
use Rattle.std.proofs.Common.{◌≡◌, ◌∙◌, ◌⊎◌, inl, inr, refl, sym, subst, ap, ℕ, List, [], ◌∷◌, ◌++◌, Bool, true, false, not, codes}
use Rattle.std.proofs.Common.{String, Global, string_bytes}
use Rattle.std.specs.List.{list_all}
use Rattle.std.specs.Str.{bytes_eq}
use Rattle.std.proofs.lemmas.Bool.{and_from, and_parts, or_left, or_right}
use Rattle.std.proofs.lemmas.Slice.Eq.{bytes_eq-Decides}
use Rattle.folders.specs.Files.{slash}
use Rattle.store_names.specs.Temporary.{is_free}
use Rattle.store_names.proofs.Free.{free_in}
use Rattle.store_folder.specs.Temporary.{is_temporary}
use Rattle.store_encoding.specs.Names.{AreApart, CanGive, IsFileOf, IsNamed, IsPairOf, Replaces, path_of, sums_path}
use Rattle.store_encoding.specs.Own.{has, is_own, shares_none}
use Rattle.store_encoding.specs.declared.encoding.stripe_files.StripeFiles.{StripeFiles}

-- ---- pairs

pair_named : (folder : List ℕ) (names others : List (String Global)) (from to : List ℕ) → IsPairOf folder names others from to
    → IsNamed folder names from × IsNamed folder others to
pair_named folder [] others from to none = absurd none
pair_named folder (name ∷ names) [] from to none = absurd none
pair_named folder (name ∷ names) (other ∷ others) from to (inl here) = (inl here.0, inl here.1)
pair_named folder (name ∷ names) (other ∷ others) from to (inr more) =
    let are = pair_named folder names others from to more in (inr are.0, inr are.1)

pub replaces_named : (folder : List ℕ) (files others : StripeFiles) (from to : List ℕ) → Replaces folder files others from to
    → IsFileOf folder files from × IsFileOf folder others to
replaces_named folder files others from to (inl pair) =
    let are = pair_named folder files.fragments.items others.fragments.items from to pair in (inl are.0, inl are.1)
replaces_named folder files others from to (inr pair) =
    let are = pair_named folder files.descriptions.items others.descriptions.items from to pair in (inr are.0, inr are.1)

pub can_replace : (folder : List ℕ) (files others : StripeFiles) → AreApart folder files others → CanGive (Replaces folder files others)
can_replace folder files others are = record {
  lasting = λ from to gives. are.lasting from (replaces_named folder files others from to gives).0;
  lasting_too = λ from to gives. are.lasting_too to (replaces_named folder files others from to gives).1;
  apart = λ from mid to first second. are.apart mid (replaces_named folder files others mid to second).0
      (replaces_named folder files others from mid first).1;
}

-- some of the pairs
pub can_some : (gives some : List ℕ → List ℕ → Type 0) → ((from to : List ℕ) → some from to → gives from to) → CanGive gives
    → CanGive some
can_some gives some more can = record {
  lasting = λ from to gets. can.lasting from to (more from to gets);
  lasting_too = λ from to gets. can.lasting_too from to (more from to gets);
  apart = λ from mid to first second. can.apart from mid to (more from mid first) (more mid to second);
}

-- ---- tests of names

same_name : (folder a b : List ℕ) → folder ++ slash ∷ a ≡ folder ++ slash ∷ b → a ≡ b
same_name [] a b is = cc
same_name (x ∷ folder) a b is = let rest : folder ++ slash ∷ a ≡ folder ++ slash ∷ b = cc in same_name folder a b rest

not_both : (b : Bool) → not b ≡ true → b ≡ true → ⊥
not_both true off on = let none : false ≡ true = off in absurd (cc)
not_both false off on = absurd (cc)

-- a name that is found to be none that others have
named_own : (folder : List ℕ) (names : List (String Global)) → is_free folder ≡ true → list_all is_own names ≡ true → (path : List ℕ)
    → IsNamed folder names path → (is_temporary path ≡ false) × (path ≡ sums_path folder → ⊥)
named_own folder [] free all path none = absurd none
named_own folder (name ∷ names) free all path (inl here) =
    let own = and_parts (is_free (string_bytes name)) (not (bytes_eq (string_bytes name) (codes "SHA256SUMS")))
    (and_parts (is_own name) (list_all is_own names) all).0 in (
      ap is_temporary here ∙ ap not (free_in folder (string_bytes name)
          ∙ and_from (is_free folder) (is_free (string_bytes name)) free own.0),
      λ is. not_both (bytes_eq (string_bytes name) (codes "SHA256SUMS")) own.1
          ((bytes_eq-Decides (string_bytes name) (codes "SHA256SUMS")).1
          (same_name folder (string_bytes name) (codes "SHA256SUMS") (sym here ∙ is))),
    )
named_own folder (name ∷ names) free all path (inr more) =
    named_own folder names free (and_parts (is_own name) (list_all is_own names) all).1 path more

named_has : (folder : List ℕ) (names : List (String Global)) (path : List ℕ) (name : String Global) → path ≡ path_of folder name
    → IsNamed folder names path → has names (string_bytes name) ≡ true
named_has folder [] path name here none = absurd none
named_has folder (other ∷ names) path name here (inl at) = or_left (bytes_eq (string_bytes other) (string_bytes name))
    (has names (string_bytes name)) ((bytes_eq-Decides (string_bytes other) (string_bytes name)).1
    (same_name folder (string_bytes other) (string_bytes name) (sym at ∙ here)))
named_has folder (other ∷ names) path name here (inr more) = or_right (bytes_eq (string_bytes other) (string_bytes name))
    (has names (string_bytes name)) (named_has folder names path name here more)

-- names of which is found that none is one of others
none_shared : (folder : List ℕ) (fragments descriptions names : List (String Global))
    → list_all (shares_none fragments descriptions) names ≡ true → (path : List ℕ) → IsNamed folder names path
    → IsNamed folder fragments path ⊎ IsNamed folder descriptions path → ⊥
none_shared folder fragments descriptions [] all path none too = absurd none
none_shared folder fragments descriptions (name ∷ names) all path (inl here) too =
    let none = and_parts (not (has fragments (string_bytes name))) (not (has descriptions (string_bytes name)))
    (and_parts (shares_none fragments descriptions name) (list_all (shares_none fragments descriptions) names) all).0 in elim too [
      | inl in_fragments ↦ not_both (has fragments (string_bytes name)) none.0 (named_has folder fragments path name here in_fragments)
      | inr in_descriptions ↦ not_both (has descriptions (string_bytes name)) none.1
          (named_has folder descriptions path name here in_descriptions)
    ]
none_shared folder fragments descriptions (name ∷ names) all path (inr more) too = none_shared folder fragments descriptions names
    (and_parts (shares_none fragments descriptions name) (list_all (shares_none fragments descriptions) names) all).1 path more too

pub apart_from : (folder : List ℕ) (files others : StripeFiles) → is_free folder ≡ true → is_free (codes "SHA256SUMS") ≡ true
    → list_all is_own files.fragments.items ≡ true
    → list_all is_own files.descriptions.items ≡ true → list_all is_own others.fragments.items ≡ true
    → list_all is_own others.descriptions.items ≡ true
    → list_all (shares_none others.fragments.items others.descriptions.items) files.fragments.items ≡ true
    → list_all (shares_none others.fragments.items others.descriptions.items) files.descriptions.items ≡ true
    → AreApart folder files others
apart_from folder files others free sums_free fragments descriptions other_fragments other_descriptions none none_too = record {
  lasting = λ path is. (own files fragments descriptions path is).0;
  lasting_too = λ path is. (own others other_fragments other_descriptions path is).0;
  sums_lasting = ap not (free_in folder (codes "SHA256SUMS") ∙ and_from (is_free folder) (is_free (codes "SHA256SUMS")) free sums_free);
  sums = λ is. (own files fragments descriptions (sums_path folder) is).1 refl;
  sums_too = λ is. (own others other_fragments other_descriptions (sums_path folder) is).1 refl;
  apart = λ path is too. elim is [
    | inl fragment ↦ none_shared folder others.fragments.items others.descriptions.items files.fragments.items none path fragment too
    | inr description ↦ none_shared folder others.fragments.items others.descriptions.items files.descriptions.items none_too path
        description too
  ];
} where
  own : (f : StripeFiles) → list_all is_own f.fragments.items ≡ true → list_all is_own f.descriptions.items ≡ true → (path : List ℕ)
      → IsFileOf folder f path → (is_temporary path ≡ false) × (path ≡ sums_path folder → ⊥)
  own f all all_too path (inl fragment) = named_own folder f.fragments.items free all path fragment
  own f all all_too path (inr description) = named_own folder f.descriptions.items free all_too path description

-- a test that none of some names is one of others, by lists as these are known
pub none_is : (fragments these descriptions those names here : List (String Global)) → these ≡ fragments → those ≡ descriptions
    → here ≡ names → (is : Bool) → is ≡ list_all (shares_none these those) here → is ≡ true
    → list_all (shares_none fragments descriptions) names ≡ true
none_is fragments these descriptions those names here same same_too same_names is tested holds =
    subst (λ (l : List (String Global)). list_all (shares_none l descriptions) names ≡ true) same
    (subst (λ (l : List (String Global)). list_all (shares_none these l) names ≡ true) same_too
    (subst (λ (l : List (String Global)). list_all (shares_none these those) l ≡ true) same_names (sym tested ∙ holds)))
