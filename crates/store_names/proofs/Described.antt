-- The names of descriptions: each says one stripe.
use Rattle.std.proofs.Common.{◌≡◌, ◌∙◌, sym, ap, refl, inl, inr, ℕ, arith, List, [], ◌∷◌, ◌++◌, append_assoc, codes, get_or, length, map}
use Rattle.std.proofs.Common.{take, ◌≤◌, String, string_bytes}
use Rattle.std.proofs.lemmas.List.{append_cancel_right, take_all}
use Rattle.store_names.specs.Descriptions.{Describes, description_in, descriptions_in}
use Rattle.store_names.proofs.Keys.{ends_same}

-- `.file.copy` and `.file` end in different letters
not_both_endings : (a b : List ℕ) → a ++ codes ".file.copy" ≡ b ++ codes ".file" → ⊥
not_both_endings a b is =
    let ends : (121 ∷ []) ≡ (101 ∷ []) = ends_same (a ++ codes ".file.cop") (b ++ codes ".fil") (121 ∷ []) (101 ∷ []) refl
    (append_assoc a (codes ".file.cop") (121 ∷ []) ∙ is ∙ sym (append_assoc b (codes ".fil") (101 ∷ []))) in
    let letter : 121 ≡ 101 = ap (λ (t : List ℕ). get_or t 0 0) ends in
    omega (arith, letter)

-- what is before an ending is the stripe that a name says
module _ (last stripe : List ℕ) where
  pub said_by_second : last ≡ stripe ++ codes ".file.copy" → (other : List ℕ) → Describes last other → stripe ≡ other
  said_by_second is other says = elim says.is [
    | inl first ↦ absurd (not_both_endings stripe other (sym is ∙ first))
    | inr second ↦ append_cancel_right stripe other (codes ".file.copy") (sym is ∙ second)
  ]

  pub said_by_first : last ≡ stripe ++ codes ".file" → (other : List ℕ) → Describes last other → stripe ≡ other
  said_by_first is other says = elim says.is [
    | inl first ↦ append_cancel_right stripe other (codes ".file") (sym is ∙ first)
    | inr second ↦ absurd (not_both_endings other stripe (sym second ∙ is))
  ]

-- ---- the names in some folders

one_more : {Z : Type 0} (x e : String Z) (stripe : List ℕ) → e ≡ x
    → description_in (string_bytes x) stripe (codes ".file") ∷ description_in (string_bytes e) stripe (codes ".file.copy") ∷ []
    ≡ descriptions_in (string_bytes x ∷ []) stripe
one_more x e stripe is = ap (λ folder. description_in (string_bytes x) stripe (codes ".file")
    ∷ description_in (string_bytes folder) stripe (codes ".file.copy") ∷ []) is

-- in one folder there is a second name
pub in_one : {Z : Type 0} (folders : List (String Z)) (e : String Z) (stripe : List ℕ) → length folders ≡ 1 → e ≡ get_or folders 0 e
    → map (λ folder. description_in folder stripe (codes ".file")) (map string_bytes folders)
    ++ (description_in (string_bytes e) stripe (codes ".file.copy") ∷ []) ≡ descriptions_in (map string_bytes folders) stripe
in_one [] e stripe one is = absurd (omega (arith, one))
in_one (x ∷ []) e stripe one is = one_more x e stripe is
in_one (x ∷ y ∷ more) e stripe one is = absurd (omega (arith, one))

pub in_several : {Z : Type 0} (folders : List (String Z)) (stripe : List ℕ) → (length folders ≡ 1 → ⊥)
    → map (λ folder. description_in folder stripe (codes ".file")) (map string_bytes folders)
    ≡ descriptions_in (map string_bytes folders) stripe
in_several [] stripe several = refl
in_several (x ∷ []) stripe several = absurd (several refl)
in_several (x ∷ y ∷ more) stripe several = refl

-- the names, once there is one for each folder
pub all_names : {Z : Type 0} (names : List (List ℕ)) (folders given : List (String Z)) (i : ℕ) (stripe : List ℕ)
    → names ≡ map (λ folder. description_in folder stripe (codes ".file")) (map string_bytes (take i given)) → given ≡ folders
    → length given ≤ i → names ≡ map (λ folder. description_in folder stripe (codes ".file")) (map string_bytes folders)
all_names names folders given i stripe is same past =
    is ∙ ap (λ t. map (λ folder. description_in folder stripe (codes ".file")) (map string_bytes t)) (take_all i given past ∙ same)
