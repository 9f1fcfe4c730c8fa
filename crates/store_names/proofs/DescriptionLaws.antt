-- What the names of descriptions say.
use Rattle.std.proofs.Common.{◌≡◌, ◌∙◌, sym, inl, inr, refl, ℕ, ◌<◌, true, not, ◌==◌, nat_lt, List, [], ◌∷◌, ◌++◌, append_assoc, codes}
use Rattle.std.proofs.Common.{length}
use Rattle.std.specs.List.{list_all}
use Rattle.std.proofs.lemmas.Bool.{and_parts, ltb-true}
use Rattle.store_names.specs.Texts.{lacks}
use Rattle.store_names.specs.Folders.{IsLastOf}
use Rattle.store_names.specs.Folders.IsLastOf.{whole_name, last_after}
use Rattle.store_names.specs.Descriptions.{description_in}
use Rattle.store_names.specs.DescriptionLaws.{DescriptionsSayTheirStripe}
use Rattle.store_names.proofs.Marks.{last_same, lacks_append, not_both}
use Rattle.store_names.proofs.Described.{said_by_first, said_by_second}

-- the last part of a description's name is the stripe with the ending
last_is : (folder stripe ending last : List ℕ) → lacks 47 stripe ≡ true → lacks 47 ending ≡ true
    → IsLastOf (description_in folder stripe ending) last → last ≡ stripe ++ ending
last_is [] stripe ending last alone end (whole_name _ is) = is
last_is [] stripe ending last alone end (last_after folder at) =
    absurd (not_both 47 (stripe ++ ending) folder last at.is (lacks_append 47 stripe ending alone end))
last_is (x ∷ folder) stripe ending last alone end (whole_name lack _) =
    absurd (not_both 47 (((x ∷ folder) ++ (47 ∷ stripe)) ++ ending) (x ∷ folder) (stripe ++ ending)
    (append_assoc (x ∷ folder) (47 ∷ stripe) ending) lack)
last_is (x ∷ folder) stripe ending last alone end (last_after other at) =
    (last_same 47 other (x ∷ folder) last (stripe ++ ending) at.last (lacks_append 47 stripe ending alone end)
    (sym at.is ∙ append_assoc (x ∷ folder) (47 ∷ stripe) ending)).1

pub descriptions_say : DescriptionsSayTheirStripe
descriptions_say stripe is =
    let parts = and_parts (nat_lt 0 (length stripe)) (list_all (λ byte. not (byte == 47)) stripe) is in
    let some : 0 < length stripe = ltb-true _ _ parts.0 in
    record {
      first = λ folder last at. record { some = some; is = inl (last_is folder stripe (codes ".file") last parts.1 refl at) };
      second = λ folder last at. record { some = some; is = inr (last_is folder stripe (codes ".file.copy") last parts.1 refl at) };
      only = λ last other one two. elim one.is [
        | inl first ↦ sym (said_by_first last stripe first other two)
        | inr second ↦ sym (said_by_second last stripe second other two)
      ];
    }
