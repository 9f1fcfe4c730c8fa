-- Places that `==` and `!=` compare.
use Rattle.std.proofs.Common.{◌≡◌, ◌∙◌, Bool, true, false, not, ap₂, nat_eq, refl, sym}
use Rattle.std.proofs.lemmas.Bool.{not-true, not-false}
use Rattle.lrc_code.specs.declared.places.Place.{Place}
use Rattle.lrc_code.specs.declared.places.Place.TheVariants.{X0, X1, X2, X3, X4, X5, Y0, Y1, Y2, Y3, Y4, Y5, Px, Py, P0, P1}
use Rattle.lrc_code.specs.Places.{index_of, same_place}

-- the places' tags are their indexes
index_is : (p : Place) → denote.Enum.Declared.tag_of Rattle.lrc_code.specs.contracts.places.Place.the_type p ≡ index_of p
index_is X0 = refl
index_is X1 = refl
index_is X2 = refl
index_is X3 = refl
index_is X4 = refl
index_is X5 = refl
index_is Y0 = refl
index_is Y1 = refl
index_is Y2 = refl
index_is Y3 = refl
index_is Y4 = refl
index_is Y5 = refl
index_is Px = refl
index_is Py = refl
index_is P0 = refl
index_is P1 = refl

-- `==` says whether two places are one
same_is : (p q : Place) → denote.Enum.Bare.sameb Rattle.lrc_code.specs.contracts.places.Place.the_type p q ≡ same_place p q
same_is p q = ap₂ nat_eq (index_is p) (index_is q)

-- where `==` is true they are
pub same_place-eq_true : (p q : Place) (b : Bool) → b ≡ denote.Enum.Bare.sameb Rattle.lrc_code.specs.contracts.places.Place.the_type p q
    → b ≡ true → same_place p q ≡ true
same_place-eq_true p q b is holds = sym (same_is p q) ∙ sym is ∙ holds

-- where `!=` is true they aren't
pub same_place-ne_true : (p q : Place) (b : Bool)
    → b ≡ not (denote.Enum.Bare.sameb Rattle.lrc_code.specs.contracts.places.Place.the_type p q) → b ≡ true → same_place p q ≡ false
same_place-ne_true p q b is holds = sym (same_is p q) ∙ not-true _ (sym is ∙ holds)

-- and where it is false they are
pub same_place-ne_false : (p q : Place) (b : Bool)
    → b ≡ not (denote.Enum.Bare.sameb Rattle.lrc_code.specs.contracts.places.Place.the_type p q) → b ≡ false → same_place p q ≡ true
same_place-ne_false p q b is fails = sym (same_is p q) ∙ not-false _ (sym is ∙ fails)
