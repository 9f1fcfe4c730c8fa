-- What a finding more does to what findings name, and what is written back to a list does to its length.
use Rattle.std.proofs.Common.{◌≡◌, ℕ, List, [], ◌∷◌, ◌++◌, arith, drop, length, length-append, length-drop, subst, sym, take}
use Rattle.std.specs.Prelude.{Contains}
use Rattle.std.proofs.lemmas.List.{length-take}
use Rattle.std.proofs.lemmas.List.Elements.{Contains-append_left, Contains-push}
use Rattle.lrc_code.specs.declared.places.Place.{Place}

-- what was named before is named still
pub named_still : (old new more : List Place) (p : Place) → new ≡ old ++ more → Contains old p → Contains new p
named_still old new more p is has = subst (λ ps. Contains ps p) (sym is) (Contains-append_left old more p has)

-- what is named now
pub named_now : (old new : List Place) (p : Place) → new ≡ old ++ (p ∷ []) → Contains new p
named_now old new p is = subst (λ ps. Contains ps p) (sym is) (Contains-push old p)

-- a list of which a part was lent is as long as before
pub as_long : {A : Type 0} (n : ℕ) (lent whole : List A) → n ≡ length whole
    → length (take n (lent ++ drop (length lent) whole)) ≡ length whole
as_long n lent whole is = simp (length-take, length-append, length-drop) (omega arith)
