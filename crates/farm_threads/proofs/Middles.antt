-- Members in the middle of lists.
use Rattle.std.proofs.Common.{◌≡◌, List, [], ◌∷◌, ◌++◌, length, refl, sym, ap, ◌∙◌, subst, arith, append-nil, length-append}
use mathlib.Core.Option.{some}
use lib.ListN.{get_elem?}
use Rattle.list_members.proofs.Lists.{at_back, at_front}
use Rattle.list_members.specs.Lists.{Each}

module _ {A : Type 0} where
  pub each_middle : (P : A → Type 0) (all done rest : List A) (x : A) → all ≡ done ++ x ∷ rest → Each P all → P x
  each_middle P all done rest x is each = each (length done) x
      (subst (λ l. get_elem? l (length done) ≡ some x) (sym is) (at_back done (x ∷ rest) 0 x refl (length done) (omega arith)))

  pub each_front : (P : A → Type 0) (all front rest : List A) → all ≡ front ++ rest → Each P all → Each P front
  each_front P all front rest is each k y at = each k y (subst (λ l. get_elem? l k ≡ some y) (sym is) (at_front front rest k y at))

  pub whole_front : (all front back : List A) → all ≡ front ++ back → length front ≡ length all → front ≡ all
  whole_front all front [] is same = sym (append-nil front) ∙ sym is
  whole_front all front (x ∷ back) is same = absurd (let a = ap (λ (l : List A). length l) is in
      let b = length-append front (x ∷ back) in omega arith)
