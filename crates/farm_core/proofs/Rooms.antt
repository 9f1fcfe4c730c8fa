-- What a room that is ready is made of.
use Rattle.std.proofs.Common.{◌≡◌, ℕ, ◌+◌, List, [], ◌∷◌, ◌++◌, length, map, refl, sym, ap, ◌∙◌, subst, ⊎_elim, arith}
use Rattle.std.proofs.lemmas.List.{map-append, length_push}
use mathlib.Core.Option.{some}
use lib.ListN.{get_elem?}
use Rattle.list_members.proofs.Lists.{at_back, at_front, at_snoc_or}
use Rattle.farm_lanes.proofs.Opens.{popped_put}
use Rattle.farm_lanes.specs.LaneEnds.{LaneName, PutView, TakeView, IsUnusedPut, AreNewPutEnds, AreNewEnds}
use Rattle.list_members.specs.Lists.{Each, EachAt}
use Rattle.farm_threads.specs.declared.jobs.Job.{Job}

module _ {A : Type 0} where
  -- the last of a list, those before it, and one in the middle
  pub each_last : (P : A → Type 0) (all rest : List A) (x : A) → all ≡ rest ++ x ∷ [] → Each P all → P x
  each_last P all rest x is each = each (length rest) x (subst (λ l. get_elem? l (length rest) ≡ some x) (sym is)
      (at_back rest (x ∷ []) 0 x refl (length rest) (omega arith)))

  pub each_rest : (P : A → Type 0) (all rest : List A) (x : A) → all ≡ rest ++ x ∷ [] → Each P all → Each P rest
  each_rest P all rest x is each k y at = each k y (subst (λ l. get_elem? l k ≡ some y) (sym is) (at_front rest (x ∷ []) k y at))

  -- the one item of a list of one
  pub only_last : (all rest : List A) (x : A) → all ≡ rest ++ x ∷ [] → length all ≡ 1 → all ≡ x ∷ []
  only_last all [] x is one = is
  only_last all (y ∷ rest) x is one = absurd (let a = ap (λ (l : List A). length l) is in let b = length_push rest x in omega arith)

  pub each_middle : (P : A → Type 0) (all done rest : List A) (x : A) → all ≡ done ++ x ∷ rest → Each P all → P x
  each_middle P all done rest x is each = each (length done) x
      (subst (λ l. get_elem? l (length done) ≡ some x) (sym is) (at_back done (x ∷ rest) 0 x refl (length done) (omega arith)))

  pub each_at_snoc : (P : ℕ → A → Type 0) (xs : List A) (x : A) → EachAt P xs → P (length xs) x → EachAt P (xs ++ x ∷ [])
  each_at_snoc P xs x all one j y at = ⊎_elim
      (λ old. all j y old)
      (λ (new : (j ≡ length xs) × (x ≡ y)). let Q : ℕ × A → Type 0 = λ p. P p.0 p.1 in subst Q (λ i. (sym new.0 i, new.1 i)) one)
      (at_snoc_or xs x y j at)

  pub mapped_snoc : {B : Type 0} (f : A → B) (xs new : List A) (x : A) (ys : List B) (y : B) → map f xs ≡ ys → new ≡ xs ++ x ∷ [] → f x ≡ y
      → map f new ≡ ys ++ y ∷ []
  mapped_snoc f xs new x ys y was is one = ap (map f) is ∙ (map-append f xs (x ∷ []) ∙ (λ i. was i ++ one i ∷ []))

pub new_unused : {T : Type 0} (lane : LaneName T) (n : ℕ) (puts : List (PutView T)) → AreNewPutEnds lane n puts → Each IsUnusedPut puts
new_unused lane n puts new k e at = subst IsUnusedPut (sym (new.each k e at)) refl

pub front_unused : (n w : ℕ) (all rest : List (PutView Job)) (takes : List (TakeView Job)) (stops : PutView Job)
    → AreNewEnds (n + 1) w all takes → all ≡ rest ++ stops ∷ [] → Each IsUnusedPut rest
front_unused n w all rest takes stops new is = new_unused new.lane n rest (popped_put new.lane n all rest stops new.put_ends is).1
