-- The places that a loop over all of them has chosen.
use Rattle.std.proofs.Common.{◌≡◌, ◌∙◌, ◌<◌, ◌+◌, ◌-◌, ℕ, List, [], ◌∷◌, ◌++◌, false, refl, sym, ap, subst, arith}
use Rattle.std.proofs.Common.{inl, inr}
use Rattle.std.proofs.Common.{All, get_or, length, length-append}
use Rattle.std.proofs.lemmas.List.{get_or-append_right, get_or_append_left, get_or_default}
use Rattle.std.proofs.lemmas.Bool.{cases_lt, ne_eqb}
use Rattle.std.proofs.lemmas.List.Elements.{All-push}
use Rattle.lrc_code.specs.declared.places.Place.{Place}
use Rattle.lrc_code.specs.Places.{index_of, same_place}
use Rattle.store_repair.specs.Opened.{AreApart}

module _ (xs : List Place) (k : ℕ) (p : Place) (here : index_of p ≡ k) (before : All (λ q. index_of q < k) xs) where
  -- a place after all that are listed is apart from them
  pub apart_more : AreApart xs → AreApart (xs ++ (p ∷ []))
  apart_more apart i j d lt within = elim (cases_lt j (length xs)) as
      (λ _. same_place (get_or (xs ++ (p ∷ [])) i d) (get_or (xs ++ (p ∷ [])) j d) ≡ false) [
        | inl less ↦ rw (get_or_append_left xs (p ∷ []) d i (omega (arith, lt, less)), get_or_append_left xs (p ∷ []) d j less)
            (apart i j d lt less)
        | inr le ↦ (let long = length-append xs (p ∷ []) in
            let at : j ≡ length xs = omega (arith, le, within, long) in
            let small : i < length xs = omega (arith, lt, at) in
            let zero : j - length xs ≡ 0 = omega (arith, at) in
            let less = before i d small in
            rw (get_or_append_left xs (p ∷ []) d i small, get_or-append_right xs (p ∷ []) (length xs) j d refl le, zero)
            (ne_eqb (index_of (get_or xs i d)) (index_of p) (λ e. absurd (omega (arith, e, less, here)))))
      ]

  pub before_more : All (λ q. index_of q < k + 1) (xs ++ (p ∷ []))
  before_more = All-push (λ q. index_of q < k + 1) xs p (λ i d lt. (let less = before i d lt in omega (arith, less))) (omega (arith, here))

pub before_next : (xs : List Place) (k : ℕ) → All (λ q. index_of q < k) xs → All (λ q. index_of q < k + 1) xs
before_next xs k before i d lt = let less = before i d lt in omega (arith, less)

-- what holds of each place listed before an index, and of the one at the index, holds of each before the next
pub each_more : (P : Place → Type 0) (places : List Place) (n : ℕ) (p e : Place) → n < length places → get_or places n e ≡ p
    → ((k : ℕ) (d : Place) → k < n → P (get_or places k d)) → P p → (k : ℕ) (d : Place) → k < n + 1 → P (get_or places k d)
each_more P places n p e within here before this k d lt = elim (cases_lt k n) as (λ _. P (get_or places k d)) [
  | inl less ↦ before k d less
  | inr le ↦ (let at : k ≡ n = omega (arith, lt, le) in
      subst P (sym (ap (λ j. get_or places j d) at ∙ get_or_default places n d e within ∙ here)) this)
]
