use Rattle.farm_orders.proofs.Members.{place_is, there}
-- The feeders of a rack, and of all racks.
use Rattle.std.proofs.Common.{◌≡◌, ℕ, zero, suc, ◌+◌, ◌*◌, ◌/◌, ◌<◌, ◌≤◌, List, [], ◌∷◌, ◌++◌, length, drop, get_or, replicate, refl, sym}
use Rattle.std.proofs.Common.{ap, ◌∙◌, subst, arith}
use Rattle.std.specs.List.{sum_by}
use Rattle.std.proofs.lemmas.List.{length-replicate, get_or-replicate}
use Rattle.std.proofs.lemmas.List.Sums.{sum_by-cons}
use mathlib.Core.Option.{some, some-ne-none, some-injective}
use lib.ListN.{get_elem?}
use Rattle.list_members.proofs.Lists.{at_back, at_below}
use Rattle.list_members.specs.Lists.{Each}
use Rattle.farm_orders.specs.declared.orders.Order.{Order}
use Rattle.farm_orders.specs.FedLists.{all_feeds_of}

module _ {A : Type 0} where
  pub each_replicate : (P : A → Type 0) (xs : List A) (n : ℕ) (a : A) → xs ≡ replicate n a → P a → Each P xs
  each_replicate P xs n a is one k x at =
      let here : get_elem? (replicate n a) k ≡ some x = subst (λ (l : List A). get_elem? l k ≡ some x) is at in
      let low = at_below (replicate n a) k x here in let long = length-replicate n a in
      subst P (sym (get_or-replicate n k a a (omega arith)) ∙ place_is (replicate n a) k x a here) one

  -- numbers of a rest of a list
  pub sum_rest : (f : A → ℕ) (xs : List A) (k : ℕ) (x : A) → get_elem? xs k ≡ some x
      → sum_by f (drop k xs) ≡ f x + sum_by f (drop (suc k) xs)
  sum_rest f [] k x at = absurd (some-ne-none x (sym at))
  sum_rest f (y ∷ xs) zero x at = sum_by-cons f y xs ∙ ap (λ z. f z + sum_by f xs) (some-injective y x at)
  sum_rest f (y ∷ xs) (suc k) x at = sum_rest f xs k x at

  pub sum_past : (f : A → ℕ) (xs : List A) (k : ℕ) → length xs ≤ k → sum_by f (drop k xs) ≡ 0
  sum_past f [] zero past = refl
  sum_past f [] (suc k) past = refl
  sum_past f (x ∷ xs) zero past = absurd (omega arith)
  sum_past f (x ∷ xs) (suc k) past = sum_past f xs k (omega arith)

  pub sum_same : (f : A → ℕ) (xs : List A) (n : ℕ) → Each (λ x. f x ≡ n) xs → sum_by f xs ≡ n * length xs
  sum_same f [] n each = omega arith
  sum_same f (x ∷ xs) n each =
      let a = sum_by-cons f x xs in let b = sum_same f xs n (λ k. each (suc k)) in let c = each 0 x refl in
      let d = times_more n (length xs) in omega arith
    where
      times_more : (n m : ℕ) → n * suc m ≡ n * m + n
      times_more n m = grind (arith)

-- a seat's share of a gate with few seats is enough for a list
pub share_enough : (n : ℕ) → 0 < n → n ≤ 4 → 4096 ≤ 4294967296 / n
share_enough zero some_in few = absurd (omega arith)
share_enough (suc zero) some_in few = omega arith
share_enough (suc (suc zero)) some_in few = omega arith
share_enough (suc (suc (suc zero))) some_in few = omega arith
share_enough (suc (suc (suc (suc zero)))) some_in few = omega arith
share_enough (suc (suc (suc (suc (suc n))))) some_in few = absurd (omega arith)

module _ {A : Type 0} where
  -- what was read at an index is there
  pub got : (xs : List A) (k : ℕ) (x : A) → x ≡ get_or xs k x → k < length xs → get_elem? xs k ≡ some x
  got xs k x is low = let t = there xs k low in subst (λ y. get_elem? xs k ≡ some y) (sym (is ∙ place_is xs k t.0 x t.1)) t.1

  pub each_back : (P : A → Type 0) (all front rest : List A) → all ≡ front ++ rest → Each P all → Each P rest
  each_back P all front rest is each k x at = each (length front + k) x
      (subst (λ l. get_elem? l (length front + k) ≡ some x) (sym is) (at_back front rest k x at (length front + k) refl))

-- the feeds of a rack, and those of the racks from an index on
pub feeds_at : (lists : List (List (List Order))) (k : ℕ) (feeds : List (List Order)) → k < length lists → feeds ≡ get_or lists k []
    → get_elem? lists k ≡ some feeds
feeds_at lists k feeds low is = let t = there lists k low in subst (λ y. get_elem? lists k ≡ some y)
    (sym (is ∙ place_is lists k t.0 [] t.1)) t.1

pub feeds_rest : (lists : List (List (List Order))) (k : ℕ) (feeds : List (List Order)) → k < length lists → feeds ≡ get_or lists k []
    → all_feeds_of (drop k lists) ≡ length feeds + all_feeds_of (drop (k + 1) lists)
feeds_rest lists k feeds low is =
    let next : suc k ≡ k + 1 = omega arith in
    sum_rest (λ (f : List (List Order)). length f) lists k feeds (feeds_at lists k feeds low is)
    ∙ ap (λ m. length feeds + all_feeds_of (drop m lists)) next

pub feeds_past : (lists : List (List (List Order))) (k : ℕ) → length lists ≤ k → all_feeds_of (drop k lists) ≡ 0
feeds_past lists k past = sum_past (λ (f : List (List Order)). length f) lists k past
