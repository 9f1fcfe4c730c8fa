-- Lawful merges of consecutive pieces of feeds.
use Rattle.std.proofs.Common.{◌≡◌, ◌⊎◌, ℕ, zero, suc, ◌+◌, ◌<◌, ◌≤◌, ◌++◌, Bool, true, false, cond, List, [], ◌∷◌, length, take, get_or}
use Rattle.std.proofs.Common.{refl, sym, ap, ◌∙◌, subst, inl, inr, ⊎_elim, arith, length-append}
use Rattle.std.specs.Prelude.{◌==◌}
use Rattle.std.specs.List.{All}
use Rattle.std.proofs.lemmas.List.{length-take, take-append-le}
use mathlib.Core.Option.{some, some-ne-none, some-injective}
use lib.ListN.{get_elem?}
use Rattle.lrc_code.specs.Requests.{Asked}
use Rattle.list_members.proofs.Lists.{at_below}
use Rattle.farm_orders.specs.declared.orders.Order.{Order}
use Rattle.farm_orders.specs.declared.orders.Order.TheVariants.{Rebuild, Close}
use Rattle.farm_orders.specs.Orders.{before_close, HasClose}
use Rattle.farm_threads.specs.Merge.{AreOpen, CloseEndsAll, HaveClose, IsWhole, PiecesJoin, joined, of_feed}

-- ---- one feed

close_first : (list : List Order) → HasClose (Close ∷ list)
close_first list = (0, omega arith, refl)

close_later : (o : Order) (list : List Order) → HasClose list → HasClose (o ∷ list)
close_later o list has = (suc has.0, (let within = has.1 in omega (arith, within)), has.2)

close_behind : (r : Asked) (list : List Order) → HasClose (Rebuild r ∷ list) → HasClose list
close_behind r list has = at has.0 has.1 has.2
  where
    at : (k : ℕ) → k < length (Rebuild r ∷ list) → get_or (Rebuild r ∷ list) k Close ≡ Close → HasClose list
    at zero within is = cc
    at (suc k) within is = (k, omega (arith, within), is)

no_close : HasClose [] → ⊥
no_close has = let within = has.1 in omega (arith, within)

-- after a list without a close the requests go on
pub open_append : (list more : List Order) → (HasClose list → ⊥) → before_close (list ++ more) ≡ before_close list ++ before_close more
open_append [] more not = refl
open_append (Close ∷ list) more not = absurd (not (close_first list))
open_append (Rebuild r ∷ list) more not = ap (λ (t : List Asked). r ∷ t)
    (open_append list more (λ has. not (close_later (Rebuild r) list has)))

-- after a close they don't
pub closed_append : (list more : List Order) → HasClose list → before_close (list ++ more) ≡ before_close list
closed_append [] more has = absurd (no_close has)
closed_append (Close ∷ list) more has = refl
closed_append (Rebuild r ∷ list) more has = ap (λ (t : List Asked). r ∷ t) (closed_append list more (close_behind r list has))

pub close_stays : (list more : List Order) → HasClose list → HasClose (list ++ more)
close_stays [] more has = absurd (no_close has)
close_stays (Close ∷ list) more has = close_first (list ++ more)
close_stays (Rebuild r ∷ list) more has = close_later (Rebuild r) (list ++ more) (close_stays list more (close_behind r list has))

pub close_comes : (list more : List Order) → HasClose more → HasClose (list ++ more)
close_comes [] more has = has
close_comes (o ∷ list) more has = close_later o (list ++ more) (close_comes list more has)

pub stays_open : (list more : List Order) → (HasClose list → ⊥) → (HasClose more → ⊥) → HasClose (list ++ more) → ⊥
stays_open [] more first last has = last has
stays_open (Close ∷ list) more first last has = first (close_first list)
stays_open (Rebuild r ∷ list) more first last has = stays_open list more (λ h. first (close_later (Rebuild r) list h)) last
    (close_behind r (list ++ more) has)

pub closes_or_not : (list : List Order) → HasClose list ⊎ (HasClose list → ⊥)
closes_or_not [] = inr no_close
closes_or_not (Close ∷ list) = inl (close_first list)
closes_or_not (Rebuild r ∷ list) = elim (closes_or_not list) [
  | inl has ↦ inl (close_later (Rebuild r) list has)
  | inr not ↦ inr (λ has. not (close_behind r list has))
]

-- the first requests of a list stay so with what is after it
front_stays : (list more : List Order) (k : ℕ) → k ≤ length (before_close list)
    → take k (before_close (list ++ more)) ≡ take k (before_close list)
front_stays list more k within = elim (closes_or_not list) [
  | inl has ↦ ap (take k) (closed_append list more has)
  | inr not ↦ ap (take k) (open_append list more not) ∙ take-append-le k (before_close list) (before_close more) within
]

-- the front of two lists that has the first whole
front : (xs ys : List Asked) (n m : ℕ) → m ≡ length xs + n → take m (xs ++ ys) ≡ xs ++ take n ys
front [] ys n m is = let same : m ≡ n = omega (arith, is) in ap (λ (k : ℕ). take k ys) same
front (x ∷ xs) ys n zero is = absurd (omega (arith, is))
front (x ∷ xs) ys n (suc m) is = ap (λ (t : List Asked). x ∷ t) (front xs ys n m (omega (arith, is)))

-- ---- the requests of a feed in two merges

pub of_feed_append : (feed : ℕ) (merge more : List (ℕ × Asked)) → of_feed feed (merge ++ more) ≡ of_feed feed merge ++ of_feed feed more
of_feed_append feed [] more = refl
of_feed_append feed (x ∷ merge) more = by (x.0 == feed) (of_feed feed (merge ++ more)) (of_feed feed merge) (of_feed_append feed merge more)
  where
    by : (b : Bool) (both first : List Asked) → both ≡ first ++ of_feed feed more
        → cond b (x.1 ∷ both) both ≡ cond b (x.1 ∷ first) first ++ of_feed feed more
    by true both first is = ap (λ (t : List Asked). x.1 ∷ t) is
    by false both first is = is

-- ---- the feeds of a rack

module _ {A : Type 0} where
  pub joined_length : (lists further : List (List A)) → length (joined lists further) ≡ length lists
  joined_length [] further = refl
  joined_length (xs ∷ lists) [] = refl
  joined_length (xs ∷ lists) (ys ∷ further) = ap suc (joined_length lists further)

  -- a list of two, and what it is of
  pub joined_from : (lists further : List (List A)) (k : ℕ) (l : List A) → length lists ≡ length further
      → get_elem? (joined lists further) k ≡ some l
      → (xs : List A) × (ys : List A) × (get_elem? lists k ≡ some xs) × (get_elem? further k ≡ some ys) × (xs ++ ys ≡ l)
  joined_from [] further k l same at = absurd (some-ne-none l (sym at))
  joined_from (xs ∷ lists) [] k l same at = absurd (omega arith)
  joined_from (xs ∷ lists) (ys ∷ further) zero l same at = (xs, ys, refl, refl, some-injective _ _ at)
  joined_from (xs ∷ lists) (ys ∷ further) (suc k) l same at = joined_from lists further k l (omega arith) at

  -- a list, and what it becomes
  pub joined_at : (lists further : List (List A)) (k : ℕ) (xs : List A) → get_elem? lists k ≡ some xs → (ys : List A)
      × (get_elem? (joined lists further) k ≡ some (xs ++ ys))
  joined_at [] further k xs at = absurd (some-ne-none xs (sym at))
  joined_at (x ∷ lists) [] k xs at = ([], at ∙ ap some (sym (nothing xs)))
    where
      nothing : (zs : List A) → zs ++ [] ≡ zs
      nothing [] = refl
      nothing (z ∷ zs) = ap (λ t. z ∷ t) (nothing zs)
  joined_at (x ∷ lists) (y ∷ further) zero xs at = (y, ap (λ t. some (t ++ y)) (some-injective _ _ at))
  joined_at (x ∷ lists) (y ∷ further) (suc k) xs at = joined_at lists further k xs at

  pub joined_back : (lists further : List (List A)) (k : ℕ) (ys : List A) → length lists ≡ length further → get_elem? further k ≡ some ys
      → (xs : List A) × (get_elem? (joined lists further) k ≡ some (xs ++ ys))
  joined_back lists [] k ys same at = absurd (some-ne-none ys (sym at))
  joined_back [] (y ∷ further) k ys same at = absurd (omega arith)
  joined_back (x ∷ lists) (y ∷ further) zero ys same at = (x, ap (λ t. some (x ++ t)) (some-injective _ _ at))
  joined_back (x ∷ lists) (y ∷ further) (suc k) ys same at = joined_back lists further k ys (omega arith) at

-- a close stays, and comes
pub have_stays : (feeds further : List (List Order)) → HaveClose feeds → HaveClose (joined feeds further)
have_stays feeds further has =
    let at = joined_at feeds further has.0 has.1 has.2 in
    (has.0, has.1 ++ at.0, at.1, close_stays has.1 at.0 has.3)

pub have_comes : (feeds further : List (List Order)) → length feeds ≡ length further → HaveClose further → HaveClose (joined feeds further)
have_comes feeds further same has =
    let at = joined_back feeds further has.0 has.1 same has.2 in
    (has.0, at.0 ++ has.1, at.1, close_comes at.0 has.1 has.3)

pub are_open : (feeds further : List (List Order)) → length feeds ≡ length further → AreOpen feeds → AreOpen further
    → AreOpen (joined feeds further)
are_open feeds further same first last k l at has =
    let from = joined_from feeds further k l same at in
    stays_open from.0 from.1 (first k from.0 from.2) (last k from.1 from.3) (subst HasClose (sym from.4) has)

-- ---- the laws

pub pieces_join : PiecesJoin
pieces_join feeds further merge more same opened first last = record {
  known = known;
  prefixes = λ f l at.
      let from = joined_from feeds further f l same at in
      subst (λ (x : List Order). of_feed f (merge ++ more) ≡ take (length (of_feed f (merge ++ more))) (before_close x)) from.4
      (prefix f from.0 from.1 from.2 from.3);
  ended = ⊎_elim
      (λ (never : (f : ℕ) (l : List Order) → get_elem? further f ≡ some l → (HasClose l → ⊥) × IsWhole more f l).
      inl (λ f l at.
      let from = joined_from feeds further f l same at in
      subst (λ (x : List Order). (HasClose x → ⊥) × IsWhole (merge ++ more) f x) from.4 (
        stays_open from.0 from.1 (opened f from.0 from.2) (never f from.1 from.3).0,
        both f from.0 from.1 from.2 (never f from.1 from.3).1,
      )))
      (λ (shut : (f : ℕ) × (l : List Order) × (get_elem? further f ≡ some l) × HasClose l × IsWhole more f l).
      let at = joined_back feeds further shut.0 shut.1 same shut.2 in
      let from = joined_from feeds further shut.0 (at.0 ++ shut.1) same at.1 in
      let is : from.1 ≡ shut.1 = some-injective _ _ (sym from.3 ∙ shut.2) in
      inr (
        shut.0,
        from.0 ++ shut.1,
        at.1 ∙ ap some (sym from.4 ∙ ap (λ (t : List Order). from.0 ++ t) is),
        close_comes from.0 shut.1 shut.3,
        both shut.0 from.0 shut.1 from.2 shut.4,
      ))
      last.ended;
}
  where
    whole : (f : ℕ) (l : List Order) → get_elem? feeds f ≡ some l → of_feed f merge ≡ before_close l
    whole f l at = ⊎_elim
        (λ (never : (f : ℕ) (l : List Order) → get_elem? feeds f ≡ some l → (HasClose l → ⊥) × IsWhole merge f l). (never f l at).1)
        (λ (shut : (f : ℕ) × (l : List Order) × (get_elem? feeds f ≡ some l) × HasClose l × IsWhole merge f l). absurd
        (opened shut.0 shut.1 shut.2 shut.3))
        first.ended

    both : (f : ℕ) (l r : List Order) → get_elem? feeds f ≡ some l → of_feed f more ≡ before_close r
        → of_feed f (merge ++ more) ≡ before_close (l ++ r)
    both f l r at is =
        of_feed_append f merge more
        ∙ ap (λ (t : List Asked). t ++ of_feed f more) (whole f l at)
        ∙ ap (λ (t : List Asked). before_close l ++ t) is
        ∙ sym (open_append l r (opened f l at))

    prefix : (f : ℕ) (l r : List Order) → get_elem? feeds f ≡ some l → get_elem? further f ≡ some r
        → of_feed f (merge ++ more) ≡ take (length (of_feed f (merge ++ more))) (before_close (l ++ r))
    prefix f l r at at_r =
        let k : ℕ = length (of_feed f more) in
        let parts : of_feed f (merge ++ more) ≡ before_close l ++ of_feed f more =
        of_feed_append f merge more ∙ ap (λ (t : List Asked). t ++ of_feed f more) (whole f l at) in
        let size : length (of_feed f (merge ++ more)) ≡ length (before_close l) + k =
        ap (λ (t : List Asked). length t) parts ∙ length-append (before_close l) (of_feed f more) in
        parts
        ∙ ap (λ (t : List Asked). before_close l ++ t) (last.prefixes f r at_r)
        ∙ sym (front (before_close l) (before_close r) k (length (of_feed f (merge ++ more))) size)
        ∙ ap (take (length (of_feed f (merge ++ more)))) (sym (open_append l r (opened f l at)))

    known : All (λ x. x.0 < length (joined feeds further)) (merge ++ more)
    known = subst (λ (n : ℕ). All (λ x. x.0 < n) (merge ++ more)) (sym (joined_length feeds further))
        (all_both merge more first.known (subst (λ (n : ℕ). All (λ x. x.0 < n) more) (sym same) last.known))
      where
        all_both : (xs ys : List (ℕ × Asked)) → All (λ x. x.0 < length feeds) xs → All (λ x. x.0 < length feeds) ys
            → All (λ x. x.0 < length feeds) (xs ++ ys)
        all_both [] ys a b k d within = b k d within
        all_both (x ∷ xs) ys a b zero d within = a 0 d (omega arith)
        all_both (x ∷ xs) ys a b (suc k) d within = all_both xs ys (λ i e low. a (suc i) e (omega (arith, low))) b k d
            (omega (arith, within))

pub close_ends_all : CloseEndsAll
close_ends_all feeds further merge has first = record {
  known = subst (λ (n : ℕ). All (λ x. x.0 < n) merge) (sym (joined_length feeds further)) first.known;
  prefixes = λ f l at.
      let low : f < length feeds = (let a = at_below (joined feeds further) f l at in
      let b = joined_length feeds further in omega (arith, a, b)) in
      let there = member feeds f low in
      let becomes = joined_at feeds further f there.0 there.1 in
      let is : there.0 ++ becomes.0 ≡ l = some-injective _ _ (sym becomes.1 ∙ at) in
      subst (λ (x : List Order). of_feed f merge ≡ take (length (of_feed f merge)) (before_close x)) is
      (prefix f there.0 becomes.0 there.1);
  ended = ⊎_elim
      (λ (never : (f : ℕ) (l : List Order) → get_elem? feeds f ≡ some l → (HasClose l → ⊥) × IsWhole merge f l). absurd
      ((never has.0 has.1 has.2).0 has.3))
      (λ (shut : (f : ℕ) × (l : List Order) × (get_elem? feeds f ≡ some l) × HasClose l × IsWhole merge f l).
      let becomes = joined_at feeds further shut.0 shut.1 shut.2 in
      inr (
        shut.0,
        shut.1 ++ becomes.0,
        becomes.1,
        close_stays shut.1 becomes.0 shut.3,
        shut.4
            ∙ sym (closed_append shut.1 becomes.0 shut.3),
      ))
      first.ended;
}
  where
    member : (xs : List (List Order)) (f : ℕ) → f < length xs → (l : List Order) × (get_elem? xs f ≡ some l)
    member [] f low = absurd (omega arith)
    member (x ∷ xs) zero low = (x, refl)
    member (x ∷ xs) (suc f) low = member xs f (omega arith)

    prefix : (f : ℕ) (l r : List Order) → get_elem? feeds f ≡ some l
        → of_feed f merge ≡ take (length (of_feed f merge)) (before_close (l ++ r))
    prefix f l r at =
        let is = first.prefixes f l at in
        let size = ap (λ (t : List Asked). length t) is in
        let few : length (of_feed f merge) ≤ length (before_close l) =
        omega (arith, size, length-take (length (of_feed f merge)) (before_close l)) in
        is ∙ sym (front_stays l r (length (of_feed f merge)) few)
