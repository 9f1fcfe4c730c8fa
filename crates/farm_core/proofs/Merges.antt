use Rattle.farm_orders.proofs.Members.{there}
-- What was drawn makes a lawful merge.
use Rattle.std.proofs.Common.{◌≡◌, ◌≢◌, ℕ, zero, suc, ◌+◌, ◌<◌, ◌≤◌, List, [], ◌∷◌, length, take, map, true, false, refl, sym, ap, ◌∙◌}
use Rattle.std.proofs.Common.{subst, inl, inr, ⊎_elim, arith, nat_lt, cond}
use Rattle.std.specs.List.{All, AllZip}
use Rattle.std.proofs.lemmas.Bool.{cases_eq, cases_lt}
use Rattle.std.proofs.lemmas.Bool.Decides.{nat_tests}
use mathlib.Core.Option.{some, some-ne-none, some-injective}
use lib.ListN.{get_elem?}
use Rattle.lrc_code.specs.declared.outcomes.Outcome.{Outcome}
use Rattle.lrc_code.specs.Requests.{Asked}
use Rattle.list_members.proofs.Lists.{at_below, at_map}
use Rattle.farm_lanes.proofs.Numbers.{times-cons, test_one, once_le, once_lt, same_test, other_test}
use Rattle.farm_lanes.proofs.Sums.{total_two, total_part}
use Rattle.farm_lanes.specs.Counting.{times}
use Rattle.farm_orders.specs.declared.orders.Order.{Order}
use Rattle.farm_orders.specs.Orders.{before_close, HasClose}
use Rattle.farm_threads.specs.Feed.{AreRising, Draws, drawn_numbers, drawn_requests, DrewAll, AreDrawn, IsDrawnBy}
use Rattle.farm_threads.specs.Expected.{AreAnswers}
use Rattle.farm_threads.specs.Merge.{of_feed, IsWhole, IsLawfulMerge, IsFedAnswer, MergeOfOneIsIt, AnswersOfOneAreIts}

lt_true : (x s : ℕ) → x < s → nat_lt x s ≡ true
lt_true x s low = grind (arith, nat_tests)

lt_false : (x s : ℕ) → s ≤ x → nat_lt x s ≡ false
lt_false x s high = grind (arith, nat_tests)

-- the requests whose numbers are s or more
abbrev from : ℕ → Draws → List Asked
from s [] = []
from s (x ∷ xs) = cond (nat_lt x.0 s) (from s xs) (x.1 ∷ from s xs)

from_low : (s : ℕ) (x : ℕ × Asked) (xs : Draws) → x.0 < s → from s (x ∷ xs) ≡ from s xs
from_low s x xs low = ap (λ b. cond b (from s xs) (x.1 ∷ from s xs)) (lt_true x.0 s low)

from_high : (s : ℕ) (x : ℕ × Asked) (xs : Draws) → s ≤ x.0 → from s (x ∷ xs) ≡ x.1 ∷ from s xs
from_high s x xs high = ap (λ b. cond b (from s xs) (x.1 ∷ from s xs)) (lt_false x.0 s high)

from_all : (xs : Draws) → from 0 xs ≡ drawn_requests xs
from_all [] = refl
from_all (x ∷ xs) = from_high 0 x xs (omega arith) ∙ ap (λ l. x.1 ∷ l) (from_all xs)

from_none : (s : ℕ) (xs : Draws) → ((i : ℕ) (x : ℕ × Asked) → get_elem? xs i ≡ some x → x.0 < s) → from s xs ≡ []
from_none s [] low = refl
from_none s (x ∷ xs) low = from_low s x xs (low 0 x refl) ∙ from_none s xs (λ i. low (suc i))

-- a number that isn't there
from_absent : (s : ℕ) (xs : Draws) → ((i : ℕ) (x : ℕ × Asked) → get_elem? xs i ≡ some x → x.0 ≢ s) → from s xs ≡ from (suc s) xs
from_absent s [] out = refl
from_absent s (x ∷ xs) out =
    let rest = from_absent s xs (λ i. out (suc i)) in
    elim (cases_lt x.0 s) [
      | inl low ↦ from_low s x xs low ∙ (rest ∙ sym (from_low (suc s) x xs (omega arith)))
      | inr high ↦
          (let apart = out 0 x refl in
          elim (cases_lt s x.0) [
            | inl over ↦ from_high s x xs high ∙ (ap (λ l. x.1 ∷ l) rest ∙ sym (from_high (suc s) x xs (omega arith)))
            | inr under ↦ absurd (apart (omega arith))
          ])
    ]

rising_tail : (x : ℕ × Asked) (xs : Draws) → AreRising (drawn_numbers (x ∷ xs)) → AreRising (drawn_numbers xs)
rising_tail x xs rises j k a b low at_j at_k = rises (suc j) (suc k) a b (omega arith) at_j at_k

rising_head : (x : ℕ × Asked) (xs : Draws) → AreRising (drawn_numbers (x ∷ xs)) → (i : ℕ) (y : ℕ × Asked) → get_elem? xs i ≡ some y
    → x.0 < y.0
rising_head x xs rises i y at = rises 0 (suc i) x.0 y.0 (omega arith) refl (at_map (λ (p : ℕ × Asked). p.0) xs i y at)

-- a number that is there
from_here : (s : ℕ) (q : Asked) (xs : Draws) (i : ℕ) → AreRising (drawn_numbers xs) → get_elem? xs i ≡ some (s, q)
    → from s xs ≡ q ∷ from (suc s) xs
from_here s q [] i rises at = absurd (some-ne-none (s, q) (sym at))
from_here s q (x ∷ xs) zero rises at =
    let same : x ≡ (s, q) = some-injective _ _ at in
    let number : x.0 ≡ s = ap (λ (p : ℕ × Asked). p.0) same in
    from_high s x xs (omega arith)
    ∙ (ap (λ (p : ℕ × Asked). p.1 ∷ from s xs) same
    ∙ (ap (λ l. q ∷ l) (from_absent s xs (λ i y here same_y. let over = rising_head x xs rises i y here in absurd (omega arith)))
    ∙ ap (λ l. q ∷ l) (sym (from_low (suc s) x xs (omega arith)))))
from_here s q (x ∷ xs) (suc i) rises at =
    let low : x.0 < s = rising_head x xs rises i (s, q) at in
    from_low s x xs low ∙ (from_here s q xs i (rising_tail x xs rises) at ∙ ap (λ l. q ∷ l) (sym (from_low (suc s) x xs (omega arith))))

-- a number that is there counts
times_there : (x : ℕ × Asked) (xs : Draws) (i : ℕ) → get_elem? xs i ≡ some x → 0 < times x.0 (drawn_numbers xs)
times_there x [] i at = absurd (some-ne-none x (sym at))
times_there x (y ∷ ys) zero at =
    let same = ap (λ (p : ℕ × Asked). p.0) (some-injective y x at) in
    let a = times-cons x.0 y.0 (drawn_numbers ys) in let b = test_one x.0 y.0 same in omega arith
times_there x (y ∷ ys) (suc i) at =
    let a = times-cons x.0 y.0 (drawn_numbers ys) in let b = times_there x ys i at in omega arith

module _ (feeds : List (List Order)) (n : ℕ) (drawn : List Draws) (are : AreDrawn feeds n drawn) where
  -- two feeds don't draw the same number
  apart : (f g : ℕ) (xs ys : Draws) → f ≢ g → get_elem? drawn f ≡ some xs → get_elem? drawn g ≡ some ys → (x y : ℕ × Asked) (i j : ℕ)
      → get_elem? xs i ≡ some x → get_elem? ys j ≡ some y → x.0 ≢ y.0
  apart f g xs ys other at_f at_g x y i j here_x here_y same =
      let a = times_there x xs i here_x in
      let b : 0 < times x.0 (drawn_numbers ys) = subst (λ m. 0 < times m (drawn_numbers ys)) (sym same) (times_there y ys j here_y) in
      let c = total_two (λ (draws : Draws). times x.0 (drawn_numbers draws)) drawn g f ys xs other at_g at_f in
      let d = are.once x.0 in
      let e = once_le x.0 n in
      absurd (omega arith)

  all_low : (f : ℕ) (xs : Draws) → get_elem? drawn f ≡ some xs → (i : ℕ) (x : ℕ × Asked) → get_elem? xs i ≡ some x → x.0 < n
  all_low f xs at i x here =
      let a = times_there x xs i here in
      let b = total_part (λ (draws : Draws). times x.0 (drawn_numbers draws)) drawn f xs at in
      let c = are.once x.0 in
      once_lt x.0 n (omega arith)

  -- what the rest of a merge has of a feed is what that feed drew from there on
  rest_of : (f : ℕ) (xs : Draws) → get_elem? drawn f ≡ some xs → (merge : List (ℕ × Asked)) (s : ℕ) → s + length merge ≡ n
      → ((k : ℕ) (x : ℕ × Asked) → get_elem? merge k ≡ some x → IsDrawnBy drawn x.0 (s + k) x.1) → of_feed f merge ≡ from s xs
  rest_of f xs at [] s long by = sym (from_none s xs (λ i x here. let low = all_low f xs at i x here in omega arith))
  rest_of f xs at (x ∷ merge) s long by =
      let now = by 0 x refl in
      let rest = rest_of f xs at merge (suc s) (omega arith)
      (λ k y here. subst (λ m. IsDrawnBy drawn y.0 m y.1) (let e : s + suc k ≡ suc s + k = omega arith in e) (by (suc k) y here)) in
      elim (cases_eq x.0 f) [
        | inl same ↦
            (let ys_are : some now.0 ≡ some xs = sym now.2 ∙ (ap (λ g. get_elem? drawn g) same ∙ at) in
            let there : get_elem? xs now.1 ≡ some (s, x.1) =
            subst (λ (l : Draws). get_elem? l now.1 ≡ some (s, x.1)) (some-injective _ _ ys_are)
            (subst (λ m. get_elem? now.0 now.1 ≡ some (m, x.1)) (let e : s + 0 ≡ s = omega arith in e) now.3) in
            ap (λ b. cond b (x.1 ∷ of_feed f merge) (of_feed f merge)) (same_test f x.0 same)
            ∙ (ap (λ l. x.1 ∷ l) rest ∙ sym (from_here s x.1 xs now.1 (are.rising f xs at) there)))
        | inr other ↦
            (let out : (i : ℕ) (y : ℕ × Asked) → get_elem? xs i ≡ some y → y.0 ≢ s =
            (λ i y here same. apart f x.0 xs now.0 (λ e. other (sym e)) at now.2 y (s + 0, x.1) i now.1 here now.3 (omega arith)) in
            ap (λ b. cond b (x.1 ∷ of_feed f merge) (of_feed f merge)) (other_test f x.0 other)
            ∙ (rest ∙ sym (from_absent s xs out)))
      ]

  from_zero : (merge : List (ℕ × Asked)) → ((k : ℕ) (x : ℕ × Asked) → get_elem? merge k ≡ some x → IsDrawnBy drawn x.0 k x.1)
      → (k : ℕ) (x : ℕ × Asked) → get_elem? merge k ≡ some x → IsDrawnBy drawn x.0 (0 + k) x.1
  from_zero merge by k x here = subst (λ m. IsDrawnBy drawn x.0 m x.1) (let e : k ≡ 0 + k = omega arith in e) (by k x here)

  -- the merge has of each feed what it drew for
  pub feed_is : (f : ℕ) (xs : Draws) → get_elem? drawn f ≡ some xs → (merge : List (ℕ × Asked)) → length merge ≡ n
      → ((k : ℕ) (x : ℕ × Asked) → get_elem? merge k ≡ some x → IsDrawnBy drawn x.0 k x.1) → of_feed f merge ≡ drawn_requests xs
  feed_is f xs at merge long by = rest_of f xs at merge 0 (omega arith) (from_zero merge by) ∙ from_all xs

  -- what was drawn, in the order of its numbers, is a lawful merge
  pub drawn_is_lawful : (merge : List (ℕ × Asked)) → length merge ≡ n
      → ((k : ℕ) (x : ℕ × Asked) → get_elem? merge k ≡ some x → IsDrawnBy drawn x.0 k x.1) → IsLawfulMerge feeds merge
  drawn_is_lawful merge long by = record {
    known = known_at merge 0 (from_zero merge by);
    prefixes = λ f list at.
        let xs = there drawn f (let a = at_below feeds f list at in let b = are.count in omega arith) in
        let is = feed_is f xs.0 xs.1 merge long by in
        let count : length (of_feed f merge) ≡ length xs.0 = ap (λ (l : List Asked). length l) is ∙ mapped xs.0 in
        is ∙ (are.prefixes f list xs.0 at xs.1 ∙ ap (λ m. take m (before_close list)) (sym count));
    ended = ⊎_elim
        (λ (never : (f : ℕ) (list : List Order) (draws : Draws) → get_elem? feeds f ≡ some list → get_elem? drawn f ≡ some draws
        → ¬ HasClose list × DrewAll draws list).
        inl (λ f list at.
        let xs = there drawn f (let a = at_below feeds f list at in let b = are.count in omega arith) in
        let here = never f list xs.0 at xs.1 in
        (here.0, feed_is f xs.0 xs.1 merge long by ∙ here.1)))
        (λ (shut : (f : ℕ) × (list : List Order) × (draws : Draws) × (get_elem? feeds f ≡ some list) × (get_elem? drawn f ≡ some draws)
        × HasClose list × DrewAll draws list).
        inr (shut.0, shut.1, shut.3, shut.5, feed_is shut.0 shut.2 shut.4 merge long by ∙ shut.6))
        are.ended;
  }
    where
      mapped : (l : Draws) → length (drawn_requests l) ≡ length l
      mapped [] = refl
      mapped (x ∷ l) = ap suc (mapped l)

      known_at : (l : List (ℕ × Asked)) (s : ℕ) → ((k : ℕ) (x : ℕ × Asked) → get_elem? l k ≡ some x → IsDrawnBy drawn x.0 (s + k) x.1)
          → All (λ x. x.0 < length feeds) l
      known_at [] s all k d low = absurd (omega arith)
      known_at (x ∷ l) s all zero d low = let one = (all 0 x refl).2 in let a = at_below drawn x.0 (all 0 x refl).0 one in
          let b = are.count in omega arith
      known_at (x ∷ l) s all (suc k) d low = known_at l (suc s)
          (λ j y at. subst (λ m. IsDrawnBy drawn y.0 m y.1) (let e : s + suc j ≡ suc s + j = omega arith in e) (all (suc j) y at)) k d
          (omega arith)

-- all members of one feed
of_one : (merge : List (ℕ × Asked)) → All (λ x. x.0 < 1) merge → of_feed 0 merge ≡ map (λ x. x.1) merge
of_one [] all = refl
of_one (x ∷ merge) all =
    let first : x.0 ≡ 0 = (let l = all 0 x (omega arith) in omega arith) in
    ap (λ b. cond b (x.1 ∷ of_feed 0 merge) (of_feed 0 merge)) (same_test 0 x.0 first)
    ∙ ap (λ l. x.1 ∷ l) (of_one merge (λ k d low. all (suc k) d (omega arith)))

pub merge_of_one : MergeOfOneIsIt
merge_of_one list merge lawful =
    sym (of_one merge lawful.known)
    ∙ ⊎_elim (λ never. (never 0 list refl).1) (λ shut. one shut.0 shut.1 shut.2 shut.4) lawful.ended
  where
    one : (f : ℕ) (l : List Order) → get_elem? (list ∷ []) f ≡ some l → IsWhole merge f l → of_feed 0 merge ≡ before_close list
    one zero l at whole = whole ∙ ap before_close (sym (some-injective _ _ at))
    one (suc f) l at whole = absurd (some-ne-none l (sym at))

zip_of_one : (merge : List (ℕ × Asked)) (answers : List (ℕ × Outcome)) → AllZip IsFedAnswer merge answers
    → AreAnswers (map (λ x. x.1) merge) (map (λ x. x.1) answers)
zip_of_one [] [] all = tt
zip_of_one [] (a ∷ more) all = absurd all
zip_of_one (x ∷ xs) [] all = absurd all
zip_of_one (x ∷ xs) (a ∷ more) all = (all.0.1, zip_of_one xs more all.1)

pub answers_of_one : AnswersOfOneAreIts
answers_of_one list answers merged = subst (λ (l : List Asked). AreAnswers l (map (λ x. x.1) answers)) (merge_of_one list merged.0 merged.1)
    (zip_of_one merged.0 answers merged.2)
