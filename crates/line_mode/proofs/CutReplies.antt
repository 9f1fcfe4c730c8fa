-- A text that is cut after a line feed: its lines, and the replies to them.
use Rattle.std.proofs.Common.{◌≡◌, ◌∙◌, ◌==◌, ◌+◌, ◌<◌, ℕ, Bool, true, false, List, [], ◌∷◌, ◌++◌, length, map, take, drop, get_or, cond}
use Rattle.std.proofs.Common.{refl, sym, subst, ap, arith, position, Some, ◌-◌}
use Rattle.std.specs.List.{AllZip, filter, onto_first, slice_split}
use Rattle.std.specs.Str.Lines.{lines, lines_of_parts, strip_carriage_return}
use Rattle.std.proofs.lemmas.Bool.{eqb-true}
use Rattle.std.proofs.lemmas.List.{append-nil, drop_more, get_or-drop, length-drop, take-append-drop, take_more}
use Rattle.std.proofs.lemmas.List.Elements.{filter-append}
use Rattle.std.proofs.lemmas.List.Sums.{passes_at_first}
use Rattle.std.proofs.lemmas.List.Splits.{slice_split-cons_no, slice_split-cons_yes}
use Rattle.line_mode.specs.LineMode.{AreReplies, is_nonblank}
use Rattle.line_mode.specs.LineReply.{IsReply, LineReply}
use Rattle.line_mode.specs.Replies.{IsCut}
use Rattle.line_mode.proofs.Cuts.{from_position}

module _ (p : ℕ → Bool) where
  -- a text has a first part
  first_part : (xs : List ℕ) → (y : List ℕ) × (more : List (List ℕ)) × (slice_split p xs ≡ y ∷ more)
  first_part [] = ([], [], refl)
  first_part (x ∷ xs) = elim (p x) as (λ b. (y : List ℕ) × (more : List (List ℕ))
      × (cond b ([] ∷ slice_split p xs) (onto_first x (slice_split p xs)) ≡ y ∷ more)) [
        | true ↦ ([], slice_split p xs, refl)
        | false ↦ let (y, more, e) = first_part xs in (x ∷ y, more, ap (onto_first x) e)
      ]

  onto_first-append : (x : ℕ) (y : List ℕ) (a b parts : List (List ℕ)) → parts ≡ y ∷ a → onto_first x (parts ++ b) ≡ onto_first x parts ++ b
  onto_first-append x y a b parts e = rw e refl

  -- the parts of a text that is cut at an element that passes
  parts_cut : (xs : List ℕ) (y : ℕ) (ys : List ℕ) → p y ≡ true → slice_split p (xs ++ y ∷ ys) ≡ slice_split p xs ++ slice_split p ys
  parts_cut [] y ys e = slice_split-cons_yes p y ys e
  parts_cut (x ∷ xs) y ys e = by (p x) refl (parts_cut xs y ys e)
    where
      by : (b : Bool) → p x ≡ b → slice_split p (xs ++ y ∷ ys) ≡ slice_split p xs ++ slice_split p ys
          → slice_split p (x ∷ (xs ++ y ∷ ys)) ≡ slice_split p (x ∷ xs) ++ slice_split p ys
      by true is more = slice_split-cons_yes p x (xs ++ y ∷ ys) is ∙ ap (λ (ps : List (List ℕ)). [] ∷ ps) more
          ∙ ap (λ (ps : List (List ℕ)). ps ++ slice_split p ys) (sym (slice_split-cons_yes p x xs is))
      by false is more =
          let (z, zs, first) = first_part xs in
          slice_split-cons_no p x (xs ++ y ∷ ys) is ∙ ap (onto_first x) more
          ∙ onto_first-append x z zs (slice_split p ys) (slice_split p xs) first
          ∙ ap (λ (ps : List (List ℕ)). ps ++ slice_split p ys) (sym (slice_split-cons_no p x xs is))

lines_of_both : (a : List (List ℕ)) (y : List ℕ) (b : List (List ℕ))
    → lines_of_parts (a ++ y ∷ b) ≡ map strip_carriage_return a ++ lines_of_parts (y ∷ b)
lines_of_both [] y b = refl
lines_of_both (x ∷ []) y b = refl
lines_of_both (x ∷ z ∷ a) y b = ap (λ (ls : List (List ℕ)). strip_carriage_return x ∷ ls) (lines_of_both (z ∷ a) y b)

-- the lines before a line feed, and those after it
pub lines_cut : (xs ys : List ℕ) → lines (xs ++ 10 ∷ ys) ≡ lines (xs ++ 10 ∷ []) ++ lines ys
lines_cut xs ys =
    let test : ℕ → Bool = λ b. b == 10 in
    let (y, more, first) = first_part test ys in
    let front : lines (xs ++ 10 ∷ []) ≡ map strip_carriage_return (slice_split test xs) =
    ap lines_of_parts (parts_cut test xs 10 [] refl) ∙ lines_of_both (slice_split test xs) [] []
    ∙ append-nil (map strip_carriage_return (slice_split test xs)) in
    ap lines_of_parts (parts_cut test xs 10 ys refl ∙ ap (λ (ps : List (List ℕ)). slice_split test xs ++ ps) first)
    ∙ lines_of_both (slice_split test xs) y more
    ∙ ap (λ (ls : List (List ℕ)). ls ++ lines_of_parts (y ∷ more)) (sym front)
    ∙ ap (λ (ps : List (List ℕ)). lines (xs ++ 10 ∷ []) ++ lines_of_parts ps) (sym first)

module _ {A B : Type 0} (R : A → B → Type 0) where
  AllZip-append : (ps : List A) (qs : List B) (xs : List A) (ys : List B) → AllZip R ps qs → AllZip R xs ys → AllZip R (ps ++ xs) (qs ++ ys)
  AllZip-append [] [] xs ys h k = k
  AllZip-append [] (q ∷ qs) xs ys h k = absurd h
  AllZip-append (p ∷ ps) [] xs ys h k = absurd h
  AllZip-append (p ∷ ps) (q ∷ qs) xs ys h k = (h.0, AllZip-append ps qs xs ys h.1 k)

-- the replies to both pieces of a text that is cut after a line feed
pub replies_cut : (xs ys : List ℕ) (a b : List LineReply) → AreReplies (xs ++ 10 ∷ []) a → AreReplies ys b
    → AreReplies (xs ++ 10 ∷ ys) (a ++ b)
replies_cut xs ys a b front back =
    let pieces : filter is_nonblank (lines (xs ++ 10 ∷ ys)) ≡ filter is_nonblank (lines (xs ++ 10 ∷ [])) ++ filter is_nonblank (lines ys) =
    ap (filter is_nonblank) (lines_cut xs ys) ∙ filter-append is_nonblank (lines (xs ++ 10 ∷ [])) (lines ys) in
    rw pieces (AllZip-append IsReply (filter is_nonblank (lines (xs ++ 10 ∷ []))) a (filter is_nonblank (lines ys)) b front back)

-- the end of the first line that ends in the rest of a text
pub cut_at : (xs : List ℕ) (half end : ℕ) → position (λ b. b == 10) (drop half xs) ≡ Some end → IsCut xs (half + end + 1)
cut_at xs half end e =
    let test : ℕ → Bool = λ b. b == 10 in
    let (at, within) = from_position test (drop half xs) end e in
    let passes : test (get_or (drop half xs) end 0) ≡ true = rw at at (passes_at_first test (drop half xs) 0 (rw at within)) in
    let same : half + end + 1 - 1 ≡ half + end = omega arith in
    record {
      some = omega arith;
      within = omega (arith, within, length-drop half xs);
      feed = ap (λ k. get_or xs k 0) same ∙ sym (get_or-drop half xs end 0) ∙ eqb-true _ _ passes;
    }

-- the replies to both pieces of an input
pub replies_joined : (input : List ℕ) (cut : ℕ) (a b : List LineReply) → IsCut input cut → AreReplies (take cut input) a
    → AreReplies (drop cut input) b → AreReplies input (a ++ b)
replies_joined input cut a b is front back =
    let n : ℕ = cut - 1 in
    let next : cut ≡ n + 1 = omega (arith, is.some) in
    let within : n < length input = omega (arith, is.some, is.within) in
    let first : take cut input ≡ take n input ++ 10 ∷ [] =
    ap (λ k. take k input) next ∙ take_more input n 0 within ∙ ap (λ x. take n input ++ x ∷ []) is.feed in
    let whole : input ≡ take n input ++ 10 ∷ drop cut input =
    sym (take-append-drop n input)
    ∙ ap (λ (r : List ℕ). take n input ++ r) (drop_more input n 0 within ∙ ap (λ x. x ∷ drop (n + 1) input) is.feed
    ∙ ap (λ k. 10 ∷ drop k input) (sym next)) in
    let P : List ℕ → Type 0 = λ xs. AreReplies xs a in
    let Q : List ℕ → Type 0 = λ xs. AreReplies xs (a ++ b) in
    subst Q (sym whole) (replies_cut (take n input) (drop cut input) a b (subst P first front) back)
