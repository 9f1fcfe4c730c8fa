-- The words of a line, taken off from its front.
use Rattle.std.proofs.Common.{◌≡◌, ◌<◌, ◌≤◌, ◌+◌, ◌∙◌, ◌==◌, ℕ, Bool, true, false, List, [], ◌∷◌, length, take, drop, get_or, refl, sym, ap}
use Rattle.std.proofs.Common.{arith, Some, None, cond, position, not, inl, inr, one-add}
use Rattle.std.specs.List.{filter, position_or_len}
use Rattle.std.proofs.lemmas.Bool.Decides.{leb_tells}
use Rattle.std.proofs.lemmas.List.{drop_all, drop_more, length-take, take_all}
use Rattle.std.proofs.lemmas.List.Sums.{fails_before_first, passes_at_first, prefix_len-le-length}
use Rattle.std.proofs.lemmas.List.Splits.{slice_split-cons_yes, slice_split_first, slice_split_none}
use Rattle.lrc_code.specs.Text.{is_space}
use Rattle.line_mode.specs.Line.{is_word, words}
use Rattle.line_mode.proofs.Cuts.{from_no_position, from_position}

-- a space in front is no word
words-space : (x : ℕ) (xs : List ℕ) → is_space x ≡ true → words (x ∷ xs) ≡ words xs
words-space x xs e = ap (filter is_word) (slice_split-cons_yes is_space x xs e)

abbrev pub is_other : ℕ → Bool
is_other b = not (b == 32)

-- nor are all the spaces in front
words-skip : (xs : List ℕ) → words xs ≡ words (drop (position_or_len is_other xs) xs)
words-skip [] = refl
words-skip (x ∷ xs) = by (x == 32) refl (words-skip xs)
  where
    by : (b : Bool) → (x == 32) ≡ b → words xs ≡ words (drop (position_or_len is_other xs) xs)
        → words (x ∷ xs) ≡ words (drop (cond (not (not b)) (1 + position_or_len is_other xs) 0) (x ∷ xs))
    by true e more = words-space x xs e ∙ more ∙ ap (λ n. words (drop n (x ∷ xs))) (sym (one-add (position_or_len is_other xs)))
    by false e more = refl

is_word_some : (xs : List ℕ) → 0 < length xs → is_word xs ≡ true
is_word_some [] l = absurd (omega arith)
is_word_some (x ∷ xs) l = refl

-- a line that begins with a word: it ends at the first space, or with the line
words-first : (xs : List ℕ) (e : ℕ) → position_or_len is_space xs ≡ e → 0 < e → words xs ≡ take e xs ∷ words (drop e xs)
words-first xs e is some = elim (leb_tells (length xs) e) [ inl p ↦ whole p.1 | inr p ↦ inside p.1 ]
  where
    inside : e < length xs → words xs ≡ take e xs ∷ words (drop e xs)
    inside l =
        let parts = slice_split_first is_space xs 0 (rw is l) in
        let first : is_word (take e xs) ≡ true = is_word_some (take e xs) (omega (arith, length-take e xs, l, some)) in
        let after : words (drop e xs) ≡ words (drop (e + 1) xs) =
        ap words (drop_more xs e 0 l) ∙ words-space (get_or xs e 0) (drop (e + 1) xs)
        (rw is at (passes_at_first is_space xs 0 (rw is l))) in
        ap (filter is_word) (rw is at parts) ∙ ap (λ b. cond b (take e xs ∷ words (drop (e + 1) xs)) (words (drop (e + 1) xs))) first
        ∙ ap (λ ws. take e xs ∷ ws) (sym after)

    whole : length xs ≤ e → words xs ≡ take e xs ∷ words (drop e xs)
    whole l =
        let all = slice_split_none is_space xs (λ k d h. fails_before_first is_space xs k d (omega (arith, h, l, is))) in
        let same : xs ≡ take e xs = sym (take_all e xs l) in
        let none : drop e xs ≡ [] = drop_all e xs l in
        let first : is_word xs ≡ true = is_word_some xs (omega (arith, is, some, prefix_len-le-length (λ x. not (is_space x)) xs)) in
        ap (filter is_word) all ∙ ap (λ b. cond b (xs ∷ []) []) first ∙ ap (λ w. w ∷ []) same ∙ ap (λ r. take e xs ∷ words r) (sym none)

-- a line that doesn't begin with a space begins with a word
starts : (x : ℕ) (xs : List ℕ) (e : ℕ) → is_space x ≡ false → position_or_len is_space (x ∷ xs) ≡ e → 0 < e
starts x xs e h is = let count : 1 + position_or_len is_space xs ≡ e =
    ap (λ b. cond (not b) (1 + position_or_len is_space xs) 0) (sym h) ∙ is in omega (arith, count)

-- where every byte is a space there is no word
pub words_none : (xs : List ℕ) → position is_other xs ≡ None → words xs ≡ []
words_none xs e = words-skip xs ∙ ap words (drop_all _ xs (omega (arith, from_no_position is_other xs e)))

-- the word in front, between the first other byte and the next space
pub words_at : (xs : List ℕ) (s e : ℕ) → position is_other xs ≡ Some s → position_or_len is_space (drop s xs) ≡ e
    → words xs ≡ take e (drop s xs) ∷ words (drop e (drop s xs))
words_at xs s e start is =
    let (at, within) = from_position is_other xs s start in
    let other : is_other (get_or xs s 0) ≡ true = rw at at (passes_at_first is_other xs 0 (rw at within)) in
    let begins : is_space (get_or xs s 0) ≡ false = fails _ other in
    let cut = ap (position_or_len is_space) (sym (drop_more xs s 0 within)) ∙ is in
    words-skip xs ∙ ap (λ n. words (drop n xs)) at ∙ words-first (drop s xs) e is (starts (get_or xs s 0) (drop (s + 1) xs) e begins cut)
  where
    fails : (b : Bool) → not b ≡ true → b ≡ false
    fails true h = sym h
    fails false h = refl
