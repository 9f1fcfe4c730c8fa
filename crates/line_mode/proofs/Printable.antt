-- Printable characters, and the words made of them.
use Rattle.std.proofs.Common.{◌≡◌, ◌<◌, ◌∙◌, ℕ, Bool, true, false, List, [], ◌∷◌, get_or, refl, sym, ap, arith, cond, Result, Ok, Err}
use Rattle.std.specs.Prelude.{◌&&◌, IsOk, MatchResult}
use Rattle.std.specs.List.{filter, list_all, onto_first, slice_split}
use Rattle.std.specs.Str.{IsUtf8}
use Rattle.std.proofs.lemmas.List.Sums.{AllPass-from_list_all}
use Rattle.std.proofs.lemmas.Str.{IsUtf8-from_ascii}
use Rattle.std.proofs.lemmas.Str.Ascii.{IsAscii-from_all}
use Rattle.lrc_code.specs.Text.{is_space}
use Rattle.line_mode.specs.Line.{is_printable, is_word, words}

below_128 : (b : ℕ) → is_printable b ≡ true → b < 128
below_128 b h = grind arith

-- printable characters are UTF-8
pub IsUtf8-printable : (bs : List ℕ) → list_all is_printable bs ≡ true → IsUtf8 bs
IsUtf8-printable bs all = IsUtf8-from_ascii bs (IsAscii-from_all bs
    (λ k d h. below_128 (get_or bs k d) (AllPass-from_list_all is_printable bs all k d h)))

-- a result that is an `Err` only where a fact fails
pub ok_unless : {T E : Type 0} (P : T → Type 0) (N : Type 0) (Q : E → Type 0) (r : Result T E) → MatchResult r P (λ e. ¬ N × Q e) → N
    → IsOk r
ok_unless P N Q (Ok x) h n = refl
ok_unless P N Q (Err e) h n = absurd (h.0 n)

both : (a b : Bool) → (a && b) ≡ true → (a ≡ true) × (b ≡ true)
both true b h = (refl, h)
both false b h = cc

-- ---- a test that each byte of a line passes

module _ (q : ℕ → Bool) where
  onto_first-passes : (x : ℕ) (parts : List (List ℕ)) → q x ≡ true → list_all (list_all q) parts ≡ true
      → list_all (list_all q) (onto_first x parts) ≡ true
  onto_first-passes x [] e h = ap (λ b. (b && true) && true) e
  onto_first-passes x (part ∷ parts) e h = ap (λ b. (b && list_all q part) && list_all (list_all q) parts) e ∙ h

  parts-pass : (xs : List ℕ) → list_all q xs ≡ true → list_all (list_all q) (slice_split is_space xs) ≡ true
  parts-pass [] h = refl
  parts-pass (x ∷ xs) h = let (here, rest) = both (q x) (list_all q xs) h in by (is_space x) here (parts-pass xs rest)
    where
      by : (b : Bool) → q x ≡ true → list_all (list_all q) (slice_split is_space xs) ≡ true
          → list_all (list_all q) (cond b ([] ∷ slice_split is_space xs) (onto_first x (slice_split is_space xs))) ≡ true
      by true here more = more
      by false here more = onto_first-passes x (slice_split is_space xs) here more

  kept-pass : (ws : List (List ℕ)) → list_all (list_all q) ws ≡ true → list_all (list_all q) (filter is_word ws) ≡ true
  kept-pass [] h = refl
  kept-pass ([] ∷ ws) h = kept-pass ws h
  kept-pass ((b ∷ bs) ∷ ws) h =
      let (here, rest) = both (list_all q (b ∷ bs)) (list_all (list_all q) ws) h in
      ap (λ c. c && list_all (list_all q) (filter is_word ws)) here ∙ kept-pass ws rest

  -- the first word passes it too
  pub first_word_passes : (line w : List ℕ) (more : List (List ℕ)) → list_all q line ≡ true → words line ≡ w ∷ more → list_all q w ≡ true
  first_word_passes line w more h e = (both (list_all q w) (list_all (list_all q) more)
      (sym (ap (list_all (list_all q)) e) ∙ kept-pass (slice_split is_space line) (parts-pass line h))).0

  -- and so does the second
  pub second_word_passes : (line w v : List ℕ) (more : List (List ℕ)) → list_all q line ≡ true → words line ≡ w ∷ v ∷ more
      → list_all q v ≡ true
  second_word_passes line w v more h e =
      let all = both (list_all q w) (list_all (list_all q) (v ∷ more))
      (sym (ap (list_all (list_all q)) e) ∙ kept-pass (slice_split is_space line) (parts-pass line h)) in
      (both (list_all q v) (list_all (list_all q) more) all.1).0
