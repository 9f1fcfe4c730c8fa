-- An escaped name that is read byte by byte.
use Rattle.std.proofs.Common.{◌≡◌, ◌≢◌, ◌<◌, ◌≤◌, ◌+◌, ap, refl, rules, ℕ, true, false, List, [], ◌∷◌, ◌++◌, Option, Some, None}
use Rattle.std.proofs.Common.{append_assoc, length, get_or, drop, add-one, drop-cons}
use Rattle.std.proofs.lemmas.Bool.Decides.{nat_tests}
use Rattle.std.proofs.lemmas.List.{drop_all}
use Rattle.std.specs.Prelude.{option_map, ◌==◌}
use Rattle.store_records.specs.ReadLines.{stands_for, unescaped_after}

no_more : (xs : List ℕ) → xs ++ [] ≡ xs
no_more [] = refl
no_more (x ∷ xs) = ap (λ t. x ∷ t) (no_more xs)

-- what has been read, before what a text stands for
abbrev pub before : List ℕ → Option (List ℕ) → Option (List ℕ)
before name rest = option_map (λ r. name ++ r) rest

pushed : (name : List ℕ) (byte : ℕ) (rest : Option (List ℕ))
    → before (name ++ (byte ∷ [])) rest ≡ before name (option_map (λ r. byte ∷ r) rest)
pushed name byte None = refl
pushed name byte (Some r) = ap Some (append_assoc name (byte ∷ []) r)

module _ (text : List ℕ) (i : ℕ) (byte : ℕ) (within : i < length text) (is : byte ≡ get_or text i 0) where
  next : drop i text ≡ byte ∷ drop (i + 1) text
  next = rw (add-one, is) (drop-cons text i 0 within)

  pub refused : stands_for byte ≡ None → unescaped_after true (drop i text) ≡ None
  unfolding unescaped_after
  refused none = rw (next, none) refl

  pub meant : (name : List ℕ) (m : ℕ) → stands_for byte ≡ Some m
      → before (name ++ (m ∷ [])) (unescaped_after false (drop (i + 1) text)) ≡ before name (unescaped_after true (drop i text))
  unfolding unescaped_after
  meant name m some = rw (next, some) (pushed name m (unescaped_after false (drop (i + 1) text)))

  pub begun : byte ≡ 92 → unescaped_after true (drop (i + 1) text) ≡ unescaped_after false (drop i text)
  unfolding unescaped_after
  begun backslash = rw (next, backslash) refl

  pub plain : (name : List ℕ) → byte ≢ 92
      → before (name ++ (byte ∷ [])) (unescaped_after false (drop (i + 1) text)) ≡ before name (unescaped_after false (drop i text))
  unfolding unescaped_after
  plain name other =
      let differs : (byte == 92) ≡ false = search (rules, nat_tests) in
      rw (next, differs) (pushed name byte (unescaped_after false (drop (i + 1) text)))

-- at the end
pub ended : (text : List ℕ) (i : ℕ) → length text ≤ i → unescaped_after false (drop i text) ≡ Some []
unfolding unescaped_after
ended text i past = rw (drop_all i text past) refl

pub cut_off : (text : List ℕ) (i : ℕ) → length text ≤ i → unescaped_after true (drop i text) ≡ None
unfolding unescaped_after
cut_off text i past = rw (drop_all i text past) refl

pub whole : (name : List ℕ) → before name (Some []) ≡ Some name
whole name = ap Some (no_more name)
