-- The names of runs' files, read from the texts that they are cut into.
use Rattle.std.proofs.Common.{Decides, ◌≡◌, ◌∙◌, sym, ap, subst, inl, inr, ℕ, ◌<◌, arith, Bool, true, false, List, [], ◌∷◌, ◌++◌, codes}
use Rattle.std.proofs.Common.{length}
use Rattle.std.proofs.lemmas.Bool.{both_ways}
use Rattle.std.proofs.lemmas.List.{append_cancel_left}
use Rattle.store_names.specs.Texts.{IsAroundLast, lacks}
use Rattle.store_names.specs.RunFiles.{IsLeftBy, IsLock, IsOfRuns, IsOfTag, IsOfUnfinished, IsOwn, IsPart, IsRun, IsRunIn, IsTag}
use Rattle.store_names.specs.RunFiles.{SaysRun, is_random}
use Rattle.store_names.specs.RunFiles.IsOwn.{own_digits, own_of_run}
use Rattle.store_names.specs.RunFiles.IsOfUnfinished.{bare, tagged}
use Rattle.store_names.proofs.Marks.{last_same, not_both}
use Rattle.store_names.proofs.RunTexts.{never, random_lacks_dash, run_in_same}

-- ---- what follows a tag

module _ (text run digits : List ℕ) (at : IsAroundLast 45 text run digits) where
  not_digits_alone : is_random text ≡ true → ⊥
  not_digits_alone random = not_both 45 text run digits at.is (random_lacks_dash text random)

  own_parts : IsOwn text → IsRun run × (is_random digits ≡ true)
  own_parts (own_digits random) = absurd (not_digits_alone random)
  own_parts (own_of_run other more is says random) =
      let same = last_same 45 other run more digits (random_lacks_dash more random) at.last (sym is ∙ at.is) in
      (subst IsRun same.0 says, ap is_random (sym same.1) ∙ random)

  pub own_yes : (b : Bool) → is_random digits ≡ true → Decides b (IsRun run) → Decides b (IsOwn text)
  own_yes b random tells = (λ yes. own_of_run run digits at.is (tells.0 yes) random, λ own. tells.1 (own_parts own).0)

  pub own_not_digits : (b : Bool) → b ≡ is_random digits → b ≡ false → Decides b (IsOwn text)
  own_not_digits b is_b gone = (λ yes. absurd (both_ways b gone yes), λ own. is_b ∙ (own_parts own).1)

-- ---- an unfinished file's name

module _ (name rest : List ℕ) (is : name ≡ codes ".rebuild-store-" ++ rest) where
  pub rest_same : (other : List ℕ) → name ≡ codes ".rebuild-store-" ++ other → rest ≡ other
  rest_same other is_other = append_cancel_left (codes ".rebuild-store-") rest other (sym is ∙ is_other)

  pub unfinished_bare : (b : Bool) → lacks 45 rest ≡ true → b ≡ is_random rest → Decides b (IsOfUnfinished name)
  unfinished_bare b lack is_b = (λ yes. bare rest is (sym is_b ∙ yes), λ file. is_b ∙ from file) where
    from : IsOfUnfinished name → is_random rest ≡ true
    from (bare digits is_name random) = ap is_random (rest_same digits is_name) ∙ random
    from (tagged tag digits is_name _ _) = absurd (not_both 45 rest tag digits (rest_same (tag ++ (45 ∷ digits)) is_name) lack)

  module _ (before digits : List ℕ) (at : IsAroundLast 45 rest before digits) where
    unfinished_parts : IsOfUnfinished name → IsTag before × (is_random digits ≡ true)
    unfinished_parts (bare more is_name random) =
        absurd (not_both 45 more before digits (sym (rest_same more is_name) ∙ at.is) (random_lacks_dash more random))
    unfinished_parts (tagged tag more is_name says random) =
        let same = last_same 45 tag before more digits (random_lacks_dash more random) at.last
        (sym (rest_same (tag ++ (45 ∷ more)) is_name) ∙ at.is) in
        (subst IsTag same.0 says, ap is_random (sym same.1) ∙ random)

    pub unfinished_yes : (b : Bool) → is_random digits ≡ true → Decides b (IsTag before) → Decides b (IsOfUnfinished name)
    unfinished_yes b random tells = (
      λ yes. tagged before digits (is ∙ ap (λ t. codes ".rebuild-store-" ++ t) at.is) (tells.0 yes) random,
      λ file. tells.1 (unfinished_parts file).0,
    )

    pub unfinished_not_digits : (b : Bool) → b ≡ is_random digits → b ≡ false → Decides b (IsOfUnfinished name)
    unfinished_not_digits b is_b gone = (λ yes. absurd (both_ways b gone yes), λ file. is_b ∙ (unfinished_parts file).1)

module _ (name : List ℕ) (none : (rest : List ℕ) → name ≡ codes ".rebuild-store-" ++ rest → ⊥) where
  no_start : IsOfUnfinished name → ⊥
  no_start (bare digits is _) = none digits is
  no_start (tagged tag digits is _ _) = none (tag ++ (45 ∷ digits)) is

  pub not_unfinished : Decides false (IsOfUnfinished name)
  not_unfinished = never no_start

  pub not_lock : Decides false (IsLock name)
  not_lock = never (λ lock. none (codes "part-" ++ lock.part) lock.is)

  pub not_of_tag : (tag : List ℕ) → Decides false (IsOfTag tag name)
  not_of_tag tag = never (λ file. none (tag ++ file.own) file.is)

-- ---- a lock's name, and those with a tag

module _ (name rest : List ℕ) (is : name ≡ codes ".rebuild-store-" ++ rest) where
  pub lock_yes : (part : List ℕ) (b : Bool) → rest ≡ codes "part-" ++ part → Decides b (IsPart (codes "of-") part) → Decides b (IsLock name)
  lock_yes part b is_rest tells = (
    λ yes. record {
      part = part;
      is = is ∙ ap (λ t. codes ".rebuild-store-" ++ t) is_rest;
      is_part = tells.0 yes;
    },
    λ lock. tells.1 (subst (IsPart (codes "of-")) (sym (append_cancel_left (codes "part-") part lock.part
        (sym is_rest ∙ rest_same name rest is (codes "part-" ++ lock.part) lock.is))) lock.is_part),
  )

  pub lock_not_part : ((part : List ℕ) → rest ≡ codes "part-" ++ part → ⊥) → Decides false (IsLock name)
  lock_not_part none = never (λ lock. none lock.part (rest_same name rest is (codes "part-" ++ lock.part) lock.is))

  pub of_tag_yes : (tag own : List ℕ) (b : Bool) → rest ≡ tag ++ own → Decides b (IsOwn own) → Decides b (IsOfTag tag name)
  of_tag_yes tag own b is_rest tells = (
    λ yes. record {
      own = own;
      is = is ∙ ap (λ t. codes ".rebuild-store-" ++ t) is_rest;
      is_own = tells.0 yes;
    },
    λ file. tells.1 (subst IsOwn (sym (append_cancel_left tag own file.own
        (sym is_rest ∙ rest_same name rest is (tag ++ file.own) file.is))) file.is_own),
  )

  pub of_tag_not : (tag : List ℕ) → ((own : List ℕ) → rest ≡ tag ++ own → ⊥) → Decides false (IsOfTag tag name)
  of_tag_not tag none = never (λ file. none file.own (rest_same name rest is (tag ++ file.own) file.is))

pub left_without_tag : (tag name : List ℕ) (b : Bool) → length tag ≡ 0 → Decides b (IsOfRuns name) → Decides b (IsLeftBy tag name)
left_without_tag [] name b none tells = tells
left_without_tag (x ∷ tag) name b none tells = absurd (omega arith)

pub left_with_tag : (tag name : List ℕ) (b : Bool) → 0 < length tag → Decides b (IsOfTag tag name) → Decides b (IsLeftBy tag name)
left_with_tag [] name b some tells = absurd (omega arith)
left_with_tag (x ∷ tag) name b some tells = tells

pub runs_first : (name : List ℕ) (b : Bool) → Decides b (IsOfUnfinished name) → b ≡ true → Decides b (IsOfRuns name)
runs_first name b tells so = (λ is. inl (tells.0 is), λ file. so)

module _ (name rest before digits : List ℕ) (is : name ≡ codes ".rebuild-store-" ++ rest) (at : IsAroundLast 45 rest before digits) where
  -- what the name says of a run is before its last `-`
  pub said_parts : (run : List ℕ) (says : SaysRun name run) → IsRunIn before says.before run × (is_random digits ≡ true)
  said_parts run says =
      let same = last_same 45 says.text before says.digits digits (random_lacks_dash says.digits says.is_digits) at.last
      (sym (rest_same name rest is (says.text ++ (45 ∷ says.digits)) says.is) ∙ at.is) in
      (subst (λ t. IsRunIn t says.before run) same.0 says.is_in, ap is_random (sym same.1) ∙ says.is_digits)

  pub said_run : (part run other : List ℕ) → IsRunIn before part run → SaysRun name other → run ≡ other
  said_run part run other in_it says = (run_in_same before part run says.before other in_it (said_parts other says).0).1

  pub says_it : (part run : List ℕ) → IsRunIn before part run → is_random digits ≡ true → IsRun run → SaysRun name run
  says_it part run in_it random says = record {
    before = part;
    text = before;
    digits = digits;
    is = is ∙ ap (λ t. codes ".rebuild-store-" ++ t) at.is;
    is_in = in_it;
    is_run = says;
    is_digits = random;
  }

pub runs_second : (name : List ℕ) (b c : Bool) → Decides b (IsOfUnfinished name) → b ≡ false → Decides c (IsLock name)
    → Decides c (IsOfRuns name)
runs_second name b c tells gone other = (λ is. inr (other.0 is), from) where
  from : IsOfRuns name → c ≡ true
  from (inl file) = absurd (both_ways b gone (tells.1 file))
  from (inr lock) = other.1 lock
