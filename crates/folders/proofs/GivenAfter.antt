-- Runs of calls that give paths to other files, one after another.
use Rattle.std.proofs.Common.{◌≡◌, inl, inr, ℕ, List, [], ◌∷◌, ◌++◌, true, Option, refl, sym, ◌∙◌, ap, subst}
use Rattle.std.proofs.lemmas.List.{append_assoc}
use Rattle.folders.specs.Calls.{Answered, make, sync, link, link_again, rename, rename_again, remove, sync_folder, same_file, absent}
use Rattle.folders.specs.Files.{Files, under}
use Rattle.folders.specs.Worlds.{World, IsLawful}
use Rattle.folders.specs.Kept.{AtEach, IsSound}
use Rattle.folders.specs.Exchanged.{seen_at}
use Rattle.folders.specs.Given.{AreGiven, Gives, HasOneOf, Remove, RenameOwn}
use Rattle.folders.proofs.Runs.{at_last, each_after, each_given, each_weaker}

-- what earlier calls rename is ours if what all rename is
pub own_front : (w : World) (more old : List Answered) → RenameOwn w (more ++ old) → RenameOwn w old
own_front w [] old own = own
own_front w (call ∷ more) old own = own_front w more old own.1

-- and what they take away is taken if what all take away is
pub remove_front : (taken : List ℕ → Type 0) (more old : List Answered) → Remove taken (more ++ old) → Remove taken old
remove_front taken [] old all = all
remove_front taken ((make path, ok) ∷ more) old all = remove_front taken more old all
remove_front taken ((sync file bytes, ok) ∷ more) old all = remove_front taken more old all
remove_front taken ((link file to, ok) ∷ more) old all = remove_front taken more old all
remove_front taken ((link_again from to, ok) ∷ more) old all = remove_front taken more old all
remove_front taken ((rename file from to, ok) ∷ more) old all = remove_front taken more old all
remove_front taken ((rename_again from to, ok) ∷ more) old all = remove_front taken more old all
remove_front taken ((remove path, ok) ∷ more) old all = remove_front taken more old all.1
remove_front taken ((sync_folder path, ok) ∷ more) old all = remove_front taken more old all
remove_front taken ((same_file path other, ok) ∷ more) old all = remove_front taken more old all
remove_front taken ((absent path, ok) ∷ more) old all = remove_front taken more old all

-- no call
pub given_nothing : (temporary : List ℕ → Type 0) (gives : List ℕ → List ℕ → Type 0) (puts : List ℕ → Option (List ℕ) → Type 0) (w : World)
    (calls : List Answered) → AreGiven temporary gives puts w calls calls
given_nothing temporary gives puts w calls = record {
  seen = λ path ours lasting. inl refl;
  left = λ path ours lasting. inl refl;
  still = λ path ours lasting none none_new. refl;
}

-- ---- more that paths may get

module _ (gives gives_too : List ℕ → List ℕ → Type 0) (puts puts_too : List ℕ → Option (List ℕ) → Type 0)
    (more_of : (from to : List ℕ) → gives from to → gives_too from to)
    (more_new : (path : List ℕ) (content : Option (List ℕ)) → puts path content → puts_too path content) where
  one_weaker : (shown old new : Files) (path : List ℕ) → HasOneOf gives puts shown old new path
      → HasOneOf gives_too puts_too shown old new path
  one_weaker shown old new path (inl same) = inl same
  one_weaker shown old new path (inr (inl got)) = inr (inl (got.0, more_of got.0 path got.1, got.2))
  one_weaker shown old new path (inr (inr put)) = inr (inr (put.0, more_new path put.0 put.1, put.2))

  given_weaker : (temporary : List ℕ → Type 0) (w : World) (old new : List Answered) → AreGiven temporary gives puts w old new
      → AreGiven temporary gives_too puts_too w old new
  given_weaker temporary w old new are = record {
    seen = λ path ours lasting. one_weaker (w.seen old) (w.seen old) (w.seen new) path (are.seen path ours lasting);
    left = λ path ours lasting. one_weaker (w.seen old) (w.left old) (w.left new) path (are.left path ours lasting);
    still = λ path ours lasting none none_new. are.still path ours lasting
        (λ from gets. none from (more_of from path gets)) (λ content gets. none_new content (more_new path content gets));
  }

  pub gives_weaker : (temporary : List ℕ → Type 0) (old new : List Answered) → Gives temporary gives puts old new
      → Gives temporary gives_too puts_too old new
  gives_weaker temporary old new run = record {
    more = run.more;
    are = run.are;
    whenever = λ w sound own_renamed own. each_weaker
        (λ calls. IsLawful w calls → IsSound temporary w calls × AreGiven temporary gives puts w old calls)
        (λ calls. IsLawful w calls → IsSound temporary w calls × AreGiven temporary gives_too puts_too w old calls)
        (λ calls holds lawful. let found = holds lawful in (found.0, given_weaker temporary w old calls found.1))
        run.more old (run.whenever w sound own_renamed (λ from to gets. own from to (more_of from to gets)));
  }

module _ (temporary : List ℕ → Type 0) (gives : List ℕ → List ℕ → Type 0) (puts : List ℕ → Option (List ℕ) → Type 0) where
  abbrev pub Sound : World → List Answered → List Answered → Type 0
  Sound w old calls = IsSound temporary w calls × AreGiven temporary gives puts w old calls

  pub gives_nothing : (calls : List Answered) → Gives temporary gives puts calls calls
  gives_nothing calls = record {
    more = [];
    are = refl;
    whenever = λ w sound own_renamed own lawful. (sound, given_nothing temporary gives puts w calls);
  }

  -- ---- one run after another, if the second gives no file of a path that was to get one
  module _ (gives_next : List ℕ → List ℕ → Type 0) (puts_next : List ℕ → Option (List ℕ) → Type 0)
      (more_of : (from to : List ℕ) → gives_next from to → gives from to)
      (more_new : (path : List ℕ) (content : Option (List ℕ)) → puts_next path content → puts path content)
      (last : (from to : List ℕ) → gives_next from to → temporary from → ⊥)
      (apart : (from mid to : List ℕ) → gives from mid → gives_next mid to → ⊥)
      (none_new : (from to : List ℕ) (content : Option (List ℕ)) → gives_next from to → puts from content → ⊥) where
    module _ (w : World) (own : (from to : List ℕ) → gives from to → w.ours from ≡ true) (old mid new : List Answered)
        (first : AreGiven temporary gives puts w old mid) (second : AreGiven temporary gives_next puts_next w mid new) where
      one_after : (in_old in_mid in_new : Files)
          → ((from : List ℕ) → w.ours from ≡ true → (temporary from → ⊥) → ((p : List ℕ) → gives p from → ⊥)
          → ((content : Option (List ℕ)) → puts from content → ⊥)
          → seen_at (w.seen mid) in_mid from ≡ seen_at (w.seen old) in_old from)
          → (path : List ℕ) → HasOneOf gives puts (w.seen old) in_old in_mid path
          → HasOneOf gives_next puts_next (w.seen mid) in_mid in_new path → HasOneOf gives puts (w.seen old) in_old in_new path
      one_after in_old in_mid in_new still path (inl had) (inl same) = inl (same ∙ had)
      one_after in_old in_mid in_new still path (inr (inl got)) (inl same) = inr (inl (got.0, got.1, same ∙ got.2))
      one_after in_old in_mid in_new still path (inr (inr put)) (inl same) = inr (inr (put.0, put.1, same ∙ put.2))
      one_after in_old in_mid in_new still path was (inr (inl got)) = let gets = more_of got.0 path got.1 in inr (inl (
        got.0,
        gets,
        got.2 ∙ still got.0 (own got.0 path gets) (last got.0 path got.1) (λ p too. apart p got.0 path too got.1)
            (λ content too. none_new got.0 path content got.1 too),
      ))
      one_after in_old in_mid in_new still path was (inr (inr put)) = inr (inr (put.0, more_new path put.0 put.1, put.2))

      seen_still : (from : List ℕ) → w.ours from ≡ true → (temporary from → ⊥) → ((p : List ℕ) → gives p from → ⊥)
          → ((content : Option (List ℕ)) → puts from content → ⊥) → under (w.seen mid) from ≡ under (w.seen old) from
      seen_still from ours lasting none none_put = elim (first.seen from ours lasting) [
        | inl same ↦ same
        | inr (inl got) ↦ absurd (none got.0 got.1)
        | inr (inr put) ↦ absurd (none_put put.0 put.1)
      ]

      given_after : AreGiven temporary gives puts w old new
      given_after = record {
        seen = λ path ours lasting. one_after (w.seen old) (w.seen mid) (w.seen new) seen_still path (first.seen path ours lasting)
            (second.seen path ours lasting);
        left = λ path ours lasting. one_after (w.left old) (w.left mid) (w.left new) first.still path (first.left path ours lasting)
            (second.left path ours lasting);
        still = λ path ours lasting none none_put. second.still path ours lasting (λ from gets. none from (more_of from path gets))
            (λ content gets. none_put content (more_new path content gets)) ∙ first.still path ours lasting none none_put;
      }

    pub gives_after : (old mid new : List Answered) → Gives temporary gives puts old mid → Gives temporary gives_next puts_next mid new
        → Gives temporary gives puts old new
    gives_after old mid new first second =
        let later = second.more in let more = first.more in
        let whole : new ≡ later ++ (more ++ old) = second.are ∙ ap (λ (calls : List Answered). later ++ calls) first.are in
        let again = subst (λ (calls : List Answered). (w : World) → IsSound temporary w calls → RenameOwn w new
        → ((from to : List ℕ) → gives_next from to → w.ours from ≡ true)
        → AtEach (λ so. IsLawful w so → IsSound temporary w so × AreGiven temporary gives_next puts_next w calls so) later calls)
        first.are second.whenever in
        record {
          more = later ++ more;
          are = whole ∙ sym (append_assoc later more old);
          whenever = λ w sound own_renamed own.
              let own_mid : RenameOwn w mid = own_front w later mid (subst (RenameOwn w) second.are own_renamed) in
              let each = first.whenever w sound own_mid own in
              each_after (λ calls. IsLawful w calls → Sound w old calls) later more old each
              (each_given w (Sound w old) later (more ++ old) (λ lawful.
              let at_mid = at_last (λ calls. IsLawful w calls → Sound w old calls) more old each lawful in
              each_weaker
              (λ calls. IsLawful w calls → IsSound temporary w calls × AreGiven temporary gives_next puts_next w (more ++ old) calls)
              (λ calls. IsLawful w calls → Sound w old calls)
              (λ calls holds so. let found = holds so in (
                found.0,
                given_after w own old (more ++ old) calls at_mid.1 found.1,
              )) later (more ++ old) (again w at_mid.0 own_renamed (λ from to gets. own from to (more_of from to gets)))));
        }
