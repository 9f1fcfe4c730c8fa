-- Runs of calls that keep what they have to keep: none, one more, and one after another.
use Rattle.std.proofs.Common.{◌≡◌, inl, inr, ℕ, List, [], ◌∷◌, ◌++◌, Bool, false, Some, None, refl, sym, ◌∙◌, ap, subst}
use Rattle.std.proofs.lemmas.List.{append_assoc}
use Rattle.folders.specs.Calls.{Call, Answered, make, sync, link, link_again, rename, rename_again, remove, sync_folder, same_file, absent}
use Rattle.folders.specs.Files.{Files}
use Rattle.folders.specs.Worlds.{World, IsLawful}
use Rattle.folders.specs.Kept.{AtEach, IsSound, IsKept, AreKept, Keeps, TakeNone, TakesNone}
use Rattle.folders.proofs.Steps.{IsQuiet, quiet_sound, quiet_kept}

-- no paths and no files
nowhere : World
nowhere =
    let none : Files = record { named = λ path. None; bytes = λ file. [] } in record {
      ours = λ path. false;
      seen = λ calls. none;
      left = λ calls. none;
    }

-- a front of a lawful run is lawful
pub lawful_front : (w : World) (more old : List Answered) → IsLawful w (more ++ old) → IsLawful w old
lawful_front w [] old lawful = lawful
lawful_front w ((call, ok) ∷ more) old lawful = lawful_front w more old lawful.0

module _ (P : List Answered → Type 0) where
  -- what holds at the end
  pub at_last : (more old : List Answered) → AtEach P more old → P (more ++ old)
  at_last [] old each = each
  at_last (call ∷ more) old each = each.0

  pub each_weaker : (Q : List Answered → Type 0) → ((calls : List Answered) → P calls → Q calls) → (more old : List Answered)
      → AtEach P more old → AtEach Q more old
  each_weaker Q leads [] old each = leads old each
  each_weaker Q leads (call ∷ more) old each = (leads (call ∷ more ++ old) each.0, each_weaker Q leads more old each.1)

  pub each_after : (later more old : List Answered) → AtEach P more old → AtEach P later (more ++ old) → AtEach P (later ++ more) old
  each_after [] more old each each_later = each
  each_after (call ∷ later) more old each each_later = (
    subst P (ap (λ (calls : List Answered). call ∷ calls) (sym
        (append_assoc later more old))) each_later.0,
    each_after later more old each each_later.1,
  )

-- what holds of each front, and what holds of each too
pub each_both : (P Q : List Answered → Type 0) (more old : List Answered) → AtEach P more old → AtEach Q more old
    → AtEach (λ calls. P calls × Q calls) more old
each_both P Q [] old first second = (first, second)
each_both P Q (call ∷ more) old first second = ((first.0, second.0), each_both P Q more old first.1 second.1)

-- what holds of each front of a run if what was before it is lawful, holds of each that is lawful
pub each_given : (w : World) (P : List Answered → Type 0) (later mid : List Answered)
    → (IsLawful w mid → AtEach (λ calls. IsLawful w calls → P calls) later mid) → AtEach (λ calls. IsLawful w calls → P calls) later mid
each_given w P [] mid each = λ lawful. each lawful lawful
each_given w P (call ∷ later) mid each = (
  λ lawful. (each (lawful_front w (call ∷ later) mid lawful)).0 lawful,
  each_given w P later mid (λ lawful. (each lawful).1),
)

module _ (given : List ℕ → List ℕ → Type 0) where
  kept_after : (shown mid_shown old mid new : Files) (path : List ℕ) → IsKept given shown shown mid_shown path
      → IsKept given shown old mid path
      → IsKept given mid_shown mid new path → IsKept given shown old new path
  kept_after shown mid_shown old mid new path in_shown (inl first) (inl second) = inl (second ∙ first)
  kept_after shown mid_shown old mid new path in_shown (inr first) (inl second) = inr (first.0, (first.1.0, first.1.1, second ∙ first.1.2))
  kept_after shown mid_shown old mid new path (inl same) first (inr second) = inr (sym same ∙ second.0, second.1)
  kept_after shown mid_shown old mid new path (inr had) first (inr second) = let none : None ≡ Some had.1.0 = sym second.0 ∙ had.1.2 in cc

  pub kept_weaker : (other : List ℕ → List ℕ → Type 0) → ((path bytes : List ℕ) → given path bytes → other path bytes)
      → (shown old new : Files) (path : List ℕ) → IsKept given shown old new path → IsKept other shown old new path
  kept_weaker other leads shown old new path (inl same) = inl same
  kept_weaker other leads shown old new path (inr had) = inr (had.0, (had.1.0, leads path had.1.0 had.1.1, had.1.2))

module _ (temporary : List ℕ → Type 0) where
  pub are_kept_after : (given : List ℕ → List ℕ → Type 0) (w : World) (old mid new : List Answered)
      → AreKept temporary given w old mid → AreKept temporary given w mid new → AreKept temporary given w old new
  are_kept_after given w old mid new first second path ours not_temporary =
      let a = first path ours not_temporary in let b = second path ours not_temporary in (
        kept_after given (w.seen old) (w.seen mid) (w.seen old) (w.seen mid) (w.seen new) path a.0 a.0 b.0,
        kept_after given (w.seen old) (w.seen mid) (w.left old) (w.left mid) (w.left new) path a.0 a.1 b.1,
      )

  are_kept_weaker : (given other : List ℕ → List ℕ → Type 0) → ((path bytes : List ℕ) → given path bytes → other path bytes)
      → (w : World) (old new : List Answered) → AreKept temporary given w old new → AreKept temporary other w old new
  are_kept_weaker given other leads w old new are path ours not_temporary = let a = are path ours not_temporary in (
    kept_weaker given other leads (w.seen old) (w.seen old) (w.seen new) path a.0,
    kept_weaker given other leads (w.seen old) (w.left old) (w.left new) path a.1,
  )

  -- what is said of each front of a run
  abbrev pub Holds : (List ℕ → List ℕ → Type 0) → World → List Answered → List Answered → Type 0
  Holds given w old calls = IsSound temporary w calls × AreKept temporary given w old calls

  -- nothing was called
  pub all_kept : (given : List ℕ → List ℕ → Type 0) (w : World) (calls : List Answered) → AreKept temporary given w calls calls
  all_kept given w calls path ours not_temporary = (inl refl, inl refl)

  pub keeps_all : (given : List ℕ → List ℕ → Type 0) (calls : List Answered) → Keeps temporary given calls calls
  keeps_all given calls = record {
    more = [];
    are = refl;
    whenever = λ w sound lawful. (sound, all_kept given w calls);
    takes = tt;
  }

  pub keeps_weaker : (given other : List ℕ → List ℕ → Type 0) → ((path bytes : List ℕ) → given path bytes → other path bytes)
      → (old new : List Answered) → Keeps temporary given old new → Keeps temporary other old new
  keeps_weaker given other leads old new keeps = record {
    more = keeps.more;
    are = keeps.are;
    whenever = λ w sound. each_weaker (λ calls. IsLawful w calls → Holds given w old calls) (λ calls. IsLawful w calls → Holds other w old
        calls)
        (λ calls holds lawful. let found = holds lawful in (found.0, are_kept_weaker given other leads w old calls found.1)) keeps.more old
        (keeps.whenever w sound);
    takes = keeps.takes;
  }

  -- one run after another
  after : (given : List ℕ → List ℕ → Type 0) (w : World) (later more old : List Answered)
      → (IsSound temporary w old → AtEach (λ calls. IsLawful w calls → Holds given w old calls) more old)
      → (IsSound temporary w (more ++ old)
      → AtEach (λ calls. IsLawful w calls → Holds given w (more ++ old) calls) later (more ++ old))
      → IsSound temporary w old → AtEach (λ calls. IsLawful w calls → Holds given w old calls) (later ++ more) old
  after given w later more old first second sound =
      let each = first sound in
      each_after (λ calls. IsLawful w calls → Holds given w old calls) later more old each
      (each_given w (Holds given w old) later (more ++ old) (λ lawful.
      let mid = at_last (λ calls. IsLawful w calls → Holds given w old calls) more old each lawful in
      each_weaker (λ calls. IsLawful w calls → Holds given w (more ++ old) calls) (λ calls. IsLawful w calls → Holds given w old calls)
      (λ calls holds so. let found = holds so in (found.0, are_kept_after given w old (more ++ old) calls mid.1 found.1)) later
      (more ++ old) (second mid.0)))

  -- runs that take nothing away, one after another
  pub take_after : (later more : List Answered) → TakeNone temporary later → TakeNone temporary more → TakeNone temporary (later ++ more)
  take_after [] more none takes = takes
  take_after (call ∷ later) more some takes = (some.0, take_after later more some.1 takes)

  quiet_takes : (w : World) (call : Call) → IsQuiet temporary w call → TakesNone temporary call
  quiet_takes w (make path) quiet = quiet
  quiet_takes w (sync file bytes) quiet = tt
  quiet_takes w (link file to) quiet = tt
  quiet_takes w (link_again from to) quiet = quiet
  quiet_takes w (rename file from to) quiet = quiet
  quiet_takes w (rename_again from to) quiet = quiet
  quiet_takes w (remove path) quiet = quiet
  quiet_takes w (sync_folder path) quiet = tt
  quiet_takes w (same_file path other) quiet = tt
  quiet_takes w (absent path) quiet = tt

  pub keeps_after : (given : List ℕ → List ℕ → Type 0) (old mid new : List Answered)
      → Keeps temporary given old mid → Keeps temporary given mid new → Keeps temporary given old new
  keeps_after given old mid new first second =
      let later = second.more in let more = first.more in
      let whole : new ≡ later ++ (more ++ old) = second.are ∙ ap (λ (calls : List Answered). later ++ calls) first.are in
      let again = subst (λ (calls : List Answered). (w : World) → IsSound temporary w calls
      → AtEach (λ so. IsLawful w so → Holds given w calls so) later calls) first.are second.whenever in
      record {
        more = later ++ more;
        are = whole ∙ sym (append_assoc later more old);
        whenever = λ w sound. after given w later more old (first.whenever w) (again w) sound;
        takes = take_after later more second.takes first.takes;
      }

  -- one call that changes no path but temporary ones
  pub keeps_quiet : (given : List ℕ → List ℕ → Type 0) (call : Call) (ok : Bool) (old new : List Answered)
      → new ≡ (call, ok) ∷ old → ((w : World) → IsQuiet temporary w call) → Keeps temporary given old new
  keeps_quiet given call ok old new are quiet = record {
    more = (call, ok) ∷ [];
    are = are;
    whenever = λ w sound. (
      λ lawful. (
        quiet_sound temporary w call ok old lawful.1 sound (quiet w),
        quiet_kept temporary w call ok old lawful.1 sound (quiet w) given,
      ),
      λ lawful. (sound, all_kept given w old),
    );
    takes = (quiet_takes nowhere call (quiet nowhere), tt);
  }
