-- Runs that keep each path but temporary ones, or give new files to some at which nothing is, are among those that give paths to files.
use Rattle.std.proofs.Common.{◌≡◌, inl, inr, ℕ, suc, List, [], ◌∷◌, ◌++◌, length, Bool, true, Option, Some, None, option_map}
use Rattle.std.proofs.Common.{refl, sym, ◌∙◌, ap}
use Rattle.folders.specs.Calls.{Call, Answered}
use Rattle.folders.specs.Files.{Files, under}
use Rattle.folders.specs.Worlds.{World, IsLawful, IsStep}
use Rattle.folders.specs.Kept.{AtEach, IsKept, IsSound, Keeps, TakeNone, TakesNone}
use Rattle.folders.specs.Exchanged.{seen_at}
use Rattle.folders.specs.Given.{Gives, HasOneOf, Nothing}
use Rattle.folders.proofs.GivenAfter.{Sound, given_nothing}
use Rattle.folders.proofs.Runs.{at_last, Holds}
use Rattle.folders.proofs.Staying.{leads_still}
use Rattle.folders.proofs.Steps.{new_seen, other_file, stays_closed}

-- a path that got nothing has what it had
kept_same_if : (given : List ℕ → List ℕ → Type 0) (shown old new : Files) (path : List ℕ) → ((bytes : List ℕ) → given path bytes → ⊥)
    → IsKept given shown old new path → under new path ≡ under old path
kept_same_if given shown old new path none (inl same) = same
kept_same_if given shown old new path none (inr got) = absurd (none got.1.0 got.1.1)

-- the file that is seen at a path that gets nothing has what a crash left of it before
module _ (temporary : List ℕ → Type 0) (given : List ℕ → List ℕ → Type 0) (w : World) (path : List ℕ) (ours : w.ours path ≡ true)
    (lasting : temporary path → ⊥) (none_given : (bytes : List ℕ) → given path bytes → ⊥) where
  none_or : (o : Option ℕ) (bytes : ℕ → List ℕ) → option_map bytes o ≡ None → o ≡ None
  none_or None bytes none = refl
  none_or (Some f) bytes none = absurd (cc)

  -- a call
  module _ (call : Call) (ok : Bool) (calls : List Answered) (takes : TakesNone temporary call) (step : IsStep w call ok calls)
      (sound : IsSound temporary w calls) (same : under (w.seen ((call, ok) ∷ calls)) path ≡ under (w.seen calls) path) where
    abbrev next : List Answered
    next = (call, ok) ∷ calls

    still_one : (o : Option ℕ) → (w.seen calls).named path ≡ o
        → seen_at (w.seen next) (w.left next) path ≡ option_map (w.left calls).bytes o
    still_one None none = ap (λ (o : Option ℕ). option_map (w.left next).bytes o)
        (none_or ((w.seen next).named path) (w.seen next).bytes (same ∙ ap (λ (o : Option ℕ). option_map (w.seen calls).bytes o) none))
    still_one (Some f) at =
        let leads : (w.seen next).named path ≡ Some f = leads_still temporary w path ours lasting (w.seen calls) (w.seen calls)
        (w.seen next) (suc (length calls)) f call takes at step.seen ∙ at in
        let closed = sound.seen path f ours lasting at in
        let now = stays_closed call ok calls f (λ p is. other_file w calls call (w.seen calls) path f ours
        (new_seen w call calls p step.makes is) at) closed in
        ap (λ (o : Option ℕ). option_map (w.left next).bytes o) leads ∙ ap (λ (b : List ℕ). Some b) (step.left_bytes f closed now)

  still_over : (more old : List Answered) → TakeNone temporary more
      → AtEach (λ calls. IsLawful w calls → Holds temporary given w old calls) more old → IsLawful w (more ++ old)
      → seen_at (w.seen (more ++ old)) (w.left (more ++ old)) path ≡ seen_at (w.seen old) (w.left old) path
  still_over [] old takes each lawful = refl
  still_over ((call, ok) ∷ more) old takes each lawful =
      let now = each.0 lawful in
      let was = at_last (λ calls. IsLawful w calls → Holds temporary given w old calls) more old each.1 lawful.0 in
      still_one call ok (more ++ old) takes.0 lawful.1 was.0
      (kept_same_if given (w.seen old) (w.seen old) (w.seen ((call, ok) ∷ more ++ old)) path none_given ((now.1 path ours lasting).0)
      ∙ sym (kept_same_if given (w.seen old) (w.seen old) (w.seen (more ++ old)) path none_given ((was.1 path ours lasting).0)))
      ((w.seen (more ++ old)).named path) refl
      ∙ still_over more old takes.1 each.1 lawful.0

-- new files that paths get at which nothing is, and new files that they may get
module _ (temporary : List ℕ → Type 0) (given gives : List ℕ → List ℕ → Type 0) (puts : List ℕ → Option (List ℕ) → Type 0)
    (more_new : (path bytes : List ℕ) → given path bytes → puts path (Some bytes)) where
  one_put : (shown old new : Files) (path : List ℕ) → IsKept given shown old new path → HasOneOf gives puts shown old new path
  one_put shown old new path (inl same) = inl same
  one_put shown old new path (inr got) = inr (inr (Some got.1.0, more_new path got.1.0 got.1.1, got.1.2))

  each_put : (w : World) (more old : List Answered) → TakeNone temporary more
      → AtEach (λ calls. IsLawful w calls → Holds temporary given w old calls) more old
      → AtEach (λ calls. IsLawful w calls → Sound temporary gives puts w old calls) more old
  each_put w [] old takes each = λ lawful. ((each lawful).0, given_nothing temporary gives puts w old)
  each_put w (call ∷ more) old takes each = (
    λ lawful. let now = each.0 lawful in (
      now.0,
      record {
        seen = λ path ours lasting. one_put (w.seen old) (w.seen old) (w.seen (call ∷ more ++ old)) path ((now.1 path ours lasting).0);
        left = λ path ours lasting. one_put (w.seen old) (w.left old) (w.left (call ∷ more ++ old)) path ((now.1 path ours lasting).1);
        still = λ path ours lasting none none_new. still_over temporary given w path ours lasting
            (λ bytes is. none_new (Some bytes) (more_new path bytes is)) (call ∷ more) old takes each lawful;
      },
    ),
    each_put w more old takes.1 each.1,
  )

  pub keeps_puts : (old new : List Answered) → Keeps temporary given old new → Gives temporary gives puts old new
  keeps_puts old new run = record {
    more = run.more;
    are = run.are;
    whenever = λ w sound own_renamed own. each_put w run.more old run.takes (run.whenever w sound);
  }

pub keeps_gives : (temporary : List ℕ → Type 0) (gives : List ℕ → List ℕ → Type 0) (puts : List ℕ → Option (List ℕ) → Type 0)
    (old new : List Answered) → Keeps temporary Nothing old new → Gives temporary gives puts old new
keeps_gives temporary gives puts = keeps_puts temporary Nothing gives puts (λ path bytes none. absurd none)
