-- The files that are seen at paths keep what a crash left of them, over calls that take nothing away.
use Rattle.std.proofs.Common.{◌≡◌, inl, inr, ℕ, suc, List, [], ◌∷◌, ◌++◌, length, Bool, true, refl, sym, ◌∙◌, ap}
use Rattle.std.proofs.Common.{Option, Some, None, option_map}
use Rattle.folders.specs.Calls.{Call, Answered}
use Rattle.folders.specs.Files.{Files, under}
use Rattle.folders.specs.Worlds.{World, IsLawful, IsStep, is_closed}
use Rattle.folders.specs.Kept.{AreKept, AtEach, IsKept, IsSound, TakesNone, TakeNone}
use Rattle.folders.specs.Exchanged.{seen_at}
use Rattle.folders.proofs.Runs.{at_last}
use Rattle.folders.proofs.Staying.{leads_still}
use Rattle.folders.proofs.Steps.{new_seen, other_file, stays_closed}

none_map : (f : ℕ → List ℕ) (o : Option ℕ) → option_map f o ≡ None → o ≡ None
none_map f None none = refl
none_map f (Some n) none = absurd (cc)

-- where no bytes are, no file is
pub none_named : (files : Files) (path : List ℕ) → under files path ≡ None → files.named path ≡ None
none_named files path none = none_map files.bytes (files.named path) none

pub none_under : (files : Files) (path : List ℕ) → files.named path ≡ None → under files path ≡ None
none_under files path none = ap (λ (o : Option ℕ). option_map files.bytes o) none

-- what isn't given has what it had
pub same_unless : (given : List ℕ → List ℕ → Type 0) (shown old new : Files) (path : List ℕ) → ((bytes : List ℕ) → given path bytes → ⊥)
    → IsKept given shown old new path → under new path ≡ under old path
same_unless given shown old new path none (inl same) = same
same_unless given shown old new path none (inr had) = absurd (none had.1.0 had.1.1)

module _ (temporary : List ℕ → Type 0) (w : World) (mid : List Answered) where
  -- a path that led to a file that can't be appended to leads there, and a crash leaves of the file what it left
  abbrev pub LeadsOn : List Answered → Type 0
  LeadsOn calls =
      (path : List ℕ) (file : ℕ) → w.ours path ≡ true → (temporary path → ⊥) → (w.seen mid).named path ≡ Some file
      → is_closed file mid ≡ true
      → ((w.seen calls).named path ≡ Some file)
      × ((is_closed file calls ≡ true) × ((w.left calls).bytes file ≡ (w.left mid).bytes file))

  leads_next : (call : Call) (ok : Bool) (calls : List Answered) → TakesNone temporary call → IsStep w call ok calls → LeadsOn calls
      → LeadsOn ((call, ok) ∷ calls)
  leads_next call ok calls takes step on path file ours lasting leads closed =
      let next : List Answered = (call, ok) ∷ calls in
      let was = on path file ours lasting leads closed in
      let now : (w.seen next).named path ≡ Some file =
      leads_still temporary w path ours lasting (w.seen calls) (w.seen calls) (w.seen next) (suc (length calls)) file call takes was.0
      step.seen ∙ was.0 in
      let shut : is_closed file next ≡ true = stays_closed call ok calls file (λ p is. other_file w calls call (w.seen calls) path file ours
      (new_seen w call calls p step.makes is) was.0) was.1.0 in
      (now, (shut, step.left_bytes file was.1.0 shut ∙ was.1.1))

  -- so it is after each call of a run
  pub each_leads : (later : List Answered) → TakeNone temporary later → AtEach (λ calls. IsLawful w calls → LeadsOn calls) later mid
  each_leads [] takes = λ lawful path file ours lasting leads closed. (leads, (closed, refl))
  each_leads ((call, ok) ∷ later) takes =
      let each = each_leads later takes.1 in (
        λ lawful. leads_next call ok (later ++ mid) takes.0 lawful.1
            (at_last (λ calls. IsLawful w calls → LeadsOn calls) later mid each lawful.0),
        each,
      )

  module _ (given : List ℕ → List ℕ → Type 0) (calls : List Answered) (sound : IsSound temporary w mid)
      (kept : AreKept temporary given w mid calls) (on : LeadsOn calls) (path : List ℕ) (ours : w.ours path ≡ true)
      (lasting : temporary path → ⊥) (none : (bytes : List ℕ) → given path bytes → ⊥) where
    still_as : (o : Option ℕ) → (w.seen mid).named path ≡ o
        → seen_at (w.seen calls) (w.left calls) path ≡ seen_at (w.seen mid) (w.left mid) path
    still_as None is =
        let same = same_unless given (w.seen mid) (w.seen mid) (w.seen calls) path none (kept path ours lasting).0 in
        let gone = none_named (w.seen calls) path (same ∙ none_under (w.seen mid) path is) in
        ap (λ (o : Option ℕ). option_map (w.left calls).bytes o) gone
        ∙ sym (ap (λ (o : Option ℕ). option_map (w.left mid).bytes o) is)
    still_as (Some file) is =
        let leads = on path file ours lasting is (sound.seen path file ours lasting is) in
        ap (λ (o : Option ℕ). option_map (w.left calls).bytes o) leads.0 ∙ ap (λ (b : List ℕ). Some b) leads.1.1
        ∙ sym (ap (λ (o : Option ℕ). option_map (w.left mid).bytes o) is)

    -- a path that isn't given
    pub seen_still : seen_at (w.seen calls) (w.left calls) path ≡ seen_at (w.seen mid) (w.left mid) path
    seen_still = still_as ((w.seen mid).named path) refl
