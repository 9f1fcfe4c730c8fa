-- Runs of calls that give new files to paths, one after another.
use Rattle.std.proofs.Common.{◌≡◌, inl, ℕ, List, [], ◌++◌, true, refl, sym, ◌∙◌, ap, subst, Option, Some}
use Rattle.std.proofs.lemmas.List.{append_assoc}
use Rattle.folders.specs.Calls.{Answered}
use Rattle.folders.specs.Worlds.{World, IsLawful}
use Rattle.folders.specs.Kept.{AreKept, AtEach, IsSound, Keeps}
use Rattle.folders.specs.Exchanged.{AreExchanged, Exchanges}
use Rattle.folders.specs.Changed.{AreChanged, Changes}
use Rattle.folders.proofs.Changing.{as_before, exchanged_changed, kept_changed, stays_changed}
use Rattle.folders.proofs.Runs.{at_last, each_after, each_both, each_given, each_weaker, Holds}
use Rattle.folders.proofs.SeenFiles.{LeadsOn, each_leads, seen_still}

module _ (temporary : List ℕ → Type 0) (second : List ℕ → List ℕ) where
  -- no call
  pub changes_none : (given : List ℕ → List ℕ → Type 0) (calls : List Answered) → Changes temporary given second calls calls
  changes_none given calls = record {
    more = [];
    are = refl;
    whenever = λ w sound own lawful. (
      sound,
      record {
        seen = λ path ours lasting. inl refl;
        left = λ path ours lasting. inl refl;
        still = λ path ours lasting none none_second. refl;
      },
    );
  }

  module _ (given wider : List ℕ → List ℕ → Type 0) (leads : (path bytes : List ℕ) → given path bytes → wider path bytes) where
    abbrev IsAll : World → List Answered → List Answered → Type 0
    IsAll w old calls = IsSound temporary w calls × AreChanged temporary wider second w old calls

    abbrev IsFirst : World → List Answered → List Answered → Type 0
    IsFirst w old calls = IsSound temporary w calls × AreChanged temporary given second w old calls

    are_wider : (w : World) (old calls : List Answered) → AreChanged temporary given second w old calls
        → AreChanged temporary wider second w old calls
    are_wider w old calls are = record {
      seen = λ path ours lasting. stays_changed temporary second given wider leads (w.seen old) (w.seen old) (w.seen old) (w.seen calls)
          (w.seen calls) path refl (λ bytes is last. refl) (are.seen path ours lasting);
      left = λ path ours lasting. stays_changed temporary second given wider leads (w.seen old) (w.seen old) (w.left old) (w.left calls)
          (w.left calls) path refl (λ bytes is last. refl) (are.left path ours lasting);
      still = λ path ours lasting none none_second. are.still path ours lasting (λ bytes is. none bytes (leads path bytes is))
          (λ p bytes is. none_second p bytes (leads p bytes is));
    }

    each_wider : (w : World) (more old : List Answered) → AtEach (λ calls. IsLawful w calls → IsFirst w old calls) more old
        → AtEach (λ calls. IsLawful w calls → IsAll w old calls) more old
    each_wider w more old each = each_weaker (λ calls. IsLawful w calls → IsFirst w old calls)
        (λ calls. IsLawful w calls → IsAll w old calls)
        (λ calls holds lawful. let found = holds lawful in (found.0, are_wider w old calls found.1)) more old each

    -- and then calls that give files to paths at which nothing is
    module _ (gave : List ℕ → List ℕ → Type 0) (widens : (path bytes : List ℕ) → gave path bytes → wider path bytes)
        (apart : (path bytes more : List ℕ) → given path bytes → gave (second path) more → ⊥) where
      are_changed_kept : (w : World) (old mid new : List Answered)
          → ((path bytes : List ℕ) → wider path bytes → (w.ours path ≡ true) × (w.ours (second path) ≡ true))
          → IsSound temporary w mid → AreChanged temporary given second w old mid → AreKept temporary gave w mid new
          → LeadsOn temporary w mid new → AreChanged temporary wider second w old new
      are_changed_kept w old mid new own sound are kept on = record {
        seen = λ path ours lasting. kept_changed temporary second given wider leads (w.seen old) (w.seen mid) (w.seen old) (w.seen mid)
            (w.seen new) gave path (widens path) (apart path) (are.seen path ours lasting) (are.seen path ours lasting)
            (kept path ours lasting).0
            (λ bytes is last. (kept (second path) (own path bytes (leads path bytes is)).1 last).0);
        left = λ path ours lasting. kept_changed temporary second given wider leads (w.seen old) (w.seen mid) (w.left old) (w.left mid)
            (w.left new) gave path (widens path) (apart path) (are.seen path ours lasting) (are.left path ours lasting)
            (kept path ours lasting).1
            (λ bytes is last. (kept (second path) (own path bytes (leads path bytes is)).1 last).1);
        still = λ path ours lasting none none_second.
            seen_still temporary w mid gave new sound kept on path ours lasting (λ bytes is. none bytes (widens path bytes is))
            ∙ are.still path ours lasting (λ bytes is. none bytes (leads path bytes is))
            (λ p bytes is. none_second p bytes (leads p bytes is));
      }

      pub changes_kept : (old mid new : List Answered) → Changes temporary given second old mid → Keeps temporary gave mid new
          → Changes temporary wider second old new
      changes_kept old mid new before run =
          let later = run.more in let more = before.more in
          let whole : new ≡ later ++ (more ++ old) = run.are ∙ ap (λ (calls : List Answered). later ++ calls) before.are in
          let again = subst (λ (calls : List Answered). (w : World) → IsSound temporary w calls
          → AtEach (λ so. IsLawful w so → Holds temporary gave w calls so) later calls) before.are run.whenever in
          record {
            more = later ++ more;
            are = whole ∙ sym (append_assoc later more old);
            whenever = λ w sound own.
                let each = before.whenever w sound (λ path bytes is. own path bytes (leads path bytes is)) in
                each_after (λ calls. IsLawful w calls → IsAll w old calls) later more old (each_wider w more old each)
                (each_given w (IsAll w old) later (more ++ old) (λ lawful.
                let mid = at_last (λ calls. IsLawful w calls → IsFirst w old calls) more old each lawful in
                each_weaker (λ calls. (IsLawful w calls → Holds temporary gave w (more ++ old) calls)
                × (IsLawful w calls → LeadsOn temporary w (more ++ old) calls))
                (λ calls. IsLawful w calls → IsAll w old calls)
                (λ calls holds so. let found = holds.0 so in (
                  found.0,
                  are_changed_kept w old (more ++ old) calls own mid.0 mid.1 found.1 (holds.1 so),
                )) later (more ++ old) (each_both (λ calls. IsLawful w calls → Holds temporary gave w (more ++ old) calls)
                (λ calls. IsLawful w calls → LeadsOn temporary w (more ++ old) calls) later (more ++ old) (again w mid.0)
                (each_leads temporary w (more ++ old) later run.takes))));
          }

    -- and then calls that give a file to a path, which its second one keeps
    module _ (at : List ℕ) (written : Option (List ℕ)) (all : List ℕ) (whole : written ≡ Some all) (gets : wider at all)
        (fresh : (bytes : List ℕ) → given at bytes → ⊥) (no_second : (q bytes : List ℕ) → given q bytes → at ≡ second q → ⊥)
        (free : (bytes : List ℕ) → given (second at) bytes → ⊥) (one : (p q : List ℕ) → second p ≡ second q → p ≡ q)
        (lasting_at : temporary at → ⊥) (lasting_second : temporary (second at) → ⊥) where
      are_changed_exchanged : (w : World) (old mid new : List Answered)
          → ((path bytes : List ℕ) → wider path bytes → (w.ours path ≡ true) × (w.ours (second path) ≡ true))
          → AreChanged temporary given second w old mid → AreExchanged temporary written at (second at) w mid new
          → AreChanged temporary wider second w old new
      are_changed_exchanged w old mid new own are now =
          let still_seen = are.seen at (own at all gets).0 lasting_at in
          let still_left = are.still at (own at all gets).0 lasting_at fresh no_second in record {
            seen = exchanged_changed temporary second given wider leads (w.seen old) (w.seen mid) (w.seen old) (w.seen mid) (w.seen new) at
                written all whole gets fresh no_second free one lasting_second
                (as_before temporary second given at fresh no_second (w.seen old) (w.seen old) (w.seen mid) still_seen)
                (λ path. w.ours path ≡ true) (λ path bytes is. (own path bytes (leads path bytes is)).1) are.seen are.seen now.seen
                (λ path ours lasting other apart. (now.others path ours lasting other apart).0);
            left = exchanged_changed temporary second given wider leads (w.seen old) (w.seen mid) (w.left old) (w.left mid) (w.left new) at
                written all whole gets fresh no_second free one lasting_second still_left
                (λ path. w.ours path ≡ true) (λ path bytes is. (own path bytes (leads path bytes is)).1) are.seen are.left now.left
                (λ path ours lasting other apart. (now.others path ours lasting other apart).1);
            still = λ path ours lasting none none_second.
                now.still path ours lasting (λ same. none all (subst (λ (p : List ℕ). wider p all) (sym same) gets))
                (λ same. none_second at all gets same)
                ∙ are.still path ours lasting (λ bytes is. none bytes (leads path bytes is))
                (λ p bytes is. none_second p bytes (leads p bytes is));
          }

      pub changes_exchanged : (old mid new : List Answered) → Changes temporary given second old mid
          → Exchanges temporary written at (second at) mid new → Changes temporary wider second old new
      changes_exchanged old mid new before run =
          let later = run.more in let more = before.more in
          let whole_run : new ≡ later ++ (more ++ old) = run.are ∙ ap (λ (calls : List Answered). later ++ calls) before.are in
          let again = subst (λ (calls : List Answered). (w : World) → IsSound temporary w calls → w.ours at ≡ true
          → w.ours (second at) ≡ true → AtEach (λ so. IsLawful w so → IsSound temporary w so
          × AreExchanged temporary written at (second at) w calls so) later calls) before.are run.whenever in
          record {
            more = later ++ more;
            are = whole_run ∙ sym (append_assoc later more old);
            whenever = λ w sound own.
                let each = before.whenever w sound (λ path bytes is. own path bytes (leads path bytes is)) in
                each_after (λ calls. IsLawful w calls → IsAll w old calls) later more old (each_wider w more old each)
                (each_given w (IsAll w old) later (more ++ old) (λ lawful.
                let mid = at_last (λ calls. IsLawful w calls → IsFirst w old calls) more old each lawful in
                each_weaker (λ calls. IsLawful w calls → IsSound temporary w calls
                × AreExchanged temporary written at (second at) w (more ++ old) calls)
                (λ calls. IsLawful w calls → IsAll w old calls)
                (λ calls holds so. let found = holds so in (
                  found.0,
                  are_changed_exchanged w old (more ++ old) calls own mid.1 found.1,
                )) later (more ++ old) (again w mid.0 (own at all gets).0 (own at all gets).1)));
          }
