-- A file that is on the disk gets a path.
use Rattle.std.proofs.Common.{◌≡◌, ◌⊎◌, inl, inr, ℕ, suc, List, [], ◌∷◌, length, Bool, true, Option, Some}
use Rattle.std.proofs.Common.{None, option_map, IfSome, IsSome, refl, sym, ◌∙◌, ap, subst}
use Rattle.std.proofs.lemmas.Bool.{or_left}
use Rattle.std.proofs.lemmas.Slice.Eq.{bytes_eq-Decides}
use Rattle.std.specs.Prelude.{bytes_eq, ◌≢◌}
use Rattle.std.proofs.lemmas.Bool.{cases_Bool}
use Rattle.folders.specs.Calls.{Answered, sync, link}
use Rattle.folders.specs.Files.{Files, under}
use Rattle.folders.specs.Worlds.{World, IsLawful, MayChange, KeepsClosed, is_closed}
use Rattle.folders.specs.Kept.{IsSound, IsKept, AreKept, Keeps}
use Rattle.folders.specs.Placed.{IsGiven}
use Rattle.folders.proofs.Steps.{equal, unchanged, quiet_sound, quiet_kept}
use Rattle.folders.proofs.Runs.{all_kept, are_kept_after}

-- two paths are equal or they aren't
pub same_or_other : (m n : List ℕ) → (m ≡ n) ⊎ (m ≢ n)
same_or_other m n = elim (cases_Bool (bytes_eq m n)) [
  | inl is ↦ inl ((bytes_eq-Decides m n).0 is)
  | inr differ ↦ inr (λ same. let yes = (bytes_eq-Decides m n).1 same in cc)
]

-- a file that was written to the disk by the last call
closed_now : (file : ℕ) (written : Option (List ℕ)) (calls : List Answered) → is_closed file ((sync file written, true) ∷ calls) ≡ true
closed_now file written calls = or_left _ _ (equal file)

module _ (temporary : List ℕ → Type 0) (w : World) (file : ℕ) (written : Option (List ℕ)) (to : List ℕ) (ok : Bool) (before : List Answered)
    (is_some : IsSome written) where
  abbrev synced : List Answered
  synced = (sync file written, true) ∷ before

  abbrev linked : List Answered
  linked = (link file to, ok) ∷ synced

  -- of one of what is seen and what a crash leaves
  module _ (old new : Files) (bytes : KeepsClosed synced linked old new) (whole : IfSome written (λ all. old.bytes file ≡ all))
      (may : MayChange w.ours (w.seen synced) (suc (length synced)) (link file to) old new)
      (closed : (path : List ℕ) (f : ℕ) → w.ours path ≡ true → (temporary path → ⊥) → old.named path ≡ Some f
      → is_closed f synced ≡ true) where
    all_bytes : (o : Option (List ℕ)) → o ≡ written → IsSome o → written ≡ Some (new.bytes file)
    all_bytes None is some = cc
    all_bytes (Some all) is some = sym is ∙ ap (λ (b : List ℕ). Some b) (sym (bytes file (closed_now file written before)
        (closed_now file written before)
        ∙ subst (λ (x : Option (List ℕ)). IfSome x (λ (a : List ℕ). old.bytes file ≡ a)) (sym is) whole))

    gets : (path : List ℕ) → path ≡ to → (w.seen synced).named to ≡ None → new.named to ≡ Some file
        → IsKept (IsGiven to written linked) (w.seen synced) old new path
    gets path same nothing leads = inr (
      ap (λ (p : List ℕ). under (w.seen synced) p) same ∙ ap (λ (o : Option ℕ). option_map (w.seen synced).bytes o) nothing,
      (
        new.bytes file,
        record {
          here = same;
          whole = all_bytes written refl is_some;
          synced = inl
              (all_bytes written refl is_some, refl);
        },
        ap (λ (p : List ℕ). under new p) same ∙ ap (λ
            (o : Option ℕ). option_map new.bytes o) leads,
      ),
    )

    pub link_kept : (path : List ℕ) → w.ours path ≡ true → (temporary path → ⊥) → IsKept (IsGiven to written linked)
        (w.seen synced) old new path
    link_kept path ours not_temporary = elim (same_or_other path to) [
      | inr other ↦ inl (unchanged temporary w (link file to) ok synced old new path ours (λ p is. cc) bytes
          (λ f at. closed path f ours not_temporary at) (may.0 path ours other))
      | inl same ↦ elim (may.1 (subst (λ (p : List ℕ). w.ours p ≡ true) same ours)) [
        | inl stays ↦ inl (unchanged temporary w (link file to) ok synced old new path ours (λ p is. cc) bytes
            (λ f at. closed path f ours not_temporary at)
            (ap new.named same ∙ stays ∙ ap old.named (sym same)))
        | inr leads ↦ gets path same leads.0 leads.1
      ]
    ]

    some_file : (m n : ℕ) → Some m ≡ Some n → m ≡ n
    some_file m n same = cc

    pub link_closed : (path : List ℕ) (f : ℕ) → w.ours path ≡ true → (temporary path → ⊥) → new.named path ≡ Some f
        → is_closed f linked ≡ true
    link_closed path f ours not_temporary at = elim (same_or_other path to) [
      | inr other ↦ closed path f ours not_temporary (sym (may.0 path ours other) ∙ at)
      | inl same ↦ elim (may.1 (subst (λ (p : List ℕ). w.ours p ≡ true) same ours)) [
        | inl stays ↦ closed path f ours not_temporary (ap old.named same ∙ sym stays ∙ ap new.named (sym same) ∙ at)
        | inr leads ↦ subst (λ (n : ℕ). is_closed n linked ≡ true) (some_file file f (sym leads.1 ∙ ap new.named (sym same) ∙ at))
            (closed_now file written before)
      ]
    ]

  module _ (lawful : IsLawful w linked) (sound : IsSound temporary w before) where
    sound_synced : IsSound temporary w synced
    sound_synced = quiet_sound temporary w (sync file written) true before lawful.0.1 sound tt

    seen_whole : (o : Option (List ℕ)) → IfSome o (λ all. ((w.seen synced).bytes file ≡ all) × ((w.left synced).bytes file ≡ all))
        → IfSome o (λ all. (w.seen synced).bytes file ≡ all)
    seen_whole None done = tt
    seen_whole (Some all) done = done.0

    left_whole : (o : Option (List ℕ)) → IfSome o (λ all. ((w.seen synced).bytes file ≡ all) × ((w.left synced).bytes file ≡ all))
        → IfSome o (λ all. (w.left synced).bytes file ≡ all)
    left_whole None done = tt
    left_whole (Some all) done = done.1

    pub linked_sound : IsSound temporary w linked
    linked_sound = record {
      seen = link_closed (w.seen synced) (w.seen linked) lawful.1.seen_bytes (seen_whole written
          (lawful.0.1.done refl)) lawful.1.seen sound_synced.seen;
      left = link_closed (w.left synced) (w.left linked) lawful.1.left_bytes (left_whole written
          (lawful.0.1.done refl)) lawful.1.left sound_synced.left;
    }

    last_kept : AreKept temporary (IsGiven to written linked) w synced linked
    last_kept path ours not_temporary = (
      link_kept (w.seen synced) (w.seen linked) lawful.1.seen_bytes (seen_whole written
          (lawful.0.1.done refl)) lawful.1.seen sound_synced.seen path ours not_temporary,
      link_kept (w.left synced) (w.left linked) lawful.1.left_bytes (left_whole written
          (lawful.0.1.done refl)) lawful.1.left sound_synced.left path ours not_temporary,
    )

    synced_kept : AreKept temporary (IsGiven to written linked) w before synced
    synced_kept = quiet_kept temporary w (sync file written) true before lawful.0.1 sound tt (IsGiven to written linked)

    pub linked_kept : AreKept temporary (IsGiven to written linked) w before linked
    linked_kept = are_kept_after temporary (IsGiven to written linked) w before synced linked synced_kept last_kept

-- a file goes to the disk and then gets a path, whatever that call answers
pub keeps_link : (temporary : List ℕ → Type 0) (file : ℕ) (written : Option (List ℕ)) (to : List ℕ) (ok : Bool)
    (old mid new : List Answered) → IsSome written
    → mid ≡ (sync file written, true) ∷ old → new ≡ (link file to, ok) ∷ mid → Keeps temporary (IsGiven to written new) old new
keeps_link temporary file written to ok old mid new some synced linked =
    let whole : new ≡ (link file to, ok) ∷ (sync file written, true) ∷ old = linked ∙ ap (λ (calls : List Answered). (link file to, ok)
    ∷ calls) synced in
    subst (λ (calls : List Answered). Keeps temporary (IsGiven to written calls) old calls) (sym whole) (record {
      more = (link file to, ok) ∷ (sync file written, true) ∷ [];
      are = refl;
      whenever = λ w sound. (
        λ lawful. (
          linked_sound temporary w file written to ok old some lawful sound,
          linked_kept temporary w file written to ok old some lawful sound,
        ),
        (
          λ lawful. (
            quiet_sound temporary w (sync file written) true old lawful.1 sound tt,
            quiet_kept temporary w (sync file written) true old lawful.1 sound tt (IsGiven to written ((link file to, ok)
                ∷ (sync file written, true) ∷ old)),
          ),
          λ lawful. (sound, all_kept temporary _ w old),
        ),
      );
      takes = (tt, (tt, tt));
    })
