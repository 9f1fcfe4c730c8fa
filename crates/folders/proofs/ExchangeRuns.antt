-- Runs of calls by which a new file gets the path of another one, which a second path keeps.
use Rattle.std.proofs.Common.{◌≡◌, inl, inr, ℕ, List, [], ◌∷◌, ◌++◌, Bool, true, false, Option, Some}
use Rattle.std.proofs.Common.{IsSome, refl, sym, ◌∙◌, ap, subst}
use Rattle.folders.specs.Calls.{Call, Answered, sync, link_again, rename, sync_folder, same_file}
use Rattle.folders.specs.Files.{Files, under, IsIn}
use Rattle.folders.specs.Worlds.{World, IsLawful}
use Rattle.folders.specs.Kept.{AtEach, IsSound, IsKept, AreKept, Keeps}
use Rattle.folders.specs.Exchanged.{IsExchanged, AreExchanged, Exchanges, LeadToOne, WasAsked}
use Rattle.folders.proofs.Runs.{at_last, each_after, each_both, each_given, each_weaker, Holds}
use Rattle.folders.proofs.SeenFiles.{LeadsOn, each_leads, seen_still}
use Rattle.std.proofs.lemmas.List.{append_assoc}
use Rattle.folders.proofs.Exchanges.{Prepares, HasFile, IsReady, LeadFor, asked_file, file_stays, file_synced, one_settled, ready_exchanged}
use Rattle.folders.proofs.Exchanges.{ready_first, ready_next, renamed_exchanged, renamed_sound, some_bytes}

-- a run of calls after each of which the path still leads where it led
pub record Prepared (temporary : List ℕ → Type 0) (path second : List ℕ) (old new : List Answered) : Type 0 where
  pub more : List Answered
  pub are : new ≡ more ++ old
  pub whenever : (w : World) → IsSound temporary w old → w.ours path ≡ true → w.ours second ≡ true
      → AtEach (λ calls. IsLawful w calls → IsReady temporary path second w old calls) more old

module _ (temporary : List ℕ → Type 0) (path second : List ℕ) (not_path : temporary path → ⊥) (not_second : temporary second → ⊥)
    (apart : path ≡ second → ⊥) where
  pub prepared_none : (calls : List Answered) → Prepared temporary path second calls calls
  prepared_none calls = record {
    more = [];
    are = refl;
    whenever = λ w sound our_path our_second lawful. ready_first temporary path second w our_path our_second not_path not_second apart
        calls sound;
  }

  pub prepared_more : (call : Call) (ok : Bool) (old mid new : List Answered) → Prepares path second call → new ≡ (call, ok) ∷ mid
      → Prepared temporary path second old mid → Prepared temporary path second old new
  prepared_more call ok old mid new prepares is before = record {
    more = (call, ok) ∷ before.more;
    are = is ∙ ap (λ (calls : List Answered). (call, ok) ∷ calls) before.are;
    whenever = λ w sound our_path our_second.
        let each = before.whenever w sound our_path our_second in (
          λ lawful. ready_next temporary path second w our_path our_second not_path not_second apart old call ok (before.more ++ old)
              prepares lawful.1 (at_last (λ calls. IsLawful w calls → IsReady temporary path second w old calls) before.more old each
              lawful.0),
          each,
        );
  }

  each_early : (written : Option (List ℕ)) (w : World) (more old : List Answered) → IsSound temporary w old → w.ours path ≡ true
      → w.ours second ≡ true
      → AtEach (λ calls. IsLawful w calls → IsReady temporary path second w old calls) more old
      → AtEach (λ calls. IsLawful w calls → IsSound temporary w calls × AreExchanged temporary written path second w old calls) more old
  each_early written w more old sound our_path our_second each =
      each_weaker (λ calls. IsLawful w calls → IsReady temporary path second w old calls)
      (λ calls. IsLawful w calls → IsSound temporary w calls × AreExchanged temporary written path second w old calls)
      (λ calls ready lawful. let is = ready lawful in (
        is.sound,
        ready_exchanged temporary path second w our_path our_second not_path not_second apart old written calls sound is,
      )) more old each

  -- the path isn't given away
  pub exchanges_none : (written : Option (List ℕ)) (old new : List Answered) → Prepared temporary path second old new
      → Exchanges temporary written path second old new
  exchanges_none written old new run = record {
    more = run.more;
    are = run.are;
    whenever = λ w sound our_path our_second. each_early written w run.more old sound our_path our_second
        (run.whenever w sound our_path our_second);
  }

  -- the path is given away
  pub exchanges_all : (file : ℕ) (all : List ℕ) (written : Option (List ℕ)) → written ≡ Some all → (from : List ℕ) → temporary from
      → (ok : Bool) (old mid new : List Answered) → HasFile file all mid → LeadFor path second mid
      → new ≡ (rename file from path, ok) ∷ mid → Prepared temporary path second old mid
      → Exchanges temporary written path second old new
  exchanges_all file all written whole from is_from ok old mid new has both is run = record {
    more = (rename file from path, ok) ∷ run.more;
    are = is ∙ ap (λ (calls : List Answered). (rename file from path, ok) ∷ calls) run.are;
    whenever = λ w sound our_path our_second.
        let each = run.whenever w sound our_path our_second in
        let calls = run.more ++ old in
        let has_here = subst (HasFile file all) run.are has in
        let both_here = subst (LeadFor path second) run.are both in (
          λ lawful.
              let ready = at_last (λ so. IsLawful w so → IsReady temporary path second w old so) run.more old each lawful.0 in
              let at_file = has_here w lawful.0 in
              let at_both = both_here w lawful.0 our_path our_second in (
                renamed_sound temporary path second w our_path our_second not_path not_second apart old file all written whole from
                    is_from ok calls at_file.0 at_file.1.0 at_file.1.1 at_both.0 at_both.1 lawful.1 sound ready,
                renamed_exchanged temporary path second w our_path our_second not_path not_second apart old file all written whole from
                    is_from ok calls at_file.0 at_file.1.0 at_file.1.1 at_both.0 at_both.1 lawful.1 sound ready,
              ),
          each_early written w run.more old sound our_path our_second each,
        );
  }

  -- the second path was asked for
  asked_prepared : (old mid new : List Answered) → WasAsked path second mid new → Prepared temporary path second old mid
      → Prepared temporary path second old new
  asked_prepared old mid new asked run = elim asked.1 [
    | inl is ↦ prepared_more (link_again path second) asked.0 old mid new (refl, refl) is run
    | inr is ↦ prepared_more (same_file path second) asked.0 old ((link_again path second, false) ∷ mid) new tt is
        (prepared_more (link_again path second) false old mid ((link_again path second, false) ∷ mid) (refl, refl) refl run)
  ]

  -- ---- where an exchange ends
  module _ (file : ℕ) (written : Option (List ℕ)) (old : List Answered) where
    first_prepared : (ok : Bool) (new : List Answered) → new ≡ (sync file written, ok) ∷ old → Prepared temporary path second old new
    first_prepared ok new is = prepared_more (sync file written) ok old old new tt is (prepared_none old)

    -- the file couldn't be written to the disk
    pub ends_unwritten : (new : List Answered) → new ≡ (sync file written, false) ∷ old → Exchanges temporary written path second old new
    ends_unwritten new is = exchanges_none written old new (first_prepared false new is)

    -- the second path wasn't given
    pub ends_unkept : (mid new : List Answered) → mid ≡ (sync file written, true) ∷ old → WasAsked path second mid new
        → Exchanges temporary written path second old new
    ends_unkept mid new is asked = exchanges_none written old new (asked_prepared old mid new asked (first_prepared true mid is))

    named_prepared : (folder : List ℕ) (ok : Bool) (mid kept new : List Answered) → mid ≡ (sync file written, true) ∷ old
        → WasAsked path second mid kept → new ≡ (sync_folder folder, ok) ∷ kept → Prepared temporary path second old new
    named_prepared folder ok mid kept new is asked named = prepared_more (sync_folder folder) ok old kept new tt named
        (asked_prepared old mid kept asked (first_prepared true mid is))

    -- it couldn't be written to the disk
    pub ends_unnamed : (folder : List ℕ) (mid kept new : List Answered) → mid ≡ (sync file written, true) ∷ old
        → WasAsked path second mid kept → new ≡ (sync_folder folder, false) ∷ kept → Exchanges temporary written path second old new
    ends_unnamed folder mid kept new is asked named =
        exchanges_none written old new (named_prepared folder false mid kept new is asked named)

    -- the path was to be given
    pub ends_renamed : IsSome written → (from : List ℕ) → temporary from → (folder : List ℕ) → IsIn folder second → (ok : Bool)
        → (mid kept named new : List Answered) → mid ≡ (sync file written, true) ∷ old → WasAsked path second mid kept
        → LeadToOne path second kept → named ≡ (sync_folder folder, true) ∷ kept → new ≡ (rename file from path, ok) ∷ named
        → Exchanges temporary written path second old new
    ends_renamed some from is_from folder inside ok mid kept named new is asked one names renames =
        let all = some_bytes written some in
        let has_mid = subst (HasFile file all.0) (sym is) (file_synced file all.0 written old all.1) in
        let has_kept = asked_file path second file all.0 mid kept asked has_mid in
        exchanges_all file all.0 written all.1 from is_from ok old named new
        (subst (HasFile file all.0) (sym names)
        (file_stays path second file all.0 (sync_folder folder) true kept tt has_kept))
        (subst (LeadFor path second) (sym names) (one_settled path second folder kept inside one)) renames
        (named_prepared folder true mid kept named is asked names)

-- ---- an exchange, and then calls that change no path but temporary ones

pub kept_same : (shown old new : Files) (path : List ℕ) → IsKept (λ p bytes. ⊥) shown old new path → under new path ≡ under old path
kept_same shown old new path (inl same) = same
kept_same shown old new path (inr had) = absurd had.1.1

exchanged_then : (written : Option (List ℕ)) (path second : List ℕ) (shown old mid new : Files)
    → under new path ≡ under mid path → under new second ≡ under mid second → IsExchanged written path second shown old mid
    → IsExchanged written path second shown old new
exchanged_then written path second shown old mid new same same_second is = record {
  at = elim is.at [
    | inl had ↦ inl (same ∙ had)
    | inr has ↦ inr (record { bytes = has.bytes; whole = has.whole; here = same ∙ has.here; kept = same_second ∙ has.kept })
  ];
  beside = elim is.beside [
    | inl had ↦ inl (same_second ∙ had)
    | inr got ↦ inr (got.0, same_second ∙ got.1)
  ];
}

module _ (temporary : List ℕ → Type 0) (written : Option (List ℕ)) (path second : List ℕ) (not_path : temporary path → ⊥)
    (not_second : temporary second → ⊥) where
  are_exchanged_then : (w : World) (old mid new : List Answered) → w.ours path ≡ true → w.ours second ≡ true
      → IsSound temporary w mid → AreExchanged temporary written path second w old mid → AreKept temporary (λ p bytes. ⊥) w mid new
      → LeadsOn temporary w mid new → AreExchanged temporary written path second w old new
  are_exchanged_then w old mid new our_path our_second sound are kept on =
      let first = kept path our_path not_path in
      let other = kept second our_second not_second in record {
        seen = exchanged_then written path second (w.seen old) (w.seen old) (w.seen mid) (w.seen new)
            (kept_same (w.seen mid) (w.seen mid) (w.seen new) path first.0)
            (kept_same (w.seen mid) (w.seen mid) (w.seen new) second other.0) are.seen;
        left = exchanged_then written path second (w.seen old) (w.left old) (w.left mid) (w.left new)
            (kept_same (w.seen mid) (w.left mid) (w.left new) path first.1)
            (kept_same (w.seen mid) (w.left mid) (w.left new) second other.1) are.left;
        others = λ p ours lasting not_first not_other.
            let had = are.others p ours lasting not_first not_other in let at = kept p ours lasting in (
              kept_same (w.seen mid) (w.seen mid) (w.seen new) p at.0 ∙ had.0,
              kept_same (w.seen mid) (w.left mid) (w.left new) p at.1 ∙ had.1,
            );
        still = λ p ours lasting not_first not_other.
            seen_still temporary w mid (λ q bytes. ⊥) new sound kept on p ours lasting (λ bytes none. none)
            ∙ are.still p ours lasting not_first not_other;
      }

  abbrev IsAll : World → List Answered → List Answered → Type 0
  IsAll w old calls = IsSound temporary w calls × AreExchanged temporary written path second w old calls

  pub exchanges_then : (old mid new : List Answered) → Exchanges temporary written path second old mid
      → Keeps temporary (λ p bytes. ⊥) mid new → Exchanges temporary written path second old new
  exchanges_then old mid new first quiet =
      let later = quiet.more in let more = first.more in
      let whole : new ≡ later ++ (more ++ old) = quiet.are ∙ ap (λ (calls : List Answered). later ++ calls) first.are in
      let again = subst (λ (calls : List Answered). (w : World) → IsSound temporary w calls
      → AtEach (λ so. IsLawful w so → Holds temporary (λ p bytes. ⊥) w calls so) later calls) first.are quiet.whenever in
      record {
        more = later ++ more;
        are = whole ∙ sym (append_assoc later more old);
        whenever = λ w sound our_path our_second.
            let each = first.whenever w sound our_path our_second in
            each_after (λ calls. IsLawful w calls → IsAll w old calls) later more old each
            (each_given w (IsAll w old) later (more ++ old) (λ lawful.
            let mid = at_last (λ calls. IsLawful w calls → IsAll w old calls) more old each lawful in
            each_weaker (λ calls. (IsLawful w calls → Holds temporary (λ p bytes. ⊥) w (more ++ old) calls)
            × (IsLawful w calls → LeadsOn temporary w (more ++ old) calls))
            (λ calls. IsLawful w calls → IsAll w old calls)
            (λ calls holds so. let found = holds.0 so in (
              found.0,
              are_exchanged_then w old (more ++ old) calls our_path our_second mid.0 mid.1 found.1 (holds.1 so),
            )) later (more ++ old) (each_both (λ calls. IsLawful w calls → Holds temporary (λ p bytes. ⊥) w (more ++ old) calls)
            (λ calls. IsLawful w calls → LeadsOn temporary w (more ++ old) calls) later (more ++ old) (again w mid.0)
            (each_leads temporary w (more ++ old) later quiet.takes))));
      }
