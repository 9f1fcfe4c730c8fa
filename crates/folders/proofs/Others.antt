-- What calls leave as it is at the paths that they don't touch.
use Rattle.std.proofs.Common.{◌≡◌, ◌⊎◌, inl, inr, refl, ◌∙◌, ℕ, List, [], ◌∷◌, ◌++◌, Bool, true, false, Option}
use Rattle.folders.specs.Calls.{Call, Answered, sync, link_again, rename, sync_folder, same_file}
use Rattle.folders.specs.Exchanged.{WasAsked}
use Rattle.folders.specs.Kept.{Keeps}
use Rattle.folders.specs.Others.{StaysAt, LeavesOthers}
use Rattle.folders.proofs.Staying.{LeavesAt, LeaveAt, has_whole_beside, leave_lasting, on_disk_beside, refused_over}

-- over calls that lead the path to no other file
stays_over : (path : List ℕ) (more old new : List Answered) → new ≡ more ++ old → LeaveAt path more → StaysAt path old new
stays_over path more old new are leave = record {
  whole = λ bytes was. has_whole_beside path bytes more old new are leave was;
  on_disk = λ bytes was. on_disk_beside path bytes more old new are leave was;
  refused = λ was. refused_over path more old new are was;
}

-- and then further calls
pub stays_then : (path : List ℕ) (old mid new : List Answered) → StaysAt path old mid → StaysAt path mid new → StaysAt path old new
stays_then path old mid new first second = record {
  whole = λ bytes was. second.whole bytes (first.whole bytes was);
  on_disk = λ bytes was. second.on_disk bytes (first.on_disk bytes was);
  refused = λ was. second.refused (first.refused was);
}

-- over calls that take no path away but temporary ones
pub stays_kept : (temporary : List ℕ → Type 0) (given : List ℕ → List ℕ → Type 0) (path : List ℕ) → (temporary path → ⊥)
    → (old new : List Answered) → Keeps temporary given old new → StaysAt path old new
stays_kept temporary given path lasting old new keeps =
    stays_over path keeps.more old new keeps.are (leave_lasting temporary path lasting keeps.more keeps.takes)

-- ---- an exchange, which may touch the path, the second one and that of the new file
module _ (path second from : List ℕ) where
  abbrev pub IsOneOf : List ℕ → Type 0
  IsOneOf p = (p ≡ path) ⊎ (p ≡ second) ⊎ (p ≡ from)

  one_leaves : (call : Call) (ok : Bool) (old new : List Answered) → new ≡ (call, ok) ∷ old
      → ((p : List ℕ) → (IsOneOf p → ⊥) → LeavesAt p call) → LeavesOthers IsOneOf old new
  one_leaves call ok old new is leaves p other = stays_over p ((call, ok) ∷ []) old new is (leaves p other, tt)

  linked_leaves : (ok : Bool) (old new : List Answered) → new ≡ (link_again path second, ok) ∷ old → LeavesOthers IsOneOf old new
  linked_leaves ok old new is = one_leaves (link_again path second) ok old new is (λ p other same. other (inr (inl same)))

  asked_leaves : (old new : List Answered) → WasAsked path second old new → LeavesOthers IsOneOf old new
  asked_leaves old new asked p other = elim asked.1 [
    | inl is ↦ linked_leaves asked.0 old new is p other
    | inr is ↦ stays_then p old ((link_again path second, false) ∷ old) new (linked_leaves false old _ refl p other)
        (one_leaves (same_file path second) asked.0 ((link_again path second, false) ∷ old) new is (λ q free. tt) p other)
  ]

  module _ (file : ℕ) (written : Option (List ℕ)) (old : List Answered) where
    -- the file was to be written to the disk
    pub leaves_synced : (ok : Bool) (new : List Answered) → new ≡ (sync file written, ok) ∷ old → LeavesOthers IsOneOf old new
    leaves_synced ok new is = one_leaves (sync file written) ok old new is (λ p other. tt)

    -- the second path was asked for
    pub leaves_asked : (mid new : List Answered) → mid ≡ (sync file written, true) ∷ old → WasAsked path second mid new
        → LeavesOthers IsOneOf old new
    leaves_asked mid new is asked p other =
        stays_then p old mid new (leaves_synced true mid is p other) (asked_leaves mid new asked p other)

    -- it was to be written to the disk
    pub leaves_named : (folder : List ℕ) (ok : Bool) (mid kept new : List Answered) → mid ≡ (sync file written, true) ∷ old
        → WasAsked path second mid kept → new ≡ (sync_folder folder, ok) ∷ kept → LeavesOthers IsOneOf old new
    leaves_named folder ok mid kept new is asked named p other = stays_then p old kept new (leaves_asked mid kept is asked p other)
        (one_leaves (sync_folder folder) ok kept new named (λ q free. tt) p other)

    -- the path was to be given
    pub leaves_renamed : (folder : List ℕ) (number : ℕ) (made : List ℕ) (ok : Bool) (mid kept named new : List Answered)
        → mid ≡ (sync file written, true) ∷ old → WasAsked path second mid kept → named ≡ (sync_folder folder, true) ∷ kept
        → made ≡ from → new ≡ (rename number made path, ok) ∷ named → LeavesOthers IsOneOf old new
    leaves_renamed folder number made ok mid kept named new is asked names same renames p other =
        stays_then p old named new (leaves_named folder true mid kept named is asked names p other)
        (one_leaves (rename number made path) ok named new renames (λ q free. (
          (λ at. free (inr (inr (at ∙ same)))),
          (λ at. free (inl at)),
        )) p other)
