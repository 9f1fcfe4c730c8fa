-- What is at a path, and on the disk, stays over calls that lead the path to no other file.
use Rattle.std.proofs.Common.{◌≡◌, ◌≢◌, ◌⊎◌, inl, inr, ℕ, suc, List, [], ◌∷◌, ◌++◌, length, Bool, true, refl, sym, ◌∙◌, ap, subst}
use Rattle.std.proofs.Common.{Option, Some, None}
use Rattle.folders.specs.Calls.{Call, Answered, make, sync, link, link_again, rename, rename_again, remove, sync_folder, same_file, absent}
use Rattle.folders.specs.Files.{Files, IsIn}
use Rattle.folders.specs.Worlds.{World, IsLawful, IsStep, MayChange, is_closed}
use Rattle.folders.specs.Kept.{TakesNone, TakeNone}
use Rattle.folders.specs.Disk.{IsWhole, HasWhole, IsHeld, IsOnDisk}
use Rattle.folders.specs.Placed.{WasRefused}
use Rattle.folders.proofs.Steps.{new_seen, other_file, stays_closed}
use Rattle.folders.proofs.Links.{same_or_other}
use Rattle.folders.proofs.Runs.{lawful_front}

-- a call that leads a path to no other file, if something is there
abbrev pub LeavesAt : List ℕ → Call → Type 0
LeavesAt path (make p) = path ≢ p
LeavesAt path (sync file bytes) = Unit {0}
LeavesAt path (link file to) = Unit {0}
LeavesAt path (link_again from to) = path ≢ to
LeavesAt path (rename file from to) = (path ≢ from) × (path ≢ to)
LeavesAt path (rename_again from to) = (path ≢ from) × (path ≢ to)
LeavesAt path (remove p) = path ≢ p
LeavesAt path (sync_folder p) = Unit {0}
LeavesAt path (same_file p other) = Unit {0}
LeavesAt path (absent p) = Unit {0}

-- so do all of these
abbrev pub LeaveAt : List ℕ → List Answered → Type 0
LeaveAt path [] = Unit {0}
LeaveAt path (call ∷ more) = LeavesAt path call.0 × LeaveAt path more

none_or_some : (file : ℕ) (o : Option ℕ) → o ≡ Some file → o ≡ None → ⊥
none_or_some file o some none = let both : None ≡ Some file = sym none ∙ some in cc

neither : (path from to : List ℕ) → (path ≢ from) × (path ≢ to) → (path ≡ from) ⊎ (path ≡ to) → ⊥
neither path from to other (inl is) = other.0 is
neither path from to other (inr is) = other.1 is

module _ (w : World) (path : List ℕ) (ours : w.ours path ≡ true) where
  -- one call, of what is seen or of what a crash leaves: something is seen at the path before it
  pub leads_there : (shown old new : Files) (made file : ℕ) (call : Call) → LeavesAt path call → shown.named path ≡ Some file
      → MayChange w.ours shown made call old new → new.named path ≡ old.named path
  leads_there shown old new made file (make p) leaves there may = may.0 path ours leaves
  leads_there shown old new made file (sync f bytes) leaves there may = may path ours (λ none. none)
  leads_there shown old new made file (link f to) leaves there may = elim (same_or_other path to) [
    | inr other ↦ may.0 path ours other
    | inl same ↦ elim (may.1 (subst (λ (p : List ℕ). w.ours p ≡ true) same ours)) [
      | inl stays ↦ ap new.named same ∙ stays ∙ ap old.named (sym same)
      | inr leads ↦ absurd (none_or_some file (shown.named to) (ap shown.named (sym same) ∙ there) leads.0)
    ]
  ]
  leads_there shown old new made file (link_again from to) leaves there may = may.0 path ours leaves
  leads_there shown old new made file (rename f from to) leaves there may = may.0 path ours (neither path from to leaves)
  leads_there shown old new made file (rename_again from to) leaves there may = may.0 path ours (neither path from to leaves)
  leads_there shown old new made file (remove p) leaves there may = may.0 path ours leaves
  leads_there shown old new made file (sync_folder p) leaves there may = may path ours (λ none. none)
  leads_there shown old new made file (same_file p other) leaves there may = may path ours (λ none. none)
  leads_there shown old new made file (absent p) leaves there may = may path ours (λ none. none)

  module _ (call : Call) (ok : Bool) (calls : List Answered) (bytes : List ℕ) (leaves : LeavesAt path call)
      (step : IsStep w call ok calls) where
    closed_still : (whole : IsWhole w calls path bytes) → is_closed whole.file ((call, ok) ∷ calls) ≡ true
    closed_still whole = stays_closed call ok calls whole.file (λ p is. other_file w calls call (w.seen calls) path whole.file ours
        (new_seen w call calls p step.makes is) whole.leads) whole.closed

    -- what is at the path stays there
    pub whole_still : IsWhole w calls path bytes → IsWhole w ((call, ok) ∷ calls) path bytes
    whole_still whole = record {
      file = whole.file;
      leads = leads_there (w.seen calls) (w.seen calls) (w.seen ((call, ok) ∷ calls)) (suc (length calls)) whole.file call leaves
          whole.leads step.seen ∙ whole.leads;
      closed = closed_still whole;
      seen = step.seen_bytes whole.file whole.closed (closed_still whole) ∙ whole.seen;
      left = step.left_bytes whole.file whole.closed (closed_still whole) ∙ whole.left;
    }

    pub held_still : IsHeld w calls path bytes → IsHeld w ((call, ok) ∷ calls) path bytes
    unfolding whole_still
    held_still held = record {
      whole = whole_still held.whole;
      leads = leads_there (w.seen calls) (w.left calls) (w.left ((call, ok) ∷ calls)) (suc (length calls)) held.whole.file call leaves
          held.whole.leads step.left ∙ held.leads;
    }

  -- over a run
  pub whole_over : (more old : List Answered) (bytes : List ℕ) → LeaveAt path more → IsLawful w (more ++ old)
      → IsWhole w old path bytes → IsWhole w (more ++ old) path bytes
  whole_over [] old bytes leave lawful whole = whole
  whole_over ((call, ok) ∷ more) old bytes leave lawful whole =
      whole_still call ok (more ++ old) bytes leave.0 lawful.1 (whole_over more old bytes leave.1 lawful.0 whole)

  pub held_over : (more old : List Answered) (bytes : List ℕ) → LeaveAt path more → IsLawful w (more ++ old)
      → IsHeld w old path bytes → IsHeld w (more ++ old) path bytes
  held_over [] old bytes leave lawful held = held
  held_over ((call, ok) ∷ more) old bytes leave lawful held =
      held_still call ok (more ++ old) bytes leave.0 lawful.1 (held_over more old bytes leave.1 lawful.0 held)

module _ (path bytes : List ℕ) where
  pub has_whole_beside : (more old new : List Answered) → new ≡ more ++ old → LeaveAt path more → HasWhole path bytes old
      → HasWhole path bytes new
  has_whole_beside more old new are leave whole = subst (HasWhole path bytes) (sym are) (λ w lawful ours.
      whole_over w path ours more old bytes leave lawful (whole w (lawful_front w more old lawful) ours))

  pub on_disk_beside : (more old new : List Answered) → new ≡ more ++ old → LeaveAt path more → IsOnDisk path bytes old
      → IsOnDisk path bytes new
  on_disk_beside more old new are leave held = subst (IsOnDisk path bytes) (sym are) (λ w lawful ours.
      held_over w path ours more old bytes leave lawful (held w (lawful_front w more old lawful) ours))

-- ---- calls that take no path away but temporary ones

module _ (temporary : List ℕ → Type 0) (path : List ℕ) (lasting : temporary path → ⊥) where
  not_here : (p : List ℕ) → temporary p → path ≢ p
  not_here p is same = lasting (subst temporary (sym same) is)

  leaves_lasting : (call : Call) → TakesNone temporary call → LeavesAt path call
  leaves_lasting (make p) takes = not_here p takes
  leaves_lasting (sync f bytes) takes = tt
  leaves_lasting (link f to) takes = tt
  leaves_lasting (link_again from to) takes = absurd takes
  leaves_lasting (rename f from to) takes = absurd takes
  leaves_lasting (rename_again from to) takes = absurd takes
  leaves_lasting (remove p) takes = not_here p takes
  leaves_lasting (sync_folder p) takes = tt
  leaves_lasting (same_file p other) takes = tt
  leaves_lasting (absent p) takes = tt

  -- a path that isn't temporary is left
  pub leave_lasting : (more : List Answered) → TakeNone temporary more → LeaveAt path more
  leave_lasting [] takes = tt
  leave_lasting ((call, ok) ∷ more) takes = (leaves_lasting call takes.0, leave_lasting more takes.1)

-- so it leads where it led
pub leads_still : (temporary : List ℕ → Type 0) (w : World) (path : List ℕ) → w.ours path ≡ true → (temporary path → ⊥)
    → (shown old new : Files) (made file : ℕ) (call : Call) → TakesNone temporary call → shown.named path ≡ Some file
    → MayChange w.ours shown made call old new → new.named path ≡ old.named path
leads_still temporary w path ours lasting shown old new made file call takes there may =
    leads_there w path ours shown old new made file call (leaves_lasting temporary path lasting call takes) there may

module _ (temporary : List ℕ → Type 0) (path bytes : List ℕ) (lasting : temporary path → ⊥) where
  pub has_whole_over : (more old new : List Answered) → new ≡ more ++ old → TakeNone temporary more → HasWhole path bytes old
      → HasWhole path bytes new
  has_whole_over more old new are takes whole =
      has_whole_beside path bytes more old new are (leave_lasting temporary path lasting more takes) whole

  pub on_disk_over : (more old new : List Answered) → new ≡ more ++ old → TakeNone temporary more → IsOnDisk path bytes old
      → IsOnDisk path bytes new
  on_disk_over more old new are takes held =
      on_disk_beside path bytes more old new are (leave_lasting temporary path lasting more takes) held

-- ---- what is so after further calls

-- a path that was refused was so
refused_since : (path : List ℕ) (more old : List Answered) → WasRefused path old → WasRefused path (more ++ old)
refused_since path [] old was = was
refused_since path ((make to, ok) ∷ more) old was = refused_since path more old was
refused_since path ((sync file written, ok) ∷ more) old was = refused_since path more old was
refused_since path ((link file to, ok) ∷ more) old was = inr (refused_since path more old was)
refused_since path ((link_again from to, ok) ∷ more) old was = refused_since path more old was
refused_since path ((rename file from to, ok) ∷ more) old was = refused_since path more old was
refused_since path ((rename_again from to, ok) ∷ more) old was = refused_since path more old was
refused_since path ((remove to, ok) ∷ more) old was = refused_since path more old was
refused_since path ((sync_folder to, ok) ∷ more) old was = refused_since path more old was
refused_since path ((same_file to other, ok) ∷ more) old was = refused_since path more old was
refused_since path ((absent to, ok) ∷ more) old was = refused_since path more old was

pub refused_over : (path : List ℕ) (more old new : List Answered) → new ≡ more ++ old → WasRefused path old → WasRefused path new
refused_over path more old new are was = subst (WasRefused path) (sym are) (refused_since path more old was)

-- the names in the path's folder were written to the disk
pub settled : (folder path bytes : List ℕ) (calls : List Answered) → IsIn folder path → HasWhole path bytes calls
    → IsOnDisk path bytes ((sync_folder folder, true) ∷ calls)
settled folder path bytes calls inside whole w lawful ours =
    let before = whole w lawful.0 ours in
    let after = whole_still w path ours (sync_folder folder) true calls bytes tt lawful.1 before in record {
      whole = after;
      leads = lawful.1.done refl path ours inside ∙ after.leads;
    }
