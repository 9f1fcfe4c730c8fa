-- Names that are written to the disk.
use Rattle.std.proofs.Common.{◌≡◌, ◌⊎◌, inl, inr, ℕ, List, [], ◌∷◌, ◌++◌, true, false, sym, subst, string_bytes}
use Rattle.std.specs.Str.{bytes_eq}
use Rattle.std.specs.List.{list_any}
use Rattle.std.proofs.Common.{String, Global}
use Rattle.std.proofs.lemmas.Bool.{cases_Bool}
use Rattle.std.proofs.lemmas.Slice.Eq.{bytes_eq-Decides}
use Rattle.std.proofs.Common.{Option, Some, None, IfSome, IfOk, MatchResult, Ok, Err}
use Rattle.std.specs.declared.result.Result.{Result}
use Rattle.folders.specs.Calls.{Answered, sync_folder}
use Rattle.folders.specs.Placed.{HasPath, WasRefused}
use Rattle.folders.specs.Files.{IsIn}
use Rattle.folders.specs.Disk.{HasWhole, IsOnDisk}
use Rattle.folders.specs.Kept.{Keeps}
use Rattle.folders.specs.Others.{StaysAt}
use Rattle.folders.proofs.Others.{stays_kept}
use Rattle.folders.proofs.Staying.{has_whole_over, on_disk_over, refused_over, settled}
use Rattle.std.specs.Prelude.{IsOkAnd, IsSome, IsSomeAnd}
use Rattle.lrc_code.specs.declared.places.Place.{Place}
use Rattle.store_folder.specs.declared.site.Site.{Site}
use Rattle.store_folder.specs.Done.{HasFolderOf, HaveFoldersOf, IsDue, IsNamed, IsSettled}
use Rattle.store_folder.specs.Kept.{IsTemporary, KeepsEach}
use Rattle.store_folder.specs.Placed.{IsPlacedAt, outcome_by}
use Rattle.store_folder.specs.Stays.{lasts}
use Rattle.stores.specs.declared.store.Placed.{Placed as PlacedName}
use Rattle.store_folder.specs.Temporary.{is_temporary}
use Rattle.stores.specs.Kept.{StaysOver}

-- the last of the folders, or another
has_last : (path : List ℕ) (front : List (String Global)) (last : String Global) → HasFolderOf path (front ++ last ∷ [])
    → HasFolderOf path front ⊎ IsIn (string_bytes last) path
has_last path [] last (inl here) = inr here
has_last path [] last (inr none) = absurd none
has_last path (folder ∷ front) last (inl here) = inl (inl here)
has_last path (folder ∷ front) last (inr more) = elim (has_last path front last more) [ inl there ↦ inl (inr there) | inr here ↦ inr here ]

-- one more folder's names were written to the disk
module _ (path bytes : List ℕ) (folder : String Global) (old new : List Answered) (lasting : is_temporary path ≡ false)
    (are : new ≡ (sync_folder (string_bytes folder), true) ∷ old) where
  more : List Answered
  more = (sync_folder (string_bytes folder), true) ∷ []

  whole_still : HasWhole path bytes old → HasWhole path bytes new
  unfolding more
  whole_still whole = has_whole_over IsTemporary path bytes (lasts path lasting) more old new are (tt, tt) whole

  on_disk_still : IsOnDisk path bytes old → IsOnDisk path bytes new
  unfolding more
  on_disk_still held = on_disk_over IsTemporary path bytes (lasts path lasting) more old new are (tt, tt) held

-- the names in the last of the folders were written to the disk
pub due_after : (path bytes : List ℕ) (front : List (String Global)) (last : String Global) (old new : List Answered)
    → is_temporary path ≡ false → new ≡ (sync_folder (string_bytes last), true) ∷ old → IsDue (front ++ last ∷ []) old path bytes
    → IsDue front new path bytes
due_after path bytes front last old new lasting are (inl held) =
    inl (on_disk_still path bytes last old new lasting are held)
due_after path bytes front last old new lasting are (inr due) = elim (has_last path front last due.1) [
  | inl there ↦ inr (whole_still path bytes last old new lasting are due.0, there)
  | inr here ↦ inl (subst (IsOnDisk path bytes) (sym are) (settled (string_bytes last) path bytes old here due.0))
]

-- all were
pub all_done : (path bytes : List ℕ) (folders : List (String Global)) (calls : List Answered) → folders ≡ []
    → IsDue folders calls path bytes → IsOnDisk path bytes calls
all_done path bytes folders calls none (inl held) = held
all_done path bytes folders calls none (inr due) = absurd (let no : ⊥ = subst (HasFolderOf path) none due.1 in no)

-- over calls that leave a path as it is
due_at : (path bytes : List ℕ) (folders later : List (String Global)) (old new : List Answered) → StaysAt path old new
    → (HasFolderOf path folders → HasFolderOf path later) → IsDue folders old path bytes → IsDue later new path bytes
due_at path bytes folders later old new stays had (inl held) = inl (stays.on_disk bytes held)
due_at path bytes folders later old new stays had (inr due) = inr (stays.whole bytes due.0, had due.1)

-- over calls that take nothing away
pub due_over : (given : List ℕ → List ℕ → Type 0) (path bytes : List ℕ) (folders more : List (String Global)) (old new : List Answered)
    → is_temporary path ≡ false → (HasFolderOf path folders → HasFolderOf path more) → Keeps IsTemporary given old new
    → IsDue folders old path bytes → IsDue more new path bytes
due_over given path bytes folders more old new lasting had keeps =
    due_at path bytes folders more old new (stays_kept IsTemporary given path (lasts path lasting) old new keeps) had

-- a folder that is noted already
pub noted : (folder path : List ℕ) (folders : List (String Global))
    → list_any (λ other. bytes_eq (string_bytes other) folder) folders ≡ true → IsIn folder path → HasFolderOf path folders
noted folder path [] is here = absurd (let no : false ≡ true = is in cc)
noted folder path (other ∷ folders) is here = elim (cases_Bool (bytes_eq (string_bytes other) folder)) [
  | inl same ↦ inl (subst (λ (f : List ℕ). IsIn f path) (sym ((bytes_eq-Decides (string_bytes other) folder).0 same)) here)
  | inr differ ↦ inr (noted folder path folders (rw differ at is) here)
]

-- one more
pub had : (path : List ℕ) (folders : List (String Global)) (folder : String Global) → HasFolderOf path folders
    → HasFolderOf path (folders ++ folder ∷ [])
had path [] folder none = absurd none
had path (other ∷ folders) folder (inl here) = inl here
had path (other ∷ folders) folder (inr more) = inr (had path folders folder more)

pub has_now : (path : List ℕ) (folders : List (String Global)) (folder : String Global) → IsIn (string_bytes folder) path
    → HasFolderOf path (folders ++ folder ∷ [])
has_now path [] folder here = inl here
has_now path (other ∷ folders) folder here = inr (has_now path folders folder here)

pub if_ok : {T E : Type 0} (r : Result T E) (P Q : T → Type 0) → IfOk r P → ((x : T) → P x → Q x) → IfOk r Q
if_ok (Ok x) P Q holds leads = leads x holds
if_ok (Err e) P Q holds leads = tt

-- a file that was to get a path, and then calls that take nothing away
pub linked : {E : Type 0} (path : List ℕ) (written : Option (List ℕ)) (answer : Result (Unit {0}) E) (first old new : List Answered)
    (folders : List (String Global)) → MatchResult answer (λ _. HasPath path written first) (λ _. WasRefused path first) → old ≡ first
    → HasFolderOf path folders → KeepsEach old new → is_temporary path ≡ false
    → WasRefused path new ⊎ IfSome written (IsDue folders new path)
linked path None (Ok x) first old new folders given same has keeps lasting = inr tt
linked path (Some bytes) (Ok x) first old new folders given same has keeps lasting = inr (due_over (λ p b. ⊥) path bytes folders folders
    old new lasting (λ h. h) keeps (inr (subst (HasWhole path bytes) (sym same) given, has)))
linked path written (Err e) first old new folders given same has keeps lasting =
    inl (refused_over path keeps.more old new keeps.are (subst (WasRefused path) (sym same) given))

-- a file that was to get a path, of which the outcome is known, and then calls that take nothing away
pub placed_at : {E : Type 0} (path : List ℕ) (written : Option (List ℕ)) (answer : Result (Unit {0}) E) (is : PlacedName)
    (old new : List Answered) → IsSome written → MatchResult answer (λ _. HasPath path written old) (λ _. WasRefused path old)
    → is ≡ outcome_by answer → KeepsEach old new → is_temporary path ≡ false → IsPlacedAt path written new is
placed_at path None (Ok x) is old new some given so keeps lasting = absurd (cc)
placed_at path (Some bytes) (Ok x) is old new some given so keeps lasting = subst (IsPlacedAt path (Some bytes) new) (sym so)
    (has_whole_over IsTemporary path bytes (lasts path lasting) keeps.more old new keeps.are keeps.takes given)
placed_at path written (Err e) is old new some given so keeps lasting = subst (IsPlacedAt path written new) (sym so)
    (refused_over path keeps.more old new keeps.are given)

pub outcome_at : {W E F : Type 0} (answer : W → Result (Unit {0}) F) (path : List ℕ) (written : Option (List ℕ)) (tried : Result W E)
    (outcome : Result PlacedName E) (old new : List Answered) → IfOk tried (λ _. IsSome written)
    → IfOk tried (λ placed. MatchResult (answer placed) (λ _. HasPath path written old) (λ _. WasRefused path old))
    → IfOk outcome (λ is. IsOkAnd tried (λ placed. is ≡ outcome_by (answer placed))) → KeepsEach old new → is_temporary path ≡ false
    → IfOk outcome (IsPlacedAt path written new)
outcome_at answer path written tried (Err e) old new some given so keeps lasting = tt
outcome_at answer path written (Ok placed) (Ok is) old new some given so keeps lasting =
    placed_at path written (answer placed) is old new some given so keeps lasting
outcome_at answer path written (Err e) (Ok is) old new some given so keeps lasting = absurd so

-- bytes that are there
pub some_due : (Refused : Type 0) (written : Option (List ℕ)) (P : List ℕ → Type 0) → IsSome written → Refused ⊎ IfSome written P
    → Refused ⊎ IsSomeAnd written P
some_due Refused None P some due = absurd (cc)
some_due Refused (Some bytes) P some (inl was) = inl was
some_due Refused (Some bytes) P some (inr is) = inr is

-- ---- what a store says of fragments that got their names

module _ (path : List ℕ) (lasting : is_temporary path ≡ false) (folders : List (String Global)) (old new : List Answered) where
  due_later : (later : List (String Global)) (written : Option (List ℕ)) → HaveFoldersOf folders later → StaysAt path old new
      → WasRefused path old ⊎ IsSomeAnd written (IsDue folders old path)
      → WasRefused path new ⊎ IsSomeAnd written (IsDue later new path)
  due_later later written had stays (inl was) = inl (stays.refused was)
  due_later later None had stays (inr none) = absurd none
  due_later later (Some bytes) had stays (inr due) = inr (due_at path bytes folders later old new stays (had path) due)

  due_done : (written : Option (List ℕ)) → KeepsEach old new → ((bytes : List ℕ) → IsDue folders old path bytes → IsOnDisk path bytes new)
      → WasRefused path old ⊎ IsSomeAnd written (IsDue folders old path)
      → WasRefused path new ⊎ IsSomeAnd written (λ bytes. IsOnDisk path bytes new)
  due_done written keeps done (inl was) = inl (refused_over path keeps.more old new keeps.are was)
  due_done None keeps done (inr none) = absurd none
  due_done (Some bytes) keeps done (inr due) = inr (done bytes due)

module _ (old_site new_site : Site) (same : new_site ≡ old_site) (folders : List (String Global)) (old new : List Answered) where
  -- over calls that leave its path as it is
  pub named_at : (more : List (String Global)) → HaveFoldersOf folders more → (stripe : List ℕ) (place : Place)
      (written : Option (List ℕ)) → (named : IsNamed old_site stripe place written folders old) → StaysAt named.path old new
      → IsNamed new_site stripe place written more new
  named_at more had stripe place written named stays =
      subst (λ site. IsNamed site stripe place written more new) (sym same) (record {
        path = named.path;
        here = named.here;
        lasting = named.lasting;
        due = due_later named.path named.lasting folders old new more written had stays named.due;
        listed = named.listed;
      })

  -- over calls that take nothing away
  pub named_over : (given : List ℕ → List ℕ → Type 0) (more : List (String Global)) → HaveFoldersOf folders more
      → Keeps IsTemporary given old new
      → StaysOver (λ stripe place written. IsNamed old_site stripe place written folders old)
      (λ stripe place written. IsNamed new_site stripe place written more new)
  named_over given more had keeps stripe place written named = named_at more had stripe place written named
      (stays_kept IsTemporary given named.path (lasts named.path named.lasting) old new keeps)

  -- names were written to the disk
  pub named_settled : KeepsEach old new
      → ((path bytes : List ℕ) → is_temporary path ≡ false → IsDue folders old path bytes → IsOnDisk path bytes new)
      → StaysOver (λ stripe place written. IsNamed old_site stripe place written folders old)
      (λ stripe place written. IsSettled new_site stripe place written new)
  named_settled keeps done stripe place written named =
      subst (λ site. IsSettled site stripe place written new) (sym same) (record {
        path = named.path;
        here = named.here;
        lasting = named.lasting;
        done = due_done named.path named.lasting folders old new written keeps (λ bytes. done named.path bytes named.lasting) named.due;
        listed = named.listed;
      })
