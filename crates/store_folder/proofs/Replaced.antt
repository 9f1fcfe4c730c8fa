-- A fragment that is replaced.
use Rattle.std.proofs.Common.{◌≡◌, ◌∙◌, ◌⊎◌, ◌+◌, ap, inl, inr, arith, length-append, ℕ, List, length, false, Option}
use Rattle.std.proofs.Common.{Some, None, IfSome}
use Rattle.std.specs.Prelude.{codes}
use Rattle.std.proofs.Common.{String, Global}
use Rattle.folders.specs.Calls.{Answered}
use Rattle.lrc_code.specs.declared.places.Place.{Place}
use Rattle.store_folder.specs.declared.site.Site.{Site}
use Rattle.folders.specs.Placed.{HasPath}
use Rattle.folders.proofs.ExchangeRuns.{exchanges_then}
use Rattle.folders.proofs.Exchanges.{not_on}
use Rattle.folders.proofs.Others.{stays_kept, stays_then}
use Rattle.folders.proofs.Runs.{keeps_after, keeps_all}
use Rattle.store_folder.specs.Done.{HasFolderOf, IsDue}
use Rattle.store_folder.specs.Kept.{IsPathOf, IsTemporary, KeepsEach}
use Rattle.store_folder.specs.Replaced.{IsTouched, ReplacesIn, ReplacesOne, second_path}
use Rattle.store_folder.specs.Temporary.{is_temporary}

-- a path isn't its second one
pub apart : (path : List ℕ) → path ≡ second_path path → ⊥
apart path same =
    let len : length path ≡ length path + 8 = ap length same ∙ length-append path (codes ".damaged") in absurd (omega (arith, len))

-- the paths that an exchange changes
pub touched : (path second from : List ℕ) → second ≡ second_path path → IsTemporary from → (p : List ℕ)
    → (p ≡ path) ⊎ (p ≡ second) ⊎ (p ≡ from) → IsTouched path p
touched path second from is temporary p (inl here) = inr (inl here)
touched path second from is temporary p (inr (inl kept)) = inr (inr (kept ∙ is))
touched path second from is temporary p (inr (inr made)) = inl (ap is_temporary made ∙ temporary)

-- nothing was called
pub replaces_nothing : (path : List ℕ) (written : Option (List ℕ)) (calls : List Answered) → ReplacesOne path written calls calls
replaces_nothing path written calls = inl (keeps_all IsTemporary (λ p bytes. ⊥) calls)

-- what was called then changes no path but temporary ones
pub replaces_then : (path second : List ℕ) (written : Option (List ℕ)) (old mid new : List Answered) → is_temporary path ≡ false
    → second ≡ second_path path → is_temporary second ≡ false → ReplacesOne path written old mid → KeepsEach mid new
    → ReplacesOne path written old new
replaces_then path second written old mid new lasting is free (inl kept) quiet =
    inl (keeps_after IsTemporary (λ p bytes. ⊥) old mid new kept quiet)
replaces_then path second written old mid new lasting is free (inr first) quiet = inr (record {
  some = first.some;
  lasting = first.lasting;
  exchanges = exchanges_then IsTemporary written path (second_path path) (not_on (is_temporary path) lasting)
      (not_on (is_temporary (second_path path)) first.lasting) old mid new first.exchanges quiet;
  others = λ p other. stays_then p old mid new (first.others p other)
      (stays_kept IsTemporary (λ q bytes. ⊥) p (λ is. other (inl is)) mid new quiet);
})

-- the path that was given is still to be written to the disk
pub given_due : (path : List ℕ) (written : Option (List ℕ)) (folders : List (String Global)) (calls : List Answered)
    → HasPath path written calls → HasFolderOf path folders → IfSome written (IsDue folders calls path)
given_due path None folders calls whole has = tt
given_due path (Some bytes) folders calls whole has = inr (whole, has)

-- the path of a stripe's fragment
pub replaces_here : (site : Site) (stripe : List ℕ) (place : Place) (written : Option (List ℕ)) (path : List ℕ) (old new : List Answered)
    → IsPathOf site stripe place path → is_temporary path ≡ false → KeepsEach old new ⊎ ReplacesOne path written old new
    → ReplacesIn site stripe place written old new
replaces_here site stripe place written path old new here lasting (inl keeps) = inl keeps
replaces_here site stripe place written path old new here lasting (inr replaces) =
    inr (record { path = path; here = here; lasting = lasting; at = replaces })

-- or of none
pub replaces_none : (site : Site) (stripe : List ℕ) (place : Place) (written : Option (List ℕ)) (old new : List Answered)
    → KeepsEach old new → ReplacesIn site stripe place written old new
replaces_none site stripe place written old new keeps = inl keeps
