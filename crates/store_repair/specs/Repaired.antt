-- What an attempt to repair a stripe came to, and what a repair leaves.
use Rattle.store_repair.specs.declared.making.Attempt.{Attempt}
use Rattle.store_repair.specs.declared.making.Attempt.TheVariants as attempt
use Rattle.store_repair.specs.declared.making.Made.{Made}
use Rattle.store_repair.specs.declared.putting.Way.{Way}
use Rattle.store_repair.specs.declared.putting.Way.TheVariants as way
use Rattle.stores.specs.declared.store.Placed.{Placed as PlacedName}
use Rattle.stores.specs.declared.store.Placed.TheVariants as placed
use Rattle.std.specs.declared.io.Error.{Error}
use Rattle.store_repair.specs.declared.outcomes.Finding.{Finding}
use Rattle.stores.specs.declared.stripes.Found.{Found as FoundName}
use Rattle.store_repair.specs.Findings.{is_without_length, named, said_differing}
use Rattle.stores.specs.Stripes.{has_file, has_other_file}
use Rattle.store_repair.specs.Lengths.{HaveNoCommonLength}
use Rattle.store_repair.specs.Losses.{AreCovered, IsCovered}
use Rattle.store_repair.specs.Scrubbed.{AreOfOneStripe, said_damaged}
use Rattle.stores.specs.Store.{ShownFiles}
use Rattle.lrc_code.specs.declared.places.Place.{Place}
use Rattle.lrc_code.specs.declared.codes.Code.{Code as CodeName}
use Rattle.lrc_code.specs.Code.{has_place}
use Rattle.lrc_code.specs.Codes.{tables_of}
use Rattle.std.specs.Prelude.{◌≡◌, ◌⊎◌, ℕ, List, All, Contains, Some, None, Bool, true, false, Result, Ok, Err}

-- what holds of the files, where some were made
abbrev pub IfMade : {N : Type 0} → (Made N → Type 0) → Attempt N → Type 0
IfMade P (attempt.Made made) = P made
IfMade P (attempt.LeaveOut place guess) = Unit {0}
IfMade P attempt.GivenUp = Unit {0}

-- what holds where none were made
abbrev pub IfNotMade : {N : Type 0} → Type 0 → Attempt N → Type 0
IfNotMade P (attempt.Made made) = Unit {0}
IfNotMade P (attempt.LeaveOut place guess) = P
IfNotMade P attempt.GivenUp = P

-- a place of the code survives, has a fragment made for it, or is named by a finding
abbrev pub IsAccountedFor : CodeName → (Place → Bool) → List Place → List Finding → Place → Type 0
IsAccountedFor code survives made findings p =
    has_place (tables_of code) p ≡ true → survives p ≡ false → Contains made p ⊎ Contains (named findings) p

-- It isn't known how many bytes a stripe's fragments have: a finding says so, its files have no length in common, and nothing survives.
pub record IsWithoutLength (code : CodeName) (survives : Place → Bool) (files : List FoundName) (findings : List Finding) : Type 0 where
  pub said : is_without_length findings ≡ true
  pub several : HaveNoCommonLength code files
  pub none : (p : Place) → survives p ≡ false

-- each place of the code survives, has a fragment made for it, or is named by a finding; or the stripe's length isn't known
abbrev pub AreAccountedFor : CodeName → (Place → Bool) → List FoundName → List Place → List Finding → Type 0
AreAccountedFor code survives files made findings =
    ((p : Place) → IsAccountedFor code survives made findings p) ⊎ IsWithoutLength code survives files findings

-- the same of each place at which no file of the stripe's length was found
abbrev pub AreLostAccountedFor : CodeName → (Place → Bool) → List FoundName → ℕ → List Place → List Finding → Type 0
AreLostAccountedFor code survives files len made findings =
    ((p : Place) → has_file files len p ≡ false → IsAccountedFor code survives made findings p)
    ⊎ IsWithoutLength code survives files findings

-- a place of the code at which a file of the stripe's length was found survives, or is named by a finding
abbrev pub IsOpenedOrNamed : CodeName → List FoundName → ℕ → (Place → Bool) → List Finding → Place → Type 0
IsOpenedOrNamed code files len survives findings p =
    has_place (tables_of code) p ≡ true → has_file files len p ≡ true → survives p ≡ false → Contains (named findings) p

-- each such place does, or the stripe's length isn't known
abbrev pub AreOpenedOrNamed : CodeName → List FoundName → ℕ → (Place → Bool) → List Finding → Type 0
AreOpenedOrNamed code files len survives findings =
    ((p : Place) → IsOpenedOrNamed code files len survives findings p) ⊎ IsWithoutLength code survives files findings

-- Damage of what was read shows, or of what was made of it, where not all survivors had to be read: the store knows digests of the
-- fragments that were made, or those that were read cover them.
abbrev pub IsShown : (Place → Type 0) → CodeName → (Place → Bool) → List Place → Type 0
IsShown listed code survives made = All listed made ⊎ AreCovered code survives made

-- damage of what was read shows as far as it can: all survivors were read, or it shows with fewer
abbrev pub IsShownOrAll : (Place → Type 0) → CodeName → (Place → Bool) → List Place → List Finding → Type 0
IsShownOrAll listed code survives made findings =
    IsShown listed code survives made ⊎ ((p : Place) → IsAccountedFor code survives made findings p)

-- none were made
abbrev pub IsNotMade : {N : Type 0} → Attempt N → Type 0
IsNotMade (attempt.Made made) = ⊥
IsNotMade (attempt.LeaveOut place guess) = Unit {0}
IsNotMade attempt.GivenUp = Unit {0}

-- whether a fragment is to replace one that is there
abbrev pub replaces : Way → Bool
replaces way.Place = false
replaces way.Replace = true
replaces (way.Leave reason) = false

-- a fragment got its name
abbrev pub IsPlaced : Result PlacedName Error → Type 0
IsPlaced (Ok placed.Placed) = Unit {0}
IsPlaced (Ok placed.IsThere) = ⊥
IsPlaced (Err error) = ⊥

-- whether a fragment is left out of the store and nothing is said of it
abbrev pub is_silent : Way → Bool
is_silent way.Place = false
is_silent way.Replace = false
is_silent (way.Leave None) = true
is_silent (way.Leave (Some reason)) = false

-- why a fragment is replaced that the survivors cover: a finding says that it is damaged, or its file has another length than the stripe's
abbrev pub HasCause : List Finding → List FoundName → ℕ → Place → Type 0
HasCause findings files len p = Contains (said_damaged findings) p ⊎ (has_other_file files len p ≡ true)

-- What has to hold where a fragment that is there is replaced: it was asked for, and the survivors are checked; and a finding says that it
-- differs from the store's checksums, to which the store holds what replaces it, or the survivors cover it and there is a cause.
pub record MayReplace (asked : Bool) (code : CodeName) (survives : Place → Bool) (is_checked : Bool) (len : ℕ) (files : List FoundName)
    (findings : List Finding) (p : Place) : Type 0 where
  pub asked_for : asked ≡ true
  pub checked : is_checked ≡ true
  pub cause : Contains (said_differing findings) p ⊎ (IsCovered code survives p × HasCause findings files len p)

-- each of a stripe's fragments that was there is there, or it may be replaced
abbrev pub OnlyReplaces : (Place → Type 0) → List ℕ → ShownFiles → ShownFiles → Type 0
OnlyReplaces may stripe None None = Unit {0}
OnlyReplaces may stripe None (Some new) = ⊥
OnlyReplaces may stripe (Some old) None = ⊥
OnlyReplaces may stripe (Some old) (Some new) =
    (p : Place) (bytes : List ℕ) → old.fragments stripe p ≡ Some bytes → (new.fragments stripe p ≡ Some bytes) ⊎ may p

-- a stripe's fragments at other places than these are as they were
abbrev pub SameBeside : List Place → List ℕ → ShownFiles → ShownFiles → Type 0
SameBeside places stripe None None = Unit {0}
SameBeside places stripe None (Some new) = ⊥
SameBeside places stripe (Some old) None = ⊥
SameBeside places stripe (Some old) (Some new) =
    (p : Place) → ¬ Contains places p → new.fragments stripe p ≡ old.fragments stripe p

-- under the names of a stripe's fragments, at all places of the code, are those of one stripe of the code, where the files are shown
abbrev pub IsWhole : CodeName → ℕ → List ℕ → ShownFiles → Type 0
IsWhole code len stripe None = Unit {0}
IsWhole code len stripe (Some files) = AreOfOneStripe code (has_place (tables_of code)) len stripe files
