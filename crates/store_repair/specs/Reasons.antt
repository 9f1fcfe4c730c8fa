-- Why a fragment, or a stripe, isn't as it should be.
use Rattle.std.specs.Prelude.{◌≡◌, Bool, true, false}
use Rattle.std.specs.declared.io.Error.{Error}
use Rattle.stores.specs.declared.stripes.Found.{Found as FoundName}
use Rattle.stores.specs.declared.stripes.Found.TheVariants as found
use Rattle.store_repair.specs.declared.outcomes.Reason.{Reason as ReasonName}
use Rattle.store_repair.specs.declared.outcomes.Reason.TheVariants as reason

-- why a fragment isn't among the survivors, by what is under its name; what the system refused to look at has its error
abbrev pub IsReasonOf : FoundName → ReasonName → Type 0
IsReasonOf found.Absent why = why ≡ reason.Absent
IsReasonOf (found.File length) why = why ≡ reason.OtherLength
IsReasonOf found.Dangling why = why ≡ reason.Dangling
IsReasonOf found.Other why = why ≡ reason.NoFile
IsReasonOf (found.Unknown code) why = (error : Error) × (why ≡ reason.Unknown error)

-- the fragment is damaged, is taken for damaged, or differs from the checksums
abbrev pub is_damage : ReasonName → Bool
is_damage reason.Damaged = true
is_damage reason.TakenForDamaged = true
is_damage reason.Differs = true
is_damage other = false

-- the system refused to look at something, or to read or write it
abbrev pub is_of_device : ReasonName → Bool
is_of_device (reason.Unknown error) = true
is_of_device (reason.Unread error) = true
is_of_device (reason.Unwritten error) = true
is_of_device (reason.Unsettled fault) = true
is_of_device other = false
