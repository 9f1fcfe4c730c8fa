-- What findings say of the places of a stripe.
use Rattle.std.specs.Prelude.{List, [], ◌∷◌, ◌++◌, ◌||◌, All, Bool, true, false, Contains, Option, Some, None}
use Rattle.lrc_code.specs.declared.places.Place.{Place}
use Rattle.store_repair.specs.declared.outcomes.Finding.{Finding}
use Rattle.store_repair.specs.declared.outcomes.Reason.{Reason as ReasonName}
use Rattle.store_repair.specs.declared.outcomes.Reason.TheVariants as reason

-- the place of a finding, if it has one
abbrev pub named_by : Option Place → List Place
named_by None = []
named_by (Some p) = p ∷ []

-- the places that findings name
abbrev pub named : List Finding → List Place
named [] = []
named (finding ∷ findings) = named_by finding.place ++ named findings

-- what findings name, others name too
abbrev pub NamesStay : List Finding → List Finding → Type 0
NamesStay old new = (p : Place) → Contains (named old) p → Contains (named new) p

-- the place of a finding that says that its fragment differs from the store's checksums
abbrev pub differing_by : ReasonName → Option Place → List Place
differing_by reason.Differs place = named_by place
differing_by reason place = []

-- the places of the fragments of which findings say so
abbrev pub said_differing : List Finding → List Place
said_differing [] = []
said_differing (finding ∷ findings) = differing_by finding.reason finding.place ++ said_differing findings

-- whether a finding says that something was left over, or isn't known to be on the disk
abbrev pub says_unsettled : ReasonName → Bool
says_unsettled (reason.Unsettled fault) = true
says_unsettled reason = false

-- whether one of them does
abbrev pub is_unsettled : List Finding → Bool
is_unsettled [] = false
is_unsettled (finding ∷ findings) = says_unsettled finding.reason || is_unsettled findings

-- whether a finding says that it isn't known how many bytes a stripe's fragments have
abbrev pub says_no_length : ReasonName → Bool
says_no_length reason.NoSurvivor = true
says_no_length (reason.LengthsDiffer lengths) = true
says_no_length reason = false

-- whether one of them does
abbrev pub is_without_length : List Finding → Bool
is_without_length [] = false
is_without_length (finding ∷ findings) = says_no_length finding.reason || is_without_length findings

-- a finding's place has its fragment again; a finding without a place isn't mended
abbrev pub IsMendedBy : List Place → Option Place → Type 0
IsMendedBy rebuilt None = ⊥
IsMendedBy rebuilt (Some p) = Contains rebuilt p

-- each finding's does, so that none is left
abbrev pub AreAllMended : List Finding → List Place → Type 0
AreAllMended findings rebuilt = All (λ finding. IsMendedBy rebuilt finding.place) findings
