-- The copies of the description of a file: what they say, which is believed and which may be replaced.
use Rattle.std.specs.Prelude.{◌≡◌, ℕ, ◌*◌, ◌<◌, ◌==◌, nat_le, Bool, true, false, ◌&&◌, if◌then◌else◌, List, Option, None, Some}
use Rattle.std.specs.Prelude.{count_by, MatchOption}
use Rattle.std.specs.List.{Contains}
use Rattle.std.specs.Str.{bytes_eq}
use Rattle.lrc_code.specs.declared.codes.Code.{Code as CodeName}
use Rattle.lrc_code.specs.declared.codes.Code.TheVariants.{Narrow, Wide}
use Rattle.store_records.specs.declared.descriptions.Described.{Described}
use Rattle.store_faults.specs.declared.copies.CopyReason.{CopyReason}
use Rattle.store_faults.specs.declared.copies.CopyReason.TheVariants as reason
use Rattle.store_faults.specs.declared.copies.CopyState.{CopyState}
use Rattle.store_faults.specs.declared.copies.CopyState.TheVariants.{Absent, NoFile, Odd, There, Unread}
use Rattle.store_faults.specs.declared.copies.FoundCopy.{FoundCopy}
use Rattle.store_faults.specs.declared.copies.Copies.{Copies}

-- two codes are the same
abbrev pub same_code : CodeName → CodeName → Bool
same_code Narrow Narrow = true
same_code Wide Wide = true
same_code _ _ = false

-- two descriptions say the same
abbrev pub same : Described → Described → Bool
same one other = one.length == other.length && (bytes_eq one.digest other.digest && same_code one.code other.code)

-- a copy can be read and is a description
abbrev pub is_readable : CopyState → Bool
is_readable (There described digest) = true
is_readable _ = false

-- a copy says this of the file
abbrev pub says : CopyState → Described → Bool
says (There other digest) described = same other described
says _ described = false

-- how many copies can be read and are descriptions
abbrev pub readable : Copies → ℕ
readable copies = count_by (λ copy. is_readable copy.state) copies.all.items

-- how many copies say this of the file
abbrev pub agreeing : Copies → Described → ℕ
agreeing copies described = count_by (λ copy. says copy.state described) copies.all.items

-- a copy says this of the file, and has this digest
abbrev pub IsSaidWith : Copies → List ℕ → Described → Type 0
IsSaidWith copies digest described =
    (copy : FoundCopy) × Contains copies.all.items copy × (copy.state ≡ There described digest)

-- more than half of the copies that can be read say this of the file
abbrev pub IsSaidByMost : Copies → Described → Type 0
IsSaidByMost copies described = readable copies < 2 * agreeing copies described

-- what is to be believed of the file: where the sums list a digest, what a copy says that has it, and else what most copies say
abbrev pub IsBelieved : Copies → Described → Type 0
IsBelieved copies described =
    MatchOption copies.listed (IsSaidByMost copies described) (λ digest. IsSaidWith copies digest described)

-- what is there may be replaced: a description, or another file that could be read and has no more bytes than the longest description
abbrev pub may_be_replaced : CopyState → Bool
may_be_replaced (There described digest) = true
may_be_replaced (Odd length) = nat_le length 93
may_be_replaced _ = false

-- the reason is that the system refused to read or to write
abbrev pub is_of_device : CopyReason → Bool
is_of_device (reason.Unread error) = true
is_of_device (reason.Unwritten error) = true
is_of_device _ = false

-- why a copy that says this isn't as it should be, by what is believed, and by whether the sums list a digest: unless it says what is
-- believed, it differs from the sums, if they list one, and else from the other copies, if something is believed
abbrev pub reason_of_description : Option Described → Bool → Described → Option CopyReason
reason_of_description None has_sums described = if has_sums then Some reason.DiffersFromSums else None
reason_of_description (Some believed) has_sums described =
    if same believed described then None else if has_sums then Some reason.DiffersFromSums else Some reason.Differs

-- why a copy isn't as it should be
abbrev pub reason_of : CopyState → Option Described → Bool → Option CopyReason
reason_of Absent believed has_sums = Some reason.Lost
reason_of (Odd length) believed has_sums = Some reason.Odd
reason_of NoFile believed has_sums = Some reason.NoFile
reason_of (Unread error) believed has_sums = Some (reason.Unread error)
reason_of (There described digest) believed has_sums = reason_of_description believed has_sums described
